-- A piece that is given in parts.
use Rattle.std.proofs.Common.{◌≡◌, ℕ, ◌+◌, ◌-◌, ◌≤◌, List, length, take, drop, ◌++◌, true, Option, Some, None, refl, ap, sym, ◌∙◌, arith}
use Rattle.std.proofs.Math.Seq.{take-add}
use Rattle.std.proofs.lemmas.List.{append_assoc, drop-drop, take_rest}
use Rattle.std.proofs.Math.ListN.{length-drop}
use Rattle.vx_base.specs.Told.{gained}
use Rattle.vx_host.specs.Views.{SinkView, FilesView}
use Rattle.vx_host.specs.Sink.{Takes}
use Rattle.vx_host.specs.Host.{WritesOnly}
use Rattle.vx_host.specs.declared.host.To.{To}

-- of the piece the first `count` bytes were taken, and the rest is still to be given
pub record HasGiven {H : Type 0} (files : H → FilesView) (sink : H → To → SinkView) (to : To) (before now : H) (piece rest : List ℕ) : Type 0 where
  pub count : ℕ
  pub within : count ≤ length piece
  pub rest_is : rest ≡ drop count piece
  pub front : (sink now to).taken ≡ gained (sink before to).taken (take count piece)
  pub later : (sink before to).faults ≤ (sink now to).faults
  pub wants : (sink before to).wants ≤ (sink now to).wants
  pub unfailing : (sink before to).unfailing ≡ true → (sink now to).unfailing ≡ true
  pub others : WritesOnly files sink to before now

-- what was gained in two parts was gained as one
pub gained-append : (told : Option (List ℕ)) (first next : List ℕ) → gained (gained told first) next ≡ gained told (first ++ next)
gained-append None first next = refl
gained-append (Some bytes) first next = ap Some (append_assoc bytes first next)

-- a write that took `count` bytes of the rest gives the piece further on
pub gives_on : {H : Type 0} {files : H → FilesView} {sink : H → To → SinkView} {to : To} {before now after : H} {piece rest : List ℕ} {count : ℕ}
    → HasGiven files sink to before now piece rest
    → Takes (sink now to) (sink after to) rest count
    → (sink now to).faults ≤ (sink after to).faults
    → (sink now to).wants ≤ (sink after to).wants
    → ((sink now to).unfailing ≡ true → (sink after to).unfailing ≡ true)
    → WritesOnly files sink to now after
    → HasGiven files sink to before after piece (take (length rest - count) (drop count rest))
gives_on {sink = sink} {to = to} {before = before} {now = now} {after = after} {piece = piece} {rest = rest} {count = count} given took later wants stays others = record {
  count = given.count + count;
  within = (let left : length rest ≡ length piece - given.count = ap length given.rest_is ∙ length-drop given.count piece in omega (arith, took.within));
  rest_is = take_rest rest count ∙ ap (λ (l : List ℕ). drop count l) given.rest_is ∙ drop-drop count given.count piece;
  front = (let both : gained (sink now to).taken (take count rest) ≡ gained (gained (sink before to).taken (take given.count piece)) (take count (drop given.count piece)) = cc (given.front, given.rest_is) in
      took.front ∙ both ∙ gained-append (sink before to).taken (take given.count piece) (take count (drop given.count piece)) ∙ ap (gained (sink before to).taken) (sym (take-add given.count count piece)));
  later = omega (arith, given.later);
  wants = omega (arith, given.wants);
  unfailing = λ no_fault. stays (given.unfailing no_fault);
  others = record { same_files = others.same_files ∙ given.others.same_files; other_sink = others.other_sink ∙ given.others.other_sink };
}
