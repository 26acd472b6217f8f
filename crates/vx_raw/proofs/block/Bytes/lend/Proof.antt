-- `lend` shows the bytes that their owner lends. Assumes `Logic`.
use Rattle.std.proofs.Common.{◌≡◌, ℕ, ◌*◌, ◌^◌, List, [], ◌∷◌, length, refl, sym, ap, ◌∙◌, arith, w64}
use base.Fraction.{full_share}
use mir.Syntax.{named}
use mir.Val.{Val, vint, vptr}
use base.Logic.{never, id⊢}
use base.Fml.{ftrue, fat, flft}
use contract.Monad.{fact}
use contract.Running.{tables}
use types.Kit.{‵, raw, ◌⊛◌, at_ret, ◌$◌, ◌∵◌, !, qed, move, keep, drop, split, join, rewrite, fsplit, fjoin, feq_i, flt_l, flt_i, suffices, frame, done}
use types.Part.{whole, sub, agg}
use types.Run.{stop, fld, of_opd, and_then, no_more, first, blocks, exec, returns, enter}
use types.ByLocal.{alloc_all, pass_all, free_all, look_at, get, get_in, sets, sets_last, take_at, give_at, env}
use denote.Builtin.{usize, RefOf}
use denote.Opens.{hide, unhide}
use denote.Param.{layout}
use denote.Plain.{uint_vals, uint_Tells}
use denote.RattleType.{owns}
use denote.RawPtr.{Ptr, in_a_block}
use denote.Ref.{shr_vals, shr_Tells}
use denote.Signature.{plain, types_at}
use denote.Slice.{slice_val}
use denote.Steps.{heard, nothing}
use denote.Triple.Walked.{says, Stays, stay_dropped, walk_of, ends_at, Goes-dropped}
use Rattle.std.proofs.raw_atomic.Walks.{proved}
use Rattle.std.proofs.RcSteps.{word, word-Good}
use Rattle.std.proofs.VecSteps.Shapes.{after}
use Rattle.vx_raw.specs.Ownership.{bytes_lent}
use Rattle.vx_raw.specs.contracts.block.Bytes.{the_row as Bs}
use Rattle.vx_raw.specs.contracts.block.Start.{the_row as St}
use Rattle.vx_raw.specs.contracts.block.Bytes.lend as f
use Rattle.vx_raw.proofs.Made.{start_told}
use Rattle.vx_raw.proofs.block.Bytes.lend.Statement.{statement}
use Rattle.vx_raw.proofs.block.Bytes.lend.Code as code

abbrev stayed : Stays f.ended.signature.params f.ended.kept
stayed = (stay_dropped _ f.ended.kept.0, (stay_dropped _ f.ended.kept.1.0, (stay_dropped _ f.ended.kept.1.1.0, tt)))

pub lend_spec : {M : Type 1} → statement M
lend_spec 𝓤 𝓛 𝓜 𝓡 wired =
    let c = f.clauses 𝓛 𝓜.mem 𝓡.returns in let W = walk_of 𝓛 f.ended stayed c in let 𝓣 = tables 𝓤 𝓛.H 𝓜 𝓡 𝓡.env in
    proved 𝓛 f.ended stayed c 𝓜 𝓡 (Goes-dropped 𝓛 1 (RefOf (0 ∷ []) tt (plain (λ _. Bs)) (λ _. tt)) f.ended.kept.0 (λ κs x w. refl), (Goes-dropped 𝓛 1 (plain (λ _. St)) f.ended.kept.1.0 (λ κs x w. refl), (Goes-dropped 𝓛 1 (plain (λ _. usize)) f.ended.kept.1.1.0 (λ κs x w. refl), tt)))
    f.Key.name code.function (code.unfolded 𝓤 𝓛.H 𝓜 𝓡 wired)
    (λ κs. (shr_vals, ((λ s. word s.at ∷ []), (uint_vals w64, tt)))) (λ κs. (shr_Tells (named 0) κs.0 Bs, (start_told, (uint_Tells w64, tt)))) (λ κs qs bounds a gh are.
    let κ = κs.0 in let rb = a.0.ref_ptr.0 in let ro = a.0.ref_ptr.1 in let d = a.0.now in let p = a.1.0.at in let n = a.1.1.0 in let xs = d.bytes in let fits = are.1.1.0.1 in
    let y : W.Ghost = ((κs, qs, bounds, a, (vptr rb ro ∷ [], (word p ∷ [], (vint w64 n ∷ [], tt)))), gh) in
    let Asked : Type 0 = (p ≡ d.at) × (length xs ≡ n) in
    qed 𝓛 (((‵ (flft κ qs.0) ⊛ ‵ ftrue) ⊛ ‵ (owns (types_at f.ended.signature.params κs) a y.0.4)) ∷ raw (fact 𝓤 Asked) ∷ []) ∵
    move ! (1 ∷ []) $ heard ! Asked (λ asked. split ! $ split ! $ move ! (2 ∷ []) $ fsplit ! $ fsplit ! $ drop ! $ keep ! (0 ∷ 2 ∷ []) $
    enter ! 𝓣.C 𝓣.Λ code.function (vptr rb ro ∷ word p ∷ vint w64 n ∷ []) _ $ alloc_all ! (λ l. pass_all ! refl ((tt, tt), (word-Good [] p, ((tt, record { fits = fits }), tt))) $
    let En = env code.Mir.locals l in
    unhide ! $ fsplit ! $ drop ! $ in_a_block ! d.at (λ z. bytes_lent z xs κ) (id⊢ 𝓤 (never 𝓤)) (λ b o e. fsplit ! $ flt_l ! (λ small. hide ! $
    take_at ! 2 $ rewrite ! 0 (λ (z : Ptr). ‵ (fat full_share (layout St) (l 2) 0 (word z))) (asked.0 ∙ e) refl $ give_at ! 2 $ first ! $ blocks ! $
    let at : ℕ × ℕ = (b, o) in
    sets_last ! (agg ! (and_then ! (get_in ! (fld ! refl (stop !)) (sub ! 0 refl (whole !))) (and_then ! (get ! refl) (no_more !)))) refl (tt, (tt, (record { fits = fits }, tt))) $
    exec ! 𝓣.C 𝓣.Λ En (after 1 code.function.body) (at_ret En (W.post y)) $ sets ! (of_opd ! (get ! refl)) refl (tt, (tt, (record { fits = fits }, tt))) $
    flt_i ! (length xs * 1) (2 ^ 63) (omega arith) $ flt_i ! (length xs) (2 ^ 64) (omega arith) $ fjoin ! $
    feq_i ! (List Val) (slice_val at n ∷ []) (slice_val at (length xs) ∷ []) (ap (λ k. slice_val at k ∷ []) (sym asked.1)) $ fjoin ! $ fjoin ! $
    returns ! (look_at ! 0 refl) $
    free_all ! refl $ keep ! (1 ∷ 0 ∷ []) $ suffices ! _ (ends_at 𝓛 f.ended stayed c y (slice_val at n) (record { ref_ptr = at; now = xs }) (tt, (tt, (tt, tt))) (tt, (tt, (tt, tt)))) $ says ! refl $
    nothing ! $ move ! (1 ∷ 0 ∷ []) $ join ! $ frame ! $ nothing ! $ nothing ! $ fjoin ! $ nothing ! $ fjoin ! $ nothing ! $ fjoin ! $ done !)))))
