-- `clear` goes over the room once: before each turn the bytes behind it are zeros. Assumes `Logic`.
use Rattle.std.proofs.Common.{◌≡◌, ℕ, zero, suc, ◌+◌, ◌-◌, ◌^◌, ◌≤◌, ◌<◌, List, [], ◌∷◌, length, replicate, refl, sym, subst, arith, lit<, ltb→lt, nltb→le, w8, w64}
use Rattle.std.proofs.lemmas.List.{length-replicate}
use mathlib.Core.WellFounded.InvImage
use lib.WfN.{lt-wf_rel}
use seplogic.Ra.Ura.{Ura}
use base.Fraction.{full_share}
use base.Fml.{ftrue, fat, froom}
use base.Logic.{SProp, ent, emp, never, id⊢}
use mir.Syntax.{ty_int}
use mir.Val.{Val, vint, vptr}
use contract.Monad.{fact, fact_i}
use contract.Running.{tables, tables_of}
use prog.Wp.{Env, Out, Wp, Tables, at_return, after_seq, after_block, after_turn}
use types.ByLocal.{alloc_all, pass_all, free_all, look_at, get, get_in, through, sets, sets_last, env, holding, forget_but, take_at, give_at}
use types.Kit.{Item, Sq, any_q, runs, ‵, raw, ◌⊛◌, at_ret, ◌$◌, ◌∵◌, !, qed, by, move, keep, drop, use0, use1, use2, split, rewrite, fsplit, fjoin, flt_l, flt_i, ⋆}
use types.Logic.{Logic}
use types.Part.{whole, sub, agg}
use types.Run.{stop, fld, lit, bin, of_opd, no_more, init, assigns_last, first, blocks, skips, jumps, branches, exec, returns, enter, loops, again, Below}
use types.SemTy.{cells}
use denote.Builtin.{u8, usize}
use denote.Laws.{Is}
use denote.Memory.{mem}
use denote.Param.{layout}
use denote.Plain.{uint_vals, uint_Tells}
use denote.RattleType.{owns}
use denote.RawPtr.{Ptr, in_a_block, room_for}
use denote.Signature.{plain, types_at}
use denote.Steps.{heard, nothing, owned}
use denote.Struct.Owning as Owning
use denote.Struct.Struct.{Struct, Struct-Makes}
use denote.Triple.Walked.{Stays, stay_dropped, walk_of, Goes-dropped}
use Rattle.std.proofs.alloc.Calls.{Goes-blank}
use Rattle.std.proofs.raw_atomic.Walks.{proved, leaves}
use Rattle.std.proofs.RcSteps.{word, word-Good}
use Rattle.std.proofs.VecSteps.Shapes.{after}
use Rattle.vx_raw.specs.Ownership.{bytes_type, room_own, bytes_own}
use Rattle.vx_raw.specs.contracts.block.Start.{the_row as St}
use Rattle.vx_raw.specs.contracts.block.Room.{the_row as Rm}
use Rattle.vx_raw.specs.contracts.block.Bytes.{the_row as Bs, the_type as Bytes-type}
use Rattle.vx_raw.specs.contracts.block.clear as f
use Rattle.vx_raw.proofs.Rows.{begun, besides, all_room, all_zeros, next_place, one_zero}
use Rattle.vx_raw.proofs.Made.{empty_val, room_told, start_told}
use Rattle.vx_raw.proofs.block.clear.Statement.{statement}
use Rattle.vx_raw.proofs.block.clear.Code as code

abbrev stayed : Stays f.ended.signature.params f.ended.kept
stayed = (stay_dropped _ f.ended.kept.0, (stay_dropped _ f.ended.kept.1.0, (stay_dropped _ f.ended.kept.1.1.0, tt)))

module _ {M : Type 1} {𝓤 : Ura M} (𝓛 : Logic 𝓤) (𝓣 : Tables 𝓤 𝓛.H) (l : ℕ → ℕ) (End : Val → SProp 𝓤) (b o n : ℕ) (fits : n < 2 ^ 64) where
  open 𝓛 use {H}

  abbrev locals : Env 𝓤 H
  locals = env code.Mir.locals l

  -- how many bytes are zeros
  abbrev Count : Type 0
  Count = (i : ℕ) × (i ≤ n)

  abbrev Sooner : Count → Count → Type 0
  Sooner j i = n - j.0 < n - i.0

  abbrev Held : Count → List (Item 𝓤)
  Held i = ‵ (begun n b o i.0) ∷ holding 𝓛 locals ((2, vint w64 n) ∷ (4, vptr b o) ∷ (5, vint w64 i.0) ∷ [])

  abbrev then_ends : Out → SProp 𝓤
  then_ends = after_block 𝓤 H (after_seq 𝓤 H (Wp 𝓤 H 𝓣.C 𝓣.Λ locals (after 3 code.function.body) (at_return 𝓤 H locals End)) (at_return 𝓤 H locals End))

  abbrev then_goes_on : Count → Out → SProp 𝓤
  then_goes_on i = after_turn 𝓤 H (Below 𝓛 Sooner Held i) then_ends

  turns : (ends : ent 𝓤 (⋆ 𝓛 (‵ (begun n b o n) ∷ [])) (End empty_val)) → (i : Count) → Sq 𝓛 (Held i) (runs 𝓣.C 𝓣.Λ locals code.Mir.turn-1 (any_q (then_goes_on i)))
  unfolding after_turn
  turns ends i =
      let low = i.1 in
      sets ! (bin ! (get ! refl) (get ! refl) tt) refl (tt, tt) $ first ! $ branches ! (get ! refl)
      (λ yes.
      let less : i.0 < n = ltb→lt i.0 n yes in let larger : i.0 + 1 < 2 ^ 64 = omega arith in
      skips ! $ exec ! 𝓣.C 𝓣.Λ locals (after 2 code.Mir.turn-1) (any_q (then_goes_on i)) $ first ! $ blocks ! $
      sets ! (bin ! (get ! refl) (get ! refl) tt) refl (tt, tt) $
      use1 𝓛 (‵ (froom (ty_int w8) b (i.0 + o)) ⊛ ‵ (besides n b o i.0)) (next_place 𝓛 b o n i.0 less) $ split ! $
      assigns_last ! (of_opd ! (lit ! tt)) (through ! refl (stop !)) (init ! 0 refl (tt, record { fits = lit< tt })) $
      use2 𝓛 (‵ (begun n b o (suc i.0))) (one_zero 𝓛 b o n i.0 less) $
      exec ! 𝓣.C 𝓣.Λ locals (after 3 code.Mir.turn-1) (any_q (then_goes_on i)) $
      sets_last ! (bin ! (get ! refl) (lit ! tt) (record { fits = larger })) refl (tt, record { fits = larger }) $
      forget_but ! locals (2 ∷ 4 ∷ 5 ∷ []) refl $ take_at ! 5 $
      rewrite ! 0 (λ (k : ℕ). ‵ (fat full_share (ty_int w64) (l 5) zero (vint w64 k))) {x = suc i.0} (omega arith) refl $ give_at ! 5 $
      again ! Sooner Held i (suc i.0, omega arith) (omega arith))
      (λ no.
      let last : n ≤ i.0 = nltb→le i.0 n no in
      jumps ! $ exec ! 𝓣.C 𝓣.Λ locals (after 3 code.function.body) (at_ret locals End) $
      rewrite ! 0 (λ (k : ℕ). ‵ (begun n b o k)) {x = n} (omega arith) refl $
      sets ! (agg ! (no_more !)) refl (tt, tt) $ returns ! (look_at ! 0 refl) $ free_all ! refl $ keep ! (0 ∷ []) $ by ! ends)

pub clear_spec : {M : Type 1} → statement M
unfolding tables_of
clear_spec 𝓤 𝓛 𝓜 𝓡 wired =
    let c = f.clauses 𝓛 𝓜.mem 𝓡.returns in let W = walk_of 𝓛 f.ended stayed c in let machine = tables 𝓤 𝓛.H 𝓜 𝓡 𝓡.env in let 𝓣 : Tables 𝓤 𝓛.H = tables_of 𝓤 𝓛.H 𝓜 machine in
    proved 𝓛 f.ended stayed c 𝓜 𝓡 (Goes-dropped 𝓛 0 (plain (λ _. St)) f.ended.kept.0 (λ κs x w. refl), (Goes-dropped 𝓛 0 (plain (λ _. usize)) f.ended.kept.1.0 (λ κs x w. refl), (Goes-blank 𝓛 0 (plain (λ _. Rm)) f.ended.kept.1.1.0 (λ κs x w. tt), tt)))
    f.Key.name code.function (code.unfolded 𝓤 𝓛.H 𝓜 𝓡 wired)
    (λ κs. ((λ s. word s.at ∷ []), (uint_vals w64, ((λ r. empty_val ∷ []), tt)))) (λ κs. (start_told, (uint_Tells w64, (room_told, tt)))) (λ κs qs bounds a gh are.
    let p = a.0.at in let n = a.1.0 in let room = a.1.1.0 in let fits = are.1.0.1 in
    let y : W.Ghost = ((κs, qs, bounds, a, (word p ∷ [], (vint w64 n ∷ [], (empty_val ∷ [], tt)))), gh) in
    let Asked : Type 0 = (room.at ≡ p) × (room.len ≡ n) in
    qed 𝓛 ((‵ ftrue ⊛ ‵ (owns (types_at f.ended.signature.params κs) a y.0.4)) ∷ raw (fact 𝓤 Asked) ∷ []) ∵
    move ! (1 ∷ []) $ heard ! Asked (λ asked. split ! $ drop ! $ fsplit ! $ drop ! $ fsplit ! $ drop ! $ fsplit ! $ fsplit ! $ drop ! $ keep ! (0 ∷ []) $
    rewrite ! 0 (λ (u : Ptr × ℕ). ‵ (room_own u.0 u.1)) (λ i. (asked.0 i, asked.1 i)) refl $ fsplit ! $ flt_l ! (λ small.
    in_a_block ! p (λ x. room_for (bytes_type n) x) (id⊢ 𝓤 (never 𝓤)) (λ b o e.
    let new : Bs.Denot = record { at = p; bytes = replicate n 0 } in let Told : Type 0 = (p ≡ p) × (replicate n 0 ≡ replicate n 0) in
    let nothing_in = Struct (Owning.shape Bytes-type) in
    use1 𝓛 (‵ (begun n b o 0)) (all_room 𝓛 b o n) $
    enter ! 𝓣.C 𝓣.Λ code.function (word p ∷ vint w64 n ∷ empty_val ∷ []) _ $ alloc_all ! (λ l. pass_all ! refl (word-Good [] p, ((tt, record { fits = fits }), ((tt, tt), tt))) $
    take_at ! 1 $ rewrite ! 0 (λ (x : Ptr). ‵ (fat full_share (layout St) (l 1) 0 (word x))) e refl $ give_at ! 1 $
    sets ! (of_opd ! (get_in ! (fld ! refl (stop !)) (sub ! 0 refl (whole !)))) refl (tt, tt) $ sets ! (of_opd ! (lit ! tt)) refl (tt, record { fits = lit< tt }) $
    forget_but ! (locals 𝓛 𝓣 l (W.post y) b o n fits) (2 ∷ 4 ∷ 5 ∷ []) refl $ first ! $ blocks ! $
    loops ! 𝓣 (Sooner 𝓛 𝓣 l (W.post y) b o n fits) (InvImage.wf (λ (i : Count 𝓛 𝓣 l (W.post y) b o n fits). n - i.0) lt-wf_rel.wf) (Held 𝓛 𝓣 l (W.post y) b o n fits)
    (turns 𝓛 𝓣 l (W.post y) b o n fits (qed 𝓛 (‵ (begun n b o n) ∷ []) ∵
    use1 𝓛 (‵ (cells (mem u8) (replicate n 0) b o)) (all_zeros 𝓛 b o n) $
    flt_i ! (length (replicate n 0)) (2 ^ 63) (subst (λ (k : ℕ). k < 2 ^ 63) (sym (length-replicate n 0)) small) $ fjoin ! $
    rewrite ! 0 (λ (x : Ptr). ‵ (bytes_own x (replicate n 0))) (sym e) refl $
    owned ! nothing_in (Is nothing_in) (Struct-Makes 𝓛 (Owning.shape Bytes-type) tt) tt (empty_val ∷ []) (tt, (refl, tt)) $ fjoin ! $ use0 𝓛 (raw (fact 𝓤 Told)) (fact_i 𝓤 Told (emp 𝓤) (refl, refl)) $
    nothing ! $ nothing ! $ fjoin ! $ nothing ! $ fjoin ! $ nothing ! $ fjoin ! $ nothing ! $ move ! (0 ∷ 1 ∷ 3 ∷ 2 ∷ []) $
    by ! (leaves 𝓛 f.ended stayed c y empty_val new (tt, (tt, (tt, tt))) (tt, (tt, (tt, tt)))))) (0, omega arith))))))
