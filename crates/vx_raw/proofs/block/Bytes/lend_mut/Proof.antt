-- `lend_mut` lends the bytes to be written, and their owner follows them. Assumes `Logic`.
use Rattle.std.proofs.Common.{◌≡◌, ℕ, ◌*◌, ◌^◌, ◌<◌, List, [], ◌∷◌, length, refl, sym, subst, ◌∙◌, arith, w64}
use seplogic.Ra.Ura.{Ura}
use base.Fraction.{full_share}
use mir.Syntax.{named}
use mir.Val.{Val, vint, vptr}
use base.Logic.{ent, sep, never, id⊢}
use base.Fml.{GName, Fml, ftrue, fsep, fat, flft}
use contract.Monad.{fact}
use contract.Running.{tables}
use types.Logic.{Logic, sem}
use types.Kit.{‵, raw, ◌⊛◌, some, later, await, pick, at_ret, ◌$◌, ◌∵◌, !, qed, by, move, keep, drop, use1, split, join, group, rewrite, fsplit, fsplit3, fjoin, fpack, flt_l, flt_i, suffices, frame, done}
use types.Part.{whole, sub, agg}
use types.Run.{stop, fld, of_opd, and_then, no_more, first, blocks, exec, returns, enter}
use types.ByLocal.{alloc_all, pass_all, free_all, look_at, get, get_in, sets, sets_last, take_at, give_at, env}
use types.SemTy.{cells}
use denote.Array.{Array}
use denote.Builtin.{u8, usize}
use denote.Follow.{follows}
use denote.FollowSlice.{Elements, lends_Elements}
use denote.Memory.{mem, cell_at, part_of}
use denote.Param.{layout}
use denote.Plain.{uint_vals, uint_Tells}
use denote.RattleType.{owns}
use denote.RawPtr.{Ptr, block_ptr, in_a_block}
use denote.Ref.{MutBor, mut_vals, mut_Tells}
use denote.Signature.{plain, types_at}
use denote.Slice.{MutSlice, slice_val}
use denote.Steps.{heard, nothing, opens}
use denote.Struct.Owning as Owning
use denote.Struct.Struct.{Struct}
use denote.Triple.Walked.{says, Stays, stay_dropped, walk_of, ends_at, Goes-dropped, Goes-spent_ref}
use Rattle.std.proofs.raw_atomic.Walks.{proved}
use Rattle.std.proofs.RcSteps.{word, word-Good}
use Rattle.std.proofs.VecSteps.Shapes.{after}
use Rattle.vx_raw.specs.Lends.{with_bytes}
use Rattle.vx_raw.specs.Ownership.{bytes_own}
use Rattle.vx_raw.specs.contracts.block.Bytes.{the_row as Bs, the_type as Bytes-type}
use Rattle.vx_raw.specs.contracts.block.Start.{the_row as St}
use Rattle.vx_raw.specs.contracts.block.Bytes.lend_mut as f
use Rattle.vx_raw.proofs.Made.{start_told}
use Rattle.vx_raw.proofs.block.Bytes.lend_mut.Statement.{statement}
use Rattle.vx_raw.proofs.block.Bytes.lend_mut.Code as code

abbrev stayed : Stays f.ended.signature.params f.ended.kept
stayed = (stay_dropped _ f.ended.kept.0, (stay_dropped _ f.ended.kept.1.0, (stay_dropped _ f.ended.kept.1.1.0, tt)))

module _ {M : Type 1} {𝓤 : Ura M} (𝓛 : Logic 𝓤) (rb ro : ℕ) (d : Bs.Denot) (vs : List Val) (b o : ℕ) where
  -- all but the bytes
  abbrev Rest : Fml
  Rest = fsep ((Struct (Owning.shape Bytes-type)).own_val tt vs) (cell_at full_share Bs.mir vs rb ro)

  back : d.at ≡ block_ptr b o → length d.bytes < 2 ^ 63 → (ws : List ℕ) → length ws ≡ length d.bytes
      → ent 𝓤 (sep 𝓤 (sem 𝓛 (cells (mem u8) ws b o)) (sem 𝓛 Rest)) (sem 𝓛 ((mem Bs).own_at (with_bytes d ws) rb ro))
  unfolding part_of
  back e small ws same =
      qed 𝓛 (‵ (cells (mem u8) ws b o) ∷ ‵ Rest ∷ []) ∵ flt_i ! (length ws) (2 ^ 63) (subst (λ k. k < 2 ^ 63) (sym same) small) $ fjoin ! $
      rewrite ! 0 (λ (p : Ptr). ‵ (bytes_own p ws)) (sym e) refl $ move ! (1 ∷ []) $ fsplit ! $ move ! (0 ∷ 2 ∷ []) $ fjoin ! $ move ! (1 ∷ 0 ∷ []) $ fjoin ! $
      fpack ! (List Val) (λ us. fsep (cell_at full_share Bs.mir us rb ro) (Bs.own_val (with_bytes d ws) us)) vs $ done !

pub lend_mut_spec : {M : Type 1} → statement M
lend_mut_spec 𝓤 𝓛 𝓜 𝓡 wired =
    let c = f.clauses 𝓛 𝓜.mem 𝓡.returns in let W = walk_of 𝓛 f.ended stayed c in let 𝓣 = tables 𝓤 𝓛.H 𝓜 𝓡 𝓡.env in
    proved 𝓛 f.ended stayed c 𝓜 𝓡 (Goes-spent_ref 𝓛 1 (0 ∷ []) tt (plain (λ _. Bs)), (Goes-dropped 𝓛 1 (plain (λ _. St)) f.ended.kept.1.0 (λ κs x w. refl), (Goes-dropped 𝓛 1 (plain (λ _. usize)) f.ended.kept.1.1.0 (λ κs x w. refl), tt)))
    f.Key.name code.function (code.unfolded 𝓤 𝓛.H 𝓜 𝓡 wired)
    (λ κs. (mut_vals, ((λ s. word s.at ∷ []), (uint_vals w64, tt)))) (λ κs. (mut_Tells (named 0) κs.0 Bs, (start_told, (uint_Tells w64, tt)))) (λ κs qs bounds a gh are.
    let κ = κs.0 in let q = qs.0 in let rb = a.0.ref_ptr.0 in let ro = a.0.ref_ptr.1 in let γ = a.0.ghost_name in let d = a.0.now in let p = a.1.0.at in let n = a.1.1.0 in let xs = d.bytes in let fits = are.1.1.0.1 in
    let y : W.Ghost = ((κs, qs, bounds, a, (vptr rb ro ∷ [], (word p ∷ [], (vint w64 n ∷ [], tt)))), gh) in
    let Asked : Type 0 = (p ≡ d.at) × (length xs ≡ n) in let coded = Bs.coded.code d in
    qed 𝓛 (((‵ (flft κ q) ⊛ ‵ ftrue) ⊛ ‵ (owns (types_at f.ended.signature.params κs) a y.0.4)) ∷ raw (fact 𝓤 Asked) ∷ []) ∵
    move ! (1 ∷ []) $ heard ! Asked (λ asked. split ! $ split ! $ move ! (2 ∷ []) $ fsplit ! $ fsplit3 ! $ drop ! $ keep ! (0 ∷ 1 ∷ 3 ∷ []) $
    enter ! 𝓣.C 𝓣.Λ code.function (vptr rb ro ∷ word p ∷ vint w64 n ∷ []) _ $ alloc_all ! (λ l. pass_all ! refl ((tt, tt), (word-Good [] p, ((tt, record { fits = fits }), tt))) $
    let En = env code.Mir.locals l in
    opens ! tt Bs {h = d} rb ro (λ vs. move ! (1 ∷ []) $ fsplit ! $ move ! (1 ∷ []) $
    in_a_block ! d.at (λ z. bytes_own z xs) (id⊢ 𝓤 (never 𝓤)) (λ b o e. fsplit ! $ flt_l ! (λ small.
    take_at ! 2 $ rewrite ! 0 (λ (z : Ptr). ‵ (fat full_share (layout St) (l 2) 0 (word z))) (asked.0 ∙ e) refl $ give_at ! 2 $ first ! $ blocks ! $
    sets_last ! (agg ! (and_then ! (get_in ! (fld ! refl (stop !)) (sub ! 0 refl (whole !))) (and_then ! (get ! refl) (no_more !)))) refl (tt, (tt, (record { fits = fits }, tt))) $
    exec ! 𝓣.C 𝓣.Λ En (after 1 code.function.body) (at_ret En (W.post y)) $ sets ! (of_opd ! (get ! refl)) refl (tt, (tt, (record { fits = fits }, tt))) $
    -- [the bytes; the owner's data; its cell; the open borrow, in three entries]
    let way = back 𝓛 rb ro d vs b o e small in let roomy : length xs < 2 ^ 64 = omega arith in let fitting : length xs * 1 < 2 ^ 63 = omega arith in let rest = sem 𝓛 (Rest 𝓛 rb ro d vs b o) in
    move ! (1 ∷ 2 ∷ []) $ fjoin ! $
    move ! (2 ∷ 3 ∷ 4 ∷ 1 ∷ 0 ∷ []) $ group ! 5 $ use1 𝓛 (later (some (λ (δ : GName). raw (Elements 𝓛 Bs u8 (with_bytes d) (named 0) κ q rb ro b o γ xs (roomy, fitting) rest way δ))))
    (lends_Elements 𝓛 Bs u8 (with_bytes d) (named 0) κ q rb ro b o γ xs (roomy, fitting) rest way coded coded) $ await ! tt $ pick ! (λ δ.
    let r : MutBor (List ℕ) = record { ref_ptr = (b, o); ghost_name = δ; now = xs } in
    returns ! (look_at ! 0 refl) $
    free_all ! refl $ keep ! (0 ∷ []) $ by ! (subst (λ (k : ℕ). ent 𝓤 (Elements 𝓛 Bs u8 (with_bytes d) (named 0) κ q rb ro b o γ xs (roomy, fitting) rest way δ) (W.post y (slice_val (b, o) k))) asked.1
    (qed 𝓛 (‵ ((MutSlice (named 0) κ u8).own_val r (slice_val (b, o) (length xs) ∷ [])) ∷ ‵ (flft κ q) ∷ ‵ (follows Bs (Array u8 0) γ δ (with_bytes d)) ∷ []) ∵
    suffices ! _ (ends_at 𝓛 f.ended stayed c y (slice_val (b, o) (length xs)) r (tt, (tt, (tt, tt))) (tt, (tt, (tt, tt)))) $
    nothing ! $ nothing ! $ fjoin ! $ nothing ! $ fjoin ! $ nothing ! $ fjoin ! $ join ! $ nothing ! $ move ! (2 ∷ 0 ∷ []) $ join ! $ join ! $ frame ! $ says ! refl $ done !)))))))))
