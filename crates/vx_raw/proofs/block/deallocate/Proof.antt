-- `deallocate` gives the bytes up as room, with the allocator's token for it. Assumes `Logic`.
use Rattle.std.proofs.Common.{◌≡◌, ℕ, ◌*◌, List, [], ◌∷◌, ◌++◌, length, refl, sym, ap, subst, ◌∙◌, arith, lit<, w64, T}
use base.Fml.{Lft, Share, ftrue, flft, froom}
use base.Logic.{SProp, never, id⊢}
use mir.MapTy.{inst_fn}
use mir.Syntax.{Ty, Fn, Args, a_type, dcons, dnil, ty_unit}
use mir.Val.{Val, vint, vptr, vunit, has_ty, WT}
use contract.BorrowLft.{◌⊑◌, ⊑_trans}
use contract.Monad.{fact}
use contract.Running.{tables, tables_of}
use prog.Capped.{capped_is}
use prog.Wp.{Env, WpFn}
use sound.WpLaws.{fm_of}
use types.ByLocal.{alloc_all, pass_all, free_all, look_at, get, get_in, sets, lands_last, env}
use types.Kit.{Item, ‵, raw, ◌⊛◌, given, later, prop, at_ret, ◌$◌, ◌∵◌, !, qed, by, move, keep, drop, use1, split, join, group, learn, rewrite, regoal, fsplit, fjoin, feq_i, await}
use types.Part.{whole, sub}
use types.Run.{stop, fld, lit, unit_lit, of_opd, no_more, and_then, first, blocks, exec, returns, enter}
use denote.Builtin.{usize, RefOf}
use denote.Param.{param, bounded}
use denote.RattleType.{RattleType, owns}
use denote.RawPtr.{Ptr, block_ptr, in_a_block}
use denote.Signature.{plain, types_at}
use denote.Steps.{nothing, heard}
use denote.Triple.Call.{calls_at_last}
use denote.Triple.Entry.{alive}
use denote.Triple.Walked.{Stays, stay_dropped, walk_of, Goes-dropped}
use Rattle.std.proofs.alloc.Calls.{Al, seen, Goes-blank, Gives, at_gives, Gives-goes, Gives-Gives}
use Rattle.std.proofs.raw_atomic.Walks.{proved_at, leaves}
use Rattle.std.proofs.RcSteps.{word, word-Good}
use Rattle.std.proofs.VecSteps.Shapes.{after}
use Rattle.vx_raw.specs.Ownership.{bytes_type, bytes_own}
use Rattle.vx_raw.specs.contracts.block.Start.{the_row as St}
use Rattle.vx_raw.specs.contracts.block.Bytes.{the_row as Bs}
use Rattle.vx_raw.specs.contracts.block.Deed as Deed
use Rattle.vx_raw.specs.contracts.block.deallocate as f
use Rattle.vx_raw.proofs.Made.{empty_val, deed_val, start_told, bytes_told, deed_told}
use Rattle.vx_raw.proofs.Rows.{given_up}
use Rattle.vx_raw.proofs.block.deallocate.Statement.{statement}
use Rattle.vx_raw.proofs.block.deallocate.Code as code

pub deallocate_spec : {M : Type 1} → statement M
unfolding tables_of
deallocate_spec 𝓤 𝓛 𝓜 𝓡 wired A laws g dealloc drops met drops_met =
    let H = 𝓛.H in let ended = f.ended A g dealloc drops in let kept = ended.kept in let clauses = f.clauses A g dealloc drops 𝓛 𝓜.mem 𝓡.returns in
    let Z : RattleType = param 0 A in let Dd : RattleType = Deed.the_row Z g in let Handle = RefOf (0 ∷ []) tt (plain (λ _. Z)) (λ _. tt) in
    let args : Args = bounded (a_type ∷ []) (A, tt) (dcons dealloc (dcons drops dnil)) in let fn : Fn = inst_fn args code.function in
    let stays : Stays ended.signature.params kept = (stay_dropped _ kept.0, (stay_dropped _ kept.1.0, (stay_dropped _ kept.1.1.0, (stay_dropped _ kept.1.1.1.0, (stay_dropped _ kept.1.1.1.1.0, tt))))) in
    let allocator : Al = record { row = A; laws = laws; g = g; d = dealloc; drops = drops } in
    let machine = tables 𝓤 H 𝓜 𝓡 𝓡.env in let C = machine.C in let Λ = machine.Λ in
    proved_at 𝓛 ended stays clauses 𝓜 𝓡 (
      Goes-dropped 𝓛 2 Handle kept.0 (λ κs x w. refl),
      (
        Goes-dropped 𝓛 2 (plain (λ _. St)) kept.1.0 (λ κs x w. refl),
        (
          Goes-dropped 𝓛 2 (plain (λ _. usize)) kept.1.1.0 (λ κs x w. refl),
          (Goes-blank 𝓛 2 (plain (λ _. Bs)) kept.1.1.1.0 (λ κs x w. tt), (Goes-blank 𝓛 2 (plain (λ _. Dd)) kept.1.1.1.1.0 (λ κs x w. tt), tt)),
        ),
      ),
    ) (f.Key.name args) fn (code.unfolded 𝓤 H 𝓜 𝓡 wired (A, tt) dealloc drops) (λ z are.
    let a = z.0.3 in let vals = z.0.4 in let handle = a.0.now in let here = a.0.ref_ptr in let p = a.1.0.at in let n = a.1.1.0 in let bytes = a.1.1.1.0 in let deed = a.1.1.1.1.0 in
    let κ : Lft = z.0.0.0 in let q : Share = z.0.1.0 in let fits = are.1.1.0.1 in let τ : Ty = bytes_type n in
    let End : Val → SProp 𝓤 = (walk_of 𝓛 ended stays clauses).post z in
    let Alive : Item 𝓤 = ‵ (flft κ q) ⊛ ‵ (flft z.0.0.1.0 z.0.1.1.0) ⊛ ‵ ftrue in
    let Lasts : Type 0 = z.0.0.1.0 ⊑ A.lives in
    let Asked : Type 0 = (bytes.at ≡ p) × (length bytes.bytes ≡ n) × (deed.at ≡ p) × (deed.len ≡ n) × (deed.alloc ≡ handle) in
    qed 𝓛 ((raw (alive 𝓛 ended.signature z.0.0 z.0.1) ⊛ ‵ (owns (types_at ended.signature.params z.0.0) a vals)) ∷ (raw (fact 𝓤 Lasts) ⊛ raw (fact 𝓤 Asked)) ∷ []) ∵
    split ! $ use1 𝓛 Alive (id⊢ 𝓤 _) $ move ! (2 ∷ []) $ split ! $ heard ! Lasts (λ lasts. heard ! Asked (λ asked.
    -- the parameters one after another: of the deed its token is left, of the bytes they themselves, of the handle what a `&` to it sees
    move ! (1 ∷ []) $ fsplit ! $ fsplit ! $ move ! (2 ∷ []) $ fsplit ! $ move ! (1 ∷ []) $ fsplit ! $ move ! (1 ∷ []) $ fsplit ! $ fsplit ! $ move ! (2 ∷ []) $ fsplit ! $ fsplit ! $
    keep ! (8 ∷ 4 ∷ 1 ∷ 9 ∷ []) $ use1 𝓛 (‵ (seen allocator κ here handle)) (id⊢ 𝓤 _) $ move ! (1 ∷ 2 ∷ 0 ∷ []) $
    rewrite ! 0 (λ (x : Ptr). ‵ (bytes_own x bytes.bytes)) asked.0 refl $
    in_a_block ! p (λ x. bytes_own x bytes.bytes) (id⊢ 𝓤 (never 𝓤)) (λ b o e. fsplit ! $ drop ! $
    use1 𝓛 (‵ (froom (bytes_type (length bytes.bytes)) b o)) (given_up 𝓛 b o bytes.bytes) $ rewrite ! 0 (λ (k : ℕ). ‵ (froom (bytes_type k) b o)) asked.1 refl $
    rewrite ! 1 (λ (u : A.Denot × Ptr × ℕ). ‵ (g.dealloc_token u.0 (bytes_type u.2) u.1)) (λ i. (asked.4 i, (asked.2 ∙ e) i, asked.3 i)) refl $
    move ! (3 ∷ []) $ split ! $ move ! (2 ∷ 3 ∷ 4 ∷ 0 ∷ 1 ∷ []) $
    -- [the room; the token; the handle; that it is alive; what else is]
    let start_is = start_told a.1.0 vals.1.0 are.1.0 ∙ ap (λ (x : Ptr). word x ∷ []) e in
    let bytes_is = bytes_told bytes vals.1.1.1.0 are.1.1.1.0 in let deed_is = deed_told Z g deed vals.1.1.1.1.0 are.1.1.1.1.0 in
    regoal ! (λ (us : List Val). prop (WpFn 𝓤 H C Λ fn us End)) (λ i. are.0.0 i ++ (start_is i ++ (are.1.1.0.0 i ++ (bytes_is i ++ (deed_is i ++ []))))) refl $
    enter ! C Λ fn (vptr here.0 here.1 ∷ word (block_ptr b o) ∷ vint w64 n ∷ empty_val ∷ deed_val ∷ []) End $
    alloc_all ! (λ l. pass_all ! refl ((tt, tt), (word-Good [] (block_ptr b o), ((tt, record { fits = fits }), ((tt, tt), ((tt, (tt, tt)), tt))))) $
    let locals : Env 𝓤 H = env fn.locals l in let call = at_gives allocator 𝓛 𝓜.mem 𝓡.returns κ q here handle b o n 1 τ in
    first ! $ blocks ! $ group ! 4 $
    use1 𝓛 (raw ((Gives allocator 𝓛 𝓜.mem 𝓡.returns).pre call)) (Gives-goes allocator 𝓛 𝓜.mem 𝓡.returns κ q here handle (⊑_trans κ z.0.0.1.0 A.lives z.0.2.0 lasts) b o n 1 τ (capped_is (n * 1) (omega arith) ∙ omega arith) refl fits (lit< tt)) $
    calls_at_last ! (fm_of 𝓤 H 𝓛.laws (tables_of 𝓤 H 𝓜 machine)) (Gives allocator 𝓛 𝓜.mem 𝓡.returns) (met.deallocate drops) call
    (and_then ! (get ! refl) (and_then ! (get_in ! (fld ! refl (stop !)) (sub ! 0 refl (whole !))) (and_then ! (get ! refl) (and_then ! (lit ! tt) (no_more !))))) (λ v.
    use1 𝓛 (later (given (v ≡ vunit) (‵ (flft κ q)))) (Gives-Gives allocator 𝓛 𝓜.mem 𝓡.returns κ q here handle b o n 1 τ v) $ await ! tt $ learn ! (λ unit. join ! $
    lands_last ! refl (subst (λ (x : Val). T (has_ty ty_unit x) × WT x) (sym unit) (tt, tt)) $ exec ! C Λ locals (after 1 fn.body) (at_ret locals End) $
    sets ! (of_opd ! (unit_lit !)) refl (tt, tt) $ returns ! (look_at ! 0 refl) $ free_all ! refl $
    feq_i ! (List Val) (vunit ∷ []) (vunit ∷ []) refl $ nothing ! $
    nothing ! $ nothing ! $ fjoin ! $ nothing ! $ fjoin ! $ nothing ! $ fjoin ! $ nothing ! $ fjoin ! $ nothing ! $ fjoin ! $ move ! (3 ∷ 0 ∷ 2 ∷ 1 ∷ []) $
    by ! (leaves 𝓛 ended stays clauses z vunit tt (tt, (tt, (tt, (tt, (tt, tt))))) (tt, (tt, (tt, (tt, (tt, tt)))))))))))))
