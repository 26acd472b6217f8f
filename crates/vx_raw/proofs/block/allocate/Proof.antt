-- `allocate` asks the allocator for so many bytes, and hands on what it answers. Assumes `Logic`.
use Rattle.std.proofs.Common.{◌≡◌, ◌*◌, ◌^◌, ◌<◌, List, [], ◌∷◌, ◌++◌, refl, ◌∙◌, arith, lit<, w64, IfOk, Ok, Err, true, false}
use base.Fml.{Lft, Share, ftrue, flft}
use base.Logic.{SProp, emp, id⊢}
use mir.MapTy.{inst_fn}
use mir.Syntax.{Ty, Fn, Args, a_type, dcons, dnil}
use mir.Val.{Val, vint, vptr, vcons, vnil}
use contract.BorrowLft.{◌⊑◌, ⊑_trans}
use contract.Monad.{fact, fact_i}
use contract.Running.{tables, tables_of}
use prog.Capped.{capped_is}
use prog.Wp.{Env, WpFn, Wp, after_seq}
use sound.WpLaws.{fm_of}
use types.ByLocal.{alloc_all, pass_all, free_all, look_at, get, get_in, get_tag, sets, sets_last, lands_as, env}
use types.Kit.{Item, Sq, Post, post, any_q, ‵, raw, ◌⊛◌, later, prop, at_ret, ◌$◌, ◌∵◌, !, qed, by, move, keep, use0, use1, use2, split, join, regoal, fsplit, fjoin, flt_i, await}
use types.Match.{live, vrt, in_variant}
use types.Part.{whole, agg}
use types.Run.{stop, fld, lit, of_opd, no_more, and_then, first, switches_on, exec, returns, enter}
use denote.Builtin.{usize, RefOf}
use denote.Laws.{Is}
use denote.Param.{param, bounded, layout}
use denote.RattleType.{RattleType, owns}
use denote.RawPtr.{Ptr, block_ptr}
use denote.Signature.{plain, types_at, type_at}
use denote.Steps.{nothing, heard, owned}
use denote.Struct.Declared as Declared
use denote.Struct.Struct.{Struct, Struct-Makes}
use denote.Triple.Call.{calls_at}
use denote.Triple.Entry.{alive}
use denote.Triple.Walked.{Stays, stay_dropped, walk_of, Goes-dropped}
use Rattle.std.specs.contracts.alloc.AllocError as AllocError
use Rattle.std.proofs.alloc.Calls.{Al, seen, Takes, at_takes, Answered, Answer-typed, Takes-goes, Takes-gives, answers}
use Rattle.std.proofs.raw_atomic.Walks.{proved_at, leaves}
use Rattle.std.proofs.RcSteps.{word-Good, Good, first_Good}
use Rattle.std.proofs.ResultValues.{ok_of, err_of}
use Rattle.std.proofs.VecSteps.Shapes.{after, head, arm_body}
use Rattle.vx_raw.specs.Ownership.{bytes_type}
use Rattle.vx_raw.specs.contracts.block.Taken as Taken
use Rattle.vx_raw.specs.contracts.block.allocate as f
use Rattle.vx_raw.proofs.Made.{empty_val, taken_val, taken, taken_made}
use Rattle.vx_raw.proofs.block.allocate.Statement.{statement}
use Rattle.vx_raw.proofs.block.allocate.Code as code

pub allocate_spec : {M : Type 1} → statement M
unfolding tables_of
allocate_spec 𝓤 𝓛 𝓜 𝓡 wired A laws g dealloc drops met drops_met =
    let H = 𝓛.H in let ended = f.ended A g dealloc drops in let clauses = f.clauses A g dealloc drops 𝓛 𝓜.mem 𝓡.returns in
    let Z : RattleType = param 0 A in let Block : RattleType = Taken.the_row Z g in let Handle = RefOf (0 ∷ []) tt (plain (λ _. Z)) (λ _. tt) in
    let args : Args = bounded (a_type ∷ []) (A, tt) (dcons dealloc (dcons drops dnil)) in let fn : Fn = inst_fn args code.function in
    let stays : Stays ended.signature.params ended.kept = (stay_dropped _ ended.kept.0, (stay_dropped _ ended.kept.1.0, tt)) in
    let allocator : Al = record { row = A; laws = laws; g = g; d = dealloc; drops = drops } in
    let machine = tables 𝓤 H 𝓜 𝓡 𝓡.env in let C = machine.C in let Λ = machine.Λ in
    proved_at 𝓛 ended stays clauses 𝓜 𝓡 (Goes-dropped 𝓛 2 Handle ended.kept.0 (λ κs x w. refl), (Goes-dropped 𝓛 2 (plain (λ _. usize)) ended.kept.1.0 (λ κs x w. refl), tt))
    (f.Key.name args) fn (code.unfolded 𝓤 H 𝓜 𝓡 wired (A, tt) dealloc drops) (λ z are.
    let a = z.0.3 in let handle = a.0.now in let here = a.0.ref_ptr in let n = a.1.0 in let fits = are.1.0.1 in let τ : Ty = bytes_type n in
    let κ : Lft = z.0.0.0 in let q : Share = z.0.1.0 in let Out : RattleType = type_at ended.signature.result z.0.0 in
    let End : Val → SProp 𝓤 = (walk_of 𝓛 ended stays clauses).post z in
    let Alive : Item 𝓤 = ‵ (flft κ q) ⊛ ‵ (flft z.0.0.1.0 z.0.1.1.0) ⊛ ‵ ftrue in
    let Lasts : Type 0 = z.0.0.1.0 ⊑ A.lives in let Asked : Type 0 = n < 2 ^ 63 in
    let Told : Out.Denot → Type 0 = λ r. IfOk r (λ t. (t.room.at ≡ t.start.at) × (t.room.len ≡ n) × (t.deed.at ≡ t.start.at) × (t.deed.len ≡ n) × (t.deed.alloc ≡ handle)) in
    -- both answers end like this
    let answered : (r : Out.Denot) (v : Val) → Told r → Sq 𝓛 (‵ (Out.own_val r (v ∷ [])) ∷ Alive ∷ []) (prop (End v)) = λ r v told.
    use0 𝓛 (raw (fact 𝓤 (Told r))) (fact_i 𝓤 (Told r) (emp 𝓤) told) $ nothing ! $ nothing ! $ fjoin ! $ nothing ! $ fjoin ! $ move ! (3 ∷ 0 ∷ 2 ∷ 1 ∷ []) $
    by ! (leaves 𝓛 ended stays clauses z v r (tt, (tt, tt)) (tt, (tt, tt))) in
    qed 𝓛 ((raw (alive 𝓛 ended.signature z.0.0 z.0.1) ⊛ ‵ (owns (types_at ended.signature.params z.0.0) a z.0.4)) ∷ (raw (fact 𝓤 Lasts) ⊛ raw (fact 𝓤 Asked)) ∷ []) ∵
    split ! $ use1 𝓛 Alive (id⊢ 𝓤 _) $ move ! (2 ∷ []) $ split ! $ heard ! Lasts (λ lasts. heard ! Asked (λ asked.
    move ! (1 ∷ []) $ fsplit ! $ fsplit ! $ keep ! (1 ∷ 3 ∷ []) $ use1 𝓛 (‵ (seen allocator κ here handle)) (id⊢ 𝓤 _) $ move ! (1 ∷ []) $ split ! $ move ! (2 ∷ 0 ∷ 1 ∷ []) $
    -- [the handle; that it is alive; what else is]
    regoal ! (λ (us : List Val). prop (WpFn 𝓤 H C Λ fn us End)) (λ i. are.0.0 i ++ (are.1.0.0 i ++ [])) refl $
    enter ! C Λ fn (vptr here.0 here.1 ∷ vint w64 n ∷ []) End $ alloc_all ! (λ l. pass_all ! refl ((tt, tt), ((tt, record { fits = fits }), tt)) $
    let locals : Env 𝓤 H = env fn.locals l in let call = at_takes allocator 𝓛 𝓜.mem 𝓡.returns κ q here handle n 1 τ in
    let Then : Post 𝓤 H = any_q (after_seq 𝓤 H (Wp 𝓤 H C Λ locals (after 2 fn.body) (post 𝓤 H (at_ret locals End))) (post 𝓤 H (at_ret locals End))) in
    use2 𝓛 (raw ((Takes allocator 𝓛 𝓜.mem 𝓡.returns).pre call)) (Takes-goes allocator 𝓛 𝓜.mem 𝓡.returns κ q here handle (⊑_trans κ z.0.0.1.0 A.lives z.0.2.0 lasts) n 1 τ (capped_is (n * 1) (omega arith) ∙ omega arith) refl fits (lit< tt)) $
    calls_at ! (fm_of 𝓤 H 𝓛.laws (tables_of 𝓤 H 𝓜 machine)) (Takes allocator 𝓛 𝓜.mem 𝓡.returns) (met.allocate drops) call (and_then ! (get ! refl) (and_then ! (get ! refl) (and_then ! (lit ! tt) (no_more !)))) (λ v.
    use1 𝓛 (later (raw (Answered allocator 𝓛 𝓜.mem 𝓡.returns handle τ v) ⊛ ‵ (flft κ q))) (Takes-gives allocator 𝓛 𝓜.mem 𝓡.returns κ q here handle n 1 τ v) $ await ! tt $ split ! $
    answers allocator ! 𝓜.mem 𝓡.returns handle τ v
    -- a block
    (λ b o e.
    let p : Ptr = block_ptr b o in let block : Block.Denot = taken 𝓛 Z g p n handle in let out : Val = live 0 (vcons (taken_val p) vnil) in
    let typed : Good (layout Block) (taken_val p) = (tt, ((tt, tt), (tt, ((tt, tt), tt)))) in let ok = first_Good (layout Block) (taken_val p) typed in
    move ! (2 ∷ 3 ∷ []) $ join ! $ move ! (1 ∷ 2 ∷ []) $
    lands_as ! e refl (Answer-typed true b o) $ first ! $ switches_on ! (get_tag ! (vrt ! refl (fld ! refl (stop !))) (whole !)) $ exec ! C Λ locals (arm_body 0 (head (after 1 fn.body))) Then $
    sets ! (of_opd ! (get_in ! (vrt ! refl (fld ! refl (stop !))) (in_variant ! 0 0 refl refl (whole !)))) refl (tt, tt) $
    -- the start; the room; what the deed is of; the deed; the three together
    sets ! (agg ! (and_then ! (get ! refl) (no_more !))) refl (word-Good [] p) $ sets ! (agg ! (no_more !)) refl (tt, tt) $ sets ! (agg ! (no_more !)) refl (tt, tt) $
    sets ! (agg ! (and_then ! (get ! refl) (no_more !))) refl (tt, (tt, tt)) $ sets ! (agg ! (and_then ! (get ! refl) (and_then ! (get ! refl) (and_then ! (get ! refl) (no_more !))))) refl typed $
    sets_last ! (agg ! (and_then ! (lit ! tt) (and_then ! (get ! refl) (no_more !)))) refl ok $ exec ! C Λ locals (after 2 fn.body) (at_ret locals End) $
    sets ! (of_opd ! (get ! refl)) refl ok $ returns ! (look_at ! 0 refl) $ free_all ! refl $
    flt_i ! n (2 ^ 63) asked $ fjoin ! $ use2 𝓛 (‵ (Block.own_val block (taken_val p ∷ []))) (taken_made 𝓛 Z g p n handle) $
    use1 𝓛 (‵ (Out.own_val (Ok block) (out ∷ []))) (ok_of 𝓛 Block AllocError.the_row block (taken_val p)) $ answered (Ok block) out (refl, refl, refl, refl, refl))
    -- or none
    (λ e.
    let Refusal : RattleType = Struct (Declared.shape AllocError.the_type) in let out : Val = live 1 (vcons empty_val vnil) in
    join ! $ lands_as ! e refl (Answer-typed false 0 0) $ first ! $ switches_on ! (get_tag ! (vrt ! refl (fld ! refl (stop !))) (whole !)) $ exec ! C Λ locals (arm_body 1 (head (after 1 fn.body))) Then $
    sets ! (of_opd ! (get_in ! (vrt ! refl (fld ! refl (stop !))) (in_variant ! 1 0 refl refl (whole !)))) refl (tt, tt) $
    sets_last ! (agg ! (and_then ! (lit ! tt) (and_then ! (get ! refl) (no_more !)))) refl (tt, (record { fits = lit< tt }, (tt, tt))) $ exec ! C Λ locals (after 2 fn.body) (at_ret locals End) $
    sets ! (of_opd ! (get ! refl)) refl (tt, (record { fits = lit< tt }, (tt, tt))) $ returns ! (look_at ! 0 refl) $ free_all ! refl $
    owned ! Refusal (Is Refusal) (Struct-Makes 𝓛 (Declared.shape AllocError.the_type) tt) tt (empty_val ∷ []) (tt, (refl, tt)) $
    use1 𝓛 (‵ (Out.own_val (Err (record {})) (out ∷ []))) (err_of 𝓛 Block AllocError.the_row (record {}) empty_val) $ answered (Err (record {})) out tt))))))
