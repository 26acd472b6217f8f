-- Facts of all nodes of a plan, one by one.
use Rattle.std.proofs.Common.{◌≡◌, ◌≢◌, ℕ, ◌<◌, ◌≤◌, true, false, List, [], refl, sym, ap, ◌∙◌, subst, inl, inr, ⊎_elim, nat_eq, eqb-true, true≢false, arith}
use Rattle.std.specs.Prelude.{◌⊎◌}
use Rattle.std.proofs.lemmas.Bool.{eq-eqb}
use Rattle.vx_value.specs.Row.{Row}
use Rattle.vx_meaning.proofs.PlusLaws.{by_test}
use Rattle.vx_plan.specs.Tree.{Tree, values, over, join, Own, filter, project, aggregation, order, topn, limit, exchange, id_of}
use Rattle.vx_rest.specs.Lists.{drivers_of}
use Rattle.vx_rest.specs.Held.{Held, HeldJoin, Holding}
use Rattle.vx_rest.specs.Fits.{Within, AreOnce, has_node}
use Rattle.vx_rest.specs.HandMoves.{HandEmptied, HandFilled, HandsStay, ComesOut}
use Rattle.vx_rest.specs.Start.{AreDealtWell}
use Rattle.vx_rest.specs.Ends.{Ends, HaveNoMoreHands, HasStarted, HeldStarted, RowsStarted}
use Rattle.vx_rest.proofs.OnlyAtLaws.{within-unique, root-node, clash}
use Rattle.vx_rest.proofs.EndLaw.{started-stays}
use Rattle.vx_rest.proofs.EndMoves.{FlagsStay}

pub eq_or : {P : Type 0} (a b : ℕ) → (a ≡ b → P) → (a ≢ b → P) → P
eq_or a b same other = by_test (nat_eq a b) (λ h. same (eqb-true a b h)) (λ h. other (λ e. true≢false (sym (eq-eqb a b e) ∙ h)))

pub once-within : (part t : Tree) → Within part t → AreOnce t → AreOnce part
once-within part (values id kinds all parallel) w h = subst AreOnce (sym w) h
once-within part (over id own source) (inl w) h = subst AreOnce (sym w) h
once-within part (over id own source) (inr w) h = once-within part source w h.1
once-within part (join id kind left_keys right_keys left right) (inl w) h = subst AreOnce (sym w) h
once-within part (join id kind left_keys right_keys left right) (inr (inl w)) h = once-within part left w h.3
once-within part (join id kind left_keys right_keys left right) (inr (inr w)) h = once-within part right w h.4

pub well-within : (part t : Tree) → Within part t → AreDealtWell t → AreDealtWell part
well-within part (values id kinds all parallel) w h = subst AreDealtWell (sym w) h
well-within part (over id own source) (inl w) h = subst AreDealtWell (sym w) h
well-within part (over id own source) (inr w) h = well-within part source w h.0
well-within part (join id kind left_keys right_keys left right) (inl w) h = subst AreDealtWell (sym w) h
well-within part (join id kind left_keys right_keys left right) (inr (inl w)) h = well-within part left w h.0
well-within part (join id kind left_keys right_keys left right) (inr (inr w)) h = well-within part right w h.1

pub within-trans : (a b t : Tree) → Within a b → Within b t → Within a t
within-trans a b (values id kinds all parallel) v w = subst (Within a) w v
within-trans a b (over id own source) v (inl w) = subst (Within a) w v
within-trans a b (over id own source) v (inr w) = inr (within-trans a b source v w)
within-trans a b (join id kind left_keys right_keys left right) v (inl w) = subst (Within a) w v
within-trans a b (join id kind left_keys right_keys left right) v (inr (inl w)) = inr (inl (within-trans a b left v w))
within-trans a b (join id kind left_keys right_keys left right) v (inr (inr w)) = inr (inr (within-trans a b right v w))

pub apart : (id : ℕ) (s : Tree) → has_node id s ≡ false → id_of s ≢ id
apart id s out e = clash (has_node id s) (subst (λ k. has_node k s ≡ true) e (root-node s)) out

-- ---- no more hands

abbrev pub MoreAt : ℕ → Holding → Tree → Type 0
MoreAt drivers q s = (d : ℕ) → drivers_of drivers s ≤ d → q.hand (id_of s) d ≡ []

pub more-at : (drivers : ℕ) (q : Holding) (t : Tree) → HaveNoMoreHands drivers q t → (s : Tree) → Within s t → MoreAt drivers q s
more-at drivers q (values id kinds all parallel) h s w = subst (MoreAt drivers q) (sym w) h
more-at drivers q (over id own source) h s (inl w) = subst (MoreAt drivers q) (sym w) h.1
more-at drivers q (over id own source) h s (inr w) = more-at drivers q source h.0 s w
more-at drivers q (join id kind left_keys right_keys left right) h s (inl w) = subst (MoreAt drivers q) (sym w) h.2
more-at drivers q (join id kind left_keys right_keys left right) h s (inr (inl w)) = more-at drivers q left h.0 s w
more-at drivers q (join id kind left_keys right_keys left right) h s (inr (inr w)) = more-at drivers q right h.1 s w

pub more-all : (drivers : ℕ) (q : Holding) (t : Tree) → ((s : Tree) → Within s t → MoreAt drivers q s) → HaveNoMoreHands drivers q t
more-all drivers q (values id kinds all parallel) h = h (values id kinds all parallel) refl
more-all drivers q (over id own source) h = (more-all drivers q source (λ s w. h s (inr w)), h (over id own source) (inl refl))
more-all drivers q (join id kind left_keys right_keys left right) h =
    (more-all drivers q left (λ s w. h s (inr (inl w))), more-all drivers q right (λ s w. h s (inr (inr w))), h (join id kind left_keys right_keys left right) (inl refl))

-- ---- rows stand above what has started

abbrev pub HandsAt : ℕ → Ends → Holding → Tree → Type 0
HandsAt drivers e q s = (d : ℕ) → q.hand (id_of s) d ≢ [] → HasStarted drivers e s

abbrev pub HeldAt : ℕ → Ends → Holding → Tree → Type 0
HeldAt drivers e q (values id kinds all parallel) = Unit {0}
HeldAt drivers e q (over id own source) = HeldStarted drivers e q id own source
HeldAt drivers e q (join id kind left_keys right_keys left right) = (q.join id).owed ≢ [] → HasStarted drivers e (join id kind left_keys right_keys left right)

pub rows-at : (drivers : ℕ) (e : Ends) (q : Holding) (t : Tree) → RowsStarted drivers e q t → (s : Tree) → Within s t → HandsAt drivers e q s × HeldAt drivers e q s
rows-at drivers e q (values id kinds all parallel) h s w = subst (λ s. HandsAt drivers e q s × HeldAt drivers e q s) (sym w) (λ d some. tt, tt)
rows-at drivers e q (over id own source) h s (inl w) = subst (λ s. HandsAt drivers e q s × HeldAt drivers e q s) (sym w) (h.1, h.2)
rows-at drivers e q (over id own source) h s (inr w) = rows-at drivers e q source h.0 s w
rows-at drivers e q (join id kind left_keys right_keys left right) h s (inl w) = subst (λ s. HandsAt drivers e q s × HeldAt drivers e q s) (sym w) (h.2, h.3)
rows-at drivers e q (join id kind left_keys right_keys left right) h s (inr (inl w)) = rows-at drivers e q left h.0 s w
rows-at drivers e q (join id kind left_keys right_keys left right) h s (inr (inr w)) = rows-at drivers e q right h.1 s w

pub rows-within : (drivers : ℕ) (e : Ends) (q : Holding) (t : Tree) → RowsStarted drivers e q t → (s : Tree) → Within s t → RowsStarted drivers e q s
rows-within drivers e q (values id kinds all parallel) h s w = subst (RowsStarted drivers e q) (sym w) h
rows-within drivers e q (over id own source) h s (inl w) = subst (RowsStarted drivers e q) (sym w) h
rows-within drivers e q (over id own source) h s (inr w) = rows-within drivers e q source h.0 s w
rows-within drivers e q (join id kind left_keys right_keys left right) h s (inl w) = subst (RowsStarted drivers e q) (sym w) h
rows-within drivers e q (join id kind left_keys right_keys left right) h s (inr (inl w)) = rows-within drivers e q left h.0 s w
rows-within drivers e q (join id kind left_keys right_keys left right) h s (inr (inr w)) = rows-within drivers e q right h.1 s w

pub rows-all : (drivers : ℕ) (e : Ends) (q : Holding) (t : Tree) → ((s : Tree) → Within s t → HandsAt drivers e q s × HeldAt drivers e q s) → RowsStarted drivers e q t
rows-all drivers e q (values id kinds all parallel) h = tt
rows-all drivers e q (over id own source) h = let here = h (over id own source) (inl refl) in (rows-all drivers e q source (λ s w. h s (inr w)), here.0, here.1)
rows-all drivers e q (join id kind left_keys right_keys left right) h =
    let here = h (join id kind left_keys right_keys left right) (inl refl) in
    (rows-all drivers e q left (λ s w. h s (inr (inl w))), rows-all drivers e q right (λ s w. h s (inr (inr w))), here.0, here.1)

-- what a node keeps stays
held-started-same : (drivers : ℕ) (e e' : Ends) → FlagsStay e e' → (old new : Holding) (id : ℕ) (own : Own) (source : Tree) → new.held id ≡ old.held id → HeldStarted drivers e old id own source → HeldStarted drivers e' new id own source
held-started-same drivers e e' flags old new id (aggregation step keys aggregates) source same h = tt
held-started-same drivers e e' flags old new id (order keys) source same h = tt
held-started-same drivers e e' flags old new id (topn count keys) source same h = tt
held-started-same drivers e e' flags old new id (filter x) source same h = λ d w some. started-stays drivers e e' flags.input flags.build source (h d w (subst (λ (f : ℕ → Held). (f d).rows ≢ []) same some))
held-started-same drivers e e' flags old new id (project x) source same h = λ d w some. started-stays drivers e e' flags.input flags.build source (h d w (subst (λ (f : ℕ → Held). (f d).rows ≢ []) same some))
held-started-same drivers e e' flags old new id (limit offset count) source same h = λ d w some. started-stays drivers e e' flags.input flags.build source (h d w (subst (λ (f : ℕ → Held). (f d).rows ≢ []) same some))
held-started-same drivers e e' flags old new id (exchange kind keys) source same h = λ d w some. started-stays drivers e e' flags.input flags.build source (h d w (subst (λ (f : ℕ → Held). (f d).rows ≢ []) same some))

pub HeldAt-same : (drivers : ℕ) (e e' : Ends) → FlagsStay e e' → (old new : Holding) (s : Tree) → new.held (id_of s) ≡ old.held (id_of s) → new.join (id_of s) ≡ old.join (id_of s) → HeldAt drivers e old s → HeldAt drivers e' new s
HeldAt-same drivers e e' flags old new (values id kinds all parallel) held joins h = tt
HeldAt-same drivers e e' flags old new (over id own source) held joins h = held-started-same drivers e e' flags old new id own source held h
HeldAt-same drivers e e' flags old new (join id kind left_keys right_keys left right) held joins h =
    λ some. started-stays drivers e e' flags.input flags.build (join id kind left_keys right_keys left right) (h (subst (λ (j : HeldJoin). j.owed ≢ []) joins some))

-- ---- hands

-- no hand has more than it had
abbrev pub HandsFall : Holding → Holding → Type 0
HandsFall old new = (id d : ℕ) → (new.hand id d ≡ []) ⊎ (new.hand id d ≡ old.hand id d)

pub fall-emptied : (node place : ℕ) (rows : List Row) (old new : Holding) → HandEmptied node place rows old new → HandsFall old new
fall-emptied node place rows old new h id d = eq_or id node
    (λ a. eq_or d place (λ b. inl (subst (λ k. new.hand k d ≡ []) (sym a) (subst (λ k. new.hand node k ≡ []) (sym b) h.after))) (λ b. inr (h.others id d (inr b))))
    (λ a. inr (h.others id d (inl a)))

pub fall-same : (old new : Holding) → HandsStay old new → HandsFall old new
fall-same old new h id d = inr (h id d)

pub fall-more : (drivers : ℕ) (old new : Holding) → HandsFall old new → (s : Tree) → MoreAt drivers old s → MoreAt drivers new s
fall-more drivers old new h s more d w = ⊎_elim (λ e. e) (λ e. e ∙ more d w) (h (id_of s) d)

pub fall-hands : (old new : Holding) → HandsFall old new → (id d : ℕ) → new.hand id d ≢ [] → old.hand id d ≢ []
fall-hands old new h id d some = ⊎_elim (λ e. absurd (some e)) (λ e. subst (λ l. l ≢ []) e some) (h id d)

pub fill-more : (drivers : ℕ) (t : Tree) → AreOnce t → (part : Tree) → Within part t → (place : ℕ) → place < drivers_of drivers part → (rows : List Row) (old new : Holding) → HandFilled (id_of part) place rows old new → (s : Tree) → Within s t → MoreAt drivers old s → MoreAt drivers new s
fill-more drivers t once part within place low rows old new h s w more d high = eq_or (id_of s) (id_of part)
    (λ a. let same : s ≡ part = within-unique s part t once w within a in
    let up : drivers_of drivers part ≤ d = subst (λ s. drivers_of drivers s ≤ d) same high in
    h.others (id_of s) d (inr (λ (e : d ≡ place). absurd (let z : place < d = omega arith in omega arith))) ∙ more d high)
    (λ a. h.others (id_of s) d (inl a) ∙ more d high)
