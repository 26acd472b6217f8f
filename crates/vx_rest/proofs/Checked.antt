-- A plan that the check lets through is dealt well, and none of its numbers stands twice.
use Rattle.std.proofs.Common.{◌≡◌, ℕ, List, [], ◌∷◌, ◌++◌, Bool, true, false, ◌||◌, Result, Ok, Err, if◌then◌else◌, refl, ap, ◌∙◌, subst, inl, inr, nat_eq, eqb-true, map, ⊎_elim}
use Rattle.std.specs.List.{list_any}
use Rattle.std.proofs.lemmas.Bool.{eq-eqb}
use Rattle.std.proofs.lemmas.List.Folds.{list_any-append}
use Rattle.vx_plan.specs.declared.aggregate.Step.{Step}
use Rattle.vx_plan.specs.declared.aggregate.Step.TheVariants.{Single, Partial, Final}
use Rattle.vx_plan.specs.declared.refusal.Refusal.TheVariants.{P5, P7}
use Rattle.vx_plan.specs.declared.widths.Width.{Width}
use Rattle.vx_plan.specs.declared.widths.Width.TheVariants.{One, Many}
use Rattle.vx_plan.specs.Outcome.{on_ok}
use Rattle.vx_plan.specs.Tree.{Tree, values, over, join, Own, filter, project, aggregation, order, topn, limit, exchange, id_of, pre_order}
use Rattle.vx_plan.specs.Ids.{enter, enter_all, check_ids}
use Rattle.vx_plan.specs.Width.{width_of}
use Rattle.vx_plan.specs.Widths.{width, width_over, width_aggregated, width_grouped, from_one, is_dealt_by, check_widths}
use Rattle.vx_plan.proofs.WidthLaws.{width_is}
use Rattle.vx_plan.proofs.IdLemmas.{enter_all_is}
use Rattle.vx_rest.specs.Start.{ComeTogether, AggregatesTogether, IsDealtWell, AreDealtWell}
use Rattle.vx_rest.specs.Fits.{has_node, AreOnce}
use Rattle.vx_rest.proofs.OnlyAtLaws.{or-left, or-right, or-cases, not-true, clash}

ok-parts : {A B E : Type 0} (r : Result A E) (f : A → Result B E) (b : B) → on_ok r f ≡ Ok b → (a : A) × (r ≡ Ok a) × (f a ≡ Ok b)
ok-parts (Ok a) f b h = (a, refl, h)
ok-parts (Err e) f b h = absurd (cc)

-- ---- widths

one-below : (id : ℕ) (below w : Width) → from_one id below ≡ Ok w → below ≡ One
one-below id One w h = refl
one-below id Many w h = absurd (cc)

dealt-true : (dealt : Bool) (id : ℕ) (w : Width) → (if dealt then Ok Many else Err (P5 id)) ≡ Ok w → dealt ≡ true
dealt-true true id w h = refl
dealt-true false id w h = absurd (cc)

grouped-together : (id key : ℕ) (keys : List ℕ) (s : Tree) (below w : Width) → width_of s ≡ below → width_grouped id (key ∷ keys) s below ≡ Ok w → ComeTogether (key ∷ keys) s
grouped-together id key keys s One w e h = inl e
grouped-together id key keys s Many w e h = inr (dealt-true (is_dealt_by (key ∷ keys) s) id w h)

aggregates-together : (id : ℕ) (step : Step) (keys : List ℕ) (s : Tree) (below w : Width) → width_of s ≡ below → width_aggregated id step keys s below ≡ Ok w → AggregatesTogether step keys s
aggregates-together id Partial keys s below w e h = tt
aggregates-together id Single [] s below w e h = e ∙ one-below id below w h
aggregates-together id Single (key ∷ keys) s below w e h = grouped-together id key keys s below w e h
aggregates-together id Final [] s below w e h = e ∙ one-below id below w h
aggregates-together id Final (key ∷ keys) s below w e h = grouped-together id key keys s below w e h

over-well : (id : ℕ) (own : Own) (s : Tree) (below w : Width) → width_of s ≡ below → width_over id own s below ≡ Ok w → IsDealtWell own s
over-well id (filter e) s below w is h = tt
over-well id (project es) s below w is h = tt
over-well id (aggregation step keys aggregates) s below w is h = aggregates-together id step keys s below w is h
over-well id (order keys) s below w is h = is ∙ one-below id below w h
over-well id (topn count keys) s below w is h = is ∙ one-below id below w h
over-well id (limit offset count) s below w is h = is ∙ one-below id below w h
over-well id (exchange kind keys) s below w is h = tt

well-from_width : (t : Tree) (w : Width) → width t ≡ Ok w → AreDealtWell t
well-from_width (values id kinds rows parallel) w h = tt
well-from_width (over id own s) w h =
    let p = ok-parts (width s) (width_over id own s) w h in
    (well-from_width s p.0 p.1, over-well id own s p.0 w (width_is s p.0 p.1) p.2)
well-from_width (join id kind on_left on_right l r) w h =
    let p = ok-parts (width l) (λ x. on_ok (width r) (λ _. from_one id x)) w h in
    let q = ok-parts (width r) (λ _. from_one id p.0) w p.2 in
    (well-from_width l p.0 p.1, well-from_width r q.0 q.1, width_is l p.0 p.1 ∙ one-below id p.0 w q.2)

pub well-from_check : (t : Tree) → check_widths t ≡ Ok tt → AreDealtWell t × (width_of t ≡ One)
well-from_check t h =
    let p = ok-parts (width t) (λ w. on_ok (from_one (id_of t) w) (λ _. Ok tt)) tt h in
    let q = ok-parts (from_one (id_of t) p.0) (λ _. Ok tt) tt p.2 in
    (well-from_width t p.0 p.1, width_is t p.0 p.1 ∙ one-below (id_of t) p.0 q.0 q.1)

-- ---- numbers

abbrev met_has : ℕ → List ℕ → Bool
met_has k met = list_any (nat_eq k) met

record Entered (t : Tree) (met later : List ℕ) : Type 0 where
  once : AreOnce t
  new : (k : ℕ) → has_node k t ≡ true → met_has k met ≡ false
  stays : (k : ℕ) → met_has k met ≡ true → met_has k later ≡ true
  there : (k : ℕ) → has_node k t ≡ true → met_has k later ≡ true

refused : (b : Bool) (id : ℕ) (met here : List ℕ) → (if b then Err (P7 id) else Ok (met ++ id ∷ [])) ≡ Ok here → (b ≡ false) × (here ≡ met ++ id ∷ [])
refused true id met here h = absurd (cc)
refused false id met here h = (refl, cc)

with-one : (k id : ℕ) (met : List ℕ) → met_has k (met ++ id ∷ []) ≡ (met_has k met || nat_eq k id)
with-one k id met = list_any-append (nat_eq k) met (id ∷ []) ∙ ap (λ b. met_has k met || b) (or-false (nat_eq k id)) where
  or-false : (b : Bool) → (b || false) ≡ b
  or-false true = refl
  or-false false = refl

-- one number entered: it is new, what was met stays, and it is met then
entered-one : (id : ℕ) (met here : List ℕ) → enter met id ≡ Ok here → (met_has id met ≡ false) × ((k : ℕ) → met_has k met ≡ true → met_has k here ≡ true) × (met_has id here ≡ true)
entered-one id met here h =
    let p = refused (list_any (nat_eq id) met) id met here h in
    (p.0, (λ k e. ap (met_has k) p.1 ∙ with-one k id met ∙ or-left (met_has k met) (nat_eq k id) e), ap (met_has id) p.1 ∙ with-one id id met ∙ or-right (met_has id met) (nat_eq id id) (eq-eqb id id refl))

entered : (t : Tree) (met later : List ℕ) → enter_all t met ≡ Ok later → Entered t met later
entered (values id kinds rows parallel) met later h =
    let one = entered-one id met later h in
    record {
      once = tt;
      new = λ k e. subst (λ k. met_has k met ≡ false) (eqb-true id k e) one.0;
      stays = one.1;
      there = λ k e. subst (λ k. met_has k later ≡ true) (eqb-true id k e) one.2;
    }
entered (over id own source) met later h =
    let p = ok-parts (enter met id) (enter_all source) later h in
    let one = entered-one id met p.0 p.1 in
    let below = entered source p.0 later p.2 in
    record {
      once = (not-true (has_node id source) (λ e. clash (met_has id p.0) one.2 (below.new id e)), below.once);
      new = λ k e. not-true (met_has k met) (λ m. ⊎_elim
          (λ x. clash (met_has k met) m (subst (λ k. met_has k met ≡ false) (eqb-true id k x) one.0))
          (λ n. clash (met_has k p.0) (one.1 k m) (below.new k n)) (or-cases (nat_eq id k) (has_node k source) e));
      stays = λ k m. below.stays k (one.1 k m);
      there = λ k e. ⊎_elim (λ x. subst (λ k. met_has k later ≡ true) (eqb-true id k x) (below.stays id one.2)) (below.there k) (or-cases (nat_eq id k) (has_node k source) e);
    }
entered (join id kind on_left on_right left right) met later h =
    let p = ok-parts (enter met id) (λ here. on_ok (enter_all left here) (enter_all right)) later h in
    let q = ok-parts (enter_all left p.0) (enter_all right) later p.2 in
    let one = entered-one id met p.0 p.1 in
    let l = entered left p.0 q.0 q.1 in
    let r = entered right q.0 later q.2 in
    record {
      once = (
        not-true (has_node id left) (λ e. clash (met_has id p.0) one.2 (l.new id e)),
        not-true (has_node id right) (λ e. clash (met_has id q.0) (l.stays id one.2) (r.new id e)),
        (λ k e. not-true (has_node k right) (λ f. clash (met_has k q.0) (l.there k e) (r.new k f))),
        l.once,
        r.once,
      );
      new = λ k e. not-true (met_has k met) (λ m. ⊎_elim
          (λ x. clash (met_has k met) m (subst (λ k. met_has k met ≡ false) (eqb-true id k x) one.0))
          (λ n. ⊎_elim (λ a. clash (met_has k p.0) (one.1 k m) (l.new k a)) (λ b. clash (met_has k q.0) (l.stays k (one.1 k m)) (r.new k b)) (or-cases (has_node k left) (has_node k right) n))
          (or-cases (nat_eq id k) (has_node k left || has_node k right) e));
      stays = λ k m. r.stays k (l.stays k (one.1 k m));
      there = λ k e. ⊎_elim
          (λ x. subst (λ k. met_has k later ≡ true) (eqb-true id k x) (r.stays id (l.stays id one.2)))
          (λ n. ⊎_elim (λ a. r.stays k (l.there k a)) (r.there k) (or-cases (has_node k left) (has_node k right) n))
          (or-cases (nat_eq id k) (has_node k left || has_node k right) e);
    }

pub once-from_check : (t : Tree) → check_ids t ≡ Ok tt → AreOnce t
once-from_check t h = (entered t [] (map id_of (pre_order t)) (enter_all_is t [] ∙ ap (λ r. on_ok r (λ _. Ok (map id_of (pre_order t)))) h)).once
