-- Each move lets the query stand for no more than before: what one has to show of it.
use Rattle.std.proofs.Common.{◌≡◌, ◌≢◌, ℕ, Bool, true, false, cond, List, [], ◌++◌, refl, sym, ap, ap₂, ◌∙◌, subst, inl, inr, true≢false, nat_eq, eqb-true, append-nil}
use Rattle.std.proofs.lemmas.Bool.{eq-eqb}
use Rattle.vx_value.specs.Row.{Row}
use Rattle.vx_plan.specs.Tree.{Tree, values, over, Own, id_of}
use Rattle.vx_meaning.proofs.PlusLaws.{by_test}
use Rattle.vx_rest.specs.Lists.{nothing, only_at, drivers_of}
use Rattle.vx_rest.specs.Held.{Holding}
use Rattle.vx_rest.specs.Fits.{Passed, HandsPass, FitsHere, Moved, has_below, is_source, AreOnce, Within, OnlyAt}
use Rattle.vx_rest.specs.Calls.{AllKeep, ValuesKeep}
use Rattle.vx_rest.specs.HandMoves.{taking, putting, standing, HandEmptied, HandFilled, HandsStay, StaysBut, ComesOut}
use Rattle.vx_rest.proofs.FitLemmas.{Fits-all, Values-fit}
use Rattle.vx_rest.proofs.OnlyAtLaws.{clash, not-true, root-once, source-below, within-below, Fits-away, Fits-within}

at_not : (a b : ℕ) → nat_eq a b ≡ false → a ≢ b
at_not a b h e = true≢false (sym (eq-eqb a b e) ∙ h)

-- ---- hands

pub taking-hands : (node place : ℕ) (rows : List Row) (old new : Holding) → HandEmptied node place rows old new → HandsPass (taking node place rows) old new
taking-hands node place rows old new h id driver = by_test (nat_eq id node)
    (λ a. by_test (nat_eq driver place)
    (λ b. ap₂ (λ x y. cond x (only_at place rows) nothing driver ++ new.hand y driver) a (eqb-true id node a)
    ∙ ap₂ (λ x y. cond x rows [] ++ new.hand node y) b (eqb-true driver place b) ∙ ap (λ l. rows ++ l) h.after ∙ append-nil rows
    ∙ sym (append-nil (old.hand id driver) ∙ ap₂ old.hand (eqb-true id node a) (eqb-true driver place b) ∙ h.before))
    (λ b. ap (λ x. cond x (only_at place rows) nothing driver ++ new.hand id driver) a ∙ ap (λ x. cond x rows [] ++ new.hand id driver) b ∙ h.others id driver (inr (at_not driver place b)) ∙ sym (append-nil (old.hand id driver))))
    (λ a. ap (λ x. cond x (only_at place rows) nothing driver ++ new.hand id driver) a ∙ h.others id driver (inl (at_not id node a)) ∙ sym (append-nil (old.hand id driver)))

pub putting-hands : (node place : ℕ) (rows : List Row) (old new : Holding) → HandFilled node place rows old new → HandsPass (putting node place rows) old new
putting-hands node place rows old new h id driver = by_test (nat_eq id node)
    (λ a. by_test (nat_eq driver place)
    (λ b. ap₂ new.hand (eqb-true id node a) (eqb-true driver place b) ∙ h.after
    ∙ sym (ap₂ (λ x y. old.hand y driver ++ cond x (only_at place rows) nothing driver) a (eqb-true id node a) ∙ ap₂ (λ x y. old.hand node y ++ cond x rows []) b (eqb-true driver place b) ∙ ap (λ l. l ++ rows) h.before))
    (λ b. h.others id driver (inr (at_not driver place b)) ∙ sym (ap (λ x. old.hand id driver ++ cond x (only_at place rows) nothing driver) a ∙ ap (λ x. old.hand id driver ++ cond x rows []) b ∙ append-nil (old.hand id driver))))
    (λ a. h.others id driver (inl (at_not id node a)) ∙ sym (ap (λ x. old.hand id driver ++ cond x (only_at place rows) nothing driver) a ∙ append-nil (old.hand id driver)))

pub standing-hands : (old new : Holding) → HandsStay old new → HandsPass standing old new
standing-hands old new h id driver = h id driver ∙ sym (append-nil (old.hand id driver))

-- ---- at one node

pub taken-at : (node place : ℕ) (rows : List Row) → (taking node place rows).taken node ≡ only_at place rows
taken-at node place rows = ap (λ b. cond b (only_at place rows) nothing) (eq-eqb node node refl)

pub put-at : (node place : ℕ) (rows : List Row) → (putting node place rows).put node ≡ only_at place rows
put-at node place rows = ap (λ b. cond b (only_at place rows) nothing) (eq-eqb node node refl)

put-not : (node place id : ℕ) (rows : List Row) → id ≢ node → (putting node place rows).put id ≡ nothing
put-not node place id rows h = ap (λ b. cond b (only_at place rows) nothing) (not-true (nat_eq id node) (λ e. h (eqb-true id node e)))

taken-not : (node place id : ℕ) (rows : List Row) (part : Tree) → is_source node part ≡ true → is_source id part ≡ false → (taking node place rows).taken id ≡ nothing
taken-not node place id rows part is h = ap (λ b. cond b (only_at place rows) nothing) (not-true (nat_eq id node) (λ e. clash (is_source id part) (subst (λ k. is_source k part ≡ true) (sym (eqb-true id node e)) is) h))

pub only-taking : (part : Tree) (node place : ℕ) (rows : List Row) (old new : Holding) → is_source node part ≡ true → StaysBut (id_of part) old new → OnlyAt part (taking node place rows) old new
only-taking part node place rows old new is s = record { held = s.held; join = s.join; put = λ id h. refl; taken = λ id h. taken-not node place id rows part is h }

pub only-putting : (part : Tree) (place : ℕ) (rows : List Row) (old new : Holding) → StaysBut (id_of part) old new → OnlyAt part (putting (id_of part) place rows) old new
only-putting part place rows old new s = record { held = s.held; join = s.join; put = λ id h. put-not (id_of part) place id rows h; taken = λ id h. refl }

pub only-standing : (part : Tree) (old new : Holding) → StaysBut (id_of part) old new → OnlyAt part standing old new
only-standing part old new s = record { held = s.held; join = s.join; put = λ id h. refl; taken = λ id h. refl }

module _ (drivers : ℕ) (t : Tree) (once : AreOnce t) (old new : Holding) where
  -- a move at a node that the plan has
  pub Moved-at : (part : Tree) (m : Passed) → Within part t → OnlyAt part m old new → HandsPass m old new → FitsHere drivers old new m part → new.out ≡ old.out → Moved drivers t m old new
  Moved-at part m within only hands here out = record {
    hands = hands;
    fits = Fits-within drivers old new m part only here t once within;
    out =
        let none : m.taken (id_of t) ≡ nothing = only.taken (id_of t) (not-true (is_source (id_of t) part) (λ s. clash (has_below (id_of t) t) (within-below (id_of t) part t within (source-below (id_of t) part s)) (root-once t once))) in
        out ∙ sym (append-nil old.out) ∙ ap (λ l. old.out ++ l 0) (sym none);
  }

  -- one driver's operator takes a batch out of the hand before it
  pub Moved-takes : (id : ℕ) (own : Own) (source : Tree) (place : ℕ) (rows : List Row) → Within (over id own source) t → StaysBut id old new → HandEmptied (id_of source) place rows old new
      → AllKeep (drivers_of drivers source) (drivers_of drivers (over id own source)) own (old.held id) (new.held id) (only_at place rows) nothing → Moved drivers t (taking (id_of source) place rows) old new
  Moved-takes id own source place rows within s hand keeps =
      Moved-at (over id own source) (taking (id_of source) place rows) within (only-taking (over id own source) (id_of source) place rows old new (eq-eqb (id_of source) (id_of source) refl) s) (taking-hands (id_of source) place rows old new hand)
      (Fits-all _ _ (old.held id) (new.held id) _ _ own (subst (λ taken. AllKeep (drivers_of drivers source) (drivers_of drivers (over id own source)) own (old.held id) (new.held id) taken nothing) (sym (taken-at (id_of source) place rows)) keeps)) s.out

  -- and puts one into the hand behind it
  pub Moved-puts : (id : ℕ) (own : Own) (source : Tree) (place : ℕ) (rows : List Row) → Within (over id own source) t → StaysBut id old new → HandFilled id place rows old new
      → AllKeep (drivers_of drivers source) (drivers_of drivers (over id own source)) own (old.held id) (new.held id) nothing (only_at place rows) → Moved drivers t (putting id place rows) old new
  Moved-puts id own source place rows within s hand keeps =
      Moved-at (over id own source) (putting id place rows) within (only-putting (over id own source) place rows old new s) (putting-hands id place rows old new hand)
      (Fits-all _ _ (old.held id) (new.held id) _ _ own (subst (λ put. AllKeep (drivers_of drivers source) (drivers_of drivers (over id own source)) own (old.held id) (new.held id) nothing put) (sym (put-at id place rows)) keeps)) s.out

  -- and neither takes nor puts
  pub Moved-stands : (id : ℕ) (own : Own) (source : Tree) → Within (over id own source) t → StaysBut id old new → HandsStay old new
      → AllKeep (drivers_of drivers source) (drivers_of drivers (over id own source)) own (old.held id) (new.held id) nothing nothing → Moved drivers t standing old new
  Moved-stands id own source within s hands keeps =
      Moved-at (over id own source) standing within (only-standing (over id own source) old new s) (standing-hands old new hands) (Fits-all _ _ (old.held id) (new.held id) nothing nothing own keeps) s.out

  pub Moved-values : (id : ℕ) (kinds : List Rattle.vx_value.specs.declared.value.Kind.Kind) (all : List (List Rattle.vx_value.specs.declared.value.Value.Value)) (parallel : Bool) (place : ℕ) (rows : List Row) → Within (values id kinds all parallel) t → StaysBut id old new → HandFilled id place rows old new
      → ValuesKeep (drivers_of drivers (values id kinds all parallel)) (old.held id) (new.held id) (only_at place rows) → Moved drivers t (putting id place rows) old new
  Moved-values id kinds all parallel place rows within s hand keeps =
      Moved-at (values id kinds all parallel) (putting id place rows) within (only-putting (values id kinds all parallel) place rows old new s) (putting-hands id place rows old new hand)
      (Values-fit _ (old.held id) (new.held id) _ (subst (λ put. ValuesKeep (drivers_of drivers (values id kinds all parallel)) (old.held id) (new.held id) put) (sym (put-at id place rows)) keeps)) s.out

  -- the last hand comes out
  pub Moved-out : (rows : List Row) → ComesOut (id_of t) rows old new → Moved drivers t (taking (id_of t) 0 rows) old new
  Moved-out rows h = record {
    hands = taking-hands (id_of t) 0 rows old new h.hands;
    fits = Fits-away drivers old new (taking (id_of t) 0 rows) t (λ k there. (ap (λ f. f k) h.held, ap (λ f. f k) h.join, refl))
        (λ k below. ap (λ b. cond b (only_at 0 rows) nothing) (not-true (nat_eq k (id_of t)) (λ e. clash (has_below k t) below (subst (λ k. has_below k t ≡ false) (sym (eqb-true k (id_of t) e)) (root-once t once)))));
    out = h.out ∙ ap (λ l. old.out ++ l 0) (sym (taken-at (id_of t) 0 rows));
  }
