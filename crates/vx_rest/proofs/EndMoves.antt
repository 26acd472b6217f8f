-- Moves keep ends right: what is drained stays drained, and an end is passed on only where its source is drained.
use Rattle.std.proofs.Common.{◌≡◌, ◌≢◌, ℕ, ◌<◌, Bool, true, refl, sym, ap, ◌∙◌, subst, inl, inr, ⊎_elim, nat_eq, eqb-true, true≢false}
use Rattle.std.specs.Prelude.{◌⊎◌}
use Rattle.std.proofs.lemmas.Bool.{eq-eqb}
use Rattle.vx_plan.specs.Tree.{Tree, values, over, join, filter, project, aggregation, order, topn, limit, exchange, id_of}
use Rattle.vx_meaning.proofs.PlusLaws.{by_test}
use Rattle.vx_rest.specs.Lists.{drivers_of}
use Rattle.vx_rest.specs.Held.{Held, Holding}
use Rattle.vx_rest.specs.Fits.{Within}
use Rattle.vx_rest.specs.Through.{IsThrough, IsJoinThrough}
use Rattle.vx_rest.specs.Ends.{Ends, AllEnd, IsDrained, AreEndsRight}

-- a flag that is set stays set
pub record FlagsStay (old new : Ends) : Type 0 where
  pub input : (id driver : ℕ) → old.input id driver ≡ true → new.input id driver ≡ true
  pub build : (id driver : ℕ) → old.build id driver ≡ true → new.build id driver ≡ true

-- a flag that is new has its source drained, and an operator knows of no other end
abbrev pub NewEnds : ℕ → Ends → Ends → Holding → Tree → Type 0
NewEnds drivers e e' q (values id kinds all parallel) = Unit {0}
NewEnds drivers e e' q (over id own source) =
    ((driver : ℕ) → driver < drivers_of drivers source → e'.input id driver ≡ true → (e.input id driver ≡ true) ⊎ IsDrained drivers e' q source driver)
    × ((driver : ℕ) → driver < drivers_of drivers source → (q.held id driver).ended ≡ true → e'.input id driver ≡ true)
NewEnds drivers e e' q (join id kind left_keys right_keys left right) =
    (e'.input id 0 ≡ true → (e.input id 0 ≡ true) ⊎ IsDrained drivers e' q left 0)
    × ((driver : ℕ) → driver < drivers_of drivers right → e'.build id driver ≡ true → (e.build id driver ≡ true) ⊎ IsDrained drivers e' q right driver)
    × ((q.join id).ended ≡ true → e'.input id 0 ≡ true)

pub within-here : (t : Tree) → Within t t
within-here (values id kinds all parallel) = refl
within-here (over id own source) = inl refl
within-here (join id kind left_keys right_keys left right) = inl refl

module _ (drivers : ℕ) (e e' : Ends) (old new : Holding) where
  -- a driver of a node that gets nothing more still gets nothing more
  abbrev pub StaysDrained : Tree → Type 0
  StaysDrained s = (driver : ℕ) → IsDrained drivers e old s driver → IsDrained drivers e' new s driver

  pub Ends-kept : (t : Tree) → ((s : Tree) → Within s t → StaysDrained s) → ((s : Tree) → Within s t → NewEnds drivers e e' new s) → AreEndsRight drivers e old t → AreEndsRight drivers e' new t
  Ends-kept (values id kinds all parallel) drained ends h = h
  Ends-kept (over id own source) drained ends h =
      let here = ends (over id own source) (inl refl) in (
        Ends-kept source (λ s w. drained s (inr w)) (λ s w. ends s (inr w)) h.0,
        (λ d w f. ⊎_elim (λ before. drained source (inr (within-here source)) d (h.1 d w before)) (λ x. x) (here.0 d w f)),
        here.1,
      )
  Ends-kept (join id kind left_keys right_keys left right) drained ends h =
      let here = ends (join id kind left_keys right_keys left right) (inl refl) in (
        Ends-kept left (λ s w. drained s (inr (inl w))) (λ s w. ends s (inr (inl w))) h.0,
        Ends-kept right (λ s w. drained s (inr (inr w))) (λ s w. ends s (inr (inr w))) h.1,
        (λ f. ⊎_elim (λ before. drained left (inr (inl (within-here left))) 0 (h.2 before)) (λ x. x) (here.0 f)),
        (λ d w f. ⊎_elim (λ before. drained right (inr (inr (within-here right))) d (h.3 d w before)) (λ x. x) (here.1 d w f)),
        here.2,
      )

  module _ (flags : FlagsStay e e') where
    all-end : (count : ℕ) (f g : ℕ → Bool) → ((d : ℕ) → f d ≡ true → g d ≡ true) → AllEnd count f → AllEnd count g
    all-end count f g h k d w = h d (k d w)

    -- where nothing of a node changes
    pub drained-same : (s : Tree) (d : ℕ) → new.hand (id_of s) d ≡ old.hand (id_of s) d → new.held (id_of s) d ≡ old.held (id_of s) d → new.join (id_of s) ≡ old.join (id_of s) → IsDrained drivers e old s d → IsDrained drivers e' new s d
    drained-same (values id kinds all parallel) d hand held joins h = (hand ∙ h.0, ap (λ (k : Held). k.rows) held ∙ h.1)
    drained-same (over id (filter x) source) d hand held joins h = (hand ∙ h.0, ap (λ (k : Held). k.rows) held ∙ h.1, flags.input id d h.2)
    drained-same (over id (project x) source) d hand held joins h = (hand ∙ h.0, ap (λ (k : Held). k.rows) held ∙ h.1, flags.input id d h.2)
    drained-same (over id (aggregation step keys aggregates) source) d hand held joins h = (hand ∙ h.0, ap (λ (k : Held). k.groups) held ∙ h.1, flags.input id d h.2)
    drained-same (over id (order keys) source) d hand held joins h = (hand ∙ h.0, ap (λ (k : Held). k.rows) held ∙ h.1, flags.input id d h.2)
    drained-same (over id (topn count keys) source) d hand held joins h = (hand ∙ h.0, subst (IsThrough (topn count keys)) (sym held) h.1, flags.input id d h.2)
    drained-same (over id (limit offset count) source) d hand held joins h = (hand ∙ h.0, ap (λ (k : Held). k.rows) held ∙ h.1, flags.input id d h.2)
    drained-same (over id (exchange kind keys) source) d hand held joins h = (hand ∙ h.0, ap (λ (k : Held). k.rows) held ∙ h.1, all-end (drivers_of drivers source) (e.input id) (e'.input id) (flags.input id) h.2)
    drained-same (join id kind left_keys right_keys left right) d hand held joins h = (hand ∙ h.0, subst IsJoinThrough (sym joins) h.1, flags.input id 0 h.2, all-end (drivers_of drivers right) (e.build id) (e'.build id) (flags.build id) h.3)

    -- a move names two nodes at most: of the others all is drained as before
    pub drained-but : (t : Tree) (c k : ℕ) → ((id : ℕ) → id ≢ c → id ≢ k → (new.hand id ≡ old.hand id) × (new.held id ≡ old.held id) × (new.join id ≡ old.join id))
        → ((s : Tree) → Within s t → (id_of s ≡ c) ⊎ (id_of s ≡ k) → StaysDrained s) → (s : Tree) → Within s t → StaysDrained s
    drained-but t c k same named s w d h = by_test (nat_eq (id_of s) c)
        (λ a. named s w (inl (eqb-true (id_of s) c a)) d h)
        (λ a. by_test (nat_eq (id_of s) k)
        (λ b. named s w (inr (eqb-true (id_of s) k b)) d h)
        (λ b.
        let x = same (id_of s) (λ e. true≢false (sym (eq-eqb (id_of s) c e) ∙ a)) (λ e. true≢false (sym (eq-eqb (id_of s) k e) ∙ b)) in
        drained-same s d (ap (λ f. f d) x.0) (ap (λ f. f d) x.1) x.2 h))
