-- A move at one node of a plan in which no number stands twice fits all nodes.
use Rattle.std.proofs.Common.{◌≡◌, ◌≢◌, ℕ, Bool, true, false, ◌||◌, List, [], refl, sym, ap, ap₂, ◌∙◌, subst, inl, inr, true≢false, nat_eq, eqb-true, arith}
use Rattle.std.proofs.lemmas.Bool.{eq-eqb}
use Rattle.std.specs.Prelude.{◌⊎◌, cond, Some, None}
use Rattle.vx_value.specs.Row.{Row}
use Rattle.vx_plan.specs.declared.node.JoinKind.{JoinKind}
use Rattle.vx_plan.specs.Tree.{Tree, values, over, join, Own, id_of}
use Rattle.vx_meaning.specs.Joins.{joined, probed}
use Rattle.vx_meaning.specs.Answer.{joined_on}
use Rattle.vx_meaning.proofs.PlusLaws.{by_test}
use Rattle.vx_rest.specs.Lists.{Lists, ahead, nothing, drivers_of, only_at}
use Rattle.vx_rest.specs.Held.{Held, Holding}
use Rattle.vx_rest.specs.Rest.{JoinGives}
use Rattle.vx_rest.specs.RestFaulty.{JoinBegins}
use Rattle.vx_rest.specs.Fits.{Passed, ValuesFit, NodeFits, JoinFits, FitsHere, Fits, has_node, has_below, is_source, AreOnce, Within, OnlyAt, part_at}
use Rattle.vx_rest.specs.Calls.{Keeps}
use Rattle.vx_rest.proofs.FitLemmas.{Keeps-same}

-- ---- numbers

pub or-left : (a b : Bool) → a ≡ true → (a || b) ≡ true
or-left a b h = ap (λ a. a || b) h

pub or-right : (a b : Bool) → b ≡ true → (a || b) ≡ true
or-right true b h = refl
or-right false b h = h

pub or-cases : (a b : Bool) → (a || b) ≡ true → (a ≡ true) ⊎ (b ≡ true)
or-cases true b h = inl refl
or-cases false b h = inr h

pub not-true : (b : Bool) → (b ≡ true → ⊥) → b ≡ false
not-true true h = absurd (h refl)
not-true false h = refl

pub clash : {P : Type 0} (b : Bool) → b ≡ true → b ≡ false → P
clash b h k = absurd (true≢false (sym h ∙ k))

pub below-node : (k : ℕ) (t : Tree) → has_below k t ≡ true → has_node k t ≡ true
below-node k (values id kinds all parallel) h = absurd (true≢false (sym h))
below-node k (over id own source) h = or-right (nat_eq id k) (has_node k source) h
below-node k (join id kind left_keys right_keys left right) h = or-right (nat_eq id k) (has_node k left || has_node k right) h

pub root-node : (t : Tree) → has_node (id_of t) t ≡ true
root-node (values id kinds all parallel) = eq-eqb id id refl
root-node (over id own source) = or-left (nat_eq id id) (has_node id source) (eq-eqb id id refl)
root-node (join id kind left_keys right_keys left right) = or-left (nat_eq id id) (has_node id left || has_node id right) (eq-eqb id id refl)

both-false : (a b : Bool) → a ≡ false → b ≡ false → (a || b) ≡ false
both-false a b h k = ap₂ ◌||◌ h k

pub root-once : (t : Tree) → AreOnce t → has_below (id_of t) t ≡ false
root-once (values id kinds all parallel) once = refl
root-once (over id own source) once = once.0
root-once (join id kind left_keys right_keys left right) once = both-false (has_node id left) (has_node id right) once.0 once.1

pub source-below : (k : ℕ) (t : Tree) → is_source k t ≡ true → has_below k t ≡ true
source-below k (values id kinds all parallel) h = h
source-below k (over id own source) h = subst (λ k. has_node k source ≡ true) (eqb-true (id_of source) k h) (root-node source)
source-below k (join id kind left_keys right_keys left right) h = sources (or-cases (nat_eq (id_of left) k) (nat_eq (id_of right) k) h) where
  sources : (nat_eq (id_of left) k ≡ true) ⊎ (nat_eq (id_of right) k ≡ true) → (has_node k left || has_node k right) ≡ true
  sources (inl e) = or-left (has_node k left) (has_node k right) (subst (λ k. has_node k left ≡ true) (eqb-true (id_of left) k e) (root-node left))
  sources (inr e) = or-right (has_node k left) (has_node k right) (subst (λ k. has_node k right ≡ true) (eqb-true (id_of right) k e) (root-node right))

pub within-below : (k : ℕ) (part t : Tree) → Within part t → has_below k part ≡ true → has_below k t ≡ true
within-below k part (values id kinds all parallel) w h = subst (λ t. has_below k t ≡ true) w h
within-below k part (over id own source) (inl w) h = subst (λ t. has_below k t ≡ true) w h
within-below k part (over id own source) (inr w) h = below-node k source (within-below k part source w h)
within-below k part (join id kind left_keys right_keys left right) (inl w) h = subst (λ t. has_below k t ≡ true) w h
within-below k part (join id kind left_keys right_keys left right) (inr (inl w)) h = or-left (has_node k left) (has_node k right) (below-node k left (within-below k part left w h))
within-below k part (join id kind left_keys right_keys left right) (inr (inr w)) h = or-right (has_node k left) (has_node k right) (below-node k right (within-below k part right w h))

pub within-node : (part t : Tree) → Within part t → has_node (id_of part) t ≡ true
within-node part (values id kinds all parallel) w = subst (λ t. has_node (id_of part) t ≡ true) w (root-node part)
within-node part (over id own source) (inl w) = subst (λ t. has_node (id_of part) t ≡ true) w (root-node part)
within-node part (over id own source) (inr w) = or-right (nat_eq id (id_of part)) (has_node (id_of part) source) (within-node part source w)
within-node part (join id kind left_keys right_keys left right) (inl w) = subst (λ t. has_node (id_of part) t ≡ true) w (root-node part)
within-node part (join id kind left_keys right_keys left right) (inr (inl w)) = or-right (nat_eq id (id_of part)) (has_node (id_of part) left || has_node (id_of part) right) (or-left (has_node (id_of part) left) (has_node (id_of part) right) (within-node part left w))
within-node part (join id kind left_keys right_keys left right) (inr (inr w)) = or-right (nat_eq id (id_of part)) (has_node (id_of part) left || has_node (id_of part) right) (or-right (has_node (id_of part) left) (has_node (id_of part) right) (within-node part right w))

-- ---- nodes where nothing changes

-- from the sameness at which all is plain
same-all : {A B C : Type 0} (P : A → B → C → Type 0) (a a' : A) (b b' : B) (c c' : C) → a ≡ a' → b ≡ b' → c ≡ c' → P a b c → P a' b' c'
same-all P a a' b b' c c' p q r h = subst (λ c. P a' b' c) r (subst (λ b. P a' b c) q (subst (λ a. P a b c) p h))

NodeFits-same : (before after : ℕ) (own : Own) (old new : ℕ → Held) (taken put : Lists) → new ≡ old → taken ≡ nothing → put ≡ nothing → NodeFits before after own old new taken put
NodeFits-same before after own old new taken put h t p =
    same-all (λ new taken put. NodeFits before after own old new taken put) old new nothing taken nothing put (sym h) (sym t) (sym p)
    (record { whole = λ more given g. g; begun = λ more given g. g; faults = λ d w more row code g. g })

ValuesFit-same : (count : ℕ) (old new : ℕ → Held) (put : Lists) → new ≡ old → put ≡ nothing → ValuesFit count old new put
ValuesFit-same count old new put h p = same-all (λ new put (u : Unit {0}). ValuesFit count old new put) old new nothing put tt tt (sym h) (sym p) refl (λ given g. g)

module _ (drivers : ℕ) (old new : Holding) (m : Passed) where
  join-same : (id : ℕ) (kind : JoinKind) (left_keys right_keys : List ℕ) (left right : Tree) → new.join id ≡ old.join id → m.taken (id_of left) ≡ nothing → m.taken (id_of right) ≡ nothing → m.put id ≡ nothing
      → JoinFits drivers old new m id kind left_keys right_keys left right
  join-same id kind left_keys right_keys left right h tl tr p = record {
    whole = λ l r given g.
        same-all (λ tl tr put. JoinGives (joined kind (joined_on left_keys right_keys left right)) (drivers_of drivers right) (old.join id) (ahead tl l) (ahead tr r) (ahead put given))
        nothing (m.taken (id_of left)) nothing (m.taken (id_of right)) nothing (m.put id) (sym tl) (sym tr) (sym p)
        (subst (λ j. JoinGives (joined kind (joined_on left_keys right_keys left right)) (drivers_of drivers right) j l r given) h g);
    begun = λ l r given g.
        same-all (λ tl tr put. JoinBegins (probed kind (joined_on left_keys right_keys left right)) (drivers_of drivers right) (old.join id) (ahead tl l) (ahead tr r) (ahead put given))
        nothing (m.taken (id_of left)) nothing (m.taken (id_of right)) nothing (m.put id) (sym tl) (sym tr) (sym p)
        (subst (λ j. JoinBegins (probed kind (joined_on left_keys right_keys left right)) (drivers_of drivers right) j l r given) h g);
  }

  -- a part with no node that changes
  pub Fits-away : (t : Tree) → ((k : ℕ) → has_node k t ≡ true → (new.held k ≡ old.held k) × (new.join k ≡ old.join k) × (m.put k ≡ nothing)) → ((k : ℕ) → has_below k t ≡ true → m.taken k ≡ nothing) → Fits drivers old new m t
  Fits-away (values id kinds all parallel) same none =
      let s = same id (root-node (values id kinds all parallel)) in
      ValuesFit-same _ (old.held id) (new.held id) (m.put id) s.0 s.2
  Fits-away (over id own source) same none =
      let s = same id (root-node (over id own source)) in (
        Fits-away source (λ k h. same k (or-right (nat_eq id k) (has_node k source) h)) (λ k h. none k (below-node k source h)),
        NodeFits-same _ _ own (old.held id) (new.held id) (m.taken (id_of source)) (m.put id) s.0 (none (id_of source) (root-node source)) s.2,
      )
  Fits-away (join id kind left_keys right_keys left right) same none =
      let s = same id (root-node (join id kind left_keys right_keys left right)) in
      let l = λ (k : ℕ) (h : has_node k left ≡ true). or-left (has_node k left) (has_node k right) h in
      let r = λ (k : ℕ) (h : has_node k right ≡ true). or-right (has_node k left) (has_node k right) h in (
        Fits-away left (λ k h. same k (or-right (nat_eq id k) (has_node k left || has_node k right) (l k h))) (λ k h. none k (l k (below-node k left h))),
        Fits-away right (λ k h. same k (or-right (nat_eq id k) (has_node k left || has_node k right) (r k h))) (λ k h. none k (r k (below-node k right h))),
        join-same id kind left_keys right_keys left right s.1 (none (id_of left) (l (id_of left) (root-node left))) (none (id_of right) (r (id_of right) (root-node right))) s.2,
      )

  module _ (part : Tree) (only : OnlyAt part m old new) (here : FitsHere drivers old new m part) where
    away : (k : ℕ) → k ≢ id_of part → (new.held k ≡ old.held k) × (new.join k ≡ old.join k) × (m.put k ≡ nothing)
    away k h = (only.held k h, only.join k h, only.put k h)

    -- below the node itself
    below : (t : Tree) → has_node (id_of part) t ≡ false → AreOnce t → ((k : ℕ) → has_below k t ≡ true → is_source k part ≡ true → ⊥) → Fits drivers old new m t
    below t out once apart = Fits-away t (λ k h. away k (λ e. clash (has_node k t) h (ap (λ k. has_node k t) e ∙ out))) (λ k h. only.taken k (not-true (is_source k part) (apart k h)))

    pub Fits-within : (t : Tree) → AreOnce t → Within part t → Fits drivers old new m t
    Fits-within (values id kinds all parallel) once w = subst (FitsHere drivers old new m) w here
    Fits-within (over id own source) once (inl w) = (
      below source (ap (λ p. has_node (id_of p) source) w ∙ once.0) once.1
          (λ k h s. clash (has_below k source) h (subst (λ k. has_below k source ≡ false) (eqb-true (id_of source) k (subst (λ p. is_source k p ≡ true) w s)) (root-once source once.1))),
      subst (FitsHere drivers old new m) w here,
    )
    Fits-within (over id own source) once (inr w) =
        let other : id ≢ id_of part = λ e. clash (has_node (id_of part) source) (within-node part source w) (ap (λ k. has_node k source) (sym e) ∙ once.0) in
        let s = away id other in (
          Fits-within source once.1 w,
          NodeFits-same _ _ own (old.held id) (new.held id) (m.taken (id_of source)) (m.put id) s.0
              (only.taken (id_of source) (not-true (is_source (id_of source) part) (λ h. clash (has_below (id_of source) source) (within-below (id_of source) part source w (source-below (id_of source) part h)) (root-once source once.1)))) s.2,
        )
    Fits-within (join id kind left_keys right_keys left right) once (inl w) =
        let l = λ (k : ℕ) (h : has_below k left ≡ true) (s : is_source k part ≡ true). sources k (or-cases (nat_eq (id_of left) k) (nat_eq (id_of right) k) (subst (λ p. is_source k p ≡ true) w s)) (inl h) in
        let r = λ (k : ℕ) (h : has_below k right ≡ true) (s : is_source k part ≡ true). sources k (or-cases (nat_eq (id_of left) k) (nat_eq (id_of right) k) (subst (λ p. is_source k p ≡ true) w s)) (inr h) in
        (below left (ap (λ p. has_node (id_of p) left) w ∙ once.0) once.3 l, below right (ap (λ p. has_node (id_of p) right) w ∙ once.1) once.4 r, subst (FitsHere drivers old new m) w here) where
          sources : (k : ℕ) → (nat_eq (id_of left) k ≡ true) ⊎ (nat_eq (id_of right) k ≡ true) → (has_below k left ≡ true) ⊎ (has_below k right ≡ true) → ⊥
          sources k (inl e) (inl h) = clash (has_below k left) h (subst (λ k. has_below k left ≡ false) (eqb-true (id_of left) k e) (root-once left once.3))
          sources k (inr e) (inr h) = clash (has_below k right) h (subst (λ k. has_below k right ≡ false) (eqb-true (id_of right) k e) (root-once right once.4))
          sources k (inl e) (inr h) = clash (has_node k right) (below-node k right h) (once.2 k (subst (λ k. has_node k left ≡ true) (eqb-true (id_of left) k e) (root-node left)))
          sources k (inr e) (inl h) = clash (has_node k right) (subst (λ k. has_node k right ≡ true) (eqb-true (id_of right) k e) (root-node right)) (once.2 k (below-node k left h))
    Fits-within (join id kind left_keys right_keys left right) once (inr (inl w)) =
        let c = within-node part left w in
        let s = away id (λ e. clash (has_node (id_of part) left) c (ap (λ k. has_node k left) (sym e) ∙ once.0)) in (
          Fits-within left once.3 w,
          below right (once.2 (id_of part) c) once.4 (λ k h s. clash (has_node k right) (below-node k right h) (once.2 k (below-node k left (within-below k part left w (source-below k part s))))),
          join-same id kind left_keys right_keys left right s.1
              (only.taken (id_of left) (not-true _ (λ h. clash (has_below (id_of left) left) (within-below (id_of left) part left w (source-below (id_of left) part h)) (root-once left once.3))))
              (only.taken (id_of right) (not-true _ (λ h. clash (has_node (id_of right) right) (root-node right) (once.2 (id_of right) (below-node (id_of right) left (within-below (id_of right) part left w (source-below (id_of right) part h))))))) s.2,
        )
    Fits-within (join id kind left_keys right_keys left right) once (inr (inr w)) =
        let c = within-node part right w in
        let s = away id (λ e. clash (has_node (id_of part) right) c (ap (λ k. has_node k right) (sym e) ∙ once.1)) in (
          below left (not-true (has_node (id_of part) left) (λ h. clash (has_node (id_of part) right) c (once.2 (id_of part) h))) once.3
              (λ k h s. clash (has_node k right) (below-node k right (within-below k part right w (source-below k part s))) (once.2 k (below-node k left h))),
          Fits-within right once.4 w,
          join-same id kind left_keys right_keys left right s.1
              (only.taken (id_of left) (not-true _ (λ h. clash (has_node (id_of left) right) (below-node (id_of left) right (within-below (id_of left) part right w (source-below (id_of left) part h))) (once.2 (id_of left) (root-node left)))))
              (only.taken (id_of right) (not-true _ (λ h. clash (has_below (id_of right) right) (within-below (id_of right) part right w (source-below (id_of right) part h)) (root-once right once.4)))) s.2,
        )

-- one driver's operator changes, and those of the other drivers stay
pub Keeps-one : (own : Own) (place : ℕ) (old new : ℕ → Held) (taken put : List Row) → ((driver : ℕ) → driver ≢ place → new driver ≡ old driver) → Keeps own (old place) (new place) taken put
    → (driver : ℕ) → Keeps own (old driver) (new driver) (only_at place taken driver) (only_at place put driver)
Keeps-one own place old new taken put same keeps driver = by_test (nat_eq driver place)
    (λ t. subst (λ d. Keeps own (old d) (new d) (only_at place taken d) (only_at place put d)) (sym (eqb-true driver place t))
    (subst (λ b. Keeps own (old place) (new place) (Rattle.std.proofs.Common.cond b taken []) (Rattle.std.proofs.Common.cond b put [])) (sym (eq-eqb place place refl)) keeps))
    (λ t. subst (λ b. Keeps own (old driver) (new driver) (Rattle.std.proofs.Common.cond b taken []) (Rattle.std.proofs.Common.cond b put [])) (sym t)
    (subst (λ h. Keeps own (old driver) h [] []) (sym (same driver (λ e. true≢false (sym (eq-eqb driver place e) ∙ t)))) (Keeps-same own (old driver))))

-- ---- a number names one part

not-in : {P : Type 0} (a b t : Tree) (id : ℕ) → id_of a ≡ id_of b → id_of a ≡ id → Within b t → has_node id t ≡ false → P
not-in a b t id same is w out = clash (has_node id t) (subst (λ k. has_node k t ≡ true) (sym same ∙ is) (within-node b t w)) out

two-sides : {P : Type 0} (a b left right : Tree) → id_of a ≡ id_of b → Within a left → Within b right → ((k : ℕ) → has_node k left ≡ true → has_node k right ≡ false) → P
two-sides a b left right same v w apart = clash (has_node (id_of b) right) (within-node b right w) (apart (id_of b) (subst (λ k. has_node k left ≡ true) same (within-node a left v)))

pub within-unique : (a b t : Tree) → AreOnce t → Within a t → Within b t → id_of a ≡ id_of b → a ≡ b
within-unique a b (values id kinds all parallel) once v w same = v ∙ sym w
within-unique a b (over id own source) once (inl v) (inl w) same = v ∙ sym w
within-unique a b (over id own source) once (inl v) (inr w) same = not-in a b source id same (ap id_of v) w once.0
within-unique a b (over id own source) once (inr v) (inl w) same = not-in b a source id (sym same) (ap id_of w) v once.0
within-unique a b (over id own source) once (inr v) (inr w) same = within-unique a b source once.1 v w same
within-unique a b (join id kind left_keys right_keys left right) once (inl v) (inl w) same = v ∙ sym w
within-unique a b (join id kind left_keys right_keys left right) once (inl v) (inr (inl w)) same = not-in a b left id same (ap id_of v) w once.0
within-unique a b (join id kind left_keys right_keys left right) once (inl v) (inr (inr w)) same = not-in a b right id same (ap id_of v) w once.1
within-unique a b (join id kind left_keys right_keys left right) once (inr (inl v)) (inl w) same = not-in b a left id (sym same) (ap id_of w) v once.0
within-unique a b (join id kind left_keys right_keys left right) once (inr (inr v)) (inl w) same = not-in b a right id (sym same) (ap id_of w) v once.1
within-unique a b (join id kind left_keys right_keys left right) once (inr (inl v)) (inr (inl w)) same = within-unique a b left once.3 v w same
within-unique a b (join id kind left_keys right_keys left right) once (inr (inr v)) (inr (inr w)) same = within-unique a b right once.4 v w same
within-unique a b (join id kind left_keys right_keys left right) once (inr (inl v)) (inr (inr w)) same = two-sides a b left right same v w once.2
within-unique a b (join id kind left_keys right_keys left right) once (inr (inr v)) (inr (inl w)) same = two-sides b a left right (sym same) w v once.2

-- ---- the part with a number

some-is : {X : Type 0} (x y : X) → Some x ≡ Some y → x ≡ y
some-is x y h = cc

none-is : {P X : Type 0} (x : X) → None ≡ Some x → P
none-is x h = absurd (cc)

pub part-within : (k : ℕ) (t part : Tree) → part_at k t ≡ Some part → Within part t × (id_of part ≡ k)
part-within k (values id kinds all parallel) part h = by_test (nat_eq id k)
    (λ e. let same = some-is _ part (sym (ap (λ b. cond b (Some (values id kinds all parallel)) None) e) ∙ h) in (sym same, sym (ap id_of same) ∙ eqb-true id k e))
    (λ e. none-is part (sym (ap (λ b. cond b (Some (values id kinds all parallel)) None) e) ∙ h))
part-within k (over id own source) part h = by_test (nat_eq id k)
    (λ e. let same = some-is _ part (sym (ap (λ b. cond b (Some (over id own source)) (part_at k source)) e) ∙ h) in (inl (sym same), sym (ap id_of same) ∙ eqb-true id k e))
    (λ e. let below = part-within k source part (sym (ap (λ b. cond b (Some (over id own source)) (part_at k source)) e) ∙ h) in (inr below.0, below.1))
part-within k (join id kind left_keys right_keys left right) part h = by_test (nat_eq id k)
    (λ e. let same = some-is _ part (sym (ap (λ b. cond b (Some (join id kind left_keys right_keys left right)) (cond (has_node k left) (part_at k left) (part_at k right))) e) ∙ h) in (inl (sym same), sym (ap id_of same) ∙ eqb-true id k e))
    (λ e.
    let rest = sym (ap (λ b. cond b (Some (join id kind left_keys right_keys left right)) (cond (has_node k left) (part_at k left) (part_at k right))) e) ∙ h in
    by_test (has_node k left)
    (λ l. let below = part-within k left part (sym (ap (λ b. cond b (part_at k left) (part_at k right)) l) ∙ rest) in (inr (inl below.0), below.1))
    (λ l. let below = part-within k right part (sym (ap (λ b. cond b (part_at k left) (part_at k right)) l) ∙ rest) in (inr (inr below.0), below.1)))

pub part-there : (k : ℕ) (t : Tree) → has_node k t ≡ true → (part : Tree) × (part_at k t ≡ Some part)
part-there k (values id kinds all parallel) h = (values id kinds all parallel, ap (λ b. cond b (Some (values id kinds all parallel)) None) h)
part-there k (over id own source) h = by_test (nat_eq id k)
    (λ e. (over id own source, ap (λ b. cond b (Some (over id own source)) (part_at k source)) e))
    (λ e. let below = part-there k source (sym (ap (λ b. b || has_node k source) e) ∙ h) in (below.0, ap (λ b. cond b (Some (over id own source)) (part_at k source)) e ∙ below.1))
part-there k (join id kind left_keys right_keys left right) h =
    let all = join id kind left_keys right_keys left right in
    by_test (nat_eq id k)
    (λ e. (all, ap (λ b. cond b (Some all) (cond (has_node k left) (part_at k left) (part_at k right))) e))
    (λ e. by_test (has_node k left)
    (λ l. let below = part-there k left l in (below.0, ap₂ (λ b c. cond b (Some all) (cond c (part_at k left) (part_at k right))) e l ∙ below.1))
    (λ l. let below = part-there k right (sym (ap₂ (λ a b. a || (b || has_node k right)) e l) ∙ h) in (below.0, ap₂ (λ b c. cond b (Some all) (cond c (part_at k left) (part_at k right))) e l ∙ below.1)))
