-- Each move lowers the rank.
use Rattle.std.proofs.Common.{◌≡◌, ◌≢◌, ℕ, suc, ◌<◌, ◌≤◌, ◌+◌, ◌*◌, ◌^◌, true, false, ◌||◌, List, [], ◌∷◌, ◌++◌, length, All, refl, sym, ap, ap₂, ◌∙◌, subst, inl, inr, true≢false, nat_eq, eqb-true, arith, mul-le-mul_right, suc-mul}
use Rattle.std.proofs.Math.Nat.{pow-zero, pow-succ'}
use Rattle.vx_plan.specs.Tree.{Tree, values, over, join, id_of}
use Rattle.vx_meaning.proofs.PlusLaws.{by_test}
use Rattle.vx_rest.specs.Fits.{has_node, is_source, AreOnce, Within}
use Rattle.vx_rest.specs.Rank.{Places, five, rank, IsLower, as_number}
use Rattle.vx_rest.proofs.OnlyAtLaws.{or-left, or-right, clash, below-node, root-node, within-node, within-below, source-below}

pub lower-front : (new old more less : List ℕ) → IsLower new old → IsLower (new ++ more) (old ++ less)
lower-front [] old more less h = absurd h
lower-front (x ∷ new) [] more less h = absurd h
lower-front (x ∷ new) (y ∷ old) more less (inl h) = inl h
lower-front (x ∷ new) (y ∷ old) more less (inr h) = inr (h.0, lower-front new old more less h.1)

pub lower-behind : (xs new old : List ℕ) → IsLower new old → IsLower (xs ++ new) (xs ++ old)
lower-behind [] new old h = h
lower-behind (x ∷ xs) new old h = inr (refl, lower-behind xs new old h)

pub lower-same : (xs ys new old : List ℕ) → xs ≡ ys → IsLower new old → IsLower (xs ++ new) (ys ++ old)
lower-same xs ys new old h l = subst (λ zs. IsLower (xs ++ new) (zs ++ old)) h (lower-behind xs new old l)

module _ (new old : ℕ → Places) where
  pub rank-same : (t : Tree) → ((k : ℕ) → has_node k t ≡ true → new k ≡ old k) → rank new t ≡ rank old t
  rank-same (values id kinds all parallel) h = ap five (h id (root-node (values id kinds all parallel)))
  rank-same (over id own source) h = ap₂ ◌++◌ (rank-same source (λ k e. h k (or-right (nat_eq id k) (has_node k source) e))) (ap five (h id (root-node (over id own source))))
  rank-same (join id kind left_keys right_keys left right) h =
      ap₂ ◌++◌ (rank-same left (λ k e. h k (or-right (nat_eq id k) (has_node k left || has_node k right) (or-left (has_node k left) (has_node k right) e))))
      (ap₂ ◌++◌ (rank-same right (λ k e. h k (or-right (nat_eq id k) (has_node k left || has_node k right) (or-right (has_node k left) (has_node k right) e)))) (ap five (h id (root-node (join id kind left_keys right_keys left right)))))

  other : (c : ℕ) (t : Tree) → has_node c t ≡ false → (k : ℕ) → has_node k t ≡ true → k ≢ c
  other c t out k h e = clash (has_node c t) (ap (λ k. has_node k t) (sym e) ∙ h) out

  -- only one node's numbers change: an emit, an end, a merge, a reclaim
  pub rank-lower : (c : ℕ) → IsLower (five (new c)) (five (old c)) → (t : Tree) → ((k : ℕ) → has_node k t ≡ true → k ≢ c → new k ≡ old k) → AreOnce t → has_node c t ≡ true → IsLower (rank new t) (rank old t)
  rank-lower c low (values id kinds all parallel) same once h = subst (λ k. IsLower (five (new k)) (five (old k))) (sym (eqb-true id c h)) low
  rank-lower c low (over id own source) same once h =
      let down = λ (k : ℕ) (e : has_node k source ≡ true). or-right (nat_eq id k) (has_node k source) e in
      by_test (nat_eq id c)
      (λ t. let e = eqb-true id c t in lower-same (rank new source) (rank old source) _ _ (rank-same source (λ k there. same k (down k there) (other c source (subst (λ k. has_node k source ≡ false) e once.0) k there)))
      (subst (λ k. IsLower (five (new k)) (five (old k))) (sym e) low))
      (λ t. lower-front (rank new source) (rank old source) _ _ (rank-lower c low source (λ k there. same k (down k there)) once.1 (sym (ap (λ b. b || has_node c source) t) ∙ h)))
  rank-lower c low (join id kind left_keys right_keys left right) same once h =
      let l = λ (k : ℕ) (e : has_node k left ≡ true). or-right (nat_eq id k) (has_node k left || has_node k right) (or-left (has_node k left) (has_node k right) e) in
      let r = λ (k : ℕ) (e : has_node k right ≡ true). or-right (nat_eq id k) (has_node k left || has_node k right) (or-right (has_node k left) (has_node k right) e) in
      by_test (nat_eq id c)
      (λ t. let e = eqb-true id c t in
      lower-same (rank new left) (rank old left) _ _ (rank-same left (λ k there. same k (l k there) (other c left (subst (λ k. has_node k left ≡ false) e once.0) k there)))
      (lower-same (rank new right) (rank old right) _ _ (rank-same right (λ k there. same k (r k there) (other c right (subst (λ k. has_node k right ≡ false) e once.1) k there)))
      (subst (λ k. IsLower (five (new k)) (five (old k))) (sym e) low)))
      (λ t. by_test (has_node c left)
      (λ there. lower-front (rank new left) (rank old left) _ _ (rank-lower c low left (λ k e. same k (l k e)) once.3 there))
      (λ there. lower-same (rank new left) (rank old left) _ _ (rank-same left (λ k e. same k (l k e) (other c left there k e)))
      (lower-front (rank new right) (rank old right) _ _ (rank-lower c low right (λ k e. same k (r k e)) once.4 (sym (ap₂ (λ a b. a || (b || has_node c right)) t there) ∙ h)))))

  -- a node takes a batch out of the hand behind one of its sources: that source's numbers fall, its own may rise
  pub rank-takes : (part : Tree) (source : ℕ) → is_source source part ≡ true → ((k : ℕ) → k ≢ source → k ≢ id_of part → new k ≡ old k) → IsLower (five (new source)) (five (old source))
      → (t : Tree) → AreOnce t → Within part t → IsLower (rank new t) (rank old t)
  rank-takes part source is same low (values id kinds all parallel) once w = absurd (true≢false (sym (subst (λ t. is_source source t ≡ true) w is)))
  rank-takes part source is same low (over id own below) once (inl w) =
      lower-front (rank new below) (rank old below) _ _
      (rank-lower source low below (λ k there e. same k e (other (id_of part) below (ap (λ p. has_node (id_of p) below) w ∙ once.0) k there)) once.1
      (subst (λ k. has_node k below ≡ true) (eqb-true (id_of below) source (subst (λ t. is_source source t ≡ true) w is)) (root-node below)))
  rank-takes part source is same low (over id own below) once (inr w) = lower-front (rank new below) (rank old below) _ _ (rank-takes part source is same low below once.1 w)
  rank-takes part source is same low (join id kind left_keys right_keys left right) once (inl w) =
      let out_left : has_node (id_of part) left ≡ false = ap (λ p. has_node (id_of p) left) w ∙ once.0 in
      let out_right : has_node (id_of part) right ≡ false = ap (λ p. has_node (id_of p) right) w ∙ once.1 in
      by_test (nat_eq (id_of left) source)
      (λ t. lower-front (rank new left) (rank old left) _ _
      (rank-lower source low left (λ k there e. same k e (other (id_of part) left out_left k there)) once.3 (subst (λ k. has_node k left ≡ true) (eqb-true (id_of left) source t) (root-node left))))
      (λ t.
      let at : nat_eq (id_of right) source ≡ true = sym (ap (λ b. b || nat_eq (id_of right) source) t) ∙ subst (λ t. is_source source t ≡ true) w is in
      let there_right : has_node source right ≡ true = subst (λ k. has_node k right ≡ true) (eqb-true (id_of right) source at) (root-node right) in
      lower-same (rank new left) (rank old left) _ _ (rank-same left (λ k there. same k (λ e. clash (has_node source right) there_right (once.2 source (subst (λ k. has_node k left ≡ true) e there))) (other (id_of part) left out_left k there)))
      (lower-front (rank new right) (rank old right) _ _ (rank-lower source low right (λ k there e. same k e (other (id_of part) right out_right k there)) once.4 there_right)))
  rank-takes part source is same low (join id kind left_keys right_keys left right) once (inr (inl w)) = lower-front (rank new left) (rank old left) _ _ (rank-takes part source is same low left once.3 w)
  rank-takes part source is same low (join id kind left_keys right_keys left right) once (inr (inr w)) =
      let there_source : has_node source right ≡ true = below-node source right (within-below source part right w (source-below source part is)) in
      let there_part : has_node (id_of part) right ≡ true = within-node part right w in
      lower-same (rank new left) (rank old left) _ _ (rank-same left (λ k there. same k
      (λ e. clash (has_node source right) there_source (once.2 source (subst (λ k. has_node k left ≡ true) e there)))
      (λ e. clash (has_node (id_of part) right) there_part (once.2 (id_of part) (subst (λ k. has_node k left ≡ true) e there)))))
      (lower-front (rank new right) (rank old right) _ _ (rank-takes part source is same low right once.4 w))

-- ---- as one number, which is what a loop's measure has to be

times-more : (x y p : ℕ) → x < y → x * p + p ≤ y * p
times-more x y p h =
    let e : suc x * p ≡ x * p + p = suc-mul x p in
    let l : suc x * p ≤ y * p = mul-le-mul_right p (omega arith) in
    omega arith

pub as_number-less : (base : ℕ) (xs : List ℕ) → All (λ x. x < base) xs → as_number base xs < base ^ length xs
as_number-less base [] h = let e : base ^ 0 ≡ 1 = pow-zero base in omega arith
as_number-less base (x ∷ xs) h =
    let p = base ^ length xs in
    let e : base ^ suc (length xs) ≡ base * base ^ length xs = pow-succ' base (length xs) in
    let m : x * base ^ length xs + base ^ length xs ≤ base * base ^ length xs = times-more x base (base ^ length xs) (h 0 x (omega arith)) in
    let less : as_number base xs < base ^ length xs = as_number-less base xs (λ k d within. h (suc k) d (omega arith)) in
    omega arith

pub as_number-lower : (base : ℕ) (new old : List ℕ) → length new ≡ length old → All (λ x. x < base) new → IsLower new old → as_number base new < as_number base old
as_number-lower base [] old len h low = absurd low
as_number-lower base (x ∷ new) [] len h low = absurd low
as_number-lower base (x ∷ new) (y ∷ old) len h (inl low) =
    let same : length new ≡ length old = omega arith in
    let e : base ^ length new ≡ base ^ length old = ap (λ n. base ^ n) same in
    let m : x * base ^ length new + base ^ length new ≤ y * base ^ length new = times-more x y (base ^ length new) low in
    let f : y * base ^ length new ≡ y * base ^ length old = ap (λ p. y * p) e in
    let less : as_number base new < base ^ length new = as_number-less base new (λ k d within. h (suc k) d (omega arith)) in
    omega arith
as_number-lower base (x ∷ new) (y ∷ old) len h (inr low) =
    let same : length new ≡ length old = omega arith in
    let f : x * base ^ length new ≡ y * base ^ length old = ap₂ (λ x n. x * base ^ n) low.0 same in
    let less : as_number base new < as_number base old = as_number-lower base new old same (λ k d within. h (suc k) d (omega arith)) low.1 in
    omega arith
