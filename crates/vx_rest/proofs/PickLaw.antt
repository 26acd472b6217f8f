-- Each move that can be made is one driver's, so while a query goes on some driver is runnable.
use Rattle.std.proofs.Common.{◌≡◌, ℕ, zero, suc, ◌<◌, ◌≤◌, List, [], ◌∷◌, ◌++◌, refl, sym, subst, arith, inl, inr, ⊎_elim, false}
use Rattle.std.specs.Prelude.{◌⊎◌}
use Rattle.vx_plan.specs.declared.widths.Width.TheVariants.{One}
use Rattle.vx_plan.specs.Width.{width_of}
use Rattle.vx_plan.specs.Tree.{Tree, values, over, join, Own, filter, project, aggregation, order, topn, limit, exchange}
use Rattle.vx_rest.specs.Lists.{drivers_of}
use Rattle.vx_rest.specs.Fits.{Within}
use Rattle.vx_rest.specs.Start.{AreDealtWell}
use Rattle.vx_rest.specs.Machine.{Machine, JoinNode, join_node, Move, reads, gives, answers, leaves, takes, builds, probes, comes_out, turns, merges, finishes, built, probed, empties, stops, KeepsRows, CanMake}
use Rattle.vx_rest.specs.Steady.{IsSteady}
use Rattle.vx_rest.specs.Pick.{line_from, tabulated, lines, all_lines, IsAmong, IsRunnable}
use Rattle.vx_rest.proofs.StartLaw.{lanes-one, lanes-groups}
use Rattle.vx_rest.proofs.Runnable.{some-move}
use Rattle.vx_rest.proofs.MachineParts.{well-within}

in-left : {X : Type 0} (x : X) (xs ys : List X) → IsAmong x xs → IsAmong x (xs ++ ys)
in-left x [] ys h = absurd h
in-left x (z ∷ xs) ys (inl h) = inl h
in-left x (z ∷ xs) ys (inr h) = inr (in-left x xs ys h)

in-right : {X : Type 0} (x : X) (xs ys : List X) → IsAmong x ys → IsAmong x (xs ++ ys)
in-right x [] ys h = h
in-right x (z ∷ xs) ys h = inr (in-right x xs ys h)

in-table : {X : Type 0} (n d : ℕ) (f : ℕ → X) → d < n → IsAmong (f d) (tabulated n f)
in-table zero d f w = absurd (omega arith)
in-table (suc n) zero f w = inl refl
in-table (suc n) (suc d) f w = inr (in-table n d (λ k. f (suc k)) (omega arith))

module _ (drivers : ℕ) where
  abbrev Line : Tree → Move → Type 0
  Line t move = (line : List Move) × IsAmong line (lines drivers t) × IsAmong move line

  abbrev Above : Tree → Move → Type 0
  Above t move = (d : ℕ) × (d < drivers_of drivers t) × IsAmong move (line_from t d)

  -- a driver's move at a node is its driver's, whose line may end higher up
  up-over : (id : ℕ) (own : Own) (source : Tree) → AreDealtWell (over id own source) → (move : Move) → Line source move ⊎ Above source move → Line (over id own source) move ⊎ Above (over id own source) move
  up-over id (exchange kind keys) source well move (inl h) = inl (h.0, in-left h.0 (lines drivers source) _ h.1, h.2)
  up-over id (exchange kind keys) source well move (inr h) =
      let f : ℕ → List Move = (λ d. takes id (exchange kind keys) source d ∷ finishes id (exchange kind keys) source d ∷ line_from source d) in
      inl (f h.0, in-right (f h.0) (lines drivers source) (tabulated (drivers_of drivers source) f) (in-table (drivers_of drivers source) h.0 f h.1), inr (inr h.2))
  up-over id (filter x) source well move (inl h) = inl h
  up-over id (filter x) source well move (inr h) = inr (h.0, h.1, inr (inr (inr (inr h.2))))
  up-over id (project xs) source well move (inl h) = inl h
  up-over id (project xs) source well move (inr h) = inr (h.0, h.1, inr (inr (inr (inr h.2))))
  up-over id (aggregation step keys aggregates) source well move (inl h) = inl h
  up-over id (aggregation step keys aggregates) source well move (inr h) = inr (h.0, subst (λ n. h.0 < n) (sym (lanes-groups drivers id step keys aggregates source well.1)) h.1, inr (inr (inr (inr h.2))))
  up-over id (order keys) source well move (inl h) = inl h
  up-over id (order keys) source well move (inr h) = inr (h.0, subst (λ n. h.0 < n) (lanes-one drivers source well.1) h.1, inr (inr (inr (inr h.2))))
  up-over id (topn count keys) source well move (inl h) = inl h
  up-over id (topn count keys) source well move (inr h) = inr (h.0, subst (λ n. h.0 < n) (lanes-one drivers source well.1) h.1, inr (inr (inr (inr h.2))))
  up-over id (limit offset count) source well move (inl h) = inl h
  up-over id (limit offset count) source well move (inr h) = inr (h.0, subst (λ n. h.0 < n) (lanes-one drivers source well.1) h.1, inr (inr (inr (inr h.2))))

  up-left : (j : JoinNode) → AreDealtWell (join_node j) → (move : Move) → Line j.left move ⊎ Above j.left move → Line (join_node j) move ⊎ Above (join_node j) move
  up-left j well move (inl h) = inl (h.0, in-right h.0 (lines drivers j.right) _ (in-left h.0 (lines drivers j.left) _ h.1), h.2)
  up-left j well move (inr h) = inr (h.0, subst (λ n. h.0 < n) (lanes-one drivers j.left well.2) h.1, inr (inr (inr (inr (inr (inr h.2))))))

  build-line : JoinNode → ℕ → List Move
  build-line j d = builds j d ∷ built j d ∷ line_from j.right d

  in-build : (j : JoinNode) (d : ℕ) → d < drivers_of drivers j.right → IsAmong (builds j d ∷ built j d ∷ line_from j.right d) (lines drivers (join_node j))
  in-build j d w =
      let f : ℕ → List Move = (λ d. builds j d ∷ built j d ∷ line_from j.right d) in
      in-right (f d) (lines drivers j.right) _ (in-right (f d) (lines drivers j.left) (tabulated (drivers_of drivers j.right) f) (in-table (drivers_of drivers j.right) d f w))

  up-right : (j : JoinNode) → (move : Move) → Line j.right move ⊎ Above j.right move → Line (join_node j) move ⊎ Above (join_node j) move
  up-right j move (inl h) = inl (h.0, in-left h.0 (lines drivers j.right) _ h.1, h.2)
  up-right j move (inr h) = inl (builds j h.0 ∷ built j h.0 ∷ line_from j.right h.0, in-build j h.0 h.1, inr (inr h.2))

  up : (s t : Tree) → Within s t → AreDealtWell t → (move : Move) → Line s move ⊎ Above s move → Line t move ⊎ Above t move
  up s (values id kinds all parallel) w well move h = subst (λ t. Line t move ⊎ Above t move) w h
  up s (over id own source) (inl w) well move h = subst (λ t. Line t move ⊎ Above t move) w h
  up s (over id own source) (inr w) well move h = up-over id own source well move (up s source w well.0 move h)
  up s (join id kind left_keys right_keys left right) (inl w) well move h = subst (λ t. Line t move ⊎ Above t move) w h
  up s (join id kind left_keys right_keys left right) (inr (inl w)) well move h =
      up-left (record { id = id; kind = kind; left_keys = left_keys; right_keys = right_keys; left = left; right = right }) well move (up s left w well.0 move h)
  up s (join id kind left_keys right_keys left right) (inr (inr w)) well move h =
      up-right (record { id = id; kind = kind; left_keys = left_keys; right_keys = right_keys; left = left; right = right }) move (up s right w well.1 move h)

  abbrev All : Tree → Move → Type 0
  All t move = (line : List Move) × IsAmong line (all_lines drivers t) × IsAmong move line

  top : (t : Tree) → width_of t ≡ One → (move : Move) → Line t move ⊎ Above t move → All t move
  top t one move (inl h) = (h.0, in-left h.0 (lines drivers t) _ h.1, h.2)
  top t one move (inr h) =
      let n = lanes-one drivers t one in
      let w = h.1 in
      (comes_out ∷ stops ∷ line_from t 0, in-right (comes_out ∷ stops ∷ line_from t 0) (lines drivers t) _ (inl refl), inr (inr (subst (λ d. IsAmong move (line_from t d)) (let z : h.0 ≡ 0 = omega arith in z) h.2)))

  -- the moves of an operator and of an exchange
  gives-in : (id : ℕ) (own : Own) (source : Tree) (d : ℕ) → IsAmong (gives id own source d) (line_from (over id own source) d)
  gives-in id (filter x) source d = inl refl
  gives-in id (project xs) source d = inl refl
  gives-in id (aggregation step keys aggregates) source d = inl refl
  gives-in id (order keys) source d = inl refl
  gives-in id (topn count keys) source d = inl refl
  gives-in id (limit offset count) source d = inl refl
  gives-in id (exchange kind keys) source d = inl refl

  -- an exchange takes from the lines of its source; any other operator has as many drivers as its source
  taken-in : (id : ℕ) (own : Own) (source : Tree) → AreDealtWell (over id own source) → (d : ℕ) → d < drivers_of drivers source → (Line (over id own source) (takes id own source d) ⊎ Above (over id own source) (takes id own source d)) × (Line (over id own source) (finishes id own source d) ⊎ Above (over id own source) (finishes id own source d))
  taken-in id (filter x) source well d w = (inr (d, w, inr (inr (inl refl))), inr (d, w, inr (inr (inr (inl refl)))))
  taken-in id (project xs) source well d w = (inr (d, w, inr (inr (inl refl))), inr (d, w, inr (inr (inr (inl refl)))))
  taken-in id (aggregation step keys aggregates) source well d w = let v = subst (λ n. d < n) (sym (lanes-groups drivers id step keys aggregates source well.1)) w in (inr (d, v, inr (inr (inl refl))), inr (d, v, inr (inr (inr (inl refl)))))
  taken-in id (order keys) source well d w = let v = subst (λ n. d < n) (lanes-one drivers source well.1) w in (inr (d, v, inr (inr (inl refl))), inr (d, v, inr (inr (inr (inl refl)))))
  taken-in id (topn count keys) source well d w = let v = subst (λ n. d < n) (lanes-one drivers source well.1) w in (inr (d, v, inr (inr (inl refl))), inr (d, v, inr (inr (inr (inl refl)))))
  taken-in id (limit offset count) source well d w = let v = subst (λ n. d < n) (lanes-one drivers source well.1) w in (inr (d, v, inr (inr (inl refl))), inr (d, v, inr (inr (inr (inl refl)))))
  taken-in id (exchange kind keys) source well d w =
      let f : ℕ → List Move = (λ d. takes id (exchange kind keys) source d ∷ finishes id (exchange kind keys) source d ∷ line_from source d) in
      let there = in-right (f d) (lines drivers source) (tabulated (drivers_of drivers source) f) (in-table (drivers_of drivers source) d f w) in
      (inl (f d, there, inl refl), inl (f d, there, inr (inl refl)))

  merged-in : (id : ℕ) (own : Own) (source : Tree) → AreDealtWell (over id own source) → KeepsRows own → (d : ℕ) → d < drivers_of drivers source → Above (over id own source) (merges id own source d)
  merged-in id (aggregation step keys aggregates) source well k d w = (d, subst (λ n. d < n) (sym (lanes-groups drivers id step keys aggregates source well.1)) w, inr (inl refl))
  merged-in id (order keys) source well k d w = (d, subst (λ n. d < n) (lanes-one drivers source well.1) w, inr (inl refl))
  merged-in id (topn count keys) source well k d w = (d, subst (λ n. d < n) (lanes-one drivers source well.1) w, inr (inl refl))
  merged-in id (filter x) source well k d w = absurd k
  merged-in id (project xs) source well k d w = absurd k
  merged-in id (limit offset count) source well k d w = absurd k
  merged-in id (exchange kind keys) source well k d w = absurd k

  zero-one : 0 < 1
  zero-one = omega arith

  move-line : (t : Tree) → AreDealtWell t → width_of t ≡ One → (m : Machine) (move : Move) → CanMake drivers t m move → All t move
  move-line t well one m (reads id kinds all parallel d) can = top t one _ (up (values id kinds all parallel) t can.needs.0 well _ (inr (d, can.needs.1, inl refl)))
  move-line t well one m (gives id own source d) can = top t one _ (up (over id own source) t can.needs.0 well _ (inr (d, can.needs.1, gives-in id own source d)))
  move-line t well one m (takes id own source d) can = top t one _ (up (over id own source) t can.needs.0 well _ (taken-in id own source (well-within (over id own source) t can.needs.0 well) d can.needs.1).0)
  move-line t well one m (finishes id own source d) can = top t one _ (up (over id own source) t can.needs.0 well _ (taken-in id own source (well-within (over id own source) t can.needs.0 well) d can.needs.1).1)
  move-line t well one m (merges id own source d) can = top t one _ (up (over id own source) t can.needs.0 well _ (inr (merged-in id own source (well-within (over id own source) t can.needs.0 well) can.needs.4 d can.needs.1)))
  move-line t well one m (answers j) can = top t one _ (up (join_node j) t can.needs.0 well _ (inr (0, zero-one, inl refl)))
  move-line t well one m (leaves j) can = top t one _ (up (join_node j) t can.needs.0 well _ (inr (0, zero-one, inr (inl refl))))
  move-line t well one m (probes j) can = top t one _ (up (join_node j) t can.needs.0 well _ (inr (0, zero-one, inr (inr (inl refl)))))
  move-line t well one m (probed j) can = top t one _ (up (join_node j) t can.needs.0 well _ (inr (0, zero-one, inr (inr (inr (inl refl))))))
  move-line t well one m (turns j) can = top t one _ (up (join_node j) t can.needs.0 well _ (inr (0, zero-one, inr (inr (inr (inr (inl refl)))))))
  move-line t well one m (empties j) can = top t one _ (up (join_node j) t can.needs.0 well _ (inr (0, zero-one, inr (inr (inr (inr (inr (inl refl))))))))
  move-line t well one m (builds j d) can = top t one _ (up (join_node j) t can.needs.0 well _ (inl (builds j d ∷ built j d ∷ line_from j.right d, in-build j d can.needs.1, inl refl)))
  move-line t well one m (built j d) can = top t one _ (up (join_node j) t can.needs.0 well _ (inl (builds j d ∷ built j d ∷ line_from j.right d, in-build j d can.needs.1, inr (inl refl))))
  move-line t well one m comes_out can = (comes_out ∷ stops ∷ line_from t 0, in-right (comes_out ∷ stops ∷ line_from t 0) (lines drivers t) _ (inl refl), inl refl)
  move-line t well one m stops can = (comes_out ∷ stops ∷ line_from t 0, in-right (comes_out ∷ stops ∷ line_from t 0) (lines drivers t) _ (inl refl), inr (inl refl))

-- while a query goes on some driver is runnable
pub some-runnable : (drivers : ℕ) → 1 ≤ drivers → (t : Tree) → AreDealtWell t → width_of t ≡ One → (m : Machine) → IsSteady drivers t m → m.done ≡ false → (line : List Move) × IsAmong line (all_lines drivers t) × IsRunnable drivers t m line
some-runnable drivers some t well one m steady going =
    let found = some-move drivers some t well one m steady going in
    let line = move-line drivers t well one m found.0 found.1 in
    (line.0, line.1, (found.0, line.2, found.1))
