-- Each move of a machine is a move of the query: it lets the query stand for no more than before.
use Rattle.std.proofs.Common.{◌≡◌, ◌≢◌, ℕ, ◌<◌, true, false, List, [], ◌∷◌, ◌++◌, refl, sym, ap, ◌∙◌, subst}
use Rattle.vx_plan.specs.Tree.{Tree, values, over, join, Own, id_of}
use Rattle.vx_rest.specs.Lists.{nothing, drivers_of}
use Rattle.vx_rest.specs.Held.{Holding}
use Rattle.vx_rest.specs.Fits.{Passed, HandsPass, Moved, Within, AreOnce, has_node}
use Rattle.vx_rest.specs.HandMoves.{standing}
use Rattle.vx_rest.specs.Machine.{Machine, JoinNode, join_node, Move, reads, gives, answers, leaves, takes, builds, probes, comes_out, turns, merges, finishes, built, probed, empties, stops}
use Rattle.vx_rest.specs.Changes.{JoinStands, AnswerChanges, ReadChanges, Makes}
use Rattle.vx_rest.proofs.OnlyAtLaws.{Fits-away, clash, root-node}
use Rattle.vx_rest.proofs.HandLaws.{standing-hands, Moved-takes, Moved-puts, Moved-stands, Moved-values, Moved-out}
use Rattle.vx_rest.proofs.JoinHandLaws.{Moved-left, Moved-right, Moved-given, Moved-joins}
use Rattle.vx_rest.proofs.QueueCallLaws.{Values-give}
use Rattle.vx_rest.proofs.MachineParts.{once-within}

module _ (drivers : ℕ) (t : Tree) (once : AreOnce t) where
  abbrev pub IsMoved : Machine → Machine → Type 0
  IsMoved old new = (passed : Passed) × Moved drivers t passed old.query new.query

  sides : (j : JoinNode) → Within (join_node j) t → id_of j.left ≢ id_of j.right
  sides j within e =
      let here : AreOnce (join_node j) = once-within (join_node j) t within once in
      clash (has_node (id_of j.right) j.right) (root-node j.right) (here.2 (id_of j.right) (subst (λ k. has_node k j.left ≡ true) e (root-node j.left)))

  nothing-moves : (old new : Holding) → new ≡ old → Moved drivers t standing old new
  nothing-moves old new same = subst (λ n. Moved drivers t standing old n) (sym same) (record {
    hands = standing-hands old old (λ id d. refl);
    fits = Fits-away drivers old old standing t (λ k there. (refl, refl, refl)) (λ k below. refl);
    out = sym (Rattle.std.proofs.Common.append-nil old.out);
  })

  answers-moved : (j : JoinNode) (old new : Machine) → Within (join_node j) t → AnswerChanges j old new → IsMoved old new
  answers-moved j old new within c = (_, Moved-given drivers t once old.query new.query j.id j.kind j.left_keys j.right_keys j.left j.right within c.here.here.stays c.rows c.hand c.call)

  stands-moved : (j : JoinNode) (old new : Machine) → Within (join_node j) t → JoinStands j old new → IsMoved old new
  stands-moved j old new within c = (_, Moved-joins drivers t once old.query new.query j.id j.kind j.left_keys j.right_keys j.left j.right within c.here.here.stays c.hands c.call)

  pub moved-by : (move : Move) (old new : Machine) → Makes drivers t move old new → IsMoved old new
  moved-by (reads id kinds all parallel d) old new h =
      let c = h.changes in
      (_, Moved-values drivers t once old.query new.query id kinds all parallel d c.rows h.can.needs.0 c.here.stays c.hand (Values-give (drivers_of drivers (values id kinds all parallel)) (old.query.held id) (new.query.held id) d c.rows c.others c.is))
  moved-by (gives id own source d) old new h = let c = h.changes in (_, Moved-puts drivers t once old.query new.query id own source d c.rows h.can.needs.0 c.here.stays c.hand c.keeps)
  moved-by (takes id own source d) old new h = let c = h.changes in (_, Moved-takes drivers t once old.query new.query id own source d (c.row ∷ c.rows) h.can.needs.0 c.here.stays c.hand c.keeps)
  moved-by (merges id own source d) old new h = let c = h.changes in (_, Moved-stands drivers t once old.query new.query id own source h.can.needs.0 c.here.stays c.hands c.keeps)
  moved-by (finishes id own source d) old new h = let c = h.changes in (_, Moved-stands drivers t once old.query new.query id own source h.can.needs.0 c.here.stays c.hands c.keeps)
  moved-by (answers j) old new h = answers-moved j old new h.can.needs.0 h.changes
  moved-by (leaves j) old new h = answers-moved j old new h.can.needs.0 h.changes
  moved-by (builds j d) old new h =
      let c = h.changes in
      (_, Moved-right drivers t once old.query new.query j.id j.kind j.left_keys j.right_keys j.left j.right h.can.needs.0 c.here.here.stays d (c.row ∷ c.rows) (sides j h.can.needs.0) h.can.needs.1 c.hand c.call)
  moved-by (probes j) old new h =
      let c = h.changes in
      (_, Moved-left drivers t once old.query new.query j.id j.kind j.left_keys j.right_keys j.left j.right h.can.needs.0 c.here.here.stays (c.row ∷ c.rows) (λ e. sides j h.can.needs.0 (sym e)) c.hand c.call)
  moved-by (built j d) old new h = stands-moved j old new h.can.needs.0 h.changes.stands
  moved-by (probed j) old new h = stands-moved j old new h.can.needs.0 h.changes.stands
  moved-by (empties j) old new h = stands-moved j old new h.can.needs.0 h.changes.stands
  moved-by (turns j) old new h =
      let c = h.changes in
      (_, Moved-joins drivers t once old.query new.query j.id j.kind j.left_keys j.right_keys j.left j.right h.can.needs.0 c.here.here.stays c.hands c.call)
  moved-by comes_out old new h = let c = h.changes in (_, Moved-out drivers t once old.query new.query (c.row ∷ c.rows) c.out)
  moved-by stops old new h = (standing, nothing-moves old.query new.query h.changes.query)
