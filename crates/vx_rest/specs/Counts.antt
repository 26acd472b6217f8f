-- How many rows may still be taken from a node, by what is held.
use Rattle.std.specs.Prelude.{ℕ, ◌+◌, ◌*◌, ◌≤◌}
use Rattle.vx_plan.specs.declared.node.JoinKind.{JoinKind}
use Rattle.vx_plan.specs.declared.node.JoinKind.TheVariants.{Semi, Anti}
use Rattle.vx_plan.specs.Tree.{Tree, values, over, join, id_of}

-- of a join: rows owed, build rows and deferred rows
pub record JoinCount : Type 0 where
  pub owed : ℕ
  pub build : ℕ
  pub deferred : ℕ

-- what is counted: rows of the hands behind a node, rows that a node keeps over all its drivers, and a join's
pub record Counts : Type 0 where
  pub hand : ℕ → ℕ
  pub kept : ℕ → ℕ
  pub join : ℕ → JoinCount

-- the most rows of a join that owes w rows, by the left rows and the build rows that it may still meet
abbrev pub join_most : JoinKind → ℕ → ℕ → ℕ → ℕ
join_most Semi w m b = w + m
join_most Anti w m b = w + m
join_most _ w m b = w + (m * b + (m + b))

-- the most rows that may still be taken from a node
abbrev pub most : Counts → Tree → ℕ
most c (values id kinds all parallel) = c.hand id + c.kept id
most c (over id own source) = c.hand id + (c.kept id + most c source)
most c (join id kind left_keys right_keys left right) =
    c.hand id + join_most kind (c.join id).owed ((c.join id).deferred + most c left) ((c.join id).build + most c right)

-- what a move may do to the counts: rows are taken out of hands and put into them, and a node keeps and puts no more than
-- it kept and took
pub record Count : Type 0 where
  pub taken : ℕ → ℕ
  pub put : ℕ → ℕ

-- of a node and all below it
abbrev pub CountsFit : Counts → Counts → Count → Tree → Type 0
CountsFit old new m (values id kinds all parallel) = new.kept id + m.put id ≤ old.kept id
CountsFit old new m (over id own source) = CountsFit old new m source
    × (new.kept id + m.put id ≤ old.kept id + m.taken (id_of source))
CountsFit old new m (join id kind left_keys right_keys left right) =
    CountsFit old new m left × CountsFit old new m right
    × ((l r l' r' : ℕ) → l' + m.taken (id_of left) ≤ l → r' + m.taken (id_of right) ≤ r
    → join_most kind (new.join id).owed ((new.join id).deferred + l') ((new.join id).build + r') + m.put id ≤ join_most kind (old.join id).owed ((old.join id).deferred + l) ((old.join id).build + r))
