-- What a plan's answers are. A plan may have many: SQL leaves the order of rows open but under ORDER BY.
use Rattle.std.specs.Prelude.{ℕ, List, IsPermutation}
use Rattle.vx_value.specs.Row.{Row}
use Rattle.vx_plan.specs.Limits.{columns}
use Rattle.vx_plan.specs.Tree.{Tree, values, over, join}
use Rattle.vx_plan.specs.Width.{width_of}
use Rattle.vx_meaning.specs.Joins.{On, joined}
use Rattle.vx_meaning.specs.Lines.{Line, Joined}

abbrev pub joined_on : List ℕ → List ℕ → Tree → Tree → On
joined_on left_keys right_keys left right = record {
  left_keys = left_keys;
  right_keys = right_keys;
  left_columns = columns left;
  right_columns = columns right;
}

-- This list is an answer of the tree.
abbrev pub Answers : Tree → List Row → Type 0
Answers (values id kinds all parallel) rows = IsPermutation all rows
Answers (over id own source) rows = Line own (width_of source) (Answers source) rows
Answers (join id kind left_keys right_keys left right) rows = Joined (joined kind (joined_on left_keys right_keys left right)) (Answers left) (Answers right) rows
