-- The beginnings of answers: what may have come out of a node before the rest is known to be without a fault.
use Rattle.std.specs.Prelude.{◌⊎◌, List, ◌++◌, map, Ok, IsPermutation}
use Rattle.vx_value.specs.Row.{Row}
use Rattle.vx_plan.specs.declared.widths.Width.{Width}
use Rattle.vx_plan.specs.declared.widths.Width.TheVariants.{One, Many}
use Rattle.vx_plan.specs.Tree.{Tree, values, over, join, Own, filter, project, aggregation, order, topn, limit, exchange}
use Rattle.vx_plan.specs.Width.{width_of}
use Rattle.vx_meaning.specs.Joins.{joined, probed}
use Rattle.vx_meaning.specs.Lines.{Filtered, Projected, spread, Grouped, Joined, Shuffled, Ordered, FirstOf, Limited}
use Rattle.vx_meaning.specs.Answer.{Answers, joined_on}

-- a list begins one of these lists
abbrev pub Begins : {X : Type 0} → (List X → Type 0) → List X → Type 0
Begins {X} Is front = (rest : List X) × Is (front ++ rest)

-- an aggregation that deals its rows out gives groups before its source has ended, any other one after it
abbrev pub grouped_from : Width → (List Row → Type 0) → (List Row → Type 0) → List Row → Type 0
grouped_from One whole begun = whole
grouped_from Many whole begun = begun

-- What may have come out of a node with one source, which has answers (whole) and beginnings of them (begun): where
-- rows pass at once the source need only be begun, and of an aggregation's groups only these must not overflow.
abbrev pub LineBegun : Own → Width → (List Row → Type 0) → (List Row → Type 0) → List Row → Type 0
LineBegun (filter predicate) source whole begun rows = Begins (Filtered predicate begun) rows
LineBegun (project exprs) source whole begun rows = Begins (Projected exprs begun) rows
LineBegun (aggregation step keys aggregates) source whole begun rows =
    Begins (Grouped step keys aggregates (spread step source) (grouped_from (spread step source) whole begun)) (map Ok rows)
LineBegun (order keys) source whole begun rows = Begins (Ordered keys whole) rows
LineBegun (topn count keys) source whole begun rows = Begins (FirstOf count keys whole) rows
LineBegun (limit offset count) source whole begun rows = Begins (Limited offset count begun) rows
LineBegun (exchange kind keys) source whole begun rows = Begins (Shuffled begun) rows

-- This list begins an answer as far as it can be told while it comes. A join need not know yet which right rows have
-- no match: then its left source need only be begun.
abbrev pub Begun : Tree → List Row → Type 0
Begun (values id kinds all parallel) rows = Begins (IsPermutation all) rows
Begun (over id own source) rows = LineBegun own (width_of source) (Answers source) (Begun source) rows
Begun (join id kind left_keys right_keys left right) rows =
    Begins (Joined (joined kind (joined_on left_keys right_keys left right)) (Answers left) (Answers right)) rows
    ⊎ Begins (Joined (probed kind (joined_on left_keys right_keys left right)) (Begun left) (Answers right)) rows
