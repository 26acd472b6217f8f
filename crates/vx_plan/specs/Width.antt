-- The width of a node, for the layers above: in a lawful plan what `Widths` finds, and total on every tree.
use Rattle.std.specs.Prelude.{ℕ, if◌then◌else◌, List, [], ◌∷◌}
use Rattle.vx_plan.specs.declared.aggregate.Step.{Step}
use Rattle.vx_plan.specs.declared.aggregate.Step.TheVariants.{Partial}
use Rattle.vx_plan.specs.declared.widths.Width.{Width}
use Rattle.vx_plan.specs.declared.widths.Width.TheVariants.{One, Many}
use Rattle.vx_plan.specs.Tree.{Tree, values, over, join, Own, filter, project, aggregation, order, topn, limit, exchange}
use Rattle.vx_plan.specs.Widths.{width_exchanged}

-- without keys there is one group, so a partial aggregation alone has as many lists as its source
abbrev pub width_of_groups : Step → List ℕ → Width → Width
width_of_groups Partial keys below = below
width_of_groups step [] below = One
width_of_groups step (key ∷ keys) below = below

abbrev pub width_over_of : Own → Width → Width
width_over_of (filter predicate) below = below
width_over_of (project es) below = below
width_over_of (aggregation step keys aggregates) below = width_of_groups step keys below
width_over_of (order keys) below = One
width_over_of (topn count keys) below = One
width_over_of (limit offset count) below = One
width_over_of (exchange kind keys) below = width_exchanged kind

-- to how many drivers a node gives its rows
abbrev pub width_of : Tree → Width
width_of (values id kinds rows parallel) = if parallel then Many else One
width_of (over id own source) = width_over_of own (width_of source)
width_of (join id kind on_left on_right left right) = One
