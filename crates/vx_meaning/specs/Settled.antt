-- Plans whose answers are one list up to the order of its rows.
use Rattle.std.specs.Prelude.{Bool, true, false, ◌&&◌}
use Rattle.vx_plan.specs.declared.widths.Width.{Width}
use Rattle.vx_plan.specs.Tree.{Tree, values, over, join, Own, filter, project, aggregation, order, topn, limit, exchange}
use Rattle.vx_plan.specs.Width.{width_of}
use Rattle.vx_plan.specs.Widths.{is_one}
use Rattle.vx_meaning.specs.Lines.{spread}

-- whether a node takes no first rows, which ties leave open, and deals no rows out to partial groups
abbrev pub is_settled_over : Own → Width → Bool
is_settled_over (filter predicate) source = true
is_settled_over (project exprs) source = true
is_settled_over (aggregation step keys aggregates) source = is_one (spread step source)
is_settled_over (order keys) source = true
is_settled_over (topn count keys) source = false
is_settled_over (limit offset count) source = false
is_settled_over (exchange kind keys) source = true

-- whether all its nodes are so
abbrev pub is_settled : Tree → Bool
is_settled (values id kinds rows parallel) = true
is_settled (over id own source) = is_settled_over own (width_of source) && is_settled source
is_settled (join id kind left_keys right_keys left right) = is_settled left && is_settled right
