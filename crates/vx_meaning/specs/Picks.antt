-- The aggregates that pick one of the values.
use Rattle.vx_plan.specs.declared.aggregate.AggregateName.{AggregateName}
use Rattle.vx_plan.specs.declared.aggregate.AggregateName.TheVariants.{Min, Max, BoolAnd, BoolOr}
use Rattle.vx_meaning.specs.declared.picking.Pick.{Pick}
use Rattle.vx_meaning.specs.declared.picking.Pick.TheVariants.{Least, Greatest, All, Any}

abbrev pub pick_name : Pick → AggregateName
pick_name Least = Min
pick_name Greatest = Max
pick_name All = BoolAnd
pick_name Any = BoolOr
