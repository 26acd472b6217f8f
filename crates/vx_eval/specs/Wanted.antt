-- Which rows are looked at, where a list says it or leaves it at the wanted ones.
use Rattle.std.specs.Prelude.{Bool, List, Option, Some, None, Vec}
use Rattle.std.specs.Global.{Global}

abbrev pub these_or : Option (Vec Bool Global) → List Bool → List Bool
these_or None wanted = wanted
these_or (Some rows) wanted = rows.items
