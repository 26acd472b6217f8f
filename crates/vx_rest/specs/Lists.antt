-- Lists of rows, one for each driver of a pipeline.
use Rattle.std.specs.Prelude.{ℕ, zero, suc, if◌then◌else◌, nat_eq, List, [], ◌++◌}
use Rattle.vx_value.specs.Row.{Row}
use Rattle.vx_plan.specs.Tree.{Tree}
use Rattle.vx_plan.specs.Width.{width_of}
use Rattle.vx_plan.specs.Widths.{is_one}

-- a list for each driver
abbrev pub Lists : Type 0
Lists = ℕ → List Row

-- the lists of the first so many drivers, one after another
abbrev pub together : {X : Type 0} → ℕ → (ℕ → List X) → List X
together zero lists = []
together (suc count) lists = lists zero ++ together count (λ driver. lists (suc driver))

-- each driver's first list before its second one
abbrev pub ahead : Lists → Lists → Lists
ahead first second = λ driver. first driver ++ second driver

-- no rows for any driver
abbrev pub nothing : Lists
nothing = λ driver. []

-- one driver's rows, and no other's
abbrev pub only_at : ℕ → List Row → Lists
only_at place rows = λ driver. if nat_eq driver place then rows else []

-- how many drivers the pipeline has in which a node's rows come out
abbrev pub drivers_of : ℕ → Tree → ℕ
drivers_of drivers t = if is_one (width_of t) then 1 else drivers
