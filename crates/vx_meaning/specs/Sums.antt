-- What the accumulator of a sum stands for.
use Rattle.std.specs.Prelude.{◌≡◌, ℕ, ◌*◌, ◌^◌, Bool, true, false, ◌||◌, if◌then◌else◌, ℤ, pos, neg_ℤ, ◌+ℤ◌, ◌*ℤ◌, ◌≤ℤ◌, List, Option, Some, None, ◌++◌, option_map, Vec}
use Rattle.std.specs.Global.{Global}
use Rattle.vx_value.specs.declared.value.Value.{Value}
use Rattle.vx_value.specs.declared.value.Value.TheVariants.{Null, Int}
use Rattle.vx_value.specs.Row.{Row}
use Rattle.vx_expr.specs.Eval.{fits}
use Rattle.vx_plan.specs.declared.aggregate.Aggregate.{Aggregate}
use Rattle.vx_plan.specs.declared.aggregate.AggregateName.{AggregateName}
use Rattle.vx_plan.specs.declared.aggregate.Step.{Step}
use Rattle.vx_meaning.specs.declared.summing.Total.{Total}
use Rattle.vx_meaning.specs.Folds.{fold_of, folds_of, finish_all}

-- the number, whatever was seen
abbrev pub number_of : Total → ℤ
number_of t = t.high *ℤ pos (2 ^ 63) +ℤ t.low

-- a fold of ints; null where none was seen
abbrev pub total_value : Total → Value
total_value t = if t.seen then Int (number_of t) else Null

-- as far from 0 as so many ints can bring it
pub record IsWithin (count : ℕ) (t : Total) : Type 0 where
  pub high_least : neg_ℤ (pos (2 ^ 63 * count)) ≤ℤ t.high
  pub high_most : t.high ≤ℤ pos (2 ^ 63 * count)
  pub low_least : neg_ℤ (pos (2 ^ 63 * count)) ≤ℤ t.low
  pub low_most : t.low ≤ℤ pos (2 ^ 63 * count)
  pub unseen_high : t.seen ≡ false → t.high ≡ pos 0
  pub unseen_low : t.seen ≡ false → t.low ≡ pos 0

-- cells are pushed, or there are none
abbrev pub Pushes : List Value → List Value → Option (List Value) → Bool → Type 0
Pushes old new None fine = fine ≡ false
Pushes old new (Some cells) fine = (fine ≡ true) × (new ≡ old ++ cells)

-- the fold of an aggregate that is told by its parts
abbrev pub fold_in : Step → AggregateName → Option ℕ → List Row → Value
fold_in step name column rows = fold_of step (record { name = name; column = column }) rows

-- two sums put together
abbrev pub both : Total → Total → Total
both t u = record { high = t.high +ℤ u.high; low = t.low +ℤ u.low; seen = t.seen || u.seen }

-- an int of 64 bits that is the sum, or none
abbrev pub IsInt : Total → Option ℤ → Type 0
IsInt t None = fits (number_of t) ≡ false
IsInt t (Some n) = (fits n ≡ true) × (n ≡ number_of t)

-- the cells of all aggregates over a list of rows
abbrev pub finished_by : Step → List Aggregate → List Row → Option (List Value)
finished_by step aggregates rows = finish_all step aggregates (folds_of step aggregates rows)

abbrev pub items_of : {X : Type 0} → Option (Vec X Global) → Option (List X)
items_of cells = option_map (λ v. v.items) cells
