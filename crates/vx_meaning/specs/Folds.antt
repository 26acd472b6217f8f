-- What aggregates make of a list of rows, as SQL's aggregate functions: nulls are left out. A fold is a value whose
-- int may be any whole number, also one outside 64 bits.
use Rattle.std.specs.Prelude.{ℕ, ◌+◌, ◌^◌, Bool, ◌&&◌, ◌||◌, if◌then◌else◌, pos, ◌+ℤ◌, ◌*ℤ◌, List, [], ◌∷◌, ◌++◌, map, fold, Option, Some, None, option_map, option_and_then}
use Rattle.std.specs.Int.{int_div_euclid, int_rem_euclid}
use Rattle.std.specs.Ordering.{is_gt, is_lt}
use Rattle.vx_value.specs.declared.value.Value.{Value}
use Rattle.vx_value.specs.declared.value.Value.TheVariants.{Null, Bool as Truth, Int}
use Rattle.vx_value.specs.Value.{is_null}
use Rattle.vx_value.specs.Order.{cmp_values}
use Rattle.vx_value.specs.Row.{Row, value_at}
use Rattle.vx_expr.specs.Eval.{fits}
use Rattle.vx_plan.specs.declared.aggregate.Aggregate.{Aggregate}
use Rattle.vx_plan.specs.declared.aggregate.AggregateName.{AggregateName}
use Rattle.vx_plan.specs.declared.aggregate.AggregateName.TheVariants.{Count, Sum, Min, Max, BoolAnd, BoolOr}
use Rattle.vx_plan.specs.declared.aggregate.Step.{Step}
use Rattle.vx_plan.specs.declared.aggregate.Step.TheVariants.{Partial, Final}

-- ---- two folds put together; what is null or of another kind adds nothing

abbrev pub added : Value → Value → Value
added (Int x) (Int y) = Int (x +ℤ y)
added (Int x) _ = Int x
added _ (Int y) = Int y
added _ _ = Null

abbrev pub by_truths : (Bool → Bool → Bool) → Value → Value → Value
by_truths f (Truth a) (Truth b) = Truth (f a b)
by_truths f (Truth a) _ = Truth a
by_truths f _ (Truth b) = Truth b
by_truths f _ _ = Null

-- the lesser by the order of values
abbrev pub lesser : Value → Value → Value
lesser a b = if is_null a then b else if is_null b then a else if is_lt (cmp_values b a) then b else a

abbrev pub greater : Value → Value → Value
greater a b = if is_null a then b else if is_null b then a else if is_gt (cmp_values b a) then b else a

abbrev pub plus : AggregateName → Value → Value → Value
plus Count = added
plus Sum = added
plus Min = lesser
plus Max = greater
plus BoolAnd = by_truths ◌&&◌
plus BoolOr = by_truths ◌||◌

-- ---- what one row brings

-- an argument's value; without a column there is none
abbrev pub cell : Option ℕ → Row → Value
cell None row = Null
cell (Some column) row = value_at row column

-- the column after it
abbrev pub next_cell : Option ℕ → Row → Value
next_cell None row = Null
next_cell (Some column) row = value_at row (column + 1)

abbrev pub int_only : Value → Value
int_only (Int x) = Int x
int_only _ = Null

abbrev pub truth_only : Value → Value
truth_only (Truth b) = Truth b
truth_only _ = Null

-- a row counts where its argument isn't null, and where the count has none
abbrev pub one_unless_null : Option ℕ → Row → Value
one_unless_null None row = Int (pos 1)
one_unless_null (Some column) row = if is_null (value_at row column) then Int (pos 0) else Int (pos 1)

-- the sum that two columns of a partial result stand for
abbrev pub wide : Value → Value → Value
wide (Int high) (Int low) = Int (high *ℤ pos (2 ^ 63) +ℤ low)
wide _ _ = Null

abbrev pub part : Step → AggregateName → Option ℕ → Row → Value
part Final Count column row = int_only (cell column row)
part _ Count column row = one_unless_null column row
part Final Sum column row = wide (cell column row) (next_cell column row)
part _ Sum column row = int_only (cell column row)
part _ Min column row = cell column row
part _ Max column row = cell column row
part _ BoolAnd column row = truth_only (cell column row)
part _ BoolOr column row = truth_only (cell column row)

-- ---- a list of rows

-- of no rows: a count is 0, every other fold null
abbrev pub empty : AggregateName → Value
empty Count = Int (pos 0)
empty _ = Null

abbrev pub fold_of : Step → Aggregate → List Row → Value
fold_of step a rows = fold (λ so_far row. plus a.name so_far (part step a.name a.column row)) (empty a.name) rows

-- one fold for each aggregate
abbrev pub folds_of : Step → List Aggregate → List Row → List Value
folds_of step aggregates rows = map (λ a. fold_of step a rows) aggregates

-- two lists of folds put together
abbrev pub plus_all : List Aggregate → List Value → List Value → List Value
plus_all (a ∷ aggregates) (x ∷ xs) (y ∷ ys) = plus a.name x y ∷ plus_all aggregates xs ys
plus_all _ _ _ = []

-- ---- what is printed

-- one cell, or none where an int leaves 64 bits
abbrev pub one_cell : Value → Option (List Value)
one_cell (Int z) = if fits z then Some (Int z ∷ []) else None
one_cell v = Some (v ∷ [])

-- a sum as two ints: high * 2^63 + low, with low from 0 to 2^63 - 1
abbrev pub two_cells : Value → List Value
two_cells (Int z) = Int (int_div_euclid z (pos (2 ^ 63))) ∷ Int (int_rem_euclid z (pos (2 ^ 63))) ∷ []
two_cells _ = Null ∷ Null ∷ []

-- the cells of a fold; none is an overflow, which a partial result never has
abbrev pub finish : Step → AggregateName → Value → Option (List Value)
finish Partial Sum v = Some (two_cells v)
finish Partial _ v = Some (v ∷ [])
finish _ Sum v = one_cell v
finish _ Count v = one_cell v
finish _ _ v = Some (v ∷ [])

-- the cells of all folds, one after another
abbrev pub finish_all : Step → List Aggregate → List Value → Option (List Value)
finish_all step (a ∷ aggregates) (x ∷ xs) = option_and_then (λ cells. option_map (λ more. cells ++ more) (finish_all step aggregates xs)) (finish step a.name x)
finish_all step _ _ = Some []
