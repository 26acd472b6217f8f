-- The laws of folds: they don't depend on the order of rows, and those of two lists put together are their `plus`.
use Rattle.std.proofs.Common.{◌≡◌, List, [], ◌∷◌, ◌++◌, refl, sym, ap, ap₂, ◌∙◌}
use Rattle.std.specs.List.{fold}
use Rattle.std.specs.List.Sorted.{IsPermutation}
use Rattle.std.proofs.lemmas.List.Sums.{fold-append}
use Rattle.vx_value.specs.declared.value.Value.{Value}
use Rattle.vx_value.specs.Row.{Row}
use Rattle.vx_plan.specs.declared.aggregate.Aggregate.{Aggregate}
use Rattle.vx_plan.specs.declared.aggregate.AggregateName.{AggregateName}
use Rattle.vx_plan.specs.declared.aggregate.AggregateName.TheVariants.{Count, Sum, Min, Max, BoolAnd, BoolOr}
use Rattle.vx_plan.specs.declared.aggregate.Step.{Step}
use Rattle.vx_meaning.specs.Folds.{plus, part, empty, fold_of, folds_of, plus_all}
use Rattle.vx_meaning.proofs.Shuffles.{fold-shuffled}
use Rattle.vx_meaning.proofs.PlusLaws.{plus-assoc, plus-turns}

-- the same rows in another order have the same fold
pub fold_of-shuffled : (step : Step) (a : Aggregate) (xs ys : List Row) → IsPermutation xs ys → fold_of step a xs ≡ fold_of step a ys
fold_of-shuffled step a xs ys h =
    fold-shuffled (λ so_far row. plus a.name so_far (part step a.name a.column row)) (λ b x y. plus-turns a.name b (part step a.name a.column x) (part step a.name a.column y)) xs ys h (empty a.name)

pub folds_of-shuffled : (step : Step) (aggregates : List Aggregate) (xs ys : List Row) → IsPermutation xs ys → folds_of step aggregates xs ≡ folds_of step aggregates ys
folds_of-shuffled step [] xs ys h = refl
folds_of-shuffled step (a ∷ aggregates) xs ys h = ap₂ ◌∷◌ (fold_of-shuffled step a xs ys h) (folds_of-shuffled step aggregates xs ys h)

empty-twice : (name : AggregateName) → plus name (empty name) (empty name) ≡ empty name
empty-twice Count = refl
empty-twice Sum = refl
empty-twice Min = refl
empty-twice Max = refl
empty-twice BoolAnd = refl
empty-twice BoolOr = refl

module _ (step : Step) (a : Aggregate) where
  abbrev more : Value → Row → Value
  more so_far row = plus a.name so_far (part step a.name a.column row)

  -- what empty adds nothing to keeps that through all rows
  fold-empty : (b : Value) (rows : List Row) → plus a.name b (empty a.name) ≡ b → plus a.name (fold more b rows) (empty a.name) ≡ fold more b rows
  fold-empty b [] h = h
  fold-empty b (row ∷ rows) h = fold-empty (more b row) rows (plus-turns a.name b (part step a.name a.column row) (empty a.name) ∙ ap (λ c. more c row) h)

  fold-front : (b c : Value) (rows : List Row) → plus a.name b (fold more c rows) ≡ fold more (plus a.name b c) rows
  fold-front b c [] = refl
  fold-front b c (row ∷ rows) = fold-front b (more c row) rows ∙ ap (λ d. fold more d rows) (sym (plus-assoc a.name b c (part step a.name a.column row)))

-- two lists put together have the `plus` of their folds
pub fold_of-append : (step : Step) (a : Aggregate) (xs ys : List Row) → fold_of step a (xs ++ ys) ≡ plus a.name (fold_of step a xs) (fold_of step a ys)
fold_of-append step a xs ys =
    fold-append (more step a) (empty a.name) xs ys
    ∙ ap (λ d. fold (more step a) d ys) (sym (fold-empty step a (empty a.name) xs (empty-twice a.name)))
    ∙ sym (fold-front step a (fold_of step a xs) (empty a.name) ys)

pub folds_of-append : (step : Step) (aggregates : List Aggregate) (xs ys : List Row)
    → folds_of step aggregates (xs ++ ys) ≡ plus_all aggregates (folds_of step aggregates xs) (folds_of step aggregates ys)
folds_of-append step [] xs ys = refl
folds_of-append step (a ∷ aggregates) xs ys = ap₂ ◌∷◌ (fold_of-append step a xs ys) (folds_of-append step aggregates xs ys)
