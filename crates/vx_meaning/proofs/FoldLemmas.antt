-- The folds of aggregates, one more row at a time.
use Rattle.std.proofs.Common.{◌≡◌, ℕ, ◌+◌, ◌<◌, List, length, take, get_or, refl, sym, ap, ◌∙◌, Option}
use Rattle.std.proofs.lemmas.List.Sums.{fold_more}
use Rattle.vx_value.specs.Row.{Row}
use Rattle.vx_plan.specs.declared.aggregate.Aggregate.{Aggregate}
use Rattle.vx_plan.specs.declared.aggregate.Step.{Step}
use Rattle.vx_plan.specs.declared.aggregate.Step.TheVariants.{Single, Partial, Final}
use Rattle.vx_meaning.specs.Folds.{plus, part, empty, fold_of}
use Rattle.vx_meaning.specs.Picks.{pick_name}
use Rattle.vx_meaning.specs.declared.picking.Pick.{Pick}
use Rattle.vx_meaning.specs.declared.picking.Pick.TheVariants as pick

-- what is picked is the same in every step
pub part-pick : (step : Step) (p : Pick) (column : Option ℕ) (row : Row) → part Single (pick_name p) column row ≡ part step (pick_name p) column row
part-pick Single p column row = refl
part-pick Partial pick.Least column row = refl
part-pick Partial pick.Greatest column row = refl
part-pick Partial pick.All column row = refl
part-pick Partial pick.Any column row = refl
part-pick Final pick.Least column row = refl
part-pick Final pick.Greatest column row = refl
part-pick Final pick.All column row = refl
part-pick Final pick.Any column row = refl

-- one more row
pub fold_of-more : (step : Step) (a : Aggregate) (rows : List Row) (i : ℕ) (row : Row) → i < length rows → row ≡ get_or rows i row
    → plus a.name (fold_of step a (take i rows)) (part step a.name a.column row) ≡ fold_of step a (take (i + 1) rows)
fold_of-more step a rows i row within is = ap (λ x. plus a.name (fold_of step a (take i rows)) (part step a.name a.column x)) is ∙ sym (fold_more (λ so_far row. plus a.name so_far (part step a.name a.column row)) (empty a.name) rows i row within)
