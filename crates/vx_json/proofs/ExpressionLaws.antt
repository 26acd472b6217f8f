-- An expression, level by level.
use Rattle.std.proofs.Common.{◌≡◌, ℕ, zero, suc, ◌-◌, ◌<◌, List, map, drop, arith, refl, ap, ◌∙◌}
use Rattle.std.proofs.lemmas.List.{drop-map}
use Rattle.serde_json.specs.Data.{Data}
use Rattle.serde_json.specs.View.{view}
use Rattle.serde_json.specs.declared.value.Value.{Value}
use Rattle.vx_json.specs.declared.lists.Count.TheVariants.{NotEmpty}
use Rattle.vx_json.specs.Place.{misfit, and_then}
use Rattle.vx_json.specs.Lists.{items_at, each_from}
use Rattle.vx_json.proofs.ListLaws.{each_from-map}
use Rattle.vx_json.specs.Expressions.{expr_at, head_of, headed}

-- past the last level nothing is read
pub expr_at-zero : (path : List ℕ) (d : Data) → expr_at 0 path d ≡ misfit path
unfolding expr_at
expr_at-zero path d = refl

-- a level, and those below it
pub expr_at-more : (levels : ℕ) (path : List ℕ) (d : Data) → 0 < levels
    → expr_at levels path d ≡ and_then (items_at NotEmpty path d) (λ ds. and_then (head_of path ds) (λ head. headed (expr_at (levels - 1)) path ds head))
unfolding expr_at
expr_at-more zero path d more = absurd (omega arith)
expr_at-more (suc levels) path d more =
    let same : suc levels - 1 ≡ levels = omega arith in
    rw same refl

pub ruleset levels = (expr_at-zero, expr_at-more)

-- the arguments, as JSON values
pub each-argument : (levels : ℕ) (path : List ℕ) (values : List Value)
    → each_from (λ _. expr_at levels) path 1 (drop 1 (map view values)) ≡ each_from (λ _ p value. expr_at levels p (view value)) path 1 (drop 1 values)
each-argument levels path values =
    ap (each_from (λ _. expr_at levels) path 1) (drop-map view 1 values) ∙ each_from-map (λ _. expr_at levels) view path 1 (drop 1 values)

pub ruleset arguments = (each-argument)
