-- What a filter's and a project's evaluation of a row gives.
use Rattle.std.specs.Prelude.{◌≡◌, true, false, List, [], ◌∷◌, Some}
use Rattle.vx_value.specs.Row.{Row}
use Rattle.vx_expr.specs.declared.expression.Expr.{Expr}
use Rattle.vx_meaning.specs.declared.rowwise.Image.{Image}
use Rattle.vx_meaning.specs.declared.rowwise.Image.TheVariants as got
use Rattle.vx_meaning.specs.declared.rowwise.Verdict.{Verdict}
use Rattle.vx_meaning.specs.declared.rowwise.Verdict.TheVariants as says
use Rattle.vx_meaning.specs.Rows.{holds, image, first_fault, IsSound}

-- the row's image, or the leftmost fault
abbrev pub IsImage : List Expr → Row → Image → Type 0
IsImage exprs row (got.Row cells) = IsSound exprs row × (cells ≡ image exprs row)
IsImage exprs row (got.Fault code) = first_fault exprs row ≡ Some code

-- whether the predicate is true, or its fault
abbrev pub IsVerdict : Expr → Row → Verdict → Type 0
IsVerdict predicate row says.Keep = IsSound (predicate ∷ []) row × (holds predicate row ≡ true)
IsVerdict predicate row says.Leave = IsSound (predicate ∷ []) row × (holds predicate row ≡ false)
IsVerdict predicate row (says.Fault code) = first_fault (predicate ∷ []) row ≡ Some code
