-- What the batch's columns are.
use Rattle.std.proofs.Common.{◌≡◌, ◌∙◌, ◌≤◌, List, [], ◌∷◌, map, get_or, sym, subst, ap, arith}
use Rattle.std.specs.List.{range_with_len}
use Rattle.std.proofs.lemmas.List.FromFn.{length-map-range_with_len}
use Rattle.vx_value.specs.declared.value.Kind.{Kind}
use Rattle.vx_value.specs.declared.value.Kind.TheVariants.{Bool, Int, Text}
use Rattle.vx_vector.specs.Batch.{kinds_of}
use Rattle.vx_vector.specs.Column.{Column, column}
use Rattle.vx_vector.specs.Lane.{value_of}
use Rattle.vx_vector.specs.Lanes.{kind_of, rows_of, lane_at}
use Rattle.vx_vector.specs.declared.lanes.Lanes.{Lanes}
use Rattle.vx_rows.specs.Layout.{row_len, fields_of}
use Rattle.vx_row_rounds.specs.Rounds.{IsColumn, AreTwo}

-- a column of typed buffers has as many values as they have rows
pub column_of_lanes : (lanes : Lanes) (c : Column) → c ≡ column (kind_of lanes) (map (λ k. value_of (lane_at lanes k)) (range_with_len 0 (rows_of lanes))) → rows_of lanes ≡ 1000 → IsColumn c
column_of_lanes lanes c is rows = subst (λ (x : Column). IsColumn x) (sym is) (length-map-range_with_len (λ k. value_of (lane_at lanes k)) 0 (rows_of lanes) ∙ rows)

pub two_kinds : (columns : List Column) (a b : Column) (k l : Kind) → AreTwo columns → a ≡ get_or columns 0 a → b ≡ get_or columns 1 b → k ≡ a.kind → l ≡ b.kind → kinds_of columns ≡ k ∷ l ∷ []
two_kinds [] a b k l two first second one other = absurd (omega (arith, two))
two_kinds (x ∷ []) a b k l two first second one other = absurd (omega (arith, two))
two_kinds (x ∷ y ∷ []) a b k l two first second one other =
    let left : x.kind ≡ k = ap (λ (c : Column). c.kind) (sym first) ∙ sym one in
    let right : y.kind ≡ l = ap (λ (c : Column). c.kind) (sym second) ∙ sym other in
    ap (λ (z : Kind). z ∷ y.kind ∷ []) left ∙ ap (λ (z : Kind). k ∷ z ∷ []) right
two_kinds (x ∷ y ∷ z ∷ more) a b k l two first second one other = absurd (omega (arith, two))

-- rows of two columns fit a chunk
pub two_fit : (k l : Kind) → row_len (fields_of (k ∷ l ∷ []) []) ≤ 4096
two_fit Bool Bool = omega arith
two_fit Bool Int = omega arith
two_fit Bool Text = omega arith
two_fit Int Bool = omega arith
two_fit Int Int = omega arith
two_fit Int Text = omega arith
two_fit Text Bool = omega arith
two_fit Text Int = omega arith
two_fit Text Text = omega arith
