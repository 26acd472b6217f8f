-- What the table's columns and selections are.
use Rattle.std.proofs.Common.{◌≡◌, ◌∙◌, ℕ, ◌<◌, List, [], ◌∷◌, map, length, refl, sym, subst, ap, ap₂, arith, slice_index_or}
use Rattle.std.specs.List.{range_with_len}
use Rattle.std.proofs.lemmas.List.FromFn.{length-map-range_with_len, length-range_with_len, get_or-range_with_len}
use Rattle.vx_value.specs.declared.value.Kind.{Kind}
use Rattle.vx_value.specs.declared.value.Kind.TheVariants.{Int, Text}
use Rattle.vx_vector.specs.Batch.{kinds_of}
use Rattle.vx_vector.specs.Column.{Column, column}
use Rattle.vx_vector.specs.Lane.{value_of}
use Rattle.vx_vector.specs.Lanes.{kind_of, rows_of, lane_at}
use Rattle.vx_vector.specs.declared.lanes.Lanes.{Lanes}
use Rattle.vx_eval_rounds.specs.Table.{IsColumn, kinds}

-- a column of typed buffers has their kind, and as many values as they have rows
pub column_of_lanes : (lanes : Lanes) (c : Column) → c ≡ column (kind_of lanes) (map (λ k. value_of (lane_at lanes k)) (range_with_len 0 (rows_of lanes))) → IsColumn (kind_of lanes) (rows_of lanes) c
column_of_lanes lanes c is = subst (λ (x : Column). IsColumn (kind_of lanes) (rows_of lanes) x) (sym is) (record {
  kind = refl;
  count = length-map-range_with_len (λ k. value_of (lane_at lanes k)) 0 (rows_of lanes);
})

-- five columns of the table's kinds, one by one
pub kinds_of_five : (columns : List Column) (a b d s t : Column) → columns ≡ a ∷ b ∷ d ∷ s ∷ t ∷ [] → a.kind ≡ Int → b.kind ≡ Int → d.kind ≡ Int → s.kind ≡ Text → t.kind ≡ Text → kinds_of columns ≡ kinds
kinds_of_five columns a b d s t is of_a of_b of_d of_s of_t = ap kinds_of is ∙ ap₂ (λ (k : Kind) (more : List Kind). k ∷ more) of_a (ap₂ (λ (k : Kind) (more : List Kind). k ∷ more) of_b (ap₂ (λ (k : Kind) (more : List Kind). k ∷ more) of_d (ap₂ (λ (k : Kind) (more : List Kind). k ∷ more) of_s (ap (λ (k : Kind). k ∷ []) of_t))))

-- the first so many places are less than that number
pub first_places : (rows : ℕ) (places : List ℕ) → places ≡ range_with_len 0 rows → (k d : ℕ) → k < length places → slice_index_or places k d < rows
first_places rows places is = subst (λ (ps : List ℕ). (k d : ℕ) → k < length ps → slice_index_or ps k d < rows) (sym is) (λ k d lt.
    let inside : k < rows = omega (arith, length-range_with_len 0 rows) in
    omega (arith, get_or-range_with_len 0 rows k d inside))
