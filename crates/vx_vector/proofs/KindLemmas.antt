-- A vector whose kind isn't that of texts has none.
use Rattle.std.proofs.Common.{◌≡◌, ℕ, true, false, cond, eqb, Option, Some, None, get_or, length, All, refl, sym, subst, arith}
use Rattle.std.proofs.lemmas.List.FromFn.{get_or-map-range_with_len, length-map-range_with_len}
use Rattle.vx_value.specs.declared.value.Value.{Value}
use Rattle.vx_value.specs.declared.value.Value.TheVariants as value
use Rattle.vx_value.specs.declared.value.Kind.{Kind}
use Rattle.vx_value.specs.declared.value.Kind.TheVariants as kind
use Rattle.vx_vector.specs.Lane.{Lane, value_of}
use Rattle.vx_vector.specs.Lanes.{kind_of, lane_at, lane_or_null}
use Rattle.vx_vector.specs.Column.{Column, IsNoText}
use Rattle.vx_vector.specs.Form.{form_kind, form_rows, form_value, values_of, column_of}
use Rattle.vx_vector.specs.declared.lanes.Lanes.{Lanes}
use Rattle.vx_vector.specs.declared.lanes.Lanes.TheVariants as lanes
use Rattle.vx_vector.specs.declared.form.Form.{Form}
use Rattle.vx_vector.specs.declared.form.Form.TheVariants.{Flat, Constant, Dictionary}

value_no_text : (l : Lane) → IsNoText l.raw → IsNoText (value_of l)
value_no_text l raw = elim (eqb l.mark 0) as (λ b. IsNoText (cond b l.raw value.Null)) [ true ↦ raw | false ↦ tt ]

lane_no_text : (l : Lanes) (k : ℕ) → (kind_of l ≡ kind.Text → ⊥) → IsNoText (value_of (lane_at l k))
lane_no_text (lanes.Bools b) k ne = value_no_text (lane_at (lanes.Bools b) k) tt
lane_no_text (lanes.Ints i) k ne = value_no_text (lane_at (lanes.Ints i) k) tt
lane_no_text (lanes.Texts t) k ne = absurd (ne refl)

place_no_text : (l : Lanes) (place : Option ℕ) → (kind_of l ≡ kind.Text → ⊥) → IsNoText (value_of (lane_or_null l place))
place_no_text (lanes.Bools b) None ne = tt
place_no_text (lanes.Ints i) None ne = tt
place_no_text (lanes.Texts t) None ne = absurd (ne refl)
place_no_text l (Some place) ne = lane_no_text l place ne

form_no_text : (form : Form) (k : ℕ) → (form_kind form ≡ kind.Text → ⊥) → IsNoText (form_value form k)
form_no_text (Flat l) k ne = lane_no_text l k ne
form_no_text (Constant l count) k ne = lane_no_text l 0 ne
form_no_text (Dictionary base index) k ne = place_no_text base (get_or index.items k None) ne

pub no_texts : (form : Form) (c : Column) → column_of form ≡ c → (form_kind form ≡ kind.Text → ⊥) → All IsNoText c.values
no_texts form c is ne = subst (λ (x : Column). All IsNoText x.values) is (λ k d lt.
    let rows : length (values_of form) ≡ form_rows form = length-map-range_with_len (form_value form) 0 (form_rows form) in
    subst (λ (v : Value). IsNoText v) (sym (get_or-map-range_with_len (form_value form) 0 (form_rows form) k k d (omega (arith, rows, lt)) (omega arith))) (form_no_text form k ne))

pub bools_no_text : (k : Kind) → kind.Bool ≡ k → k ≡ kind.Text → ⊥
bools_no_text k is text = cc

pub ints_no_text : (k : Kind) → kind.Int ≡ k → k ≡ kind.Text → ⊥
ints_no_text k is text = cc
