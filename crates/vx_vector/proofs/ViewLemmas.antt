-- What a vector's callers see, by the encoding that stands behind it.
use Rattle.std.proofs.Common.{◌≡◌, ◌∙◌, ℕ, ◌<◌, Bool, true, false, if◌then◌else◌, List, map, length, get_or, All, Option, refl, ap, ap₂, sym, subst, arith, tests, [], replicate}
use Rattle.std.specs.Prelude.{nat_eq}
use Rattle.std.proofs.lemmas.List.{get_or-replicate, length-replicate}
use Rattle.std.proofs.lemmas.List.FromFn.{length-map-range_with_len, length-range_with_len}
use Rattle.std.proofs.lemmas.List.Folds.{list_any_at}
use Rattle.std.specs.List.{list_any, range_with_len}
use Rattle.vx_value.specs.declared.value.Kind.{Kind}
use Rattle.vx_value.specs.declared.value.Value.{Value}
use Rattle.vx_value.specs.declared.value.Value.TheVariants.{Null}
use Rattle.vx_value.specs.Row.{value_at}
use Rattle.vx_vector.specs.Lane.{Lane, TextRow, text_row, value_of, settled, settled_mark}
use Rattle.vx_vector.specs.Marks.{is_fault}
use Rattle.vx_vector.specs.Lanes.{kind_of, rows_of, lane_at, holds_fault, AreLanes}
use Rattle.vx_vector.specs.Index.{IsIn}
use Rattle.vx_vector.specs.Column.{Column, column}
use Rattle.vx_vector.specs.Form.{form_kind, form_rows, form_lane, form_value, values_of, column_of}
use Rattle.vx_vector.specs.Decoding.{Decodes, DecodesForm}
use Rattle.vx_vector.specs.Settles.{HoldsRows}
use Rattle.vx_vector.specs.declared.lanes.Lanes.{Lanes}
use Rattle.vx_vector.specs.declared.lanes.Lanes.TheVariants.{Bools, Ints, Texts}
use Rattle.vx_vector.specs.declared.form.Form.{Form}
use Rattle.vx_vector.specs.declared.form.Form.TheVariants.{Flat, Constant}
use Rattle.vx_vector.proofs.SelectionLemmas.{own_place}
use Rattle.vx_vector.proofs.FormLemmas.{range_same, range_is, value_at_range, map_value_at, decoded_values}

pub rows_seen : (form : Form) (seen : Column) → column_of form ≡ seen → length seen.values ≡ form_rows form
rows_seen form seen e = subst (λ (s : Column). length s.values ≡ form_rows form) e (length-map-range_with_len (form_value form) 0 (form_rows form))

pub value_seen : (form : Form) (seen : Column) → column_of form ≡ seen → (k : ℕ) → k < length seen.values → value_at seen.values k ≡ form_value form k
value_seen form seen e k h =
    let inside : k < form_rows form = omega (arith, rows_seen form seen e) in
    subst (λ (s : Column). value_at s.values k ≡ form_value form k) e (value_at_range (form_value form) (form_rows form) k inside)

pub places_seen : (form : Form) (seen : Column) → column_of form ≡ seen → (places : List ℕ) → All (λ p. p < length seen.values) places → All (λ p. p < form_rows form) places
places_seen form seen e places inside =
    λ (k : ℕ) (d : ℕ) (h : k < length places). subst (λ (n : ℕ). get_or places k d < n) (rows_seen form seen e) (inside k d h)

pub flat_seen : (kind : Kind) (values : List Value) (l : Lanes) → kind_of l ≡ kind → rows_of l ≡ length values → ((k : ℕ) → k < length values → value_of (lane_at l k) ≡ get_or values k Null) → column_of (Flat l) ≡ column kind values
flat_seen kind values l of rows at = ap₂ column of (range_is (λ (k : ℕ). value_of (lane_at l k)) values (rows_of l) Null rows at)

pub constant_seen : (kind : Kind) (value : Value) (count : ℕ) (l : Lanes) → kind_of l ≡ kind → value_of (lane_at l 0) ≡ value → column_of (Constant l count) ≡ column kind (replicate count value)
constant_seen kind value count l of one =
    ap₂ column of (range_is (λ (k : ℕ). value_of (lane_at l 0)) (replicate count value) count Null (sym (length-replicate count value))
    (λ (k : ℕ) (h : k < length (replicate count value)). one ∙ sym (get_or-replicate count k value Null (omega (arith, length-replicate count value)))))

pub flattened : (form : Form) (seen : Column) → column_of form ≡ seen → (l : Lanes) → AreLanes (form_kind form) (form_rows form) (form_lane form) l → column_of (Flat l) ≡ seen
flattened form seen e l are =
    ap₂ column are.kind (range_same (λ (k : ℕ). value_of (lane_at l k)) (form_value form) (rows_of l) (form_rows form) Null are.rows (λ (k : ℕ) (h : k < form_rows form). ap value_of (are.at k h))) ∙ e

pub selected : (form now : Form) (seen : Column) → column_of form ≡ seen → (places : List ℕ) → form_kind now ≡ form_kind form → values_of now ≡ map (form_value form) places → All (λ p. p < length seen.values) places → column_of now ≡ column seen.kind (map (value_at seen.values) places)
selected form now seen e places of values inside =
    ap₂ column (of ∙ ap (λ (s : Column). s.kind) e)
    (values ∙ map_value_at (form_value form) (form_rows form) places (places_seen form seen e places inside) ∙ ap (λ (s : Column). map (value_at s.values) places) e)

pub decoded : (form : Form) (seen : Column) → column_of form ≡ seen → (base : Lanes) (index : List (Option ℕ)) → DecodesForm form base index → Decodes seen (column_of (Flat base)) index
decoded form seen e base index d = subst (λ (s : Column). Decodes s (column_of (Flat base)) index) e (record {
  kind = d.kind;
  values = decoded_values (form_value form) (form_rows form) base index d.rows d.places d.at;
  places = subst (λ (n : ℕ). All (IsIn n) index) (sym (length-map-range_with_len (λ (k : ℕ). value_of (lane_at base k)) 0 (rows_of base))) d.places;
})

-- ---- settled marks

mark_settled : (fine : Bool) → settled_mark (if fine then 0 else 1) ≡ (if fine then 0 else 1)
mark_settled true = refl
mark_settled false = refl

value_settled : (fine : Bool) (raw : Value) → (if nat_eq (if fine then 0 else 1) 0 then raw else Null) ≡ (if fine then raw else Null)
value_settled true raw = refl
value_settled false raw = refl

pub held_rows : (form : Form) (seen : Column) → column_of form ≡ seen → (places : List ℕ) (got now : Lanes) → AreLanes (form_kind form) (length places) (λ (k : ℕ). form_lane form (get_or places k 0)) got → AreLanes (kind_of got) (rows_of got) (λ (k : ℕ). settled (lane_at got k)) now → All (λ p. p < length seen.values) places → HoldsRows seen places now
held_rows form seen e places got now are is inside = record {
  kind = is.kind ∙ are.kind ∙ ap (λ (s : Column). s.kind) e;
  rows = is.rows ∙ are.rows;
  at = λ (k : ℕ) (h : k < length places).
      ap value_of (is.at k (omega (arith, are.rows))) ∙ value_settled (nat_eq (lane_at got k).mark 0) (lane_at got k).raw
      ∙ ap value_of (are.at k h) ∙ sym (value_seen form seen e (get_or places k 0) (inside k 0 h));
  settled = λ (k : ℕ) (h : k < length places).
      let there : lane_at now k ≡ settled (lane_at got k) = is.at k (omega (arith, are.rows)) in
      ap (λ (l : Lane). settled_mark l.mark) there ∙ mark_settled (nat_eq (lane_at got k).mark 0) ∙ sym (ap (λ (l : Lane). l.mark) there);
}

-- ---- rows that stand in a vector's own buffers

-- a test that no item passes
pub none_at : {X : Type 0} (p : X → Bool) (xs : List X) (k : ℕ) (d : X) → list_any p xs ≡ false → k < length xs → p (get_or xs k d) ≡ false
none_at p xs k d none h =
    elim (p (get_or xs k d)) as (λ b. p (get_or xs k d) ≡ b → b ≡ false) [
      | true ↦ λ passes. sym (list_any_at p xs k d h passes) ∙ none
      | false ↦ λ _. refl
    ] refl

pub no_fault_at : (l : Lanes) (k : ℕ) → holds_fault l ≡ false → k < rows_of l → is_fault (lane_at l k).mark ≡ false
no_fault_at (Bools b) k none h = none_at is_fault b.marks.items k 1 none h
no_fault_at (Ints i) k none h = none_at is_fault i.marks.items k 1 none h
no_fault_at (Texts t) k none h = none_at (λ (r : TextRow). is_fault r.mark) t k (text_row 1 []) none h

settled_no_fault : (m : ℕ) → is_fault m ≡ false → settled_mark m ≡ m
settled_no_fault m none = grind (arith, tests)

pub lent_rows : (lanes : Lanes) (seen : Column) → column_of (Flat lanes) ≡ seen → (places : List ℕ) → places ≡ range_with_len 0 (rows_of lanes) → holds_fault lanes ≡ false → HoldsRows seen places lanes
lent_rows lanes seen e places all none =
    let long : length places ≡ rows_of lanes = ap length all ∙ length-range_with_len 0 (rows_of lanes) in
    record {
      kind = ap (λ (s : Column). s.kind) e;
      rows = sym long;
      at = λ (k : ℕ) (h : k < length places).
          let own : get_or places k 0 ≡ k = own_place places (rows_of lanes) all k h in
          rw own (sym (value_seen (Flat lanes) seen e k (omega (arith, long, rows_seen (Flat lanes) seen e))));
      settled = λ (k : ℕ) (h : k < length places). settled_no_fault (lane_at lanes k).mark (no_fault_at lanes k none (omega (arith, long)));
    }
