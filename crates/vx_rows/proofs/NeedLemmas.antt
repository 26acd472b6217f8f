-- The costs of texts, and that a put of all rows of a batch takes at most the batch's need.
use Rattle.std.proofs.Common.{◌≡◌, ◌≢◌, ℕ, zero, suc, ◌+◌, ◌-◌, ◌*◌, ◌/◌, ◌<◌, ◌≤◌, false, cond, leb, List, All, length, get_or, take, refl, sym, subst, arith}
use Rattle.std.specs.List.{sum_by}
use Rattle.std.proofs.lemmas.Bool.{ne_eqb, lt-leb}
use Rattle.std.proofs.lemmas.List.{length-map}
use Rattle.std.proofs.lemmas.List.Sums.{sum_by_more, sum_by-le, sum_by-take-le}
use Rattle.vx_arena.specs.Free.{class_len}
use Rattle.vx_arena.specs.Part.{class_for}
use Rattle.vx_arena.specs.Text.{block_bytes, cost_of}
use Rattle.vx_value.specs.declared.value.Kind.{Kind}
use Rattle.vx_value.specs.declared.value.Kind.TheVariants as kind
use Rattle.vx_value.specs.declared.value.Value.{Value}
use Rattle.vx_value.specs.declared.value.Value.TheVariants as value
use Rattle.vx_vector.specs.Column.{Column, IsNoText}
use Rattle.vx_vector.specs.Batch.{kinds_of}
use Rattle.vx_rows.specs.declared.fields.Extra.{Extra}
use Rattle.vx_rows.specs.declared.fields.Extra.TheVariants as extra
use Rattle.vx_rows.specs.Layout.{cell_len, field_len, field_at, body_len}
use Rattle.vx_rows.specs.Texts.{HasColumns, text_cost}

-- ---- what the code computes

whole_block : block_bytes 2040 ≡ 2056
unfolding block_bytes class_for class_len
whole_block = refl

long_cost : (len : ℕ) → 12 < len → cost_of len ≡ (len - 1) / 2040 * 2056 + block_bytes (len - (len - 1) / 2040 * 2040)
unfolding cost_of
long_cost len long =
    let some : len ≢ 0 = λ e. omega (arith, long, e) in
    let full : 2040 * ((len - 1) / 2040) ≡ (len - 1) / 2040 * 2040 = omega arith in
    let whole : 2056 * ((len - 1) / 2040) ≡ (len - 1) / 2040 * 2056 = omega arith in
    rw (ne_eqb len 0 some) (rw whole_block (rw full (rw whole refl)))

pub cost_is : (len rest : ℕ) → 12 < len → rest ≡ block_bytes (len - (len - 1) / 2040 * 2040) → (len - 1) / 2040 * 2056 + rest ≡ cond (leb len 12) 0 (cost_of len)
cost_is len rest long is =
    let test : leb len 12 ≡ false = lt-leb len 12 long in
    rw test (rw is (sym (long_cost len long)))

-- what is no text has no blocks
no_cost : (v : Value) → IsNoText v → text_cost v ≤ 0
no_cost value.Null no_text = omega arith
no_cost (value.Bool b) no_text = omega arith
no_cost (value.Int n) no_text = omega arith
no_cost (value.Text t) no_text = absurd no_text

pub no_texts_cost : (values : List Value) → All IsNoText values → 0 ≡ sum_by text_cost values
no_texts_cost values no_texts =
    let most : sum_by text_cost values ≤ length values * 0 = sum_by-le text_cost 0 values (λ k d less. no_cost (get_or values k d) (no_texts k d less)) in
    omega (arith, most)

-- columns are few, since each has a slot
slot_least : (k : Kind) → 8 ≤ cell_len k
slot_least kind.Bool = omega arith
slot_least kind.Int = omega arith
slot_least kind.Text = omega arith

slots_least : (fields : List Extra) (kinds : List Kind) (n : ℕ) → HasColumns fields kinds → n ≤ length kinds → n * 8 ≤ sum_by field_len (take n fields)
slots_least fields kinds zero columns within = omega arith
slots_least fields kinds (suc n) columns within =
    let few : length kinds ≤ length fields = columns.few in
    let below : n * 8 ≤ sum_by field_len (take n fields) = slots_least fields kinds n columns (omega (arith, within)) in
    let here : field_at fields n ≡ extra.Slot (get_or kinds n kind.Bool) = columns.each n (omega (arith, within)) in
    let slot : 8 ≤ field_len (field_at fields n) = subst (λ (f : Extra). 8 ≤ field_len f) (sym here) (slot_least (get_or kinds n kind.Bool)) in
    let more : sum_by field_len (take (n + 1) fields) ≡ sum_by field_len (take n fields) + field_len (field_at fields n) = sum_by_more field_len fields n (extra.Bytes 0) (omega (arith, within, few)) in
    let one : suc n ≡ n + 1 = omega arith in
    subst (λ (k : ℕ). k * 8 ≤ sum_by field_len (take k fields)) (sym one) (omega (arith, below, slot, more))

pub few_columns : (fields : List Extra) (columns : List Column) (bytes : ℕ) → HasColumns fields (kinds_of columns) → bytes ≡ body_len fields → bytes ≤ 4088 → length columns ≤ 511
few_columns fields columns bytes has is most =
    let many : length (kinds_of columns) ≡ length columns = length-map columns (λ (c : Column). c.kind) in
    let least : length (kinds_of columns) * 8 ≤ sum_by field_len (take (length (kinds_of columns)) fields) = slots_least fields (kinds_of columns) (length (kinds_of columns)) has (omega arith) in
    let within : sum_by field_len (take (length (kinds_of columns)) fields) ≤ sum_by field_len fields = sum_by-take-le field_len fields (length (kinds_of columns)) in
    omega (arith, many, least, within, is, most)
