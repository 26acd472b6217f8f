-- As many numbers more as a batch has rows, and blocks for its texts, take at most the batch's need of chunks.
use Rattle.std.proofs.Common.{inl, inr, ◌≡◌, ℕ, ◌+◌, ◌-◌, ◌*◌, ◌/◌, ◌≤◌, Bool, cond, List, [], ◌∷◌, length, map, All, refl, sym, ap, ◌∙◌, arith}
use Rattle.std.specs.List.{sum_by, range_with_len}
use Rattle.std.proofs.lemmas.Bool.{cases_eq, ne_eqb}
use Rattle.std.proofs.lemmas.List.Elements.{All-head, All-tail}
use Rattle.std.proofs.lemmas.List.FromFn.{fill_by_all}
use Rattle.std.proofs.lemmas.List.Sums.{sum_by-cons}
use Rattle.std.proofs.lemmas.Nat.{le-div}
use Rattle.vx_arena.specs.Chunks.{Chunks, held_by}
use Rattle.vx_arena.specs.Part.{PaysMore, Pays, none_made}
use Rattle.vx_records.proofs.Needing.{chunks_more}
use Rattle.vx_value.specs.declared.value.Value.{Value}
use Rattle.vx_value.specs.declared.value.Value.TheVariants as value
use Rattle.vx_value.specs.Row.{value_at}
use Rattle.vx_vector.specs.Column.{Column}
use Rattle.vx_vector.specs.Batch.{row_of}
use Rattle.vx_rows.specs.declared.fields.Extra.{Extra}
use Rattle.vx_rows.specs.Batches.{cost_of_rows}
use Rattle.vx_rows.specs.Container.{ContainerModel}
use Rattle.vx_rows.specs.Layout.{body_len, fields_of, row_len}
use Rattle.vx_rows.specs.Texts.{text_cost}
use Rattle.vx_rows.specs.Need.{row_need, column_cost, container_bytes, texts_cost, text_need, need_of}

-- ---- sums

sum_of_sums : (f g : ℕ → ℕ) (xs : List ℕ) → sum_by (λ x. f x + g x) xs ≡ sum_by f xs + sum_by g xs
sum_of_sums f g [] = refl
sum_of_sums f g (x ∷ xs) =
    let both : sum_by (λ y. f y + g y) (x ∷ xs) ≡ (f x + g x) + sum_by (λ y. f y + g y) xs = sum_by-cons (λ y. f y + g y) x xs in
    let one : sum_by f (x ∷ xs) ≡ f x + sum_by f xs = sum_by-cons f x xs in
    let two : sum_by g (x ∷ xs) ≡ g x + sum_by g xs = sum_by-cons g x xs in
    let below : sum_by (λ y. f y + g y) xs ≡ sum_by f xs + sum_by g xs = sum_of_sums f g xs in
    omega (arith, both, one, two, below)

sum_of_none : (xs : List ℕ) → sum_by (λ (x : ℕ). 0) xs ≡ 0
sum_of_none [] = refl
sum_of_none (x ∷ xs) = let below : sum_by (λ (y : ℕ). 0) xs ≡ 0 = sum_of_none xs in sum_by-cons (λ (y : ℕ). 0) x xs ∙ omega (arith, below)

sum_by-map : (f : Value → ℕ) (g : ℕ → Value) (xs : List ℕ) → sum_by f (map g xs) ≡ sum_by (λ x. f (g x)) xs
sum_by-map f g [] = refl
sum_by-map f g (x ∷ xs) =
    let one : sum_by f (g x ∷ map g xs) ≡ f (g x) + sum_by f (map g xs) = sum_by-cons f (g x) (map g xs) in
    let two : sum_by (λ y. f (g y)) (x ∷ xs) ≡ f (g x) + sum_by (λ y. f (g y)) xs = sum_by-cons (λ y. f (g y)) x xs in
    let below : sum_by f (map g xs) ≡ sum_by (λ y. f (g y)) xs = sum_by-map f g xs in
    omega (arith, one, two, below)

-- ---- what the rows of a batch cost is what its columns cost

column_by_rows : (values : List Value) (rows : ℕ) → length values ≡ rows → sum_by (λ at. text_cost (value_at values at)) (range_with_len 0 rows) ≡ sum_by text_cost values
column_by_rows values rows long =
    let all : values ≡ map (value_at values) (range_with_len 0 rows) = fill_by_all (value_at values) values rows value.Null long (λ k lt. refl) in
    sym (sum_by-map text_cost (value_at values) (range_with_len 0 rows)) ∙ ap (sum_by text_cost) (sym all)

abbrev row_cost : List Column → ℕ → ℕ
row_cost columns at = sum_by text_cost (row_of columns at)

pub cost_by_rows : (columns : List Column) (rows : ℕ) → All (λ c. length c.values ≡ rows) columns → cost_of_rows columns (range_with_len 0 rows) ≡ texts_cost columns
cost_by_rows [] rows even = sum_of_none (range_with_len 0 rows)
cost_by_rows (c ∷ columns) rows even =
    let split : sum_by (row_cost (c ∷ columns)) (range_with_len 0 rows) ≡ sum_by (λ at. text_cost (value_at c.values at) + row_cost columns at) (range_with_len 0 rows) =
    ap (λ (f : ℕ → ℕ). sum_by f (range_with_len 0 rows)) (λ i at. sum_by-cons text_cost (value_at c.values at) (row_of columns at) i) in
    let sums : sum_by (λ at. text_cost (value_at c.values at) + row_cost columns at) (range_with_len 0 rows) ≡ sum_by (λ at. text_cost (value_at c.values at)) (range_with_len 0 rows) + sum_by (row_cost columns) (range_with_len 0 rows) =
    sum_of_sums (λ at. text_cost (value_at c.values at)) (row_cost columns) (range_with_len 0 rows) in
    let first : sum_by (λ at. text_cost (value_at c.values at)) (range_with_len 0 rows) ≡ column_cost c = column_by_rows c.values rows (All-head (λ (x : Column). length x.values ≡ rows) c columns even) in
    let below : sum_by (row_cost columns) (range_with_len 0 rows) ≡ texts_cost columns = cost_by_rows columns rows (All-tail (λ (x : Column). length x.values ≡ rows) c columns even) in
    let whole : texts_cost (c ∷ columns) ≡ column_cost c + texts_cost columns = sum_by-cons column_cost c columns in
    split ∙ (sums ∙ omega (arith, first, below, whole))

-- ---- texts

-- chunks made for texts of this cost
pub texts_within : (before after : Chunks) (cost : ℕ) → Pays before after cost → held_by after ≤ held_by before + text_need cost
texts_within before after cost pays =
    let more : PaysMore before after 0 0 cost = pays 0 0 (none_made refl) in
    let held : held_by after ≡ held_by before + 4096 * more.chunks = more.held in
    elim (cases_eq cost 0) as (λ _. held_by after ≤ held_by before + text_need cost) [
      | inl e ↦ let none : more.chunks ≡ 0 = more.none e in omega (arith, held, none)
      | inr ne ↦
          let few : 2041 * (0 + more.chunks) ≤ 0 + cost + 2041 = more.few in
          let parts : more.chunks - 1 ≤ cost / 2040 = le-div (more.chunks - 1) cost 2040 (omega arith) (omega (arith, few)) in
          let need : text_need cost ≡ 4096 * (cost / 2040 + 1) = ap (λ (b : Bool). cond b 0 (4096 * (cost / 2040 + 1))) (ne_eqb cost 0 ne) in
          rw need (omega (arith, held, parts))
    ]

-- ---- the need

-- at most so many numbers more, and blocks of this cost, take at most the need
pub need_covers : (fields : List Extra) (columns : List Column) (rows : ℕ) (before after : ContainerModel) → row_len fields ≤ 4096 → fields_of before.kinds before.extras ≡ fields → fields_of after.kinds after.extras ≡ fields → length after.rows ≤ length before.rows + rows → Pays before.arena.chunks after.arena.chunks (texts_cost columns) → container_bytes after ≤ container_bytes before + need_of fields columns rows
need_covers fields columns rows before after most was is few pays =
    let more : row_need fields (length after.rows) ≤ row_need fields (length before.rows) + row_need fields rows = chunks_more (body_len fields) (length before.rows) rows (length after.rows) (omega (arith, most)) few in
    let rows_were : row_need (fields_of before.kinds before.extras) (length before.rows) ≡ row_need fields (length before.rows) = ap (λ (f : List Extra). row_need f (length before.rows)) was in
    let rows_are : row_need (fields_of after.kinds after.extras) (length after.rows) ≡ row_need fields (length after.rows) = ap (λ (f : List Extra). row_need f (length after.rows)) is in
    let texts : held_by after.arena.chunks ≤ held_by before.arena.chunks + text_need (texts_cost columns) = texts_within before.arena.chunks after.arena.chunks (texts_cost columns) pays in
    four (row_need (fields_of after.kinds after.extras) (length after.rows)) (row_need (fields_of before.kinds before.extras) (length before.rows)) (row_need fields rows) (held_by after.arena.chunks) (held_by before.arena.chunks) (text_need (texts_cost columns)) (omega (arith, more, rows_were, rows_are)) texts
  where
    four : (a b c d e f : ℕ) → a ≤ b + c → d ≤ e + f → a + d ≤ b + e + (c + f)
    four a b c d e f one two = omega (arith, one, two)
