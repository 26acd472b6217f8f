-- How many rows there are where one is added.
use Rattle.std.proofs.Common.{◌≡◌, ℕ, zero, suc, ◌+◌, ◌<◌, ◌≤◌, true, Option, Some, None, is_some, List, [], ◌∷◌, ◌++◌, length, get_or, set, max, refl, sym, ap, ◌∙◌, arith, ◌⊎◌, inl, inr}
use Rattle.std.specs.List.{sum_by}
use Rattle.std.proofs.lemmas.Bool.{cases_lt}
use Rattle.std.proofs.lemmas.List.{length-append, length-set}
use Rattle.std.proofs.lemmas.List.Sums.{sum_by-append, sum_by-cons}
use Rattle.vx_rows.specs.Container.{AddsRow, LiveRow, one_of, row_count}

count_cons : (o : Option LiveRow) (rows : List (Option LiveRow)) → row_count (o ∷ rows) ≡ one_of o + row_count rows
count_cons o rows = sum_by-cons one_of o rows

one_most : (o : Option LiveRow) → one_of o ≤ 1
one_most None = omega arith
one_most (Some row) = omega arith

-- at most as many rows as numbers
count_most : (rows : List (Option LiveRow)) → row_count rows ≤ length rows
count_most [] = omega arith
count_most (o ∷ rows) = let later : row_count rows ≤ length rows = count_most rows in omega (arith, later, one_most o, count_cons o rows)

-- and fewer where a number is free
count_less : (rows : List (Option LiveRow)) (n : ℕ) → n < length rows → get_or rows n None ≡ None → row_count rows < length rows
count_less [] n less free = absurd (omega (arith, less))
count_less (o ∷ rows) zero less free = let here : one_of o ≡ 0 = ap one_of free in omega (arith, here, count_most rows, count_cons o rows)
count_less (o ∷ rows) (suc n) less free = let later : row_count rows < length rows = count_less rows n (omega (arith, less)) free in omega (arith, later, one_most o, count_cons o rows)

-- one more
count_set : (rows : List (Option LiveRow)) (n : ℕ) (row : LiveRow) → n < length rows → get_or rows n None ≡ None → row_count (set rows n (Some row)) ≡ row_count rows + 1
count_set [] n row less free = absurd (omega (arith, less))
count_set (o ∷ rows) zero row less free = let here : one_of o ≡ 0 = ap one_of free in omega (arith, here, count_cons o rows, count_cons (Some row) rows)
count_set (o ∷ rows) (suc n) row less free =
    let later : row_count (set rows n (Some row)) ≡ row_count rows + 1 = count_set rows n row (omega (arith, less)) free in
    omega (arith, later, count_cons o rows, count_cons o (set rows n (Some row)))

count_push : (rows : List (Option LiveRow)) (row : LiveRow) → row_count (rows ++ Some row ∷ []) ≡ row_count rows + 1
count_push [] row = refl
count_push (o ∷ rows) row = let later : row_count (rows ++ Some row ∷ []) ≡ row_count rows + 1 = count_push rows row in omega (arith, later, count_cons o rows, count_cons o (rows ++ Some row ∷ []))

is_one : (o : Option LiveRow) → is_some o ≡ true → one_of o ≡ 1
is_one None some = absurd (cc)
is_one (Some row) some = refl

-- as many as numbers where none is free
count_full : (rows : List (Option LiveRow)) → ((n : ℕ) → n < length rows → is_some (get_or rows n None) ≡ true) → row_count rows ≡ length rows
count_full [] all = refl
count_full (o ∷ rows) all =
    let here : one_of o ≡ 1 = is_one o (all 0 (omega arith)) in
    let later : row_count rows ≡ length rows = count_full rows (λ n less. all (suc n) (omega (arith, less))) in
    omega (arith, here, later, count_cons o rows)

-- after so many rows more
pub record Counted (before now : List (Option LiveRow)) (more : ℕ) : Type 0 where
  pub rows : row_count now ≡ row_count before + more
  pub all : length now ≡ max (length before) (row_count before + more)

pub counted_none : (rows : List (Option LiveRow)) → Counted rows rows 0
counted_none rows = record { rows = omega arith; all = omega (arith, count_most rows) }

pub counted_more : (before now after : List (Option LiveRow)) (i number : ℕ) (row : LiveRow) → Counted before now i → AddsRow now after number row → Counted before after (i + 1)
counted_more before now after i number row so_far one = by_place (cases_lt number (length now))
  where
    rows_so_far : row_count now ≡ row_count before + i
    rows_so_far = so_far.rows

    all_so_far : length now ≡ max (length before) (row_count before + i)
    all_so_far = so_far.all

    by_place : (number < length now) ⊎ (length now ≤ number) → Counted before after (i + 1)
    by_place (inl less) =
        let is : after ≡ set now number (Some row) = one.again less in
        let rows : row_count after ≡ row_count now + 1 = ap row_count is ∙ count_set now number row less one.free in
        let long : length after ≡ length now = ap length is ∙ length-set now number (Some row) in
        let few : row_count now < length now = count_less now number less one.free in
        record { rows = omega (arith, rows, rows_so_far); all = omega (arith, long, few, rows_so_far, all_so_far) }
    by_place (inr past) =
        let near : number ≤ length now = one.near in
        let last : number ≡ length now = omega (arith, near, past) in
        let is : after ≡ now ++ Some row ∷ [] = one.next last in
        let rows : row_count after ≡ row_count now + 1 = ap row_count is ∙ count_push now row in
        let long : length after ≡ length now + 1 = ap length is ∙ length-append now (Some row ∷ []) in
        let full : row_count now ≡ length now = count_full now (one.needed last) in
        record { rows = omega (arith, rows, rows_so_far); all = omega (arith, long, full, rows_so_far, all_so_far) }
