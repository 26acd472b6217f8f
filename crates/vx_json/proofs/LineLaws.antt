-- A row's text from its last byte to its first.
use Rattle.std.proofs.Common.{ℤ, pos, negsuc, nat_abs, int_lt, true, tests, false, ◌==◌, ◌≡◌, ℕ, ◌+◌, ◌-◌, ◌^◌, ◌<◌, ◌≤◌, List, [], ◌∷◌, ◌++◌, append_assoc, length, drop, set, get_or, sym, ap, ◌∙◌, arith}
use Rattle.std.specs.Fmt.{decimal, signed_decimal}
use Rattle.std.proofs.lemmas.Fmt.{length-decimal-le}
use Rattle.std.proofs.lemmas.List.{at_drop_all, at_drop_more, drop-set, drop-set-lt, drop_all, drop_more}
use Rattle.vx_value.specs.declared.value.Value.{Value}
use Rattle.vx_json.specs.Printing.{cell_text, rest_text, row_text}
use Rattle.vx_json.proofs.PrintingLaws.{cells_text-cons}

pub few_digits : (n : ℕ) → n ≤ 2 ^ 63 → length (decimal n) ≤ 19
few_digits n most = length-decimal-le 19 n (omega arith) (omega (arith, most)) (omega (arith, most))

pub not_empty : (n : ℕ) → (n == 0) ≡ false → 0 < n
not_empty n some = grind (arith, tests)

-- a sign before the digits is the number's, or it stands before the number's text
pub with_sign : (z : ℤ) (abs start : ℕ) (line rest : List ℕ) → int_lt z (pos 0) ≡ true → abs ≡ nat_abs z → 0 < start → start ≤ length line → drop start line ≡ decimal abs ++ rest → drop (start - 1) (set line (start - 1) 45) ≡ signed_decimal z ++ rest
with_sign (pos n) abs start line rest negative is some inside digits = let no : ⊥ = grind (arith, tests) in absurd no
with_sign (negsuc n) abs start line rest negative is some inside digits =
    let same : start - 1 + 1 ≡ start = omega (arith, some) in
    drop-set line (start - 1) 45 (omega (arith, some, inside)) ∙ ap (λ (l : List ℕ). 45 ∷ l) (ap (λ (k : ℕ). drop k line) same ∙ (digits ∙ ap (λ (k : ℕ). decimal k ++ rest) is))

pub without_sign : (z : ℤ) (abs start : ℕ) (line rest : List ℕ) → int_lt z (pos 0) ≡ false → abs ≡ nat_abs z → 0 < start → drop start line ≡ decimal abs ++ rest → drop start (set line (start - 1) 45) ≡ signed_decimal z ++ rest
without_sign (pos n) abs start line rest positive is some digits = drop-set-lt start line (start - 1) 45 (omega (arith, some)) ∙ (digits ∙ ap (λ (k : ℕ). decimal k ++ rest) is)
without_sign (negsuc n) abs start line rest positive is some digits = absurd (cc)

-- behind the last cell stands the bracket alone
pub none_left : (cells : List Value) (bytes line : List ℕ) (left : ℕ) → length bytes ≡ 1345 → length cells ≤ left → line ≡ 93 ∷ drop 1345 bytes → line ≡ rest_text (drop left cells) ++ 93 ∷ []
none_left cells bytes line left whole all is =
    is ∙ (ap (λ (l : List ℕ). 93 ∷ l) (drop_all 1345 bytes (omega (arith, whole))) ∙ ap (λ (l : List ℕ). l ++ 93 ∷ []) (sym (at_drop_all rest_text cells left all)))

-- one cell more in front, with its comma
pub one_before : (cells : List Value) (left : ℕ) (cell : Value) (line next : List ℕ) → 0 < left → left ≤ length cells → cell ≡ get_or cells (left - 1) cell → line ≡ rest_text (drop left cells) ++ 93 ∷ [] → next ≡ 44 ∷ (cell_text cell ++ line) → next ≡ rest_text (drop (left - 1) cells) ++ 93 ∷ []
one_before cells left cell line next some within is before last =
    let same : left - 1 + 1 ≡ left = omega (arith, some) in
    let more : rest_text (drop (left - 1) cells) ≡ 44 ∷ (cell_text (get_or cells (left - 1) cell) ++ rest_text (drop (left - 1 + 1) cells)) = at_drop_more rest_text cells (left - 1) cell (omega (arith, some, within)) in
    let own : rest_text (drop (left - 1) cells) ≡ 44 ∷ (cell_text cell ++ rest_text (drop left cells)) = more ∙ (λ i. 44 ∷ (cell_text (sym is i) ++ rest_text (drop (same i) cells))) in
    last
    ∙ (ap (λ (l : List ℕ). 44 ∷ (cell_text cell ++ l)) before
    ∙ (ap (λ (l : List ℕ). 44 ∷ l) (sym (append_assoc (cell_text cell) (rest_text (drop left cells)) (93 ∷ [])))
    ∙ ap (λ (l : List ℕ). l ++ 93 ∷ []) (sym own)))

-- with a bracket in place of the first comma it is the row
pub whole_row : (cells : List Value) (left at : ℕ) (line : List ℕ) → 0 < length cells → left ≤ 0 → at < length line → drop at line ≡ rest_text (drop left cells) ++ 93 ∷ [] → drop at (set line at 91) ≡ row_text cells
whole_row [] left at line some none inside is = absurd (omega (arith, some))
whole_row (first ∷ rest) left at line some none inside is =
    let zero_left : left ≡ 0 = omega (arith, none) in
    let all : drop at line ≡ 44 ∷ (cell_text first ++ rest_text rest ++ 93 ∷ []) = is ∙ ap (λ (n : ℕ). rest_text (drop n (first ∷ rest)) ++ 93 ∷ []) zero_left in
    let behind : drop (at + 1) line ≡ cell_text first ++ rest_text rest ++ 93 ∷ [] = ap (drop 1) (sym (drop_more line at 0 inside) ∙ all) in
    drop-set line at 91 inside ∙ ap (λ (l : List ℕ). 91 ∷ l) (behind ∙ ap (λ (l : List ℕ). l ++ 93 ∷ []) (sym (cells_text-cons first rest)))
