-- How a row's text is put together.
use Rattle.std.proofs.Common.{◌≡◌, ◌∷◌, [], ◌++◌, List, ap, sym, ℕ, IsUtf8, codes, refl, subst, ◌∙◌, append_assoc, zero, suc, ◌+◌, ◌<◌, length, take, get_or, Result, Ok, Err, OnOk, arith}
use Rattle.std.proofs.lemmas.List.{append-nil}
use Rattle.std.proofs.lemmas.Str.{IsUtf8-append, IsUtf8-nil}
use Rattle.json.specs.Print.{quoted}
use Rattle.json.proofs.Printed.Utf8.{IsUtf8-quoted, IsUtf8-are_ascii}
use Rattle.std.specs.Str.{byte}
use Rattle.vx_value.specs.declared.value.Value.{Value}
use Rattle.vx_json.specs.Printing.{cell_text, cells_text, rest_text, row_text}

-- the cells are the first, and the others with a comma before each
pub cells_text-cons : (first : Value) (rest : List Value) → cells_text (first ∷ rest) ≡ cell_text first ++ rest_text rest
cells_text-cons first [] = sym (append-nil (cell_text first))
cells_text-cons first (second ∷ rest) = ap (λ text. cell_text first ++ (byte "," ∷ text)) (cells_text-cons second rest)

-- ---- what is printed is UTF-8

pub IsUtf8-null : IsUtf8 (codes "null")
IsUtf8-null = IsUtf8-are_ascii (codes "null") refl

pub IsUtf8-true : IsUtf8 (codes "true")
IsUtf8-true = IsUtf8-are_ascii (codes "true") refl

pub IsUtf8-false : IsUtf8 (codes "false")
IsUtf8-false = IsUtf8-are_ascii (codes "false") refl

pub IsUtf8-text : (text : List ℕ) → IsUtf8 text → IsUtf8 (quoted text)
IsUtf8-text text utf8 = IsUtf8-quoted text utf8

-- a comma and the next cell
pub IsUtf8-next : (rest : List ℕ) (cell : Value) → IsUtf8 rest → IsUtf8 (cell_text cell) → IsUtf8 (rest ++ (byte "," ∷ cell_text cell))
IsUtf8-next rest cell before utf8 = IsUtf8-append rest _ before (IsUtf8-append (byte "," ∷ []) (cell_text cell) (IsUtf8-are_ascii (byte "," ∷ []) refl) utf8)

pub IsUtf8-cells : (first : Value) (rest : List Value) → IsUtf8 (cell_text first) → IsUtf8 (rest_text rest) → IsUtf8 (cells_text (first ∷ rest))
IsUtf8-cells first rest a b = subst IsUtf8 (sym (cells_text-cons first rest)) (IsUtf8-append (cell_text first) (rest_text rest) a b)

pub IsUtf8-row : (cells : List Value) → IsUtf8 (cells_text cells) → IsUtf8 (row_text cells)
IsUtf8-row cells utf8 =
    IsUtf8-append (codes "[" ++ cells_text cells) (codes "]") (IsUtf8-append (codes "[") (cells_text cells) (IsUtf8-are_ascii (codes "[") refl) utf8) (IsUtf8-are_ascii (codes "]") refl)

pub ruleset texts = (IsUtf8-nil, IsUtf8-null, IsUtf8-true, IsUtf8-false, IsUtf8-text, IsUtf8-next, IsUtf8-cells, IsUtf8-row)

-- the same of what a call that went well has printed
pub on_ok-always : {T E : Type 0} (result : Result T E) (bytes : List ℕ) → IsUtf8 bytes → OnOk result (IsUtf8 bytes)
on_ok-always (Ok thing) bytes utf8 = utf8
on_ok-always (Err error) bytes utf8 = tt

pub on_ok-cells : {T E : Type 0} (result : Result T E) (cells : List Value) (first : Value) (rest : List Value) → cells ≡ first ∷ rest → IsUtf8 (cell_text first) → OnOk result (IsUtf8 (rest_text rest)) → OnOk result (IsUtf8 (cells_text cells))
on_ok-cells (Ok thing) cells first rest is a b = subst (λ all. IsUtf8 (cells_text all)) (sym is) (IsUtf8-cells first rest a b)
on_ok-cells (Err error) cells first rest is a b = tt

-- one cell more of a list
pub rest_text-more : (cells : List Value) (i : ℕ) (cell : Value) → i < length cells → cell ≡ get_or cells i cell → rest_text (take (i + 1) cells) ≡ rest_text (take i cells) ++ (byte "," ∷ cell_text cell)
rest_text-more [] i cell within is = absurd (omega arith)
rest_text-more (c ∷ cells) zero cell within is = ap (λ (x : Value). byte "," ∷ (cell_text x ++ [])) (sym is) ∙ ap (λ (t : List ℕ). byte "," ∷ t) (append-nil (cell_text cell))
rest_text-more (c ∷ cells) (suc i) cell within is =
    let same : suc i + 1 ≡ suc (i + 1) = omega arith in
    rw same (ap (λ (t : List ℕ). byte "," ∷ (cell_text c ++ t)) (rest_text-more cells i cell (omega arith) is) ∙ ap (λ (t : List ℕ). byte "," ∷ t) (sym (append_assoc (cell_text c) (rest_text (take i cells)) (byte "," ∷ cell_text cell))))

pub utf8-more : (cells : List Value) (i : ℕ) (cell : Value) → i < length cells → cell ≡ get_or cells i cell → IsUtf8 (rest_text (take i cells)) → IsUtf8 (cell_text cell) → IsUtf8 (rest_text (take (i + 1) cells))
utf8-more cells i cell within is before utf8 = subst IsUtf8 (sym (rest_text-more cells i cell within is)) (IsUtf8-next (rest_text (take i cells)) cell before utf8)

pub bytes-more : (all old now : List ℕ) (cells : List Value) (i : ℕ) (cell : Value) → i < length cells → cell ≡ get_or cells i cell → old ≡ all ++ rest_text (take i cells) → now ≡ (old ++ byte "," ∷ []) ++ cell_text cell → now ≡ all ++ rest_text (take (i + 1) cells)
bytes-more all old now cells i cell within is before more =
    more ∙ append_assoc old (byte "," ∷ []) (cell_text cell) ∙ rw (before, rest_text-more cells i cell within is) (append_assoc all (rest_text (take i cells)) (byte "," ∷ cell_text cell))
