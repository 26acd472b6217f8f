-- The two laws of pages: what is read is the page of what it gives, and what was written is read again.
use Rattle.std.proofs.Common.{◌≡◌, ℕ, ◌+◌, ◌^◌, ◌<◌, ◌≤◌, true, false, cond, ◌&&◌, eqb, ltb, List, [], ◌∷◌, ◌++◌, length, replicate, All, IfOk, Vec, Result, Ok, Err, refl, sym, ap, ap₂, subst, ◌∙◌, arith}
use Rattle.std.specs.declared.alloc.Global.{Global}
use Rattle.std.specs.Int.{w32, to_be_bytes}
use Rattle.std.proofs.lemmas.Bool.{le-ltb, eqb-true, and_parts, eq-eqb}
use Rattle.std.proofs.lemmas.List.{append-nil, nil_from_length, length-replicate}
use Rattle.std.proofs.lemmas.List.Elements.{All-nil, All-cons, All-head, All-tail}
use Rattle.vx_page.specs.declared.cell.Slot.{Slot}
use Rattle.vx_page.specs.declared.cell.Cell.{Cell}
use Rattle.vx_page.specs.declared.error.PageError.{PageError}
use Rattle.vx_page.specs.Page.{Cells, cell_bytes, row_bytes, body, page, Pairs, HasShape, IsLawfulCell, IsPageOf}
use Rattle.vx_page.specs.Reading.{◌>>=◌, Gives, place, number_at, cell_at, body_cell_at, row_at, rows_at, rows_of}
use Rattle.vx_page.proofs.Turns.{AreBytes, step_ok, got_is, TakesOff, turns_take, turns_again, pairs_replicate, replicate_pairs}
use Rattle.vx_page.proofs.Numbers.{reversible_32}
use Rattle.vx_page.proofs.Fields.{guard_ok, unless_ok, number_takes, number_again, IsCellOf, cell_takes, cell_again}

-- ---- cells and rows of a body

body_cell_takes : (whole end : ℕ) (slot : Slot) (bytes : List ℕ) (y : Cell × List ℕ) → AreBytes bytes → body_cell_at whole end slot bytes ≡ Ok y → TakesOff bytes (cell_bytes y.0) y.1 × IsCellOf slot y.0
unfolding body_cell_at
body_cell_takes whole end slot bytes y fits e =
    let a = step_ok (cell_at slot whole bytes) (λ c. cond (ltb end (place whole c.1)) (Err (place whole bytes)) (Ok c)) y e in
    let g = guard_ok (ltb end (place whole a.0.1)) (place whole bytes) (Err (place whole bytes)) (Ok a.0) y refl a.2 in
    cell_takes slot whole bytes y fits (a.1 ∙ g.1)

body_cell_again : (whole end : ℕ) → whole ≤ end → (slot : Slot) (c : Cell) (rest : List ℕ) → IsCellOf slot c → body_cell_at whole end slot (cell_bytes c ++ rest) ≡ Ok (c, rest)
unfolding body_cell_at
body_cell_again whole end le slot c rest is =
    let inside : ltb end (place whole rest) ≡ false = le-ltb _ _ (omega arith) in
    rw (cell_again slot whole c rest is, inside) refl

-- a row of a shape, with lawful cells
abbrev IsRowOf : List Slot → Cells → Type 0
IsRowOf shape row = Pairs IsCellOf shape row

row_takes : (whole end : ℕ) (shape : List Slot) (bytes : List ℕ) (y : Cells × List ℕ) → AreBytes bytes → row_at whole end shape bytes ≡ Ok y → TakesOff bytes (row_bytes y.0) y.1 × IsRowOf shape y.0
row_takes whole end shape bytes y fits e = turns_take (body_cell_at whole end) cell_bytes IsCellOf (body_cell_takes whole end) shape bytes y fits e

row_again : (whole end : ℕ) → whole ≤ end → (shape : List Slot) (row : Cells) (rest : List ℕ) → IsRowOf shape row → row_at whole end shape (row_bytes row ++ rest) ≡ Ok (row, rest)
row_again whole end le shape row rest is = turns_again (body_cell_at whole end) cell_bytes IsCellOf (body_cell_again whole end le) shape row rest is

shape_of : (shape : List Slot) (row : Cells) → IsRowOf shape row → HasShape shape row
shape_of [] [] is = tt
shape_of [] (c ∷ row) is = absurd is
shape_of (slot ∷ shape) [] is = absurd is
shape_of (slot ∷ shape) (c ∷ row) is = (is.0.0, shape_of shape row is.1)

lawful_of : (shape : List Slot) (row : Cells) → IsRowOf shape row → All IsLawfulCell row
lawful_of [] [] is = All-nil IsLawfulCell
lawful_of [] (c ∷ row) is = absurd is
lawful_of (slot ∷ shape) [] is = absurd is
lawful_of (slot ∷ shape) (c ∷ row) is = All-cons IsLawfulCell c row is.0.1 (lawful_of shape row is.1)

row_of : (shape : List Slot) (row : Cells) → HasShape shape row → All IsLawfulCell row → IsRowOf shape row
row_of [] [] has lawful = tt
row_of [] (c ∷ row) has lawful = absurd has
row_of (slot ∷ shape) [] has lawful = absurd has
row_of (slot ∷ shape) (c ∷ row) has lawful = ((has.0, All-head IsLawfulCell c row lawful), row_of shape row has.1 (All-tail IsLawfulCell c row lawful))

-- ---- the page

ended : (rest whole end : ℕ) → eqb rest 0 && eqb end whole ≡ true → (rest ≡ 0) × (end ≡ whole)
ended rest whole end h = let parts = and_parts (eqb rest 0) (eqb end whole) h in (eqb-true _ _ parts.0, eqb-true _ _ parts.1)

each_row : (P Q : Cells → Type 0) → ((row : Cells) → P row → Q row) → (rows : List Cells) → All P rows → All Q rows
each_row P Q f rows all k d lt = f _ (all k d lt)

from_parts : (shape : List Slot) (bytes : List ℕ) (rows read : List Cells) (count size : ℕ) (r0 r1 r2 : List ℕ) → bytes ≡ to_be_bytes w32 count ++ r0 → r0 ≡ to_be_bytes w32 size ++ r1 → r1 ≡ body read ++ r2 → count < 2 ^ 32 → size < 2 ^ 32 → length read ≡ count
    → All (IsRowOf shape) read → length r2 ≡ 0 → 8 + size ≡ length bytes → read ≡ rows → IsPageOf shape rows bytes
from_parts shape bytes rows read count size r0 r1 r2 p0 p1 p2 lt0 lt1 len all none whole is =
    let nothing : r2 ≡ [] = nil_from_length r2 none in
    let r1_is : r1 ≡ body read = p2 ∙ ap (λ (r : List ℕ). body read ++ r) nothing ∙ append-nil (body read) in
    let parts : bytes ≡ to_be_bytes w32 count ++ (to_be_bytes w32 size ++ body read) = p0 ∙ ap (λ (r : List ℕ). to_be_bytes w32 count ++ r) (p1 ∙ ap (λ (r : List ℕ). to_be_bytes w32 size ++ r) r1_is) in
    let long : length bytes ≡ 8 + length (body read) = ap length parts ∙ omega arith in
    let sized : size ≡ length (body read) = omega (arith, whole, long) in
    let same : bytes ≡ page read = parts ∙ ap₂ (λ (a b : ℕ). to_be_bytes w32 a ++ (to_be_bytes w32 b ++ body read)) (sym len) sized in
    subst (λ (rows : List Cells). IsPageOf shape rows bytes) is
    record {
      shaped = each_row (IsRowOf shape) (HasShape shape) (shape_of shape) read all;
      lawful = each_row (IsRowOf shape) (λ row. All IsLawfulCell row) (lawful_of shape) read all;
      fits = record { count = omega (arith, len, lt0); length = omega (arith, sized, lt1) };
      is = same;
    }

-- bytes that read as rows are their page
pub page_takes : (shape : List Slot) (bytes : List ℕ) (rows : List Cells) → AreBytes bytes → rows_of shape bytes ≡ Ok rows → IsPageOf shape rows bytes
unfolding rows_of
page_takes shape bytes rows fits e =
    let whole = length bytes in
    let Rest : ℕ → List Cells × List ℕ → Result (List Cells) ℕ = λ size rows. cond (eqb (length rows.1) 0 && eqb (8 + size) whole) (Ok rows.0) (Err (place whole rows.1)) in
    let a = step_ok (number_at w32 whole bytes) (λ count. number_at w32 whole count.1 >>= λ size. rows_at whole (8 + size.0) shape count.0 size.1 >>= λ rows. Rest size.0 rows) rows e in
    let b = step_ok (number_at w32 whole a.0.1) (λ size. rows_at whole (8 + size.0) shape a.0.0 size.1 >>= λ rows. Rest size.0 rows) rows a.2 in
    let d = step_ok (rows_at whole (8 + b.0.0) shape a.0.0 b.0.1) (λ rows. Rest b.0.0 rows) rows b.2 in
    let g = unless_ok (eqb (length d.0.1) 0 && eqb (8 + b.0.0) whole) (place whole d.0.1) (Ok d.0.0) (Err (place whole d.0.1)) rows refl d.2 in
    let ends = ended (length d.0.1) whole (8 + b.0.0) g.0 in
    let first = number_takes w32 (2 ^ 32) reversible_32 whole bytes a.0.0 a.0.1 fits a.1 in
    let second = number_takes w32 (2 ^ 32) reversible_32 whole a.0.1 b.0.0 b.0.1 first.0.left_fits b.1 in
    let third = turns_take {A = ℕ} (λ turn. row_at whole (8 + b.0.0) shape) row_bytes (λ turn row. IsRowOf shape row) (λ turn. row_takes whole (8 + b.0.0) shape) (replicate a.0.0 0) b.0.1 d.0 second.0.left_fits d.1 in
    let counted = replicate_pairs (IsRowOf shape) (replicate a.0.0 0) d.0.0 third.1 in
    from_parts shape bytes rows d.0.0 a.0.0 b.0.0 a.0.1 b.0.1 d.0.1 first.0.parts second.0.parts third.0.parts first.1 second.1 (counted.0 ∙ length-replicate {A = ℕ} a.0.0 0) counted.1 ends.0 ends.1 (got_is d.0.0 rows g.1)

-- ---- what was written

read_again : (shape : List Slot) (bytes r0 r1 : List ℕ) (rows : List Cells) (count size : ℕ) → number_at w32 (length bytes) bytes ≡ Ok (count, r0) → number_at w32 (length bytes) r0 ≡ Ok (size, r1) → rows_at (length bytes) (8 + size) shape count r1 ≡ Ok (rows, []) → 8 + size ≡ length bytes → rows_of shape bytes ≡ Ok rows
unfolding rows_of
read_again shape bytes r0 r1 rows count size first second third ends =
    let whole : eqb (8 + size) (length bytes) ≡ true = eq-eqb _ _ ends in
    rw (first, second, third, whole) refl

-- what is the page of rows is read as these rows
pub page_again : (shape : List Slot) (rows : List Cells) (bytes : List ℕ) → IsPageOf shape rows bytes → rows_of shape bytes ≡ Ok rows
page_again shape rows bytes of =
    let size = length (body rows) in
    let long : length bytes ≡ 8 + size = ap length of.is ∙ omega arith in
    let whole = length bytes in
    let first : number_at w32 whole bytes ≡ Ok (length rows, to_be_bytes w32 size ++ body rows) = ap (number_at w32 whole) of.is ∙ number_again w32 (2 ^ 32) reversible_32 whole (length rows) (to_be_bytes w32 size ++ body rows) of.fits.count in
    let second : number_at w32 whole (to_be_bytes w32 size ++ body rows) ≡ Ok (size, body rows) = number_again w32 (2 ^ 32) reversible_32 whole size (body rows) of.fits.length in
    let all : All (IsRowOf shape) rows = λ k d lt. row_of shape _ (of.shaped k d lt) (of.lawful k d lt) in
    let pairs = pairs_replicate (IsRowOf shape) 0 rows all in
    let le : whole ≤ 8 + size = omega (arith, long) in
    let turns : rows_at whole (8 + size) shape (length rows) (body rows ++ []) ≡ Ok (rows, []) = turns_again {A = ℕ} (λ turn. row_at whole (8 + size) shape) row_bytes (λ turn row. IsRowOf shape row) (λ turn. row_again whole (8 + size) le shape) (replicate (length rows) 0) rows [] pairs in
    let third : rows_at whole (8 + size) shape (length rows) (body rows) ≡ Ok (rows, []) = ap (rows_at whole (8 + size) shape (length rows)) (sym (append-nil (body rows))) ∙ turns in
    read_again shape bytes (to_be_bytes w32 size ++ body rows) (body rows) rows (length rows) size first second third (sym long)

-- ---- the clauses

pub found : (shape : List Slot) (bytes : List ℕ) (r : Result (Vec Cells Global) PageError) → AreBytes bytes → Gives (λ v. v.items) r (rows_of shape bytes) → IfOk r (λ v. IsPageOf shape v.items bytes)
found shape bytes (Ok v) fits given = page_takes shape bytes v.items fits given
found shape bytes (Err e) fits given = tt
