-- A text of 1 to 10 digits is parsed as its number.
use Rattle.std.proofs.Common.{◌≡◌, ℕ, ◌<◌, ◌≤◌, ◌^◌, List, length, true, Result, Ok, refl, rules, arith}
use Rattle.std.specs.Char.{is_ascii_digit}
use Rattle.std.specs.List.{list_all}
use Rattle.std.specs.Result.{result_ok}
use Rattle.std.specs.Str.Parse.{ParsesUnsigned, digits_value}
use Rattle.std.proofs.lemmas.Bool.{and_parts}
use Rattle.std.proofs.lemmas.Str.Parse.{IsNumeralModel, digits_value_short, numerals_by_value, parse_gives}
use borrow.Author.Tests.{leb-true}
use Rattle.vx_words.specs.Numbers.{is_number, number_of}

own : IsNumeralModel (λ ds. list_all is_ascii_digit ds ≡ true) (digits_value 10)
own = numerals_by_value _ (search rules)

pub parsed : {E : Type 0} (text : List ℕ) (r : Result ℕ E) → is_number text ≡ true → ParsesUnsigned 64 10 text r → result_ok r ≡ number_of text
parsed text r is p =
    let parts = and_parts _ _ is in
    let ends = and_parts _ _ parts.0 in
    let some : 1 ≤ length text = leb-true 1 (length text) ends.0 in
    let few : length text ≤ 10 = leb-true (length text) 10 ends.1 in
    let small : digits_value 10 text < 10 ^ 10 = digits_value_short own text 10 parts.1 few in
    let fits : digits_value 10 text < 2 ^ 64 = omega arith in
    let some' : 0 < length text = omega arith in
    let ok : r ≡ Ok (digits_value 10 text) = parse_gives own 64 text r p parts.1 some' fits in
    rw (ok, is) refl
