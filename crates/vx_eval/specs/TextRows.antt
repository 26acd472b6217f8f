-- The rows that functions with texts as their results give, marks and all.
use Rattle.std.specs.Prelude.{ℕ, ◌+◌, Bool, ◌&&◌, if◌then◌else◌, nat_eq, nat_le, nat_lt, [], ◌++◌, length}
use Rattle.vx_vector.specs.Lane.{TextRow, text_row}
use Rattle.vx_eval.specs.Got.{strictest}

-- what a text has that has a fault or is null
abbrev pub blank_row : ℕ → TextRow
blank_row mark = text_row mark []

-- two texts in one, which has at most 65,535 bytes
abbrev pub joined : TextRow → TextRow → TextRow
joined a b = if nat_le (length a.text + length b.text) 65535 then text_row 0 (a.text ++ b.text) else blank_row 4

abbrev pub joined_row : TextRow → TextRow → TextRow
joined_row a b = if nat_eq (strictest a.mark b.mark) 0 then joined a b else blank_row (strictest a.mark b.mark)

-- the condition's fault; else the second where it is true, else the third
abbrev pub chosen_row : Bool → ℕ → TextRow → TextRow → TextRow
chosen_row c mark a b = if c && nat_eq mark 0 then a else if nat_lt mark 2 then b else blank_row mark

-- the first where it isn't null, else the second
abbrev pub given_row : TextRow → TextRow → TextRow
given_row a b = if nat_eq a.mark 1 then b else a
