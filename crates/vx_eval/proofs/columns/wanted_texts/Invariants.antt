use Rattle.std.proofs.Common.{◌≡◌, ℕ, ◌<◌, if◌then◌else◌, length, get_or, true, false}
use Rattle.vx_value.specs.declared.value.Kind.TheVariants as kind
use Rattle.vx_value.specs.Row.{value_at}
use Rattle.vx_vector.specs.Lane.{text_at}
use Rattle.vx_vector.specs.Column.{FitsKind}
use Rattle.vx_vector.specs.Store.{text_in}
use Rattle.vx_eval.specs.TextRows.{blank_row}
use Rattle.vx_eval.proofs.columns.wanted_texts.Given as goal

abbrev pub invariant-loop-row : goal.invariant-loop-row
invariant-loop-row l = record {
  rows : length l.out ≡ l.row;
  at : (k : ℕ) → k < l.row → text_at l.out k ≡ (if get_or l.wanted k false then text_in (value_at l.column.values (get_or l.places k 0)) else blank_row 1);
  fits : (k : ℕ) → k < l.row → get_or l.wanted k false ≡ true → FitsKind kind.Text (value_at l.column.values (get_or l.places k 0));
}
