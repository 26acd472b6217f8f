use Rattle.std.proofs.Common.{◌≡◌, ℕ, if◌then◌else◌, get_or, true, false, refl}
use borrow.Author.Count.{below_more}
use Rattle.vx_value.specs.declared.value.Kind.TheVariants as kind
use Rattle.vx_value.specs.Row.{value_at}
use Rattle.vx_vector.specs.Column.{FitsKind}
use Rattle.vx_vector.specs.Store.{text_in}
use Rattle.vx_eval.specs.TextRows.{blank_row}
use Rattle.vx_eval.proofs.TextLemmas.{length_more, row_more}
use Rattle.vx_eval.proofs.columns.wanted_texts.Goals as goal

pub loop-row-preserved : goal.loop-row-preserved
loop-row-preserved c = record {
  rows = length_more c.loop-row.out c.push_wanted.new.out _ c.loop-row.row c.in_ok-push_wanted.ensures.row c.loop-row.invariant.rows;
  at = row_more c.loop-row.out c.push_wanted.new.out _ c.loop-row.row (λ (k : ℕ). if get_or c.args.wanted.now k false then text_in (value_at c.args.column.now.values (get_or c.args.places.now k 0)) else blank_row 1) c.in_ok-push_wanted.ensures.row c.loop-row.invariant.rows c.loop-row.invariant.at refl;
  fits = below_more (λ (k : ℕ). get_or c.args.wanted.now k false ≡ true → FitsKind kind.Text (value_at c.args.column.now.values (get_or c.args.places.now k 0))) c.loop-row.row c.loop-row.invariant.fits c.push_wanted.ensures.fits;
}
