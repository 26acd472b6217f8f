use Rattle.std.proofs.Common.{◌≡◌, ◌++◌, take, take_all, length, subst, All, ap, ◌∙◌}
use Rattle.std.specs.Int.{bytes_high_first}
use Rattle.std.proofs.lemmas.List.Elements.{All-more}
use Rattle.vx_page.specs.Page.{row_bytes, body, IsLawfulCell}
use Rattle.vx_page.proofs.Steps.{more}
use Rattle.vx_page.proofs.Pages.{page_again}
use Rattle.vx_page.proofs.writing.write_page.Goals as goal

pub loop-row-preserved : goal.loop-row-preserved
loop-row-preserved c = (
  more row_bytes (bytes_high_first 4 (length c.args.rows.now) ++ bytes_high_first 4 (length (body c.args.rows.now))) c.loop-row.bytes.items c.push_row.new.bytes.items c.args.rows.now c.loop-row.row-index c.row-item.result c.loop-row-test.true c.row-item.is c.loop-row.invariant.0 c.in_ok-push_row.ensures.ok,
  All-more (λ row. All IsLawfulCell row) c.args.rows.now c.loop-row.row-index c.row-item.result c.loop-row-test.true c.loop-row.invariant.1 (subst (λ row. All IsLawfulCell row) c.row-item.is c.in_ok-push_row.ensures.lawful),
)

pub returns-clause-page : goal.returns-clause-page
returns-clause-page c =
    let rows = c.args.rows.now in
    let all : take c.loop-row.row-index rows ≡ rows = take_all c.loop-row.row-index rows c.loop-row-test.false in
    record {
      shaped = c.requires.shape;
      lawful = rw all at c.loop-row.invariant.1;
      fits = record { count = c.requires.rows; length = c.requires.body };
      is = c.loop-row.invariant.0 ∙ ap (λ rows. (bytes_high_first 4 (length c.args.rows.now) ++ bytes_high_first 4 (length (body c.args.rows.now))) ++ body rows) all;
    }

pub returns-clause-read : goal.returns-clause-read
returns-clause-read c = page_again c.args.shape.now c.args.rows.now c.loop-row.bytes.items (returns-clause-page c)
