use Rattle.std.proofs.Common.{arith, subst}
use Rattle.vx_page.specs.Reading.{Gives}
use Rattle.vx_page.proofs.Numbers.{bytes_from}
use Rattle.vx_page.proofs.Pages.{found, page_again}
use Rattle.vx_page.proofs.reading.read_page.Goals as goal

pub returns-clause-found : goal.returns-clause-found
returns-clause-found c = found c.args.shape.now c.args.bytes.now c.page_of.result (bytes_from c.args.bytes.now (λ i. (c.type_inv.bytes i).fits)) c.page_of.ensures

pub returns-clause-only : goal.returns-clause-only
returns-clause-only c = λ rows of. subst (λ r. Gives (λ v. v.items) c.page_of.result r) (page_again c.args.shape.now rows c.args.bytes.now of) c.page_of.ensures
