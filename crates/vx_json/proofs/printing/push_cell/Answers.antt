use Rattle.vx_json.proofs.PrintingLaws.{on_ok-always, IsUtf8-text}
use Rattle.vx_json.proofs.printing.push_cell.Goals as goal

pub returns-in-Text-clause-utf8 : goal.returns-in-Text-clause-utf8
returns-in-Text-clause-utf8 c = rw c.in-Text.is (on_ok-always c.push_quoted.result _ (IsUtf8-text c.in-Text.cell (rw c.as_bytes-in-Text.ensures.bytes at c.as_bytes-in-Text.ensures.text)))
