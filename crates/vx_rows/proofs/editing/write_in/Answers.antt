use Rattle.vx_rows.proofs.EditLemmas.{same_record}
use Rattle.vx_rows.proofs.editing.write_in.Goals as goal

pub returns-in-Null : goal.returns-in-Null
returns-in-Null c = rw c.in-Null.is (same_record c.args.records.now c.args.number c.args.at c.requires.live)
