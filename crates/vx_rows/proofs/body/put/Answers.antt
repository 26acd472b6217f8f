use Rattle.vx_rows.specs.Body.{seen}
use Rattle.vx_rows.proofs.BodyLemmas.{puts_one}
use Rattle.vx_rows.proofs.body.put.Goals as goal

pub returns-clause-is : goal.returns-clause-is
returns-clause-is c = puts_one c.args.layout.now c.args.body.now c.put_bytes.new.body c.args.which (seen c.args.stored) c.requires.which c.requires.body c.requires.fits c.put_bytes.ensures
