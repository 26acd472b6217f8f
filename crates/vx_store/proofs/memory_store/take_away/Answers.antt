use Rattle.vx_store.proofs.FileLaws.{files_of-set}
use Rattle.std.proofs.Common.{None}
use Rattle.vx_store.proofs.memory_store.take_away.Goals as goal

pub returns-clause-set : goal.returns-clause-set
returns-clause-set c = files_of-set c.args.files.now.items c.args.number None
