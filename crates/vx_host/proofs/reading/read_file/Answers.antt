use Rattle.std.proofs.Common.{None}
use Rattle.vx_host.proofs.reading.read_file.Goals as goal

pub returns-in-Err-clause-err : goal.returns-in-Err-clause-err
returns-in-Err-clause-err g c = c.read_error.ensures.err None c.args.limit

pub returns-in-Err-metadata-clause-err : goal.returns-in-Err-metadata-clause-err
returns-in-Err-metadata-clause-err g c = c.read_error-in-Err-metadata.ensures.err None c.args.limit
