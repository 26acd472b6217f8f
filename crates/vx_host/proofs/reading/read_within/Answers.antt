use Rattle.std.proofs.Common.{arith}
use Rattle.vx_host.proofs.KnownBytes.{all_of_reader}
use Rattle.vx_host.proofs.reading.read_within.Goals as goal

pub returns-in-Err-clause-err : goal.returns-in-Err-clause-err
returns-in-Err-clause-err g c = c.read_error.ensures.err (g.R.Read.remaining c.args.reader) c.args.limit

pub returns-clause-bytes : goal.returns-clause-bytes
returns-clause-bytes g c =
    all_of_reader g.R.Read.remaining c.take-front.result c.args.reader c.in_ok-bytes.bytes.items c.read_to_end.new.buf.items
    c.take-front.ensures.inner c.in_ok-bytes.ensures.items c.in_default.ensures.bytes (omega arith)
