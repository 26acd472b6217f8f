use Rattle.vx_rows.proofs.NeedLemmas.{cost_is}
use Rattle.vx_rows.proofs.need.length_cost.Goals as goal

pub returns-clause-is : goal.returns-clause-is
returns-clause-is c = cost_is c.args.len c.block_bytes.result c.if-len-le-SHORT.false c.block_bytes.ensures.is
