use Rattle.std.proofs.Common.{eqb}
use Rattle.vx_vector.proofs.LaneLemmas.{picked_by}
use Rattle.vx_vector.proofs.marks.SettleRewrite.lanes.Goals as goal

pub returns : goal.returns
returns c = picked_by eqb c.args.marks 16 0 0 1 c.requires
