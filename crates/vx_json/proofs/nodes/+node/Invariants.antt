use Rattle.std.proofs.Common.{◌*◌, ◌+◌}
use Rattle.vx_json.proofs.nodes.+node.Given as goal

abbrev pub decreases-node_at : goal.decreases-node_at
decreases-node_at l = 3 * l.levels

abbrev pub decreases-source_at : goal.decreases-source_at
decreases-source_at l = 3 * l.levels + 1

abbrev pub decreases-body_at : goal.decreases-body_at
decreases-body_at l = 3 * l.levels + 2
