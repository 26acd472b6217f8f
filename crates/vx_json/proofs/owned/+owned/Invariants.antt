use Rattle.std.proofs.Common.{◌*◌, ◌+◌}
use Rattle.vx_json.proofs.owned.+owned.Given as goal

abbrev pub decreases-node_of : goal.decreases-node_of
decreases-node_of l = 3 * l.levels

abbrev pub decreases-source_of : goal.decreases-source_of
decreases-source_of l = 3 * l.levels + 1

abbrev pub decreases-body_of : goal.decreases-body_of
decreases-body_of l = 3 * l.levels + 2
