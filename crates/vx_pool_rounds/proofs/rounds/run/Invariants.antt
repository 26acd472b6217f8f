use Rattle.std.proofs.Common.{◌<◌, ◌≤◌}
use Rattle.vx_pool_rounds.specs.Forest.{IsForest, IsIdle}
use Rattle.vx_pool_rounds.proofs.rounds.run.Given as goal

abbrev pub invariant-loop-turn : goal.invariant-loop-turn
invariant-loop-turn l = record {
  forest : IsForest l.tree.parents;
  idle : IsIdle l.tree;
  leaf : l.leaf < 42;
  refused : l.refused ≤ l.turn;
}
