use Rattle.std.proofs.Common.{◌≡◌, ℕ, ◌+◌, ◌<◌, ◌≤◌, length, get_or}
use Rattle.vx_pool_rounds.proofs.forest.parents.Given as goal

-- what is pushed so far is the beginning of the forest
abbrev pub invariant-loop-node : goal.invariant-loop-node
invariant-loop-node l = record {
  size : length l.list.items + 1 ≡ l.node;
  shape : (i : ℕ) → i < length l.list.items → get_or l.list.items i 0 ≤ i;
  above : (i : ℕ) → i < length l.list.items → get_or l.list.items i 0 < 22;
}
