use Rattle.vx_arena.proofs.Walking.{ComparedSoFar}
use Rattle.vx_arena.proofs.arena.Arena.chain_equals.Given as goal

abbrev pub invariant-loop-block : goal.invariant-loop-block
invariant-loop-block l = ComparedSoFar l.self.chunks l.fn.text l.rest l.fn.len l.due l.fn.first l.name l._block
