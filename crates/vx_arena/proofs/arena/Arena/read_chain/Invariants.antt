use Rattle.vx_arena.proofs.Walking.{ReadSoFar}
use Rattle.vx_arena.proofs.arena.Arena.read_chain.Given as goal

abbrev pub invariant-loop-block : goal.invariant-loop-block
invariant-loop-block l = ReadSoFar l.self.chunks l.initial.into.items l.into.items l.fn.len l.due l.fn.first l.name l._block
