use Rattle.vx_pool.proofs.QuantumLemmas.{IsUnit-4096}
use Rattle.vx_core_tests.proofs.tests.pools.quantums_at_the_ends_of_the_steps.Goals as goal

pub quantum-requires-clause-unit : goal.quantum-requires-clause-unit
quantum-requires-clause-unit g c = IsUnit-4096
