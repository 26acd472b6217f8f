use Rattle.vx_pool.proofs.QuantumLemmas.{IsUnit-4096}
use Rattle.vx_core_tests.proofs.tests.pools.pool.Goals as goal

pub new-requires-clause-unit : goal.new-requires-clause-unit
new-requires-clause-unit c = IsUnit-4096
