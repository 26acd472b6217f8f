use Rattle.std.specs.Prelude.{true}
use Rattle.vx_account.specs.Names.{no_table}
use Rattle.vx_pool_rounds.proofs.tests.half.Given as goal

-- a run with one job, which may have all of it
abbrev pub ghosts-half_of_a_run : goal.ghosts-half_of_a_run
ghosts-half_of_a_run a = record {
  accounts = 1;
  table = no_table;
  total = a.total;
  max_of = λ _. a.total;
  store_fails = true;
}
