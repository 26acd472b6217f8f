use Rattle.std.proofs.Common.{arith}
use Rattle.vx_account.proofs.Moves.{looks}
use Rattle.vx_account.proofs.Owned.{table_inside}
use Rattle.vx_account.proofs.accounts.Accounts.agree.Goals as goal

pub load-requires : goal.load-requires
load-requires c = (
  table_inside _ _ _ _ c.self.view_is c.holder.view_is c.requires.table,
  omega arith,
  looks _ _ _ _,
)
