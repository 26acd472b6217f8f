use Rattle.std.proofs.Common.{◌∙◌, arith}
use Rattle.vx_account.proofs.Moves.{joins, looks}
use Rattle.vx_account.proofs.Owned.{table_inside}
use Rattle.vx_account.proofs.accounts.Accounts.join.Goals as goal

pub join_seat-requires : goal.join_seat-requires
join_seat-requires c = (
  table_inside _ _ _ _ c.self.view_is c.holder.view_is c.requires.table,
  table_inside _ _ _ _ c.self.view_is c.other.view_is c.requires.other,
  c.other.invariant,
  omega arith,
  joins _ _ _ _ _,
)

pub load-requires : goal.load-requires
load-requires c = (
  c.join_seat.ensures.0 ∙ table_inside _ _ _ _ c.self.view_is c.holder.view_is c.requires.table,
  omega arith,
  looks _ _ _ _,
)
