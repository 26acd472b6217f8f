use Rattle.std.proofs.Common.{refl, arith}
use Rattle.vx_account.specs.Holders.{slip}
use Rattle.vx_account.proofs.Moves.{sets}
use Rattle.vx_account.proofs.Owned.{table_inside, book_inside, part_inside, amount_set}
use Rattle.vx_account.proofs.accounts.Accounts.set.Goals as goal

pub compare_exchange_with-requires : goal.compare_exchange_with-requires
compare_exchange_with-requires c = (
  table_inside _ _ _ _ c.self.view_is c.holder.view_is c.requires.table,
  omega arith,
  sets _ _ _ _ c.args.account c.args.amount
      (book_inside _ _ c.args.account c.holder.view_is c.requires.both.book)
      (part_inside _ _ c.args.account c.holder.view_is c.requires.both.part),
)

pub returns : goal.returns
returns c =
    let told = c.compare_exchange_with.ensures in
    record {
      set = amount_set _ _ _ _ _ c.args.account c.args.amount c.holder.view_is
          (told.2.1 (slip c.args.account c.args.amount) refl) told.0;
    }
