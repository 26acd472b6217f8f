use Rattle.std.proofs.Common.{◌∙◌, ap, refl, arith}
use Rattle.vx_account.specs.Holders.{slip}
use Rattle.vx_account.specs.Kinds.{Sat}
use Rattle.vx_account.proofs.Moves.{asks, splits}
use Rattle.vx_account.proofs.Owned.{table_inside, part_given, part_left}
use Rattle.vx_account.proofs.accounts.Accounts.part.Goals as goal

pub compare_exchange_with-requires : goal.compare_exchange_with-requires
compare_exchange_with-requires c = (
  table_inside _ _ _ _ c.self.view_is c.holder.view_is c.requires.table,
  omega arith,
  asks _ _ _ _ (slip c.args.account 0),
)

pub split_seat-token-requires : goal.split_seat-token-requires
split_seat-token-requires c = (
  c.compare_exchange_with.ensures.0 ∙ table_inside _ _ _ _ c.self.view_is c.holder.view_is c.requires.table,
  omega arith,
  splits _ _ _,
)

pub returns-clause-given : goal.returns-clause-given
returns-clause-given c =
    let told = c.compare_exchange_with.ensures.2 in
    let cut = c.split_seat-token.ensures in
    part_given _ _ _ _ _ _ c.args.account c.holder.view_is c.requires.part told.2
    (told.1 (slip c.args.account 0) refl) (ap (λ (m : Sat). m.0) cut.4) (cut.3 ∙ c.compare_exchange_with.ensures.0)

pub returns-clause-left : goal.returns-clause-left
returns-clause-left c =
    let told = c.compare_exchange_with.ensures.2 in
    let cut = c.split_seat-token.ensures in
    part_left _ _ _ c.holder.inside.token.me.0 _ _ c.args.account c.holder.view_is (told.1 (slip c.args.account 0) refl)
    (ap (λ (m : Sat). m.0) cut.2) (cut.0 ∙ c.compare_exchange_with.ensures.0)
