-- What the field of `Accounts` means. No public clause cites this module.
use Rattle.std.specs.Prelude.{◌≡◌}
use Rattle.vx_account.specs.Holders.{Size}
use Rattle.vx_account.specs.declared.accounts.Accounts.TheInside.{Inside}

abbrev pub size_of : Inside → Size
size_of accounts = record {
  table = accounts.table.shared.table_id;
  accounts = accounts.table.shared.key;
}

abbrev pub HasOneWord : Inside → Type 0
HasOneWord accounts = accounts.table.shared.table_id.words ≡ 1
