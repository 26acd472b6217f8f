-- What the field of a `Holder` means. No public clause cites this module.
use Rattle.std.specs.Prelude.{◌≡◌, []}
use Rattle.vx_account.specs.Holders.{Held}
use Rattle.vx_account.specs.declared.accounts.Holder.TheInside.{Inside}

abbrev pub held_of : Inside → Held
held_of holder = record {
  table = holder.token.table_id;
  books = holder.token.me.0.books;
  parts = holder.token.me.0.parts;
}

-- the accounts' table has no slots that a holder could have
abbrev pub HasNoSlots : Inside → Type 0
HasNoSlots holder = holder.token.me.1 ≡ []
