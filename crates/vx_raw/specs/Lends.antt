-- What the bytes end as, once a `&mut` to them has ended.
use Rattle.std.specs.Prelude.{ℕ, List}
use Rattle.std.specs.Borrow.{Fml, MutBor, Array, Lends, u8}
use Rattle.vx_raw.specs.declared.block.Bytes.{Bytes}
use Rattle.vx_raw.specs.contracts.block.Bytes.{the_row}

abbrev pub with_bytes : Bytes → List ℕ → Bytes
with_bytes c xs = record { at = c.at; bytes = xs }

abbrev pub lends_bytes : MutBor Bytes → MutBor (List ℕ) → Fml
lends_bytes c r = Lends the_row (Array u8 0) c r (λ ws. with_bytes c.now ws)
