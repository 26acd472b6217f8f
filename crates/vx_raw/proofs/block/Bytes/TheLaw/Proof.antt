-- A `&` to the owner reaches each byte. Assumes `Logic`.
use mathlib.Core.List.{[]}
use base.Fml.{Incl-refl}
use denote.Struct.Lending.{of_Lends}
use Rattle.vx_raw.specs.contracts.block.Bytes as Bytes
use Rattle.vx_raw.proofs.block.Bytes.TheLaw.Statement.{statement}
use Rattle.vx_raw.proofs.Sharing.{lent_laws, block_lends}

pub shares : statement
shares = of_Lends Bytes.struct Bytes.the_codes Bytes.the_heap Bytes.the_lent (λ c p. lent_laws c.at c.bytes) tt (λ M 𝓤 𝓛 c p. block_lends 𝓛 Bytes.the_row.lives (Incl-refl []) c.at c.bytes)
