-- The parts of a block may cross threads: none of them names a thread. Assumes nothing.
use Rattle.std.specs.Prelude.{ℕ, ◌+◌, List, [], ◌∷◌}
use base.Fraction.{full_share}
use base.Shift.{Keyless}
use types.SemTy.{cells}
use denote.Builtin.{u8}
use denote.Memory.{mem}
use denote.Param.Send.{IsSend, IsSync, Frees, Common, part_keyless, owning_send, struct_sync, sendable}
use denote.RattleType.{RattleType}
use denote.RawPtr.{Ptr, block_ptr, null_ptr}
use denote.Slice.{elements_shared}
use denote.Struct.Owning as Owning
use Rattle.std.specs.declared.alloc.Allocator.{Ghosts}
use Rattle.vx_raw.specs.Ownership.{bytes_own, bytes_lent}
use Rattle.vx_raw.specs.contracts.block.Bytes as Bytes
use Rattle.vx_raw.specs.contracts.block.Deed as Deed

byte_moves : IsSend u8
byte_moves = search sendable

byte_shared : IsSync u8
byte_shared = search sendable

owned_bytes : (xs : List ℕ) (b o : ℕ) → Keyless (cells (mem u8) xs b o)
owned_bytes [] b o = tt
owned_bytes (x ∷ xs) b o = (part_keyless u8 byte_moves full_share x b o, owned_bytes xs b (o + 1))

owned_block : (p : Ptr) (xs : List ℕ) → Keyless (bytes_own p xs)
owned_block null_ptr xs = tt
owned_block (block_ptr b o) xs = (tt, owned_bytes xs b o)

lent_bytes : (xs : List ℕ) (b o : ℕ) → Common (elements_shared u8 xs b o)
lent_bytes [] b o κ = tt
lent_bytes (x ∷ xs) b o κ = (byte_shared.shared x b o κ, lent_bytes xs b (o + 1) κ)

lent_block : (p : Ptr) (xs : List ℕ) → Common (bytes_lent p xs)
lent_block null_ptr xs κ = tt
lent_block (block_ptr b o) xs κ = (tt, lent_bytes xs b o κ)

pub bytes_move : IsSend Bytes.the_row
bytes_move = owning_send Bytes.the_type tt (λ c. owned_block c.at c.bytes) (λ _ _ _. tt)

pub bytes_shared : IsSync Bytes.the_row
bytes_shared = record { shared = λ c b o κ. ((struct_sync (Owning.shape Bytes.the_type) tt).shared tt b o κ, lent_block c.at c.bytes κ) }

module _ (Z : RattleType) (g : Ghosts Z.Denot) where
  pub deed_moves : Frees g g.dealloc_token → IsSend (Deed.the_row Z g)
  deed_moves free = owning_send (Deed.the_type Z g) (search sendable, tt) (λ c. free.frees c.alloc _ c.at) (λ _ _ _. tt)

  pub deed_shared : IsSync (Deed.the_row Z g)
  deed_shared = record { shared = λ c b o κ. ((struct_sync (Owning.shape (Deed.the_type Z g)) (search sendable, tt)).shared (tt, tt) b o κ, tt) }
