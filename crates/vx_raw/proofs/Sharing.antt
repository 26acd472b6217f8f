-- A `&` to a block's bytes is a `&` to each of them. Assumes `Logic`.
use Prim.Native.Nat.{ℕ, ◌+◌, ◌^◌}
use Rattle.std.specs.Prelude.{List, [], ◌∷◌, length, refl}
use seplogic.Ra.Ura.{Ura}
use base.Fml.{Lft, Incl, Fml, ftrue, ffalse, flt}
use types.Logic.{Logic}
use types.SemTy.{cells}
use denote.Builtin.{u8}
use denote.Memory.{mem, shared_of}
use denote.Param.Laws.{Laws, of_field}
use denote.Param.Shared.{copy_shared}
use denote.RawPtr.{Ptr, block_ptr, null_ptr}
use denote.Sharing.{ShrLaws, said}
use denote.SharingLaws.{beside_shr_laws, said_shr_laws}
use denote.Shares.{Shares-less}
use denote.Slice.{elements_shared, elements_shr_laws}
use denote.Struct.Field.{u8-field}
use denote.Struct.Laws.{u8-laws, u8-copy}
use denote.Struct.Lending.{Lends, Lends-both, Lends-nothing, Lends-said, Lends-false}
use Rattle.vx_raw.specs.Ownership.{bytes_own, bytes_lent}

abbrev of_a_byte : Laws u8
of_a_byte = of_field u8-field u8-laws refl (copy_shared u8-field u8-copy)

-- that there are not too many
abbrev few : List ℕ → Fml
few xs = flt (length xs) (2 ^ 63)

pub lent_laws : (p : Ptr) (xs : List ℕ) → ShrLaws (bytes_lent p xs)
lent_laws null_ptr xs = said_shr_laws ffalse tt
lent_laws (block_ptr b o) xs = beside_shr_laws (said (few xs)) (elements_shared u8 xs b o) (said_shr_laws (few xs) tt) (elements_shr_laws u8 of_a_byte.shr_laws xs b o)

module _ {M : Type 1} {𝓤 : Ura M} (𝓛 : Logic 𝓤) (life : Lft) (within : Incl life u8.lives) where
  each_lends : (xs : List ℕ) (b o : ℕ) → Lends 𝓛 (cells (mem u8) xs b o) (elements_shared u8 xs b o) life
  each_lends [] b o = Lends-nothing 𝓛 ftrue life
  each_lends (x ∷ rest) b o =
      let first : Lends 𝓛 ((mem u8).own_at x b o) (shared_of u8 x b o) life = λ κ tokens. Shares-less 𝓛 u8 u8.lives life within (of_a_byte.shares 𝓛) x κ tokens b o in
      Lends-both 𝓛 ((mem u8).own_at x b o) (cells (mem u8) rest b (o + 1)) (shared_of u8 x b o) (elements_shared u8 rest b (o + 1)) life first (each_lends rest b (o + 1))

  pub block_lends : (p : Ptr) (xs : List ℕ) → Lends 𝓛 (bytes_own p xs) (bytes_lent p xs) life
  block_lends null_ptr xs = Lends-false 𝓛 (said ffalse) life
  block_lends (block_ptr b o) xs = Lends-both 𝓛 (few xs) (cells (mem u8) xs b o) (said (few xs)) (elements_shared u8 xs b o) life (Lends-said 𝓛 (few xs) tt life) (each_lends xs b o)
