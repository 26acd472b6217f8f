-- What the parts of a block own and lend.
use Rattle.std.specs.Prelude.{ℕ, ◌^◌, List, length}
use base.Fml.{Lft, Fml, ffalse, fsep, flt}
use mir.Syntax.{Ty, w8, ty_int, ty_array}
use types.SemTy.{cells}
use denote.Builtin.{u8}
use denote.Memory.{mem}
use denote.Slice.{elements_shared}
use denote.Sharing.{said, beside}
use denote.RawPtr.{Ptr, block_ptr, null_ptr, room_for}

-- the type that a block of n bytes is taken for
abbrev pub bytes_type : ℕ → Ty
bytes_type n = ty_array (ty_int w8) n

-- room for n bytes at p
abbrev pub room_own : Ptr → ℕ → Fml
room_own p n = fsep (flt n (2 ^ 63)) (room_for (bytes_type n) p)

-- the bytes xs at p
abbrev pub bytes_own : Ptr → List ℕ → Fml
bytes_own (block_ptr b o) xs = fsep (flt (length xs) (2 ^ 63)) (cells (mem u8) xs b o)
bytes_own null_ptr xs = ffalse

-- what a `&` to their owner holds
abbrev pub bytes_lent : Ptr → List ℕ → Lft → Fml
bytes_lent (block_ptr b o) xs = beside (said (flt (length xs) (2 ^ 63))) (elements_shared u8 xs b o)
bytes_lent null_ptr xs = said ffalse
