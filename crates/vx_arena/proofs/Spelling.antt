-- What blocks' bytes are read as, and what a write into one of them does.
use Rattle.std.proofs.Common.{◌≡◌, ℕ, zero, suc, ◌^◌, ◌<◌, ◌≤◌, Bool, true, false, eqb, List, [], ◌∷◌, ◌++◌, length, take, drop, refl, ◌∙◌, arith, w32, cond}
use Rattle.std.proofs.lemmas.Bool.{le-ltb}
use Rattle.std.proofs.lemmas.Nat.{from_le_bytes-to_le_bytes_4}
use Rattle.std.proofs.lemmas.List.{take_at, drop_at, length-append}
use Rattle.std.specs.Int.{to_le_bytes, from_le_bytes}
use Rattle.vx_arena.specs.Block.{Block, size, spelled, bytes_of, front_block, read_blocks, blocks_in, AreShort, IsTiled}

pub length-spelled : (b : Block) → length (spelled b) ≡ size b
unfolding spelled
length-spelled b = omega arith

pub spelled_length : (b : Block) (rest : List ℕ) → length b.payload < 2 ^ 32 → from_le_bytes w32 (spelled b ++ rest) ≡ length b.payload
unfolding spelled
spelled_length b rest short = from_le_bytes-to_le_bytes_4 (length b.payload) short

flag_read : (live : Bool) (rest : List ℕ) → eqb (from_le_bytes w32 (to_le_bytes w32 (cond live 1 0) ++ rest)) 1 ≡ live
flag_read true rest = refl
flag_read false rest = refl

pub spelled_live : (b : Block) (rest : List ℕ) → eqb (from_le_bytes w32 (drop 4 (spelled b ++ rest))) 1 ≡ b.live
unfolding spelled
spelled_live b rest = flag_read b.live (b.payload ++ rest)

pub spelled_payload : (b : Block) (rest : List ℕ) → drop 8 (spelled b ++ rest) ≡ b.payload ++ rest
unfolding spelled
spelled_payload b rest = refl

front_block_is : (b : Block) (rest : List ℕ) → length b.payload < 2 ^ 32 → front_block (spelled b ++ rest) ≡ b
unfolding front_block
front_block_is b rest short =
    let pay : take (from_le_bytes w32 (spelled b ++ rest)) (drop 8 (spelled b ++ rest)) ≡ b.payload =
    rw (spelled_length b rest short) (rw (spelled_payload b rest) (take_at b.payload rest (length b.payload) refl)) in
    λ i. record { live = spelled_live b rest i; payload = pay i }

pub drop_size : (b : Block) (rest : List ℕ) → drop (size b) (spelled b ++ rest) ≡ rest
drop_size b rest = drop_at (spelled b) rest (size b) (length-spelled b)

front_read : (most : ℕ) (bytes : List ℕ) → 8 ≤ length bytes → read_blocks (suc most) bytes ≡ front_block bytes ∷ read_blocks most (drop (size (front_block bytes)) bytes)
unfolding read_blocks
front_read most bytes long = rw (le-ltb (length bytes) 8 long) refl

none_read : (most : ℕ) → read_blocks most [] ≡ []
unfolding read_blocks
none_read zero = refl
none_read (suc most) = refl

read_blocks-bytes_of : (most : ℕ) (blocks : List Block) → AreShort blocks → length blocks ≤ most → read_blocks most (bytes_of blocks) ≡ blocks
read_blocks-bytes_of most [] short enough = none_read most
read_blocks-bytes_of zero (b ∷ rest) short enough = absurd (omega arith)
read_blocks-bytes_of (suc most) (b ∷ rest) short enough =
    let first : front_block (spelled b ++ bytes_of rest) ≡ b = front_block_is b (bytes_of rest) short.0 in
    let after : drop (size b) (spelled b ++ bytes_of rest) ≡ bytes_of rest = drop_size b (bytes_of rest) in
    let later : read_blocks most (bytes_of rest) ≡ rest = read_blocks-bytes_of most rest short.1 (omega arith) in
    let long : 8 ≤ length (spelled b ++ bytes_of rest) = rw (length-append (spelled b) (bytes_of rest), length-spelled b) (omega arith) in
    front_read most (spelled b ++ bytes_of rest) long ∙ (rw first (rw after (rw later refl)))

long_enough : (blocks : List Block) → length blocks ≤ length (bytes_of blocks)
long_enough [] = omega arith
long_enough (b ∷ rest) =
    let later : length rest ≤ length (bytes_of rest) = long_enough rest in
    rw (length-append (spelled b) (bytes_of rest), length-spelled b) (omega arith)

-- reading gives back what was spelled
pub blocks_in-bytes_of : (blocks : List Block) → AreShort blocks → blocks_in (bytes_of blocks) ≡ blocks
unfolding blocks_in
blocks_in-bytes_of blocks short = read_blocks-bytes_of (length (bytes_of blocks)) blocks short (long_enough blocks)

pub tiled_from : (blocks : List Block) → AreShort blocks → IsTiled (bytes_of blocks)
tiled_from blocks short =
    let read : blocks_in (bytes_of blocks) ≡ blocks = blocks_in-bytes_of blocks short in
    record { short = rw read short; spelled_by = rw read refl }
