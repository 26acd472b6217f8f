-- What a write to a block's head or payload makes of the block.
use Rattle.std.proofs.Common.{◌≡◌, ℕ, ◌+◌, ◌≤◌, Bool, List, [], ◌∷◌, ◌++◌, length, take, drop, sym, ap, ◌∙◌, arith, w32, cond}
use Rattle.std.proofs.lemmas.List.{append-nil, length-append, length-drop, length-take-le}
use Rattle.std.specs.Int.{to_le_bytes}
use Rattle.vx_raw.specs.Region.{written}
use Rattle.vx_arena.specs.Block.{Block, spelled, bytes_of}
use Rattle.vx_arena.proofs.Writing.{written_back}

pub length-written : (bytes : List ℕ) (at : ℕ) (from : List ℕ) → at + length from ≤ length bytes → length (written bytes at from) ≡ length bytes
length-written bytes at from inside =
    let near : length (take at bytes) ≡ at = length-take-le at bytes (omega arith) in
    rw (length-append (take at bytes ++ from) (drop (at + length from) bytes), length-append (take at bytes) from, length-drop (at + length from) bytes, near) (omega arith)

-- a flag written over the head's
pub live_written : (b : Block) (live : Bool) → bytes_of (record { live = live; payload = b.payload } ∷ []) ≡ written (spelled b) 4 (to_le_bytes w32 (cond live 1 0))
unfolding spelled
live_written b live = append-nil (spelled (record { live = live; payload = b.payload }))

head_of : ℕ → Bool → List ℕ
head_of len live = to_le_bytes w32 len ++ to_le_bytes w32 (cond live 1 0)

-- bytes written over those of the payload
pub payload_written : (b : Block) (to : ℕ) (from : List ℕ) → to + length from ≤ length b.payload → bytes_of (record { live = b.live; payload = written b.payload to from } ∷ []) ≡ written (spelled b) (8 + to) from
unfolding spelled head_of
payload_written b to from inside =
    append-nil (spelled (record { live = b.live; payload = written b.payload to from }))
    ∙ (ap (λ (n : ℕ). head_of n b.live ++ written b.payload to from) (length-written b.payload to from inside)
    ∙ sym (written_back (head_of (length b.payload) b.live) b.payload from to))
