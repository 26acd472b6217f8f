-- FNV-1a with 64 bits (Fowler, Noll and Vo; draft-eastlake-fnv, sections 2 and 5).
use Rattle.std.specs.Prelude.{ℕ, ◌*◌, ◌%◌, ◌^◌, bit_xor, List}
use Rattle.std.specs.List.{fold}

-- the hash after one more byte: exclusive or first, and then the product with FNV's prime
abbrev pub hash_step : ℕ → ℕ → ℕ
hash_step hash byte = bit_xor hash byte * 1099511628211 % 2 ^ 64

-- the hash that goes on over these bytes
abbrev pub hash_from : ℕ → List ℕ → ℕ
hash_from hash bytes = fold hash_step hash bytes

-- the hash of these bytes, from FNV's offset basis
abbrev pub hash_of : List ℕ → ℕ
hash_of bytes = hash_from 14695981039346656037 bytes
