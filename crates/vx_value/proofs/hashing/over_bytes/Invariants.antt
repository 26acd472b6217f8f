use Rattle.std.proofs.Common.{◌≡◌, take}
use Rattle.vx_value.specs.Hash.{hash_from}
use Rattle.vx_value.proofs.hashing.over_bytes.Given as goal

abbrev pub invariant-loop-byte : goal.invariant-loop-byte
invariant-loop-byte l = l.hash ≡ hash_from l.fn.from (take l.byte-index l.bytes)
