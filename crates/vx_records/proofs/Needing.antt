-- How many bytes of chunks so many records take, for owners that count before they add.
use Rattle.std.proofs.Common.{◌≡◌, ℕ, ◌+◌, ◌*◌, ◌<◌, ◌≤◌, List, [], ◌∷◌, length, sym, ap, ◌∙◌, subst, arith}
use Rattle.std.specs.Int.{div_ceil}
use Rattle.vx_records.specs.Record.{Record, RecordsModel, rows_a_chunk, chunk_bytes}
use Rattle.vx_records.specs.Adding.{AddsRecords, bytes_of}
use Rattle.vx_records.specs.Frame.{per_chunk}
use Rattle.vx_records.proofs.Counting.{per_some, div_ceil_add, div_ceil_more}

pub rows_some : (len : ℕ) → len + 8 ≤ 4096 → 0 < rows_a_chunk len
unfolding per_chunk
rows_some len most = per_some (8 + len) (omega arith) (omega (arith, most))

-- at most so many numbers more take at most the chunks of so many records
pub chunks_more : (len before more after : ℕ) → len + 8 ≤ 4096 → after ≤ before + more → chunk_bytes len after ≤ chunk_bytes len before + chunk_bytes len more
chunks_more len before more after most few =
    let rows : ℕ = rows_a_chunk len in
    let some : 0 < rows_a_chunk len = rows_some len most in
    let up : div_ceil after (rows_a_chunk len) ≤ div_ceil (before + more) (rows_a_chunk len) = div_ceil_more after (before + more) (rows_a_chunk len) some few in
    let both : div_ceil (before + more) (rows_a_chunk len) ≤ div_ceil before (rows_a_chunk len) + div_ceil more (rows_a_chunk len) = div_ceil_add before more (rows_a_chunk len) some in
    four (div_ceil after (rows_a_chunk len)) (div_ceil before (rows_a_chunk len)) (div_ceil more (rows_a_chunk len)) (omega (arith, up, both))
  where
    four : (a b c : ℕ) → a ≤ b + c → 4096 * a ≤ 4096 * b + 4096 * c
    four a b c le = omega (arith, le)

-- so many added records are at most so many numbers more
pub numbers_more : (before after : RecordsModel) (added : List Record) → AddsRecords before added after → length after.records ≤ length before.records + length added
numbers_more before after [] adds = let same : length after.records ≡ length before.records = ap (λ (m : RecordsModel). length m.records) adds in omega (arith, same)
numbers_more before after (r ∷ rest) adds =
    let middle : RecordsModel = adds.1 in
    let one : length adds.1.records ≤ length before.records + 1 = adds.2.count in
    let others : length after.records ≤ length adds.1.records + length rest = numbers_more adds.1 after rest adds.3 in
    omega (arith, one, others)

pub len_kept : (before after : RecordsModel) (added : List Record) → AddsRecords before added after → after.len ≡ before.len
len_kept before after [] adds = ap (λ (m : RecordsModel). m.len) adds
len_kept before after (r ∷ rest) adds = len_kept adds.1 after rest adds.3 ∙ adds.2.len

-- the chunks taken by so many added records are at most those that they would need alone
pub bytes_more : (before after : RecordsModel) (added : List Record) → before.len + 8 ≤ 4096 → AddsRecords before added after → bytes_of after ≤ bytes_of before + chunk_bytes before.len (length added)
bytes_more before after added most adds =
    subst (λ (n : ℕ). chunk_bytes n (length after.records) ≤ bytes_of before + chunk_bytes before.len (length added)) (sym (len_kept before after added adds))
    (chunks_more before.len (length before.records) (length added) (length after.records) most (numbers_more before after added adds))
