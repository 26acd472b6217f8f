-- A chunk of one free block.
use Rattle.std.proofs.Common.{suc, inl, inr, ◌≡◌, ℕ, ◌+◌, ◌^◌, ◌<◌, ◌≤◌, false, List, [], ◌∷◌, ◌++◌, length, drop, get_or, set, replicate, refl, sym, ap, ◌∙◌, subst, arith}
use Rattle.std.proofs.lemmas.Bool.{cases_order}
use Rattle.std.proofs.lemmas.List.Sums.{sum_by-cons}
use Rattle.std.proofs.lemmas.List.{append-nil, length-replicate, drop-replicate, get_or_append_left, get_or_push, get_or_past, length_push, set_at, map_push}
use Rattle.vx_raw.specs.Region.{RegionModel, chunk_at, written, after_grow, bytes_held}
use Rattle.vx_arena.specs.Block.{Block, spelled, bytes_of, blocks_in}
use Rattle.vx_arena.specs.Chunks.{chunks_of, IsTiling, IsWhole, with_chunk, held_by}
use Rattle.vx_arena.proofs.Cutting.{head_bytes}
use Rattle.vx_arena.proofs.Spelling.{length-spelled, tiled_from, blocks_in-bytes_of}

free_written : (n m : ℕ) → n + 8 ≡ m → bytes_of (record { live = false; payload = replicate n 0 } ∷ []) ≡ written (replicate m 0) 0 (head_bytes n)
unfolding spelled
free_written n m is =
    let count : length (replicate {A = ℕ} n 0) ≡ n = length-replicate {A = ℕ} n 0 in
    let rest : drop 8 (replicate m 0) ≡ replicate n 0 = drop-replicate 8 m 0 ∙ ap (λ (k : ℕ). replicate k 0) (omega (arith, is)) in
    append-nil (spelled (record { live = false; payload = replicate n 0 }))
    ∙ (ap (λ (k : ℕ). head_bytes k ++ replicate n 0) count ∙ ap (λ (x : List ℕ). head_bytes n ++ x) (sym rest))

whole_nil : IsWhole []
whole_nil = record { tiled = tiled_from [] tt; within = omega arith }

push_tiling : (region : RegionModel) (bytes : List ℕ) → IsTiling region → IsWhole bytes → IsTiling (region ++ bytes ∷ [])
push_tiling region bytes tiling whole k = elim (cases_order k (length region)) as (λ _. IsWhole (get_or (region ++ bytes ∷ []) k [])) [
  | inl e ↦ subst IsWhole (sym (get_or_push region bytes [] k (sym e))) whole
  | inr other ↦ elim (other) as (λ _. IsWhole (get_or (region ++ bytes ∷ []) k [])) [
    | inl lt ↦ subst IsWhole (sym (get_or_append_left region (bytes ∷ []) [] k lt)) (tiling k)
    | inr gt ↦
        let count : length (region ++ bytes ∷ []) ≡ length region + 1 = length_push region bytes in
        subst IsWhole (sym (get_or_past (region ++ bytes ∷ []) k [] (omega (arith, count, gt)))) whole_nil
  ]
]

-- a region after a chunk was added and its one block's head written
pub record Adds (region now : RegionModel) : Type 0 where
  pub tiling : IsTiling now
  pub chunks : chunks_of now ≡ with_chunk (chunks_of region)

pub adds : (region now : RegionModel) (number bytes : ℕ) (from : List ℕ) → IsTiling region → number ≡ length region → bytes ≡ 4096 → from ≡ head_bytes 4088 → now ≡ set (after_grow region bytes) number (written (chunk_at (after_grow region bytes) number) 0 from) → Adds region now
adds region now number bytes from tiling place count head is =
    let free : List Block = record { live = false; payload = replicate 4088 0 } ∷ [] in
    let zeros : chunk_at (after_grow region bytes) number ≡ replicate bytes 0 = get_or_push region (replicate bytes 0) [] number (sym place) in
    let spells : bytes_of free ≡ written (replicate bytes 0) 0 from = subst (λ (f : List ℕ). bytes_of free ≡ written (replicate bytes 0) 0 f) (sym head) (free_written 4088 bytes (omega (arith, count))) in
    let short : length (replicate {A = ℕ} 4088 0) < 2 ^ 32 = omega arith in
    let made : now ≡ region ++ bytes_of free ∷ [] =
    is ∙ (ap (λ (x : List ℕ). set (after_grow region bytes) number (written x 0 from)) zeros
    ∙ (set_at region (replicate bytes 0) [] (written (replicate bytes 0) 0 from) number (sym place)
    ∙ ap (λ (x : List ℕ). region ++ x ∷ []) (sym spells))) in
    let size_is : length (bytes_of free) ≡ 8 + length (replicate {A = ℕ} 4088 0) = ap length (append-nil (spelled (record { live = false; payload = replicate 4088 0 }))) ∙ length-spelled (record { live = false; payload = replicate 4088 0 }) in
    let zeros_are : length (replicate {A = ℕ} 4088 0) ≡ 4088 = length-replicate {A = ℕ} 4088 0 in
    let few : length (bytes_of free) ≤ 4096 = omega (arith, size_is, zeros_are) in
    let whole : IsWhole (bytes_of free) = record { tiled = tiled_from free (short, tt); within = few } in
    record {
      tiling = subst IsTiling (sym made) (push_tiling region (bytes_of free) tiling whole);
      chunks = ap chunks_of made ∙ (map_push blocks_in region (bytes_of free) ∙ ap (λ (x : List Block). chunks_of region ++ x ∷ []) (blocks_in-bytes_of free (short, tt)));
    }

pub empty_tiling : IsTiling []
empty_tiling k = whole_nil

-- the count of a region's bytes is that of its blocks' bytes
pub held_same : (region : RegionModel) → IsTiling region → bytes_held region ≡ held_by (chunks_of region)
held_same [] tiling = refl
held_same (bytes ∷ rest) tiling =
    let here : length (bytes_of (blocks_in bytes)) ≡ length bytes = ap length (tiling 0).tiled.spelled_by in
    let later : bytes_held rest ≡ held_by (chunks_of rest) = held_same rest (λ k. tiling (suc k)) in
    let left : bytes_held (bytes ∷ rest) ≡ length bytes + bytes_held rest = sum_by-cons length bytes rest in
    let right : held_by (chunks_of (bytes ∷ rest)) ≡ length (bytes_of (blocks_in bytes)) + held_by (chunks_of rest) = sum_by-cons (λ (bs : List Block). length (bytes_of bs)) (blocks_in bytes) (chunks_of rest) in
    omega (arith, here, later, left, right)
