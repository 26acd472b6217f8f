-- Blocks by name: what a change of one block, a cut and a new chunk do.
use Rattle.std.proofs.Common.{inl, inr, ◌≡◌, ℕ, ◌+◌, ◌-◌, ◌/◌, ◌%◌, ◌^◌, ◌<◌, ◌≤◌, Some, List, [], ◌∷◌, ◌++◌, length, set, refl, sym, ap, ◌∙◌, subst, arith}
use Rattle.std.specs.List.{sum_by}
use Rattle.std.proofs.lemmas.List.Sums.{sum_by-cons, sum_by-set, sum_by-append}
use Rattle.std.proofs.lemmas.List.{length-append, length-set}
use Rattle.vx_raw.specs.declared.place.Place.{Place}
use Rattle.vx_arena.specs.Block.{Block, size, spelled, bytes_of, found, replaced}
use Rattle.vx_arena.specs.Chunks.{Chunks, blocks_at, found_in, block_at, IsBlock, with_blocks, held_by}
use Rattle.vx_arena.specs.Names.{place_of, block_of, named, IsNamed, one_if, lives_in, lives, Changes}
use Rattle.vx_arena.proofs.Cutting.{block_chunk, found_again}
use Rattle.vx_arena.proofs.Spelling.{length-spelled}
use Rattle.vx_arena.proofs.Surviving.{others_found}
use Rattle.vx_arena.proofs.Writing.{found_cases, replaced_here, replaced_later, none_found}

-- two names of one place are one name
pub same_name : (n m : ℕ) → n % 2 ^ 32 ≡ m % 2 ^ 32 → n / 2 ^ 32 ≡ m / 2 ^ 32 → n ≡ m
same_name n m chunk at = omega arith

-- a sum over blocks, where some stand in place of one
sum_replaced : (f : Block → ℕ) (blocks : List Block) (at : ℕ) (b : Block) (new : List Block) → found blocks at ≡ Some b → sum_by f (replaced blocks at new) + f b ≡ sum_by f blocks + sum_by f new
sum_replaced f [] at b new is = absurd (none_found at b is)
sum_replaced f (x ∷ more) at b new is = elim (found_cases x more at b is) as (λ _. sum_by f (replaced (x ∷ more) at new) + f b ≡ sum_by f (x ∷ more) + sum_by f new) [
  | inl e ↦
      let here : replaced (x ∷ more) at new ≡ new ++ more = ap (λ (n : ℕ). replaced (x ∷ more) n new) e.0 ∙ replaced_here x more new in
      let all : sum_by f (x ∷ more) ≡ f x + sum_by f more = sum_by-cons f x more in
      let split : sum_by f (replaced (x ∷ more) at new) ≡ sum_by f new + sum_by f more = ap (sum_by f) here ∙ sum_by-append f new more in
      let same : f x ≡ f b = ap f e.1 in
      omega (arith, all, split, same)
  | inr later ↦
      let ge : size x ≤ at = later.0 in
      let away : at ≡ 0 → ⊥ = λ e. omega (arith, ge, e) in
      let below : sum_by f (replaced more (at - size x) new) + f b ≡ sum_by f more + sum_by f new = sum_replaced f more (at - size x) b new later.1 in
      let all : sum_by f (x ∷ more) ≡ f x + sum_by f more = sum_by-cons f x more in
      let split : sum_by f (replaced (x ∷ more) at new) ≡ f x + sum_by f (replaced more (at - size x) new) = ap (sum_by f) (replaced_later x more at new away) ∙ sum_by-cons f x (replaced more (at - size x) new) in
      omega (arith, all, split, below)
]

pub bytes_count : (blocks : List Block) → length (bytes_of blocks) ≡ sum_by size blocks
bytes_count [] = refl
bytes_count (b ∷ rest) =
    let later : length (bytes_of rest) ≡ sum_by size rest = bytes_count rest in
    let all : sum_by size (b ∷ rest) ≡ size b + sum_by size rest = sum_by-cons size b rest in
    let here : length (spelled b) ≡ size b = length-spelled b in
    let both : length (spelled b ++ bytes_of rest) ≡ length (spelled b) + length (bytes_of rest) = length-append (spelled b) (bytes_of rest) in
    omega (arith, later, all, here, both)

-- and over chunks
pub held_with : (chunks : Chunks) (place : Place) (b : Block) (new : List Block) → found_in chunks place ≡ Some b → sum_by size new ≡ size b → held_by (with_blocks chunks place new) ≡ held_by chunks
held_with chunks place b new is same =
    let there : place.chunk < length chunks = block_chunk chunks place b is in
    let blocks : List Block = blocks_at chunks place.chunk in
    let part : sum_by size (replaced blocks place.at new) + size b ≡ sum_by size blocks + sum_by size new = sum_replaced size blocks place.at b new is in
    let whole : held_by (with_blocks chunks place new) + length (bytes_of blocks) ≡ held_by chunks + length (bytes_of (replaced blocks place.at new)) =
    sum_by-set (λ (bs : List Block). length (bytes_of bs)) chunks place.chunk (replaced blocks place.at new) [] there in
    let one : length (bytes_of blocks) ≡ sum_by size blocks = bytes_count blocks in
    let two : length (bytes_of (replaced blocks place.at new)) ≡ sum_by size (replaced blocks place.at new) = bytes_count (replaced blocks place.at new) in
    omega (arith, part, whole, one, two, same)

pub lives_with : (chunks : Chunks) (place : Place) (b : Block) (new : List Block) → found_in chunks place ≡ Some b → lives (with_blocks chunks place new) + one_if b.live ≡ lives chunks + lives_in new
unfolding lives lives_in
lives_with chunks place b new is =
    let there : place.chunk < length chunks = block_chunk chunks place b is in
    let blocks : List Block = blocks_at chunks place.chunk in
    let part : lives_in (replaced blocks place.at new) + one_if b.live ≡ lives_in blocks + lives_in new = sum_replaced (λ (x : Block). one_if x.live) blocks place.at b new is in
    let whole : lives (with_blocks chunks place new) + lives_in blocks ≡ lives chunks + lives_in (replaced blocks place.at new) = sum_by-set lives_in chunks place.chunk (replaced blocks place.at new) [] there in
    omega (arith, part, whole)

pub lives_one : (c : Block) → lives_in (c ∷ []) ≡ one_if c.live
unfolding lives_in
lives_one c = let all : sum_by (λ (x : Block). one_if x.live) (c ∷ []) ≡ one_if c.live + 0 = sum_by-cons (λ (x : Block). one_if x.live) c [] in omega (arith, all)

pub size_one : (c : Block) → sum_by size (c ∷ []) ≡ size c
size_one c = let all : sum_by size (c ∷ []) ≡ size c + 0 = sum_by-cons size c [] in omega (arith, all)

-- one block as long in place of one
pub changes : (chunks after : Chunks) (name : ℕ) (c : Block) → IsNamed chunks name → size c ≡ size (named chunks name) → after ≡ with_blocks chunks (place_of name) (c ∷ []) → Changes chunks after name c
unfolding block_of named
changes chunks after name c there same is =
    let place : Place = place_of name in
    let b : Block = named chunks name in
    let count : lives (with_blocks chunks place (c ∷ [])) + one_if b.live ≡ lives chunks + lives_in (c ∷ []) = lives_with chunks place b (c ∷ []) there in
    let one : lives_in (c ∷ []) ≡ one_if c.live = lives_one c in
    subst (λ (v : Chunks). Changes chunks v name c) (sym is) (record {
      there = found_again chunks place b c there;
      others = λ n ne. others_found chunks place (place_of n) b c there same (λ chunk at. ne (same_name n name chunk at));
      count = omega (arith, count, one);
      held = held_with chunks place b (c ∷ []) there (size_one c ∙ same);
      many = length-set chunks place.chunk (replaced (blocks_at chunks place.chunk) place.at (c ∷ []));
    })

pub named_at : (chunks : Chunks) (name : ℕ) (p : Place) → p ≡ place_of name → IsNamed chunks name → IsBlock chunks p
unfolding block_of named
named_at chunks name p is there = subst (λ (q : Place). IsBlock chunks q) (sym is) there

pub named_is : (chunks : Chunks) (name : ℕ) (p : Place) → p ≡ place_of name → block_at chunks p ≡ named chunks name
unfolding named
named_is chunks name p is = ap (λ (q : Place). block_at chunks q) is

-- a change at the place of a name
pub changes_at : (f : Block → Block) (chunks after : Chunks) (name : ℕ) (p : Place) → p ≡ place_of name → IsNamed chunks name → size (f (named chunks name)) ≡ size (named chunks name) → after ≡ with_blocks chunks p (f (block_at chunks p) ∷ []) → Changes chunks after name (f (named chunks name))
unfolding named
changes_at f chunks after name p is there same set =
    changes chunks after name (f (named chunks name)) there same (set ∙ ap (λ (q : Place). with_blocks chunks q (f (block_at chunks q) ∷ [])) is)
