-- What stands at a block's place, and what a write inside one block does to the list of blocks.
use Rattle.std.proofs.Common.{inl, inr, ◌≡◌, ◌⊎◌, ℕ, ◌+◌, ◌-◌, ◌^◌, ◌<◌, ◌≤◌, true, false, eqb, Some, None, List, [], ◌∷◌, ◌++◌, length, take, drop, refl, sym, ap, ◌∙◌, subst, arith, cond}
use Rattle.std.proofs.Math.Seq.{take-append-add, drop-append-add}
use Rattle.std.proofs.lemmas.Bool.{cases_eq, cases_lt, ne_eqb, lt-ltb, le-ltb}
use Rattle.std.proofs.lemmas.List.{take-append-le, drop-append-le, append_assoc, length-append, length-drop}
use Rattle.std.proofs.lemmas.List.Concat.{flat_map-append}
use Rattle.vx_raw.specs.Region.{written}
use Rattle.vx_arena.specs.Block.{Block, size, spelled, bytes_of, blocks_in, found, replaced, AreShort, IsTiled}
use Rattle.vx_arena.proofs.Spelling.{length-spelled, drop_size, tiled_from, blocks_in-bytes_of}

pub found_here : (x : Block) (rest : List Block) → found (x ∷ rest) 0 ≡ Some x
unfolding found
found_here x rest = refl

pub found_inside : (x : Block) (rest : List Block) (at : ℕ) → (at ≡ 0 → ⊥) → at < size x → found (x ∷ rest) at ≡ None
unfolding found
found_inside x rest at ne lt = rw (ne_eqb at 0 ne) (rw (lt-ltb at (size x) lt) refl)

pub found_later : (x : Block) (rest : List Block) (at : ℕ) → size x ≤ at → found (x ∷ rest) at ≡ found rest (at - size x)
unfolding found
found_later x rest at ge = rw (ne_eqb at 0 (λ e. omega arith)) (rw (le-ltb at (size x) ge) refl)

pub replaced_here : (x : Block) (rest new : List Block) → replaced (x ∷ rest) 0 new ≡ new ++ rest
unfolding replaced
replaced_here x rest new = refl

pub replaced_later : (x : Block) (rest : List Block) (at : ℕ) (new : List Block) → (at ≡ 0 → ⊥) → replaced (x ∷ rest) at new ≡ x ∷ replaced rest (at - size x) new
unfolding replaced
replaced_later x rest at new ne = rw (ne_eqb at 0 ne) refl

none_is_some : {b : Block} → None ≡ Some b → ⊥
none_is_some is = grind arith

pub none_found : (at : ℕ) (b : Block) → found [] at ≡ Some b → ⊥
unfolding found
none_found at b is = none_is_some is

same_Some : {x b : Block} → Some x ≡ Some b → x ≡ b
same_Some is = cc

pub found_cases : (x : Block) (rest : List Block) (at : ℕ) (b : Block) → found (x ∷ rest) at ≡ Some b → ((at ≡ 0) × (x ≡ b)) ⊎ ((size x ≤ at) × (found rest (at - size x) ≡ Some b))
found_cases x rest at b is = elim (cases_eq at 0) as (λ _. ((at ≡ 0) × (x ≡ b)) ⊎ ((size x ≤ at) × (found rest (at - size x) ≡ Some b))) [
  | inl e ↦ inl (e, same_Some (sym (found_here x rest) ∙ (ap (found (x ∷ rest)) (sym e) ∙ is)))
  | inr ne ↦ elim (cases_lt at (size x)) as (λ _. ((at ≡ 0) × (x ≡ b)) ⊎ ((size x ≤ at) × (found rest (at - size x) ≡ Some b))) [
    | inl lt ↦ absurd (none_is_some (sym (found_inside x rest at ne lt) ∙ is))
    | inr ge ↦ inr (ge, sym (found_later x rest at ge) ∙ is)
  ]
]

pub written_front : (s rest from : List ℕ) (off : ℕ) → off + length from ≤ length s → written (s ++ rest) off from ≡ written s off from ++ rest
written_front s rest from off inside =
    let near : off ≤ length s = omega arith in
    rw (take-append-le off s rest near) (rw (drop-append-le (off + length from) s rest inside) (sym (append_assoc (take off s ++ from) (drop (off + length from) s) rest)))

pub written_back : (s rest from : List ℕ) (k : ℕ) → written (s ++ rest) (length s + k) from ≡ s ++ written rest k from
written_back s rest from k =
    let moved : length s + k + length from ≡ length s + (k + length from) = omega arith in
    rw moved (rw (take-append-add s rest k) (rw (drop-append-add s rest (k + length from)) (rw (append_assoc s (take k rest) from) (append_assoc s (take k rest ++ from) (drop (k + length from) rest)))))

first_at : (x : Block) (tail : List ℕ) → drop 0 (spelled x ++ tail) ≡ spelled x ++ drop (0 + size x) (spelled x ++ tail)
first_at x tail =
    let moved : 0 + size x ≡ size x = omega arith in
    rw moved (rw (drop_size x tail) refl)

later_at : (s tail t : List ℕ) (k n at : ℕ) → at ≡ length s + k → drop k tail ≡ t ++ drop (k + n) tail → drop at (s ++ tail) ≡ t ++ drop (at + n) (s ++ tail)
later_at s tail t k n at place is =
    let moved : length s + k + n ≡ length s + (k + n) = omega arith in
    rw place (rw moved (rw (drop-append-add s tail k) (rw (drop-append-add s tail (k + n)) is)))

-- what stands from the head of a block on
pub found_at : (blocks : List Block) (at : ℕ) (b : Block) → found blocks at ≡ Some b → drop at (bytes_of blocks) ≡ spelled b ++ drop (at + size b) (bytes_of blocks)
found_at [] at b is = absurd (none_found at b is)
found_at (x ∷ rest) at b is = elim (found_cases x rest at b is) as (λ _. drop at (spelled x ++ bytes_of rest) ≡ spelled b ++ drop (at + size b) (spelled x ++ bytes_of rest)) [
  | inl e ↦ subst (λ (n : ℕ). drop n (spelled x ++ bytes_of rest) ≡ spelled b ++ drop (n + size b) (spelled x ++ bytes_of rest)) (sym e.0)
      (subst (λ (y : Block). drop 0 (spelled x ++ bytes_of rest) ≡ spelled y ++ drop (0 + size y) (spelled x ++ bytes_of rest)) e.1 (first_at x (bytes_of rest)))
  | inr later ↦
      let fits : length (spelled x) ≡ size x = length-spelled x in
      let ge : size x ≤ at = later.0 in
      let place : at ≡ length (spelled x) + (at - size x) = omega (arith, fits, ge) in
      later_at (spelled x) (bytes_of rest) (spelled b) (at - size x) (size b) at place (found_at rest (at - size x) b later.1)
]

replaced_first : (b : Block) (rest new : List Block) (off : ℕ) (from : List ℕ) → off + length from ≤ size b → bytes_of new ≡ written (spelled b) off from → bytes_of (replaced (b ∷ rest) 0 new) ≡ written (spelled b ++ bytes_of rest) (0 + off) from
replaced_first b rest new off from inside spells =
    let moved : 0 + off ≡ off = omega arith in
    let fits : off + length from ≤ length (spelled b) = rw (length-spelled b) inside in
    rw moved (rw (replaced_here b rest new) (flat_map-append spelled new rest ∙ (rw spells (sym (written_front (spelled b) (bytes_of rest) from off fits)))))

-- a write inside a block changes its block alone
pub replaced_at : (blocks : List Block) (at : ℕ) (b : Block) (new : List Block) (off : ℕ) (from : List ℕ) → found blocks at ≡ Some b → off + length from ≤ size b → bytes_of new ≡ written (spelled b) off from → bytes_of (replaced blocks at new) ≡ written (bytes_of blocks) (at + off) from
replaced_at [] at b new off from is inside spells = absurd (none_found at b is)
replaced_at (x ∷ rest) at b new off from is inside spells = elim (found_cases x rest at b is) as (λ _. bytes_of (replaced (x ∷ rest) at new) ≡ written (spelled x ++ bytes_of rest) (at + off) from) [
  | inl e ↦ subst (λ (n : ℕ). bytes_of (replaced (x ∷ rest) n new) ≡ written (spelled x ++ bytes_of rest) (n + off) from) (sym e.0)
      (subst (λ (y : Block). bytes_of (replaced (y ∷ rest) 0 new) ≡ written (spelled y ++ bytes_of rest) (0 + off) from) (sym e.1) (replaced_first b rest new off from inside spells))
  | inr later ↦
      let fits : length (spelled x) ≡ size x = length-spelled x in
      let ge : size x ≤ at = later.0 in
      let ne : at ≡ 0 → ⊥ = λ e. omega (arith, ge, e) in
      let place : at + off ≡ length (spelled x) + ((at - size x) + off) = omega (arith, fits, ge) in
      let below : bytes_of (replaced rest (at - size x) new) ≡ written (bytes_of rest) ((at - size x) + off) from = replaced_at rest (at - size x) b new off from later.1 inside spells in
      rw place (rw (replaced_later x rest at new ne) (ap (λ (t : List ℕ). spelled x ++ t) below ∙ sym (written_back (spelled x) (bytes_of rest) from ((at - size x) + off))))
]

AreShort-append : (new rest : List Block) → AreShort new → AreShort rest → AreShort (new ++ rest)
AreShort-append [] rest short more = more
AreShort-append (b ∷ new) rest short more = (short.0, AreShort-append new rest short.1 more)

pub replaced_short : (blocks : List Block) (at : ℕ) (new : List Block) → AreShort blocks → AreShort new → AreShort (replaced blocks at new)
unfolding replaced
replaced_short [] at new short more = tt
replaced_short (x ∷ rest) at new short more = elim (eqb at 0) as (λ t. AreShort (cond t (new ++ rest) (x ∷ replaced rest (at - size x) new))) [
  | true ↦ AreShort-append new rest more short.1
  | false ↦ (short.0, replaced_short rest (at - size x) new short.1 more)
]

pub found_short : (blocks : List Block) (at : ℕ) (b : Block) → AreShort blocks → found blocks at ≡ Some b → length b.payload < 2 ^ 32
found_short [] at b short is = absurd (none_found at b is)
found_short (x ∷ rest) at b short is = elim (found_cases x rest at b is) as (λ _. length b.payload < 2 ^ 32) [
  | inl e ↦ subst (λ (y : Block). length y.payload < 2 ^ 32) e.1 short.0
  | inr later ↦ found_short rest (at - size x) b short.1 later.1
]

-- where a block stands in a chunk: it lies inside, and from its head on come its bytes
pub record Stands (bytes : List ℕ) (at : ℕ) (b : Block) : Type 0 where
  pub from : drop at bytes ≡ spelled b ++ drop (at + size b) bytes
  pub end : at + size b ≤ length bytes
  pub short : length b.payload < 2 ^ 32

pub stands : (bytes : List ℕ) (at : ℕ) (b : Block) → IsTiled bytes → found (blocks_in bytes) at ≡ Some b → Stands bytes at b
stands bytes at b tiled is =
    let from : drop at bytes ≡ spelled b ++ drop (at + size b) bytes =
    subst (λ (t : List ℕ). drop at t ≡ spelled b ++ drop (at + size b) t) tiled.spelled_by (found_at (blocks_in bytes) at b is) in
    let count : length bytes - at ≡ size b + length (drop (at + size b) bytes) =
    sym (length-drop at bytes) ∙ (ap length from ∙ (length-append (spelled b) (drop (at + size b) bytes) ∙ rw (length-spelled b) refl)) in
    record { from = from; end = omega (arith, count); short = found_short (blocks_in bytes) at b tiled.short is }

-- a chunk after a write inside a block
pub record Puts (bytes : List ℕ) (at off : ℕ) (from : List ℕ) (new : List Block) : Type 0 where
  pub tiled : IsTiled (written bytes (at + off) from)
  pub blocks : blocks_in (written bytes (at + off) from) ≡ replaced (blocks_in bytes) at new

pub puts : (bytes : List ℕ) (at : ℕ) (b : Block) (new : List Block) (off : ℕ) (from : List ℕ) → IsTiled bytes → found (blocks_in bytes) at ≡ Some b → off + length from ≤ size b → bytes_of new ≡ written (spelled b) off from → AreShort new → Puts bytes at off from new
puts bytes at b new off from tiled is inside spells short =
    let all : AreShort (replaced (blocks_in bytes) at new) = replaced_short (blocks_in bytes) at new tiled.short short in
    let same : bytes_of (replaced (blocks_in bytes) at new) ≡ written bytes (at + off) from =
    subst (λ (t : List ℕ). bytes_of (replaced (blocks_in bytes) at new) ≡ written t (at + off) from) tiled.spelled_by (replaced_at (blocks_in bytes) at b new off from is inside spells) in
    record {
      tiled = subst IsTiled same (tiled_from (replaced (blocks_in bytes) at new) all);
      blocks = subst (λ (t : List ℕ). blocks_in t ≡ replaced (blocks_in bytes) at new) same (blocks_in-bytes_of (replaced (blocks_in bytes) at new) all);
    }
