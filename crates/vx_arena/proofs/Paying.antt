-- How many chunks are made, by the bytes of the blocks that are taken.
use Rattle.std.proofs.Common.{inl, inr, ◌≡◌, ◌⊎◌, ℕ, ◌+◌, ◌-◌, ◌*◌, ◌<◌, ◌≤◌, Some, refl, sym, ap, ◌∙◌, subst, arith}
use Rattle.std.proofs.lemmas.Bool.{cases_eq}
use Rattle.vx_arena.specs.Chunks.{Chunks, held_by}
use Rattle.vx_arena.specs.Names.{len_at}
use Rattle.vx_arena.specs.Free.{class_len}
use Rattle.vx_arena.specs.Part.{IsSpare, CutFrom, CutNew, Takes, Paid, none_made, spare_left, all_paid, PaysMore, Pays}
use Rattle.vx_arena.proofs.Classes.{class_len_most}

-- so chunks are at most as many as the bytes taken say
few_chunks : (chunks : Chunks) (made spent : ℕ) → Paid chunks made spent → 2041 * made ≤ spent + 2041
few_chunks chunks made spent (none_made e) = omega (arith, e)
few_chunks chunks made spent (spare_left n l s most le) = omega (arith, le, most)
few_chunks chunks made spent (all_paid le) = omega (arith, le)

pub pays_so : (a d : Chunks) (made spent cost chunks : ℕ) → held_by d ≡ held_by a + 4096 * chunks → (cost ≡ 0 → chunks ≡ 0) → Paid d (made + chunks) (spent + cost) → PaysMore a d made spent cost
pays_so a d made spent cost chunks held none paid = record { chunks = chunks; held = held; none = none; paid = paid; few = few_chunks d (made + chunks) (spent + cost) paid }

-- no chunk was made, and each free block is left
paid_kept : (a d : Chunks) (made spent : ℕ) → ((n l : ℕ) → IsSpare a n l → IsSpare d n l) → Paid a made spent → Paid d (made + 0) (spent + 0)
paid_kept a d made spent kept (none_made e) = none_made (omega (arith, e))
paid_kept a d made spent kept (spare_left n l s most le) = spare_left n l (kept n l s) most (omega (arith, le))
paid_kept a d made spent kept (all_paid le) = all_paid (omega (arith, le))

pub pays_kept : (a d : Chunks) → held_by d ≡ held_by a → ((n l : ℕ) → IsSpare a n l → IsSpare d n l) → Pays a d 0
pays_kept a d held kept made spent paid = pays_so a d made spent 0 0 (omega (arith, held)) (λ e. e) (paid_kept a d made spent kept paid)

left_none : (x y : ℕ) → x + y ≡ 0 → x ≡ 0
left_none x y e = omega (arith, e)

right_none : (x y : ℕ) → x + y ≡ 0 → y ≡ 0
right_none x y e = omega (arith, e)

no_sum : (m n : ℕ) → m ≡ 0 → n ≡ 0 → m + n ≡ 0
no_sum m n one two = omega (arith, one, two)

pub pays_then : (a m d : Chunks) (x y : ℕ) → Pays a m x → Pays m d y → Pays a d (x + y)
pays_then a m d x y one two made spent paid =
    let first : PaysMore a m made spent x = one made spent paid in
    let second : PaysMore m d (made + first.chunks) (spent + x) y = two (made + first.chunks) (spent + x) first.paid in
    let held1 : held_by m ≡ held_by a + 4096 * first.chunks = first.held in
    let held2 : held_by d ≡ held_by m + 4096 * second.chunks = second.held in
    let all : made + first.chunks + second.chunks ≡ made + (first.chunks + second.chunks) = omega arith in
    let cost : spent + x + y ≡ spent + (x + y) = omega arith in
    pays_so a d made spent (x + y) (first.chunks + second.chunks) (omega (arith, held1, held2)) (λ e. no_sum first.chunks second.chunks (first.none (left_none x y e)) (second.none (right_none x y e)))
    (subst (λ (n : ℕ). Paid d n (spent + (x + y))) all (subst (λ (n : ℕ). Paid d (made + first.chunks + second.chunks) n) cost second.paid))

pub pays_cost : (a d : Chunks) (x y : ℕ) → x ≡ y → Pays a d x → Pays a d y
pays_cost a d x y e pays made spent paid = subst (λ (n : ℕ). PaysMore a d made spent n) e (pays made spent paid)

-- what is paid for blocks of so many bytes is paid for those of more bytes
paid_for_more : (d : Chunks) (made spent more_spent : ℕ) → spent ≤ more_spent → Paid d made spent → Paid d made more_spent
paid_for_more d made spent more_spent less (none_made e) = none_made e
paid_for_more d made spent more_spent less (spare_left n l s most le) = spare_left n l s most (omega (arith, le, less))
paid_for_more d made spent more_spent less (all_paid le) = all_paid (omega (arith, le, less))

no_less : (x y : ℕ) → x ≤ y → y ≡ 0 → x ≡ 0
no_less x y less e = omega (arith, less, e)

pub pays_for_more : (a d : Chunks) (x y : ℕ) → x ≤ y → Pays a d x → Pays a d y
pays_for_more a d x y less pays made spent paid =
    let one : PaysMore a d made spent x = pays made spent paid in
    pays_so a d made spent y one.chunks one.held (λ e. one.none (no_less x y less e)) (paid_for_more d (made + one.chunks) (spent + x) (spent + y) (omega (arith, less)) one.paid)

other_spare : (class : ℕ) (a d : Chunks) (name n l : ℕ) → Takes class a d name → (n ≡ name → ⊥) → IsSpare a n l → IsSpare d n l
other_spare class a d name n l t ne s = record { free = t.others n ne ∙ s.free; long = t.lens n l ne s.long }

same_number : (m n : ℕ) → Some m ≡ Some n → m ≡ n
same_number m n e = cc

-- the block was cut from a free one
paid_from : (class : ℕ) (a d : Chunks) (name made spent : ℕ) → class < 8 → Takes class a d name → CutFrom a d name (class_len class) → Paid a made spent → Paid d (made + 0) (spent + (8 + class_len class))
paid_from class a d name made spent lt t f (none_made e) = none_made (omega (arith, e))
paid_from class a d name made spent lt t f (spare_left n l s bound le) = elim (cases_eq n name) as (λ _. Paid d (made + 0) (spent + (8 + class_len class))) [
  | inl e ↦
      let same : f.was ≡ l = same_number f.was l (sym f.found ∙ (ap (len_at a) (sym e) ∙ s.long)) in
      let most : class_len class ≤ 2048 = class_len_most class lt in
      elim (f.rest) as (λ _. Paid d (made + 0) (spent + (8 + class_len class))) [
        | inl short ↦ all_paid (omega (arith, short, same, le))
        | inr rest ↦ elim (cases_le (class_len class + 8) f.was) as (λ _. Paid d (made + 0) (spent + (8 + class_len class))) [
          | inl ge ↦ spare_left rest.name (f.was - (class_len class + 8)) rest.spare (omega (arith, same, bound)) (omega (arith, same, le, ge))
          | inr less ↦ all_paid (omega (arith, less, same, le))
        ]
      ]
  | inr ne ↦ spare_left n l (other_spare class a d name n l t ne s) bound (omega (arith, le))
] where
  cases_le : (m k : ℕ) → (m ≤ k) ⊎ (k < m)
  cases_le m k = grind arith
paid_from class a d name made spent lt t f (all_paid le) = all_paid (omega (arith, le))

-- a chunk was made, since each free block was shorter
new_chunk : (class : ℕ) (a d : Chunks) (made spent : ℕ) → class < 8 → CutNew a d (class_len class) → 2041 * made ≤ spent → Paid d (made + 1) (spent + (8 + class_len class))
new_chunk class a d made spent lt f le =
    let most : class_len class ≤ 2048 = class_len_most class lt in
    spare_left f.rest.name (4088 - (class_len class + 8)) f.rest.spare (omega arith) (omega (arith, le, most))

paid_new : (class : ℕ) (a d : Chunks) (made spent : ℕ) → class < 8 → CutNew a d (class_len class) → Paid a made spent → Paid d (made + 1) (spent + (8 + class_len class))
paid_new class a d made spent lt f (none_made e) = new_chunk class a d made spent lt f (omega (arith, e))
paid_new class a d made spent lt f (spare_left n l s bound le) =
    let less : l < class_len class = f.none_of n l s in
    let most : class_len class ≤ 2048 = class_len_most class lt in
    new_chunk class a d made spent lt f (omega (arith, less, most, le))
paid_new class a d made spent lt f (all_paid le) = new_chunk class a d made spent lt f le

pays_source : (class : ℕ) (a d : Chunks) (name : ℕ) → class < 8 → Takes class a d name → CutFrom a d name (class_len class) ⊎ CutNew a d (class_len class) → Pays a d (8 + class_len class)
pays_source class a d name lt t (inl f) made spent paid = let held : held_by d ≡ held_by a = f.held in pays_so a d made spent (8 + class_len class) 0 (omega (arith, held)) (λ e. refl) (paid_from class a d name made spent lt t f paid)
pays_source class a d name lt t (inr f) made spent paid = let held : held_by d ≡ held_by a + 4096 = f.held in pays_so a d made spent (8 + class_len class) 1 (omega (arith, held)) (λ e. absurd (omega (arith, e))) (paid_new class a d made spent lt f paid)

pub pays_takes : (class : ℕ) (a d : Chunks) (name : ℕ) → class < 8 → Takes class a d name → Pays a d (8 + class_len class)
pays_takes class a d name lt t = pays_source class a d name lt t t.source
