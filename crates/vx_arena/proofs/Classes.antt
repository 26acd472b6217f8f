-- The classes of free blocks.
use Rattle.std.proofs.Common.{zero, suc, ℕ, ◌<◌, ◌≤◌, arith}
use Rattle.std.proofs.lemmas.Bool.Decides.{nat_tests}
use Rattle.vx_arena.specs.Free.{class_len, class_of}

pub class_below : (len : ℕ) → class_of len < 8
unfolding class_of
class_below len = grind (arith, nat_tests)

pub below_8 : (P : ℕ → Type 0) → P 0 → P 1 → P 2 → P 3 → P 4 → P 5 → P 6 → P 7 → (k : ℕ) → k < 8 → P k
below_8 P a b c d e f g h zero lt = a
below_8 P a b c d e f g h (suc zero) lt = b
below_8 P a b c d e f g h (suc (suc zero)) lt = c
below_8 P a b c d e f g h (suc (suc (suc zero))) lt = d
below_8 P a b c d e f g h (suc (suc (suc (suc zero)))) lt = e
below_8 P a b c d e f g h (suc (suc (suc (suc (suc zero))))) lt = f
below_8 P a b c d e f g h (suc (suc (suc (suc (suc (suc zero)))))) lt = g
below_8 P a b c d e f g h (suc (suc (suc (suc (suc (suc (suc zero))))))) lt = h
below_8 P a b c d e f g h (suc (suc (suc (suc (suc (suc (suc (suc k)))))))) lt = absurd (omega arith)

pub class_len_least : (k : ℕ) → k < 8 → 16 ≤ class_len k
unfolding class_len
class_len_least = below_8 (λ k. 16 ≤ class_len k) (omega arith) (omega arith) (omega arith) (omega arith) (omega arith) (omega arith) (omega arith) (omega arith)

pub class_len_most : (k : ℕ) → k < 8 → class_len k ≤ 2048
unfolding class_len
class_len_most = below_8 (λ k. class_len k ≤ 2048) (omega arith) (omega arith) (omega arith) (omega arith) (omega arith) (omega arith) (omega arith) (omega arith)

-- a payload has at least its class's length
of_class : (len k : ℕ) → k < 8 → 16 ≤ len → k ≤ class_of len → class_len k ≤ len
unfolding class_len class_of
of_class len = below_8 (λ k. 16 ≤ len → k ≤ class_of len → class_len k ≤ len) (λ a b. grind (arith, nat_tests)) (λ a b. grind (arith, nat_tests)) (λ a b. grind (arith, nat_tests)) (λ a b. grind (arith, nat_tests)) (λ a b. grind (arith, nat_tests)) (λ a b. grind (arith, nat_tests)) (λ a b. grind (arith, nat_tests)) (λ a b. grind (arith, nat_tests))

pub holds_class : (len k : ℕ) → k < 8 → 16 ≤ len → k ≤ class_of len → class_len k ≤ len
holds_class len k lt long le = of_class len k lt long le

-- and one that holds a class is of that class or a greater one
pub class_holds : (len k : ℕ) → k < 8 → class_len k ≤ len → k ≤ class_of len
unfolding class_len class_of
class_holds len = below_8 (λ k. class_len k ≤ len → k ≤ class_of len) (λ a. grind (arith, nat_tests)) (λ a. grind (arith, nat_tests)) (λ a. grind (arith, nat_tests)) (λ a. grind (arith, nat_tests)) (λ a. grind (arith, nat_tests)) (λ a. grind (arith, nat_tests)) (λ a. grind (arith, nat_tests)) (λ a. grind (arith, nat_tests))
