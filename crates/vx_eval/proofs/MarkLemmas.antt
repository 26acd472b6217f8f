-- What marks let through, by cases on them.
use Rattle.std.proofs.Common.{◌≡◌, ◌∙◌, ℕ, zero, suc, ◌<◌, ◌≤◌, true, false, List, length, get_or, refl, sym, ap, subst, arith, tests}
use Rattle.std.specs.Prelude.{nat_eq, nat_le, nat_lt}
use Rattle.vx_value.specs.declared.value.Value.{Value}
use Rattle.vx_value.specs.declared.value.Value.TheVariants.{Null}
use Rattle.vx_expr.specs.declared.outcome.Got.{Got}
use Rattle.vx_expr.specs.declared.outcome.Got.TheVariants as got
use Rattle.vx_expr.specs.Eval.{null, binary, value_or_null}
use Rattle.vx_vector.specs.Lane.{Lane, settled, settled_mark}
use Rattle.vx_vector.specs.Lanes.{kind_of, rows_of, lane_at, AreLanes}
use Rattle.vx_vector.specs.declared.lanes.Lanes.{Lanes}
use Rattle.vx_vector.specs.Marks.{strict_mark, strict_marks}
use Rattle.vx_vector.proofs.MarkLemmas.{get_or-strict_marks}
use Rattle.vx_eval.specs.Gives.{Gives}
use Rattle.vx_eval.specs.Got.{got_at, got_of, got_under, fault_of, strictest, marked}

pub not_fine : (m : ℕ) → 2 ≤ m → nat_eq m 0 ≡ false
not_fine m h = grind arith

pub not_null : (m : ℕ) → 2 ≤ m → nat_eq m 1 ≡ false
not_null m h = grind arith

two_or_more : (m : ℕ) → 2 ≤ m → nat_le 2 m ≡ true
two_or_more m h = grind arith

pub below_two : (m : ℕ) → 2 ≤ m → nat_lt m 2 ≡ false
below_two m h = grind arith

pub faulty : (m : ℕ) (v : Value) → 2 ≤ m → got_under m v ≡ got.Fault (fault_of m)
faulty m v h = rw (not_fine m h, not_null m h) refl

-- a claim for every mark, from fine, null and faults
pub by_mark : (P : ℕ → Type 0) → P 0 → P 1 → ((n : ℕ) → 2 ≤ n → P n) → (m : ℕ) → P m
by_mark P fine absent fault zero = fine
by_mark P fine absent fault (suc zero) = absent
by_mark P fine absent fault (suc (suc n)) = fault (suc (suc n)) (omega arith)

-- a fault wins over what is no fault, and the left one over the right one
fault_left : (l r own : ℕ) → 2 ≤ l → marked (strictest l r) own ≡ l
fault_left l r own h = rw (two_or_more l h, not_fine l h) refl

fault_right : (l r own : ℕ) → l < 2 → 2 ≤ r → marked (strictest l r) own ≡ r
fault_right l r own less h =
    let small : nat_le 2 l ≡ false = grind arith in
    let above : nat_lt r l ≡ false = grind arith in
    rw (small, above, not_fine r h) refl

faults_left : (f : Value → Value → Got) (x out : Value) (b : Got) (own l r : ℕ) → 2 ≤ l → got_under (marked (strictest l r) own) out ≡ binary f (got_under l x) b
faults_left f x out b own l r h = rw (fault_left l r own h, faulty l out h, faulty l x h) refl

faults_right : (f : Value → Value → Got) (x y out : Value) (own l r : ℕ) → l < 2 → 2 ≤ r → got_under (marked (strictest l r) own) out ≡ binary f (got.Value x) (got_under r y)
faults_right f x y out own l r less h = rw (fault_right l r own less h, faulty r out h, faulty r y h) refl

-- a strict function of two arguments that is null where a side is
pub strict_two : (f : Value → Value → Got) (x y out : Value) (own left right : ℕ) → f x Null ≡ null → f Null y ≡ null → f Null Null ≡ null → got_under own out ≡ f x y → got_under (marked (strictest left right) own) out ≡ binary f (got_under left x) (got_under right y)
strict_two f x y out own left right ea eb ec e =
    by_mark (λ (l : ℕ). got_under (marked (strictest l right) own) out ≡ binary f (got_under l x) (got_under right y))
    (by_mark (λ (r : ℕ). got_under (marked (strictest 0 r) own) out ≡ binary f (got.Value x) (got_under r y)) e (sym ea) (λ (r : ℕ) (h : 2 ≤ r). faults_right f x y out own 0 r (omega arith) h) right)
    (by_mark (λ (r : ℕ). got_under (marked (strictest 1 r) own) out ≡ binary f null (got_under r y)) (sym eb) (sym ec) (λ (r : ℕ) (h : 2 ≤ r). faults_right f Null y out own 1 r (omega arith) h) right)
    (λ (l : ℕ) (h : 2 ≤ l). faults_left f x out (got_under right y) own l right h)
    left

marked_fine : (m : ℕ) → marked m 0 ≡ m
marked_fine m = by_mark (λ (n : ℕ). marked n 0 ≡ n) refl refl (λ (n : ℕ) (h : 2 ≤ n). rw (not_fine n h) refl) m

-- the same where the function itself has no fault
pub strict_test : (f : Value → Value → Got) (x y out : Value) (left right : ℕ) → f x Null ≡ null → f Null y ≡ null → f Null Null ≡ null → got.Value out ≡ f x y → got_under (strictest left right) out ≡ binary f (got_under left x) (got_under right y)
strict_test f x y out left right ea eb ec e =
    subst (λ (m : ℕ). got_under m out ≡ binary f (got_under left x) (got_under right y)) (marked_fine (strictest left right)) (strict_two f x y out 0 left right ea eb ec e)

-- the same marks as vx_vector's kernel makes of whole lists
same_strict : (l r : ℕ) → strict_mark l r ≡ strictest l r
same_strict l r = grind (arith, tests)

-- one row of a strict function, where its values were computed without a fault, and its marks in a loop of their own
pub strict_row : (f : Value → Value → Got) (x y out : Value) (lefts rights marks : List ℕ) (k : ℕ) → f x Null ≡ null → f Null y ≡ null → f Null Null ≡ null → length rights ≡ length lefts → k < length lefts → marks ≡ strict_marks lefts rights → got.Value out ≡ f x y → got_under (get_or marks k 1) out ≡ binary f (got_under (get_or lefts k 1) x) (got_under (get_or rights k 1) y)
strict_row f x y out lefts rights marks k ea eb ec even h is e =
    let mark : get_or marks k 1 ≡ strictest (get_or lefts k 1) (get_or rights k 1) = ap (λ l. get_or l k 1) is ∙ get_or-strict_marks lefts rights k 1 1 1 even h ∙ same_strict (get_or lefts k 1) (get_or rights k 1) in
    rw mark (strict_test f x y out (get_or lefts k 1) (get_or rights k 1) ea eb ec e)

-- ---- marks of faults that become those of nulls

settled_got : (l : Lane) → got_of (settled l) ≡ value_or_null (got_of l)
settled_got l = by_mark (λ (m : ℕ). got_under (settled_mark m) l.raw ≡ value_or_null (got_under m l.raw)) refl refl (λ (n : ℕ) (h : 2 ≤ n). rw (not_fine n h, not_null n h) refl) l.mark

pub tried_rows : (a l r : Lanes) → AreLanes (kind_of a) (rows_of a) (lane_at a) l → AreLanes (kind_of l) (rows_of l) (λ (k : ℕ). settled (lane_at l k)) r → Gives (rows_of a) (λ (k : ℕ). value_or_null (got_at a k)) r
tried_rows a l r are is = record {
  rows = is.rows ∙ are.rows;
  at = λ (k : ℕ) (h : k < rows_of a).
      ap got_of (is.at k (omega (arith, are.rows))) ∙ settled_got (lane_at l k) ∙ ap (λ (x : Lane). value_or_null (got_of x)) (are.at k h);
}
