-- Sums kept in two numbers.
use Rattle.std.proofs.Common.{◌≡◌, ℕ, ◌+◌, ◌<◌, ◌≤◌, ◌^◌, ℤ, pos, ◌+ℤ◌, ◌*ℤ◌, Bool, true, false, ◌||◌, List, [], ◌∷◌, ◌++◌, length, Some, None, refl, sym, ap, ◌∙◌, subst, arith, Option, append_assoc, true≢false, get_or, drop}
use Rattle.std.specs.Prelude.{FitsSigned, option_map, option_and_then, if◌then◌else◌}
use Rattle.std.specs.Int.{w128}
use Rattle.std.specs.List.{fold}
use Rattle.std.proofs.lemmas.Int.{ints}
use Rattle.std.proofs.lemmas.List.{at_drop_more}
use Rattle.std.proofs.lemmas.Bool.Decides.{nat_tests}
use Rattle.vx_value.specs.declared.value.Value.{Value}
use Rattle.vx_value.specs.declared.value.Value.TheVariants.{Null, Int}
use Rattle.vx_value.specs.Value.{is_null}
use Rattle.vx_value.specs.Row.{Row, value_at}
use Rattle.vx_expr.specs.Eval.{fits}
use Rattle.vx_plan.specs.declared.aggregate.Aggregate.{Aggregate}
use Rattle.vx_plan.specs.declared.aggregate.AggregateName.TheVariants.{Count}
use Rattle.vx_plan.specs.declared.aggregate.Step.{Step}
use Rattle.vx_plan.specs.declared.aggregate.Step.TheVariants.{Single, Partial, Final}
use Rattle.vx_meaning.specs.declared.summing.Total.{Total}
use Rattle.vx_meaning.specs.Folds.{added, one_unless_null, fold_of, one_cell, finish, finish_all, folds_of}
use Rattle.vx_meaning.specs.Sums.{total_value, IsWithin, Pushes, both}

or-false : (a b : Bool) → (a || b) ≡ false → (a ≡ false) × (b ≡ false)
or-false true b h = absurd (true≢false h)
or-false false b h = (refl, h)

pub zero-sum : (a b : ℤ) → a ≡ pos 0 → b ≡ pos 0 → a +ℤ b ≡ pos 0
zero-sum a b p q = omega (arith, ints)

within-both : (i : ℕ) (t u : Total) → IsWithin i t → IsWithin 1 u → IsWithin (i + 1) (both t u)
within-both i t u p q =
    let a = p.high_least in let b = p.high_most in let c = p.low_least in let d = p.low_most in
    let e = q.high_least in let f = q.high_most in let g = q.low_least in let h = q.low_most in
    record {
      high_least = omega (arith, ints);
      high_most = omega (arith, ints);
      low_least = omega (arith, ints);
      low_most = omega (arith, ints);
      unseen_high = λ none. let parts = or-false t.seen u.seen none in zero-sum t.high u.high (p.unseen_high parts.0) (q.unseen_high parts.1);
      unseen_low = λ none. let parts = or-false t.seen u.seen none in zero-sum t.low u.low (p.unseen_low parts.0) (q.unseen_low parts.1);
    }

pub within-plus : (i : ℕ) (t u v : Total) → v ≡ both t u → IsWithin i t → IsWithin 1 u → IsWithin (i + 1) v
within-plus i t u v is p q = subst (IsWithin (i + 1)) (sym is) (within-both i t u p q)

pub fits-both : (i : ℕ) (t u : Total) → i < 2 ^ 62 → IsWithin i t → IsWithin 1 u → FitsSigned w128 (t.high +ℤ u.high)
fits-both i t u few p q =
    let a = p.high_least in let b = p.high_most in let e = q.high_least in let f = q.high_most in
    grind (arith, ints)

sums-apart : (a b c d : ℤ) → (a +ℤ c) *ℤ pos (2 ^ 63) +ℤ (b +ℤ d) ≡ (a *ℤ pos (2 ^ 63) +ℤ b) +ℤ (c *ℤ pos (2 ^ 63) +ℤ d)
sums-apart a b c d = omega (arith, ints)

value-both : (a b c d : ℤ) (x y : Bool) → (x ≡ false → a ≡ pos 0) → (x ≡ false → b ≡ pos 0) → (y ≡ false → c ≡ pos 0) → (y ≡ false → d ≡ pos 0)
    → (if x || y then Int ((a +ℤ c) *ℤ pos (2 ^ 63) +ℤ (b +ℤ d)) else Null) ≡ added (if x then Int (a *ℤ pos (2 ^ 63) +ℤ b) else Null) (if y then Int (c *ℤ pos (2 ^ 63) +ℤ d) else Null)
value-both a b c d true true p q r s = ap Int (sums-apart a b c d)
value-both a b c d true false p q r s = let e = r refl in let f = s refl in ap Int (omega (arith, ints))
value-both a b c d false true p q r s = let e = p refl in let f = q refl in ap Int (omega (arith, ints))
value-both a b c d false false p q r s = refl

pub value-plus : (i : ℕ) (t u v : Total) → v ≡ both t u → IsWithin i t → IsWithin 1 u → total_value v ≡ added (total_value t) (total_value u)
value-plus i t u v is p q = ap total_value is ∙ value-both t.high t.low u.high u.low t.seen u.seen p.unseen_high p.unseen_low q.unseen_high q.unseen_low

-- ---- counts

-- so many rows count at most so much
record Few (column : Option ℕ) (rows : List Row) (a : ℕ) : Type 0 where
  count : ℕ
  is : fold (λ so_far row. added so_far (one_unless_null column row)) (Int (pos a)) rows ≡ Int (pos count)
  most : count ≤ a + length rows

few-more : (column : Option ℕ) (row : Row) (rows : List Row) (a n : ℕ) → n ≤ 1 → one_unless_null column row ≡ Int (pos n) → Few column rows (a + n) → Few column (row ∷ rows) a
few-more column row rows a n small is few = record {
  count = few.count;
  is = ap (λ v. fold (λ so_far row. added so_far (one_unless_null column row)) (added (Int (pos a)) v) rows) is ∙ few.is;
  most = let m = few.most in omega arith;
}

one-of : (b : Bool) → (n : ℕ) × (n ≤ 1) × ((if b then Int (pos 0) else Int (pos 1)) ≡ Int (pos n))
one-of true = (0, omega arith, refl)
one-of false = (1, omega arith, refl)

few : (column : Option ℕ) (rows : List Row) (a : ℕ) → Few column rows a
few column [] a = record { count = a; is = refl; most = omega arith }
few None (row ∷ rows) a = few-more None row rows a 1 (omega arith) refl (few None rows (a + 1))
few (Some column) (row ∷ rows) a =
    let one = one-of (is_null (value_at row column)) in
    few-more (Some column) row rows a one.0 one.1 one.2 (few (Some column) rows (a + one.0))

fits-small : (n : ℕ) → n < 2 ^ 63 → fits (pos n) ≡ true
fits-small n h = grind (arith, nat_tests)

one-count : (v : Value) (n : ℕ) → v ≡ Int (pos n) → n < 2 ^ 63 → one_cell v ≡ Some (v ∷ [])
one-count v n is h = subst (λ w. one_cell w ≡ Some (w ∷ [])) (sym is) (ap (λ b. if b then Some (Int (pos n) ∷ []) else None) (fits-small n h))

-- a count over a list that is held overflows in no step but the final one
pub count-finish : (step : Step) (column : Option ℕ) (rows : List Row) → length rows < 2 ^ 63
    → one_cell (fold_of step (record { name = Count; column = column }) rows) ≡ finish step Count (fold_of step (record { name = Count; column = column }) rows)
count-finish Single column rows h = refl
count-finish Final column rows h = refl
count-finish Partial column rows h =
    let f = few column rows 0 in
    let m = f.most in
    one-count (fold_of Partial (record { name = Count; column = column }) rows) f.count f.is (omega arith)

-- ---- cells of one aggregate after another

pub pushed-more : (old new : List Value) (o rest : Option (List Value)) → Pushes old new o true
    → option_map (λ more. new ++ more) rest ≡ option_map (λ more. old ++ more) (option_and_then (λ cells. option_map (λ more. cells ++ more) rest) o)
pushed-more old new None rest h = absurd (true≢false h)
pushed-more old new (Some cells) None h = refl
pushed-more old new (Some cells) (Some more) h = ap Some (ap (λ front. front ++ more) h.1 ∙ append_assoc old cells more)

pub finished-more : (step : Step) (aggregates : List Aggregate) (rows : List Row) (i : ℕ) (d : Aggregate) (old new : List Value) (all : Option (List Value)) (fine : Bool) → i < length aggregates → fine ≡ true
    → Pushes old new (finish step (get_or aggregates i d).name (fold_of step (get_or aggregates i d) rows)) fine
    → option_map (λ more. old ++ more) (finish_all step (drop i aggregates) (folds_of step (drop i aggregates) rows)) ≡ all
    → option_map (λ more. new ++ more) (finish_all step (drop (i + 1) aggregates) (folds_of step (drop (i + 1) aggregates) rows)) ≡ all
finished-more step aggregates rows i d old new all fine within holds pushes so_far =
    let a = get_or aggregates i d in
    pushed-more old new (finish step a.name (fold_of step a rows)) (finish_all step (drop (i + 1) aggregates) (folds_of step (drop (i + 1) aggregates) rows)) (subst (Pushes old new (finish step a.name (fold_of step a rows))) holds pushes)
    ∙ sym (at_drop_more (λ left. option_map (λ more. old ++ more) (finish_all step left (folds_of step left rows))) aggregates i d within)
    ∙ so_far
