-- Faults told by places that ascend, and what a mark says of a vector's value.
use Rattle.std.proofs.Common.{◌≡◌, ◌≢◌, ◌∙◌, ℕ, zero, suc, ◌+◌, ◌<◌, ◌≤◌, ◌&&◌, inl, inr, Bool, true, false, List, [], ◌∷◌, length, get_or, set, map, replicate, All, Option, None, Ok, refl, ap, ap₂, sym, arith, IsTrue}
use Rattle.std.specs.Prelude.{nat_lt}
use Rattle.std.proofs.lemmas.List.{get_or-set_same, get_or-set_other}
use Rattle.std.proofs.lemmas.Bool.{cases_eq}
use Rattle.std.specs.List.{range_with_len}
use Rattle.std.proofs.lemmas.List.FromFn.{length-map-range_with_len}
use Rattle.vx_value.specs.declared.value.Value.{Value}
use Rattle.vx_value.specs.Row.{value_at}
use Rattle.vx_expr.specs.declared.expression.Expr.{Expr}
use Rattle.vx_expr.specs.declared.outcome.Fault.{Fault}
use Rattle.vx_expr.specs.declared.outcome.Got.{Got}
use Rattle.vx_vector.specs.Column.{Column, column}
use Rattle.vx_vector.specs.Lane.{lane, value_of}
use Rattle.vx_vector.specs.Lanes.{kind_of, rows_of, lane_at, holds_fault}
use Rattle.vx_vector.specs.Marks.{is_fault}
use Rattle.vx_vector.specs.declared.lanes.Lanes.{Lanes}
use Rattle.vx_vector.proofs.FormLemmas.{value_at_range}
use Rattle.vx_vector.proofs.ViewLemmas.{no_fault_at}
use Rattle.vx_vector.specs.Selection.{ascends}
use Rattle.vx_eval.specs.Got.{got_under, fault_under}
use Rattle.vx_eval.specs.Mask.{outcome, Evaluates}
use Rattle.vx_eval.specs.Evaluated.{Evaluated}
use Rattle.vx_eval.proofs.MarkLemmas.{by_mark, not_fine, not_null, below_two}

both : (a b : Bool) → (a && b) ≡ true → (a ≡ true) × (b ≡ true)
both true b h = (refl, h)
both false b h = absurd (cc)

less : (a b : ℕ) → nat_lt a b ≡ true → a < b
less a b h = grind arith

ascends_tail : (p : ℕ) (ps : List ℕ) → ascends (p ∷ ps) ≡ true → ascends ps ≡ true
ascends_tail p [] h = refl
ascends_tail p (q ∷ ps) h = (both (nat_lt p q) (ascends (q ∷ ps)) h).1

-- the first is less than each later one
ascends_first : (p : ℕ) (ps : List ℕ) (k : ℕ) → ascends (p ∷ ps) ≡ true → k < length ps → p < get_or ps k 0
ascends_first p [] k h inside = absurd (omega arith)
ascends_first p (q ∷ ps) zero h inside = less p q (both (nat_lt p q) (ascends (q ∷ ps)) h).0
ascends_first p (q ∷ ps) (suc k) h inside =
    let one : p < q = less p q (both (nat_lt p q) (ascends (q ∷ ps)) h).0 in
    let later : q < get_or ps k 0 = ascends_first q ps k (both (nat_lt p q) (ascends (q ∷ ps)) h).1 (omega arith) in
    omega arith

ascends_less : (ps : List ℕ) (j k : ℕ) → ascends ps ≡ true → j < k → k < length ps → get_or ps j 0 < get_or ps k 0
ascends_less [] j k h up inside = absurd (omega arith)
ascends_less (p ∷ ps) j zero h up inside = absurd (omega arith)
ascends_less (p ∷ ps) zero (suc k) h up inside = ascends_first p ps k h (omega arith)
ascends_less (p ∷ ps) (suc j) (suc k) h up inside = ascends_less ps j k (ascends_tail p ps h) (omega arith) (omega arith)

pub told_more : (faults : List (Option Fault)) (places : List ℕ) (told : ℕ → Option Fault) (last : ℕ) (fault : Option Fault) → IsTrue (ascends places) → last < length places → get_or places last 0 < length faults
    → ((k : ℕ) → k < last → get_or faults (get_or places k 0) None ≡ told k) → fault ≡ told last → (k : ℕ) → k < last + 1 → get_or (set faults (get_or places last 0) fault) (get_or places k 0) None ≡ told k
told_more faults places told last fault up inside there before here k h =
    elim (cases_eq k last) as (λ _. get_or (set faults (get_or places last 0) fault) (get_or places k 0) None ≡ told k) [
      | inl same ↦ rw (same, get_or-set_same faults (get_or places last 0) fault None there) here
      | inr other ↦
          let earlier : k < last = omega arith in
          let apart : get_or places k 0 < get_or places last 0 = ascends_less places k last up earlier inside in
          let differs : get_or places k 0 ≢ get_or places last 0 = omega arith in
          get_or-set_other faults (get_or places last 0) (get_or places k 0) fault None differs ∙ before k earlier
    ]

none_of : (count place : ℕ) → get_or {A = Option Fault} (replicate count None) place None ≡ None
none_of zero place = refl
none_of (suc count) zero = refl
none_of (suc count) (suc place) = none_of count place

-- where no fault is told yet, none is
pub none_yet : (faults : List (Option Fault)) (count place : ℕ) → faults ≡ replicate count None → get_or faults place None ≡ None
none_yet faults count place is = ap (λ (l : List (Option Fault)). get_or l place None) is ∙ none_of count place

-- a fault that is told of one place is told of no other
pub others_more : (faults : List (Option Fault)) (places : List ℕ) (last : ℕ) (fault : Option Fault) → last < length places → ((place : ℕ) → All (λ q. q ≢ place) places → get_or faults place None ≡ None)
    → (place : ℕ) → All (λ q. q ≢ place) places → get_or (set faults (get_or places last 0) fault) place None ≡ None
others_more faults places last fault inside before place apart =
    let differs : place ≢ get_or places last 0 = λ (same : place ≡ get_or places last 0). apart last 0 inside (sym same) in
    get_or-set_other faults (get_or places last 0) place fault None differs ∙ before place apart

-- a row without a fault is told as one
pub none_told : (l : Lanes) (k : ℕ) → holds_fault l ≡ false → k < rows_of l → fault_under (lane_at l k).mark ≡ None
none_told l k none h =
    let low : is_fault (lane_at l k).mark ≡ false = no_fault_at l k none h in
    let less : nat_lt (lane_at l k).mark 2 ≡ true = grind arith in
    rw less refl

-- what a mask and a vector tell of a row is what its lane gives
pub told_outcome : (m : ℕ) (raw : Value) → outcome (fault_under m) (value_of (lane m raw)) ≡ got_under m raw
told_outcome m raw = by_mark (λ (n : ℕ). outcome (fault_under n) (value_of (lane n raw)) ≡ got_under n raw) refl refl (λ (n : ℕ) (h : 2 ≤ n). rw (below_two n h, not_fine n h, not_null n h) refl) m

pub evaluates : (e : Expr) (columns : List Column) (rows : List ℕ) (wanted : List Bool) (l : Lanes) (v : Column) (faults : List (Option Fault)) → Evaluated columns rows wanted e l → ((k : ℕ) → k < length rows → get_or wanted k false ≡ true)
    → v ≡ column (kind_of l) (map (λ (k : ℕ). value_of (lane_at l k)) (range_with_len 0 (rows_of l))) → ((k : ℕ) → k < length rows → get_or faults (get_or rows k 0) None ≡ fault_under (lane_at l k).mark) → ((place : ℕ) → All (λ q. q ≢ place) rows → get_or faults place None ≡ None) → Evaluates e columns rows v faults
evaluates e columns rows wanted l v faults done all is told others = record {
  kind = done.kind ∙ ap (λ (c : Column). Ok c.kind) (sym is);
  count = ap (λ (c : Column). length c.values) is ∙ length-map-range_with_len (λ (k : ℕ). value_of (lane_at l k)) 0 (rows_of l) ∙ done.count;
  each = λ (k : ℕ) (h : k < length rows).
      let value : value_at v.values k ≡ value_of (lane_at l k) =
      ap (λ (c : Column). value_at c.values k) is ∙ value_at_range (λ (j : ℕ). value_of (lane_at l j)) (rows_of l) k (omega (arith, done.count)) in
      ap₂ {C = Got} (λ (f : Option Fault) (w : Value). outcome f w) (told k h) value ∙ told_outcome (lane_at l k).mark (lane_at l k).raw ∙ done.each k h (all k h);
  others = others;
}
