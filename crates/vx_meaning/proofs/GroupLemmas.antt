-- Groups: what they are without keys, their independence of the order of rows, and one run of a sorted list.
use Rattle.std.proofs.Common.{◌≡◌, ◌≢◌, ℕ, ◌<◌, List, [], ◌∷◌, ◌++◌, length, map, take, drop, get_or, All, refl, sym, ap, ◌∙◌, subst, arith, Equal, Ok, Err, Some, None, append_assoc}
use Rattle.std.specs.Prelude.{slice_get, Contains}
use Rattle.std.specs.List.Sorted.{IsPermutation, IsSorted}
use Rattle.std.specs.Cmp.{IsTotalOrder}
use Rattle.std.specs.FinMap.{FinMap, find, empty, entries, from_entries, entries-insert, len, len-entries, len-empty, slice_cmp-IsAntisymmetric}
use Rattle.std.specs.Ordering.{eq_by_cmp}
use Rattle.std.proofs.lemmas.Cmp.{lists_total, tied_itself}
use Rattle.std.proofs.lemmas.List.{append-nil, take-append-drop, length-take, length-drop, map-append}
use Rattle.std.proofs.lemmas.List.Elements.{Contains-append_right}
use Rattle.std.proofs.lemmas.List.Sorted.{IsPermutation-refl}
use Rattle.vx_value.specs.declared.value.Value.{Value}
use Rattle.vx_value.specs.Row.{Row}
use Rattle.vx_value.specs.KeyBytes.{key_values}
use Rattle.vx_value.proofs.OrderLemmas.{cmp_values_total, cmp_values-tied}
use Rattle.vx_expr.specs.declared.outcome.Fault.{Fault}
use Rattle.vx_plan.specs.declared.aggregate.Aggregate.{Aggregate}
use Rattle.vx_plan.specs.declared.aggregate.Step.{Step}
use Rattle.vx_plan.specs.declared.widths.Width.TheVariants.{One}
use Rattle.vx_meaning.specs.Folds.{folds_of, finish_all}
use Rattle.vx_meaning.specs.Groups.{Outcome, key_cmp, with_key, row_or_key, outcome, groups}
use Rattle.vx_meaning.specs.Lines.{Grouped}
use Rattle.vx_meaning.specs.Faulty.{GroupFaults}
use Rattle.vx_meaning.proofs.Shuffles.{filter-shuffled}
use Rattle.vx_meaning.proofs.FoldLaws.{folds_of-shuffled}
use Rattle.vx_meaning.proofs.Keyed.{filter-all, by_key, by_key-shuffled, entries-run, above-run, sorted-drop}

pub key_total : IsTotalOrder key_cmp
key_total = lists_total cmp_values_total

pub key_tied : (x y : Row) → key_cmp x y ≡ Equal → x ≡ y
key_tied = slice_cmp-IsAntisymmetric cmp_values-tied

groups-keyed : (step : Step) (keys : List ℕ) (aggregates : List Aggregate) (rows : List Row) → 0 < length keys
    → groups step keys aggregates rows ≡ map (outcome step aggregates) (entries (by_key key_total key_tied (key_values keys) (folds_of step aggregates) rows))
groups-keyed step [] aggregates rows h = absurd (omega arith)
groups-keyed step (column ∷ columns) aggregates rows h = refl

-- the order of rows doesn't matter
pub groups-shuffled : (step : Step) (keys : List ℕ) (aggregates : List Aggregate) (xs ys : List Row) → IsPermutation xs ys → groups step keys aggregates xs ≡ groups step keys aggregates ys
groups-shuffled step [] aggregates xs ys h =
    ap (λ folds. map (outcome step aggregates) (entries (from_entries {R = key_cmp} (([], folds) ∷ []))))
    (folds_of-shuffled step aggregates (with_key [] [] xs) (with_key [] [] ys) (filter-shuffled (λ row. eq_by_cmp key_cmp [] (key_values [] row)) xs ys h))
groups-shuffled step (column ∷ columns) aggregates xs ys h =
    ap (λ m. map (outcome step aggregates) (entries m)) (by_key-shuffled key_total key_tied (key_values (column ∷ columns)) (folds_of step aggregates) (folds_of-shuffled step aggregates) xs ys h)

no_length : {A : Type 0} (es : List A) → length es ≡ 0 → es ≡ []
no_length [] e = refl
no_length (x ∷ es) e = absurd (omega arith)

entries-empty : entries (empty {K = Row} {X = List Value} {R = key_cmp}) ≡ []
entries-empty = no_length (entries (empty {K = Row} {X = List Value} {R = key_cmp})) (sym (len-entries (empty {K = Row} {X = List Value} {R = key_cmp})) ∙ len-empty key_cmp (List Value))

-- without keys all rows are one group
pub groups-whole : (step : Step) (aggregates : List Aggregate) (rows : List Row) → groups step [] aggregates rows ≡ row_or_key [] (finish_all step aggregates (folds_of step aggregates rows)) ∷ []
groups-whole step aggregates rows =
    ap (map (outcome step aggregates)) (entries-insert key_total (empty {X = List Value} {R = key_cmp}) [] (folds_of step aggregates (with_key [] [] rows)) ∙ ap (λ es. Rattle.std.specs.FinMap.put key_cmp [] (folds_of step aggregates (with_key [] [] rows)) es) entries-empty)
    ∙ ap (λ all. outcome step aggregates ([], folds_of step aggregates all) ∷ []) (filter-all (λ row. eq_by_cmp key_cmp [] (key_values [] row)) rows (λ k d within. refl))

-- no rows have no groups
pub groups-none : (step : Step) (keys : List ℕ) (aggregates : List Aggregate) → 0 < length keys → groups step keys aggregates [] ≡ []
groups-none step [] aggregates h = absurd (omega arith)
groups-none step (column ∷ columns) aggregates h = ap (map (outcome step aggregates)) entries-empty

first-of : (rows : List Row) (first : Row) → Some first ≡ slice_get rows 0 → (0 < length rows) × ((d : Row) → get_or rows 0 d ≡ first)
first-of [] first h = absurd (cc)
first-of (row ∷ rows) first h = (omega arith, λ d. cc)

-- the first run has at least the first row
run-some : (keys : List ℕ) (rows : List Row) (first : Row) (n : ℕ) → Some first ≡ slice_get rows 0
    → ((d : Row) → n < length rows → key_cmp (key_values keys first) (key_values keys (get_or rows n d)) ≢ Equal) → 0 < n
run-some keys rows first Prim.Native.Nat.zero there ends =
    let at = first-of rows first there in
    absurd (ends first at.0 (ap (λ row. key_cmp (key_values keys first) (key_values keys row)) (at.1 first) ∙ tied_itself key_total (key_values keys first)))
run-some keys rows first (Prim.Native.Nat.suc n) there ends = omega arith

-- the first run of a sorted list is a group of its own
pub groups-run : (step : Step) (keys : List ℕ) (aggregates : List Aggregate) (rows run later : List Row) (first key : Row) (n : ℕ) → 0 < length keys
    → IsSorted (λ a b. key_cmp (key_values keys a) (key_values keys b)) rows
    → Some first ≡ slice_get rows 0
    → All (λ row. key_cmp (key_values keys first) (key_values keys row) ≡ Equal) (take n rows)
    → ((d : Row) → n < length rows → key_cmp (key_values keys first) (key_values keys (get_or rows n d)) ≢ Equal)
    → run ≡ take n rows → later ≡ drop n rows → key ≡ key_values keys first
    → groups step keys aggregates rows ≡ row_or_key key (finish_all step aggregates (folds_of step aggregates run)) ∷ groups step keys aggregates later
groups-run step keys aggregates rows run later first key n keyed sorted there same ends run_is later_is key_is =
    let at = first-of rows first there in
    let more = run-some keys rows first n there ends in
    let start = at.0 in
    let k = key_values keys first in
    let f = folds_of step aggregates in
    groups-keyed step keys aggregates rows keyed
    ∙ ap (λ all. map (outcome step aggregates) (entries (by_key key_total key_tied (key_values keys) f all))) (sym (take-append-drop n rows))
    ∙ ap (map (outcome step aggregates)) (entries-run key_total key_tied (key_values keys) f k (take n rows) (drop n rows) (omega (arith, length-take n rows))
    same (above-run key_total key_tied (key_values keys) f rows k n sorted (λ d. ap (key_values keys) (at.1 d)) ends))
    ∙ ap (λ rest. outcome step aggregates (k, f (take n rows)) ∷ rest) (sym (groups-keyed step keys aggregates (drop n rows) keyed))
    ∙ (λ i. row_or_key (sym key_is i) (finish_all step aggregates (f (sym run_is i))) ∷ groups step keys aggregates (sym later_is i))

-- what is left behind the first run is less, and in order
pub later-smaller : (keys : List ℕ) (rows later : List Row) (first : Row) (n : ℕ) → Some first ≡ slice_get rows 0
    → ((d : Row) → n < length rows → key_cmp (key_values keys first) (key_values keys (get_or rows n d)) ≢ Equal) → later ≡ drop n rows → length later < length rows
later-smaller keys rows later first n there ends later_is =
    let more = run-some keys rows first n there ends in
    let start = (first-of rows first there).0 in
    omega (arith, length-drop n rows, ap length later_is)

pub later-sorted : (keys : List ℕ) (rows later : List Row) (n : ℕ) → IsSorted (λ a b. key_cmp (key_values keys a) (key_values keys b)) rows → later ≡ drop n rows
    → IsSorted (λ a b. key_cmp (key_values keys a) (key_values keys b)) later
later-sorted keys rows later n sorted later_is = subst (IsSorted (λ a b. key_cmp (key_values keys a) (key_values keys b))) (sym later_is) (sorted-drop key_total key_tied (key_values keys) (λ rows. rows) rows n sorted)

pub rows-more : (old new : List Row) (row : Row) (out : Outcome) (rest later all : List Outcome) → map Ok old ++ rest ≡ all → rest ≡ out ∷ later → Ok row ≡ out → new ≡ old ++ row ∷ [] → map Ok new ++ later ≡ all
rows-more old new row out rest later all so_far is ok pushed =
    ap (λ rows. map Ok rows ++ later) pushed ∙ ap (λ front. front ++ later) (map-append Ok old (row ∷ [])) ∙ append_assoc (map Ok old) (Ok row ∷ []) later
    ∙ ap (λ o. map Ok old ++ o ∷ later) ok ∙ sym (ap (λ r. map Ok old ++ r) is) ∙ so_far

-- a group that overflows is one of the groups
pub there-more : (old : List Row) (key : Row) (out : Outcome) (rest later all : List Outcome) → map Ok old ++ rest ≡ all → rest ≡ out ∷ later → Err key ≡ out → Contains all (Err key)
there-more old key out rest later all so_far is err =
    subst (λ outcomes. Contains outcomes (Err key)) so_far (Contains-append_right (map Ok old) rest (Err key)
    (subst (λ outcomes. Contains outcomes (Err key)) (sym is ∙ refl) (0, omega arith, sym err)))

-- all rows as one list
pub grouped-one : (step : Step) (keys : List ℕ) (aggregates : List Aggregate) (input list : List Row) (outcomes : List Outcome) → IsPermutation input list → groups step keys aggregates list ≡ outcomes
    → Grouped step keys aggregates One (λ rows. rows ≡ input) outcomes
grouped-one step keys aggregates input list outcomes same is = record {
  input = input;
  from = refl;
  lists = list ∷ [];
  dealt = record { some = omega arith; one = λ _. refl; all = subst (IsPermutation input) (sym (append-nil list)) same };
  is = subst (λ all. IsPermutation (groups step keys aggregates list ++ []) all) (append-nil (groups step keys aggregates list) ∙ is) (IsPermutation-refl (groups step keys aggregates list ++ []));
}

-- when no row is left the rows are the outcomes of all groups
pub runs-end : (step : Step) (keys : List ℕ) (aggregates : List Aggregate) (old rest : List Row) (all : List Outcome) → 0 < length keys → None ≡ slice_get rest 0
    → map Ok old ++ groups step keys aggregates rest ≡ all → map Ok old ≡ all
runs-end step keys aggregates old [] all keyed none so_far = sym (append-nil (map Ok old)) ∙ sym (ap (λ more. map Ok old ++ more) (groups-none step keys aggregates keyed)) ∙ so_far
runs-end step keys aggregates old (row ∷ rest) all keyed none so_far = absurd (cc)

-- ---- without keys

whole-is : (step : Step) (keys : List ℕ) (aggregates : List Aggregate) (all slice : List Row) (key : Row) → length keys ≡ 0 → key ≡ [] → slice ≡ all
    → groups step keys aggregates all ≡ row_or_key key (finish_all step aggregates (folds_of step aggregates slice)) ∷ []
whole-is step [] aggregates all slice key none key_is slice_is = groups-whole step aggregates all ∙ (λ i. row_or_key (sym key_is i) (finish_all step aggregates (folds_of step aggregates (sym slice_is i))) ∷ [])
whole-is step (column ∷ columns) aggregates all slice key none key_is slice_is = absurd (omega arith)

pub whole-there : (step : Step) (keys : List ℕ) (aggregates : List Aggregate) (all slice : List Row) (key row : Row) → length keys ≡ 0 → key ≡ [] → slice ≡ all
    → Err row ≡ row_or_key key (finish_all step aggregates (folds_of step aggregates slice)) → Contains (groups step keys aggregates all) (Err row)
whole-there step keys aggregates all slice key row none key_is slice_is err =
    subst (λ outcomes. Contains outcomes (Err row)) (ap (λ out. out ∷ []) err ∙ sym (whole-is step keys aggregates all slice key none key_is slice_is)) (0, omega arith, refl)

pub whole-rows : (step : Step) (keys : List ℕ) (aggregates : List Aggregate) (all slice old new : List Row) (key row : Row) → length keys ≡ 0 → key ≡ [] → slice ≡ all
    → Ok row ≡ row_or_key key (finish_all step aggregates (folds_of step aggregates slice)) → old ≡ [] → new ≡ old ++ row ∷ []
    → Grouped step keys aggregates One (λ input. input ≡ all) (map Ok new)
whole-rows step keys aggregates all slice old new key row none key_is slice_is ok old_is pushed =
    grouped-one step keys aggregates all all (map Ok new) (IsPermutation-refl all)
    (whole-is step keys aggregates all slice key none key_is slice_is ∙ ap (λ out. out ∷ []) (sym ok) ∙ sym (ap (map Ok) (pushed ∙ ap (λ front. front ++ row ∷ []) old_is)))

-- ---- sorted rows

pub GroupFaults-shuffled : (step : Step) (keys : List ℕ) (aggregates : List Aggregate) (all sorted slice : List Row) (row : Row) (code : Fault) → IsPermutation all sorted → slice ≡ sorted
    → GroupFaults step keys aggregates (λ input. input ≡ slice) row code → GroupFaults step keys aggregates (λ input. input ≡ all) row code
GroupFaults-shuffled step keys aggregates all sorted slice row code same slice_is h = record {
  input = all;
  from = refl;
  there = subst (λ outcomes. Contains outcomes (Err row)) (ap (groups step keys aggregates) (h.from ∙ slice_is) ∙ sym (groups-shuffled step keys aggregates all sorted same)) h.there;
  fault = h.fault;
}
