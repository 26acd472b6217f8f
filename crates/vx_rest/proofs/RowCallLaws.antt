-- What the calls of orders, first rows and limits keep.
use Rattle.std.proofs.Common.{◌≡◌, ◌≢◌, ℕ, zero, suc, ◌+◌, ◌-◌, true, List, [], ◌∷◌, ◌++◌, take, drop, length, All, AllPairs, sym, ap, ◌∙◌, subst, arith, append_assoc, Less}
use Rattle.std.specs.List.Sorted.{IsPermutation}
use Rattle.std.proofs.Math.Seq.{take-append-add}
use Rattle.std.proofs.lemmas.List.{append-nil}
use Rattle.std.proofs.lemmas.List.Elements.{All-append}
use Rattle.std.proofs.lemmas.List.Kept.{AllPairs-cons}
use Rattle.std.proofs.lemmas.List.Sorted.{All-permutation}
use Rattle.vx_value.specs.declared.sorting.SortKey.{SortKey}
use Rattle.vx_value.specs.Order.{IsSortedBy, cmp_rows}
use Rattle.vx_value.specs.Row.{Row}
use Rattle.vx_rest.specs.Held.{Held}
use Rattle.vx_rest.specs.Calls.{LimitKeeps, OrderKeeps, TopKeeps}
use Rattle.vx_rest.specs.JoinCalls.{StaysEnded}
use Rattle.vx_rest.proofs.JoinCallLaws.{still-ends, three}
use Rattle.vx_rest.specs.RowCalls.{GivesFirst, GivesLast}

module _ {X : Type 0} (R : X → X → Type 0) where
  pairs-first : (x : X) (xs : List X) → AllPairs R (x ∷ xs) → All (R x) xs
  pairs-first x xs h k d within = h 0 (suc k) d (omega arith) (omega arith)

  pairs-later : (x : X) (xs : List X) → AllPairs R (x ∷ xs) → AllPairs R xs
  pairs-later x xs h i j d low within = h (suc i) (suc j) d (omega arith) (omega arith)

  all-later : (x : X) (xs : List X) (P : X → Type 0) → All P (x ∷ xs) → All P xs
  all-later x xs P h k d within = h (suc k) d (omega arith)

  -- two lists, each item of the first before each of the second
  pub pairs-both : (xs ys : List X) → AllPairs R xs → AllPairs R ys → All (λ x. All (R x) ys) xs → AllPairs R (xs ++ ys)
  pairs-both [] ys h k cross = k
  pairs-both (x ∷ xs) ys h k cross =
      AllPairs-cons R x (xs ++ ys) (All-append (R x) xs ys (pairs-first x xs h) (cross 0 x (omega arith)))
      (pairs-both xs ys (pairs-later x xs h) k (all-later x xs (λ x. All (R x) ys) cross))

-- ---- orders

-- rows are taken in; an end, a merge, a reclaim
pub Order-takes : (keys : List SortKey) (old new : Held) (taken : List Row) → StaysEnded old.ended new.ended taken → IsPermutation (old.rows ++ taken) new.rows → OrderKeeps keys old new taken []
Order-takes keys old new taken still same more ends = record {
  ends = still-ends old.ended new.ended taken more still ends;
  same = three old.rows taken more new.rows same;
  sorted = λ given p s. s;
}

pub Order-gives : (keys : List SortKey) (old new : Held) (put : List Row) → GivesFirst keys old new put → OrderKeeps keys old new [] put
Order-gives keys old new put f more ends =
    let none : more ≡ [] = ends f.ended in
    record {
      ends = λ e. none;
      same = subst (λ l. IsPermutation (old.rows ++ l) (put ++ (new.rows ++ l))) (sym none)
          (subst (λ l. IsPermutation l (put ++ (new.rows ++ []))) (sym (append-nil old.rows)) (subst (λ l. IsPermutation old.rows (put ++ l)) (sym (append-nil new.rows)) f.same));
      sorted = λ given p s. pairs-both (λ row later. cmp_rows keys later row ≢ Less) put given f.sorted s (λ k d within.
          All-permutation (λ later. cmp_rows keys later (Rattle.std.specs.Prelude.get_or put k d) ≢ Less) new.rows given
          (subst (λ l. IsPermutation l given) (ap (λ l. new.rows ++ l) none ∙ append-nil new.rows) p) (f.first k d within));
    }

pub Top-takes : (keys : List SortKey) (old new : Held) (taken : List Row) → StaysEnded old.ended new.ended taken → IsPermutation (old.rows ++ taken) new.rows → new.left ≡ old.left → TopKeeps keys old new taken []
Top-takes keys old new taken still same left = record { order = Order-takes keys old new taken still same; left = λ given. ap (λ n. take n given) (sym left) }

pub Top-gives : (keys : List SortKey) (old new : Held) (put : List Row) → GivesFirst keys old new put → old.left ≡ length put + new.left → TopKeeps keys old new [] put
Top-gives keys old new put f left = record { order = Order-gives keys old new put f; left = λ given. ap (λ n. take n (put ++ given)) left ∙ take-append-add put given new.left }

-- ---- limits

drop-both : {X : Type 0} (n : ℕ) (xs ys : List X) → drop n (xs ++ ys) ≡ drop n xs ++ drop (n - length xs) ys
drop-both zero xs ys = let e : 0 - length xs ≡ 0 = omega arith in ap (λ n. xs ++ drop n ys) (sym e)
drop-both (suc n) [] ys = let e : suc n - 0 ≡ suc n = omega arith in ap (λ m. drop m ys) (sym e)
drop-both (suc n) (x ∷ xs) ys = let e : n - length xs ≡ suc n - length (x ∷ xs) = omega arith in drop-both n xs ys ∙ ap (λ m. drop n xs ++ drop m ys) e

take-both : {X : Type 0} (n : ℕ) (xs ys : List X) → take n (xs ++ ys) ≡ take n xs ++ take (n - length xs) ys
take-both zero xs ys = let e : 0 - length xs ≡ 0 = omega arith in ap (λ n. take n ys) (sym e)
take-both (suc n) [] ys = let e : suc n - 0 ≡ suc n = omega arith in ap (λ m. take m ys) (sym e)
take-both (suc n) (x ∷ xs) ys = let e : n - length xs ≡ suc n - length (x ∷ xs) = omega arith in ap (λ l. x ∷ l) (take-both n xs ys ∙ ap (λ m. take n xs ++ take m ys) e)

-- rows are taken in: those at the places go to what is held
pub Limit-takes : (old new : Held) (taken : List Row) → new.rows ≡ old.rows ++ take old.left (drop old.skip taken) → new.skip ≡ old.skip - length taken → new.left ≡ old.left - length (drop old.skip taken) → LimitKeeps old new taken []
Limit-takes old new taken rows skip left more =
    ap (λ l. old.rows ++ l) (ap (take old.left) (drop-both old.skip taken more) ∙ take-both old.left (drop old.skip taken) (drop (old.skip - length taken) more))
    ∙ sym (append_assoc old.rows (take old.left (drop old.skip taken)) (take (old.left - length (drop old.skip taken)) (drop (old.skip - length taken) more)))
    ∙ (λ i. sym rows i ++ take (sym left i) (drop (sym skip i) more))

pub Limit-gives : (old new : Held) (put : List Row) → old.rows ≡ put ++ new.rows → new.skip ≡ old.skip → new.left ≡ old.left → LimitKeeps old new [] put
Limit-gives old new put rows skip left more = (λ i. rows i ++ take (sym left i) (drop (sym skip i) more)) ∙ append_assoc put new.rows (take new.left (drop new.skip more))
