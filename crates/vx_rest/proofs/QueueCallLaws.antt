-- What the calls of values and exchanges keep, and the last call of first rows.
use Rattle.std.proofs.Common.{◌≡◌, ◌≢◌, ℕ, ◌<◌, true, false, cond, List, [], ◌++◌, take, length, All, refl, sym, ap, ◌∙◌, subst, append-nil, nat_eq, eqb-true, true≢false, Less}
use Rattle.std.specs.Prelude.{filter, get_or}
use Rattle.std.specs.List.Sorted.{IsPermutation}
use Rattle.std.proofs.Math.Seq.{take-append_seam}
use Rattle.std.proofs.lemmas.Bool.{eq-eqb}
use Rattle.std.proofs.lemmas.List.Sorted.{IsPermutation-trans, IsPermutation-append_right, All-permutation}
use Rattle.vx_value.specs.declared.sorting.SortKey.{SortKey}
use Rattle.vx_value.specs.Order.{IsSortedBy, cmp_rows}
use Rattle.vx_value.specs.Row.{Row}
use Rattle.vx_plan.specs.declared.node.ExchangeKind.{ExchangeKind}
use Rattle.vx_plan.specs.Tree.{topn}
use Rattle.vx_meaning.proofs.PlusLaws.{by_test}
use Rattle.vx_rest.specs.Lists.{together, nothing, only_at}
use Rattle.vx_rest.specs.Held.{Held}
use Rattle.vx_rest.specs.Rest.{TakesFirst, belongs}
use Rattle.vx_rest.specs.Calls.{Keeps, ExchangeKeeps, ValuesKeep}
use Rattle.vx_rest.proofs.Together.{perm_is, together-same, together-none, together-ahead}
use Rattle.vx_rest.proofs.Sorts.{in_order, in_order-same, in_order-sorted}
use Rattle.vx_rest.proofs.RowCallLaws.{pairs-both}
use Rattle.vx_rest.proofs.JoinHandLaws.{together-at}
use Rattle.vx_rest.specs.RowCalls.{GivesFirst, GivesLast}

only-here : (place : ℕ) (rows : List Row) → only_at place rows place ≡ rows
only-here place rows = ap (λ b. cond b rows []) (eq-eqb place place refl)

only-there : (place driver : ℕ) (rows : List Row) → nat_eq driver place ≡ false → only_at place rows driver ≡ []
only-there place driver rows h = ap (λ b. cond b rows []) h

away : (driver place : ℕ) → nat_eq driver place ≡ false → driver ≢ place
away driver place h e = true≢false (sym (eq-eqb driver place e) ∙ h)

-- ---- values

pub Values-give : (count : ℕ) (old new : ℕ → Held) (place : ℕ) (put : List Row) → ((driver : ℕ) → driver ≢ place → new driver ≡ old driver) → (old place).rows ≡ put ++ (new place).rows → ValuesKeep count old new (only_at place put)
Values-give count old new place put same is =
    subst (λ l. IsPermutation l (together count (only_at place put) ++ together count (λ d. (new d).rows)))
    (together-same count (λ d. only_at place put d ++ (new d).rows) (λ d. (old d).rows) (λ d w. by_test (nat_eq d place)
    (λ t. ap (λ k. only_at place put k ++ (new k).rows) (eqb-true d place t) ∙ ap (λ l. l ++ (new place).rows) (only-here place put) ∙ sym is ∙ ap (λ k. (old k).rows) (sym (eqb-true d place t)))
    (λ t. ap (λ l. l ++ (new d).rows) (only-there place d put t) ∙ ap (λ (h : Held). h.rows) (same d (away d place t)))))
    (together-ahead count (only_at place put) (λ d. (new d).rows))

-- ---- exchanges

-- a driver of the source puts a batch into the queues
pub Exchange-takes : (kind : ExchangeKind) (keys : List ℕ) (before queues : ℕ) (old new : ℕ → Held) (place : ℕ) (taken : List Row) → place < before
    → ((queue : ℕ) → queue < queues → IsPermutation ((old queue).rows ++ filter (belongs kind keys queues queue) taken) (new queue).rows) → ExchangeKeeps kind keys before queues old new (only_at place taken) nothing
Exchange-takes kind keys before queues old new place taken low h queue w =
    subst (λ l. IsPermutation ((old queue).rows ++ filter (belongs kind keys queues queue) l) (new queue).rows) (sym (together-at before place taken low)) (h queue w)

-- a batch comes out of a queue
pub Exchange-gives : (kind : ExchangeKind) (keys : List ℕ) (before queues : ℕ) (old new : ℕ → Held) (place : ℕ) (put : List Row) → ((queue : ℕ) → queue ≢ place → new queue ≡ old queue) → (old place).rows ≡ put ++ (new place).rows
    → ExchangeKeeps kind keys before queues old new nothing (only_at place put)
Exchange-gives kind keys before queues old new place put same is queue w =
    perm_is _ _ (ap (λ l. (old queue).rows ++ filter (belongs kind keys queues queue) l) (together-none before) ∙ append-nil (old queue).rows ∙ by_test (nat_eq queue place)
    (λ t. ap (λ k. (old k).rows) (eqb-true queue place t) ∙ is ∙ ap (λ l. l ++ (new place).rows) (sym (only-here place put)) ∙ ap (λ k. only_at place put k ++ (new k).rows) (sym (eqb-true queue place t)))
    (λ t. ap (λ (h : Held). h.rows) (sym (same queue (away queue place t))) ∙ ap (λ l. l ++ (new queue).rows) (sym (only-there place queue put t))))

-- ---- the call of first rows that leaves none to be given: its rows may go, also those in files

top-last : (keys : List SortKey) (old new : Held) (put rest : List Row) → GivesLast keys old new put rest → (more given : List Row) → TakesFirst keys new more given → TakesFirst keys old more (put ++ given)
top-last keys old new put rest f more given h =
    let none : more ≡ [] = h.ordered.ends f.ended in
    let ordered = in_order keys rest in
    record {
      all = put ++ ordered;
      ordered = record {
        ends = λ e. none;
        same = subst (λ l. IsPermutation (old.rows ++ l) (put ++ ordered)) (sym none) (subst (λ l. IsPermutation l (put ++ ordered)) (sym (append-nil old.rows))
            (IsPermutation-trans _ _ _ f.same (IsPermutation-append_right put _ _ (in_order-same keys rest))));
        sorted = pairs-both (λ row later. cmp_rows keys later row ≢ Less) put ordered f.sorted (in_order-sorted keys rest) (λ k d within.
            All-permutation (λ later. cmp_rows keys later (get_or put k d) ≢ Less) rest ordered (in_order-same keys rest) (f.first k d within));
      };
      is = ap (λ l. put ++ l) (h.is ∙ ap (λ n. take n h.all) f.left) ∙ append-nil put ∙ sym (take-append_seam put ordered) ∙ ap (λ n. take n (put ++ ordered)) (sym f.count);
    }

pub Top-last : (count : ℕ) (keys : List SortKey) (old new : Held) (put rest : List Row) → GivesLast keys old new put rest → Keeps (topn count keys) old new [] put
Top-last count keys old new put rest f = record { whole = top-last keys old new put rest f; begun = top-last keys old new put rest f; faults = λ more row code h. h }
