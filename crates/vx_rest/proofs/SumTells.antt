-- What moves tell of numbers follows from an operator's plain facts; and a batch that waits fits what is left of a sum.
use Rattle.std.proofs.Common.{◌≡◌, ℕ, zero, suc, ◌<◌, ◌≤◌, ◌+◌, ◌*◌, Bool, true, false, cond, List, [], ◌∷◌, ◌++◌, map, length, take, drop, refl, sym, ap, ◌∙◌, subst, inl, inr, arith}
use Rattle.std.specs.Prelude.{filter}
use Rattle.std.specs.List.Sorted.{IsPermutation}
use Rattle.std.proofs.lemmas.List.{length-append, length-map, length-take, length-drop}
use Rattle.std.proofs.lemmas.List.Sorted.{length_permutation}
use Rattle.vx_value.specs.Row.{Row}
use Rattle.vx_expr.specs.declared.expression.Expr.{Expr}
use Rattle.vx_plan.specs.declared.node.JoinKind.{JoinKind}
use Rattle.vx_plan.specs.declared.node.JoinKind.TheVariants.{Inner, Left, Right, Full, Semi, Anti}
use Rattle.vx_plan.specs.Tree.{Tree, values, over, join, Own, id_of}
use Rattle.vx_plan.specs.Limits.{growth, keeps, keeps_at}
use Rattle.vx_plan.specs.declared.refusal.LimitName.TheVariants.{Growth}
use Rattle.vx_plan.specs.Tree.{pre_order}
use Rattle.std.specs.List.{list_all}
use Rattle.std.specs.Prelude.{◌&&◌, ◌^◌}
use Rattle.std.proofs.lemmas.Bool.{leb-true}
use Rattle.vx_meaning.specs.Rows.{holds, image}
use Rattle.vx_meaning.specs.Joins.{On, Build, fresh, joined, probed, nulls, is_alone, alone}
use Rattle.vx_rest.specs.Lists.{drivers_of}
use Rattle.vx_rest.specs.Held.{Held, HeldJoin, Holding}
use Rattle.vx_rest.specs.Fits.{Within}
use Rattle.vx_rest.specs.Calls.{FilterKeeps, ProjectKeeps}
use Rattle.vx_rest.specs.MachineRank.{total}
use Rattle.vx_rest.specs.Machine.{JoinNode, join_node}
use Rattle.vx_rest.specs.Sums.{rows_in, most_of, allowed, alone_most, JoinTells, Counters, HasSums}
use Rattle.vx_rest.proofs.JoinCounts.{probed-few}
use Rattle.vx_rest.specs.JoinCalls.{marked, JoinStays, ProbesAnswered, OwedGiven, BuildsLeave}
use Rattle.vx_rest.proofs.Totals.{total-at}

-- ---- rows

fewer : {X : Type 0} (test : X → Bool) (xs : List X) → length (filter test xs) ≤ length xs
fewer test [] = omega arith
fewer test (x ∷ xs) = at (test x) (fewer test xs) where
  at : (b : Bool) → length (filter test xs) ≤ length xs → length (cond b (x ∷ filter test xs) (filter test xs)) ≤ length (x ∷ xs)
  at true h = omega arith
  at false h = omega arith

pub Filter-tells : (e : Expr) (old new : Held) (taken put : List Row) → FilterKeeps e old new taken put → length new.rows + length put ≤ length old.rows + length taken
Filter-tells e old new taken put h =
    let a = ap length h.is in let b = length-append old.rows (filter (holds e) taken) in let c = length-append put new.rows in let d = fewer (holds e) taken in omega arith

pub Project-tells : (es : List Expr) (old new : Held) (taken put : List Row) → ProjectKeeps es old new taken put → length new.rows + length put ≤ length old.rows + length taken
Project-tells es old new taken put h =
    let a = ap length h.is in let b = length-append old.rows (map (image es) taken) in let c = length-append put new.rows in let d = length-map taken (image es) in omega arith

-- an order's and a top-n's calls
pub Same-tells : (old new : Held) (taken put : List Row) → IsPermutation (old.rows ++ taken) (put ++ new.rows) → length new.rows + length put ≤ length old.rows + length taken
Same-tells old new taken put h = let a = length_permutation _ _ h in let b = length-append old.rows taken in let c = length-append put new.rows in omega arith

-- ---- joins

pub Stays-tells : (kind : JoinKind) (old new : HeldJoin) (tl tr : List Row) → JoinStays old new tl tr → JoinTells kind old new (length tl) (length tr) 0
Stays-tells kind old new tl tr s = record {
  answered = 0;
  given = 0;
  gone = 0;
  alone = 0;
  owed = let a = length_permutation _ _ s.owed in omega arith;
  deferred = let a = length_permutation _ _ s.deferred in let b = length-append old.deferred tl in omega arith;
  build = let a = length_permutation _ _ s.build in let b = length-append old.build (map fresh tr) in let c = length-map tr fresh in omega arith;
  few = omega arith;
  less = omega arith;
}

marked-many : (on : On) (probe : List Row) (build : List Build) → length (marked on probe build) ≡ length build
marked-many on probe build = length-map build _

pub Answers-tells : (kind : JoinKind) (on : On) (old new : HeldJoin) (tl before : List Row) → ProbesAnswered kind on old new tl before → JoinTells kind old new (length tl) 0 0
Answers-tells kind on old new tl before s = record {
  answered = length before;
  given = length (probed kind on before old.build);
  gone = 0;
  alone = 0;
  owed = let a = length_permutation _ _ s.owed in let b = length-append old.owed (probed kind on before old.build) in omega arith;
  deferred = let a = length_permutation _ _ s.deferred in let b = length-append old.deferred tl in let c = length-append before new.deferred in omega arith;
  build = let a = length_permutation _ _ s.build in let b = marked-many on before old.build in omega arith;
  few = subst (λ n. length (probed kind on before old.build) ≤ length before * allowed kind n) (sym (length_permutation _ _ s.build ∙ marked-many on before old.build)) (probed-few kind on before old.build);
  less = omega arith;
}

pub Gives-tells : (kind : JoinKind) (old new : HeldJoin) (put : List Row) → OwedGiven old new put → JoinTells kind old new 0 0 (length put)
Gives-tells kind old new put s = record {
  answered = 0;
  given = 0;
  gone = 0;
  alone = 0;
  owed = let a = length_permutation _ _ s.owed in let b = length-append put new.owed in omega arith;
  deferred = let a = ap length s.deferred in omega arith;
  build = let a = ap length s.build in omega arith;
  few = omega arith;
  less = omega arith;
}

alone-few : (kind : JoinKind) (on : On) (gone : List Build) → length (joined kind on [] gone) ≤ alone_most kind (length gone)
alone-few Inner on gone = omega arith
alone-few Left on gone = omega arith
alone-few Semi on gone = omega arith
alone-few Anti on gone = omega arith
alone-few Right on gone = let a = length-map (filter (is_alone on []) gone) (λ (b : Build). nulls on.left_columns ++ b.row) in let b = fewer (is_alone on []) gone in omega arith
alone-few Full on gone = let a = length-map (filter (is_alone on []) gone) (λ (b : Build). nulls on.left_columns ++ b.row) in let b = fewer (is_alone on []) gone in omega arith

pub Leaves-tells : (kind : JoinKind) (on : On) (old new : HeldJoin) (gone : List Build) (put : List Row) → BuildsLeave kind on old new gone put → JoinTells kind old new 0 0 (length put)
Leaves-tells kind on old new gone put s = record {
  answered = 0;
  given = 0;
  gone = length gone;
  alone = length put;
  owed = let a = ap length s.owed in omega arith;
  deferred = let a = ap length s.deferred in omega arith;
  build = let a = length_permutation _ _ s.build in let b = length-append gone new.build in omega arith;
  few = omega arith;
  less = let a = length_permutation _ _ s.is in let b = alone-few kind on gone in omega arith;
}

-- ---- what a sum leaves for a batch

module _ (drivers : ℕ) (q : Holding) where
  hand-within : (s : Tree) (d : ℕ) → d < drivers_of drivers s → length (q.hand (id_of s) d) ≤ most_of drivers q s
  hand-within (values id kinds all parallel) d w = let a = total-at (drivers_of drivers (values id kinds all parallel)) d (λ k. length (q.hand id k)) w in omega arith
  hand-within (over id own source) d w = let a = total-at (drivers_of drivers (over id own source)) d (λ k. length (q.hand id k)) w in omega arith
  hand-within (join id kind left_keys right_keys left right) d w = let a = total-at (drivers_of drivers (join id kind left_keys right_keys left right)) d (λ k. length (q.hand id k)) w in omega arith

  -- an operator with one source, and the batch in the hand before it
  pub batch-fits : (t : Tree) (c : Counters) → HasSums drivers t q c → (id : ℕ) (own : Own) (source : Tree) → Within (over id own source) t → (d : ℕ) → d < drivers_of drivers source
      → (c.took id d + length (q.hand (id_of source) d) ≤ growth source) × (c.since id d + length (q.hand (id_of source) d) ≤ growth source)
  batch-fits t c h id own source w d low =
      let hand = hand-within source d low in
      let a = h.first (over id own source) w in
      let b = h.second (over id own source) w in
      let x = total-at (drivers_of drivers source) d (c.took id) low in
      let y = total-at (drivers_of drivers source) d (c.since id) low in
      (omega arith, omega arith)

  -- a build: the batch in the hand before it, or rows on the way back, which are build rows out of its memory
  pub build-fits : (t : Tree) (c : Counters) → HasSums drivers t q c → (j : JoinNode) → Within (join_node j) t → (memory back : ℕ) → memory + back ≤ length (q.join j.id).build
      → ((d : ℕ) → d < drivers_of drivers j.right → (memory + c.left j.id) + length (q.hand (id_of j.right) d) ≤ growth j.right) × ((memory + c.left j.id) + back ≤ growth j.right)
  build-fits t c h j w memory back within =
      let a = h.third (join_node j) w in
      ((λ d low. let hand = hand-within j.right d low in omega arith), omega arith)

-- ---- growths within their limit

and-first : (a b : Bool) → (a && b) ≡ true → a ≡ true
and-first true b h = refl
and-first false b h = h

and-second : (a b : Bool) → (a && b) ≡ true → b ≡ true
and-second true b h = h
and-second false b h = absurd (Rattle.std.proofs.Common.true≢false (sym h))

all-first : (xs ys : List Tree) → list_all (keeps_at Growth) (xs ++ ys) ≡ true → list_all (keeps_at Growth) xs ≡ true
all-first [] ys h = refl
all-first (x ∷ xs) ys h = both (keeps_at Growth x) (list_all (keeps_at Growth) xs) (and-first (keeps_at Growth x) _ h) (all-first xs ys (and-second (keeps_at Growth x) _ h)) where
  both : (a b : Bool) → a ≡ true → b ≡ true → (a && b) ≡ true
  both true b h k = k
  both false b h k = h

all-second : (xs ys : List Tree) → list_all (keeps_at Growth) (xs ++ ys) ≡ true → list_all (keeps_at Growth) ys ≡ true
all-second [] ys h = h
all-second (x ∷ xs) ys h = all-second xs ys (and-second (keeps_at Growth x) _ h)

root-kept : (t : Tree) → list_all (keeps_at Growth) (pre_order t) ≡ true → growth t ≤ 2 ^ 62
root-kept (values id kinds all parallel) h = leb-true (growth (values id kinds all parallel)) (2 ^ 62) (and-first _ _ h)
root-kept (over id own source) h = leb-true (growth (over id own source)) (2 ^ 62) (and-first (keeps_at Growth (over id own source)) _ h)
root-kept (join id kind left_keys right_keys left right) h = leb-true (growth (join id kind left_keys right_keys left right)) (2 ^ 62) (and-first (keeps_at Growth (join id kind left_keys right_keys left right)) _ h)

pub growth-kept : (s t : Tree) → Within s t → list_all (keeps_at Growth) (pre_order t) ≡ true → growth s ≤ 2 ^ 62
growth-kept s (values id kinds all parallel) w h = subst (λ u. growth u ≤ 2 ^ 62) (sym w) (root-kept (values id kinds all parallel) h)
growth-kept s (over id own source) (inl w) h = subst (λ u. growth u ≤ 2 ^ 62) (sym w) (root-kept (over id own source) h)
growth-kept s (over id own source) (inr w) h = growth-kept s source w (and-second (keeps_at Growth (over id own source)) _ h)
growth-kept s (join id kind left_keys right_keys left right) (inl w) h = subst (λ u. growth u ≤ 2 ^ 62) (sym w) (root-kept (join id kind left_keys right_keys left right) h)
growth-kept s (join id kind left_keys right_keys left right) (inr (inl w)) h = growth-kept s left w (all-first (pre_order left) (pre_order right) (and-second (keeps_at Growth (join id kind left_keys right_keys left right)) _ h))
growth-kept s (join id kind left_keys right_keys left right) (inr (inr w)) h = growth-kept s right w (all-second (pre_order left) (pre_order right) (and-second (keeps_at Growth (join id kind left_keys right_keys left right)) _ h))

pub leave_room : (drivers : ℕ) (t : Tree) (q : Holding) (c : Counters) → HasSums drivers t q c → keeps Growth t ≡ true → (id : ℕ) (own : Own) (source : Tree) → Within (over id own source) t → (d : ℕ) → d < drivers_of drivers source
    → (c.took id d + length (q.hand (id_of source) d) ≤ 2 ^ 62) × (c.since id d + length (q.hand (id_of source) d) ≤ growth source)
leave_room drivers t q c sums kept id own source w d low =
    let a = batch-fits drivers q t c sums id own source w d low in
    let g = growth-kept source t (Rattle.vx_rest.proofs.DrainedLaws.source-within id own source t w) kept in
    ((let x = a.0 in omega arith), a.1)

pub have_room : (drivers : ℕ) (t : Tree) (q : Holding) (c : Counters) → HasSums drivers t q c → (j : JoinNode) → Within (join_node j) t → (memory back : ℕ) → memory + back ≤ length (q.join j.id).build
    → ((d : ℕ) → d < drivers_of drivers j.right → (memory + c.left j.id) + length (q.hand (id_of j.right) d) ≤ growth j.right) × ((memory + c.left j.id) + back ≤ growth j.right)
have_room drivers t q c sums j w memory back le = build-fits drivers q t c sums j w memory back le
