-- The machine's moves don't raise the most rows that a node may still give.
use Rattle.std.proofs.Common.{◌≡◌, ◌≢◌, ℕ, zero, suc, ◌<◌, ◌≤◌, ◌+◌, ◌%◌, Bool, true, false, cond, List, [], ◌∷◌, ◌++◌, length, refl, sym, ap, ap₂, ◌∙◌, subst, inl, inr, nat_eq, eqb-true, arith, append-nil}
use Rattle.std.specs.Prelude.{filter}
use Rattle.std.specs.List.Sorted.{IsPermutation}
use Rattle.std.proofs.lemmas.Bool.{eq-eqb}
use Rattle.std.proofs.lemmas.List.{length-append}
use Rattle.std.proofs.lemmas.List.Sorted.{length_permutation}
use Rattle.vx_value.specs.declared.value.Kind.{Kind}
use Rattle.vx_value.specs.declared.value.Value.{Value}
use Rattle.vx_value.specs.Row.{Row}
use Rattle.vx_value.specs.KeyBytes.{key_bytes}
use Rattle.vx_value.specs.Hash.{hash_of}
use Rattle.vx_plan.specs.declared.node.JoinKind.{JoinKind}
use Rattle.vx_plan.specs.declared.node.ExchangeKind.{ExchangeKind}
use Rattle.vx_plan.specs.declared.node.ExchangeKind.TheVariants.{Gather, Hash}
use Rattle.vx_plan.specs.Tree.{Tree, values, over, join, Own, filter as filtering, project, aggregation, order, topn, limit, exchange, id_of}
use Rattle.vx_meaning.proofs.PlusLaws.{by_test}
use Rattle.vx_rest.specs.Lists.{Lists, together, nothing, only_at, drivers_of}
use Rattle.vx_rest.specs.Held.{Held, HeldJoin, Holding}
use Rattle.vx_rest.specs.Rest.{belongs}
use Rattle.vx_rest.specs.Fits.{Passed, HandsPass, Within, AreOnce}
use Rattle.vx_rest.specs.Calls.{ExchangeKeeps}
use Rattle.vx_rest.specs.HandMoves.{taking, putting, standing, HandEmptied, HandFilled, HandsStay, StaysBut}
use Rattle.vx_rest.specs.MachineRank.{total}
use Rattle.vx_rest.specs.Machine.{Machine, JoinNode, join_node, Move, reads, gives, answers, leaves, takes, builds, probes, comes_out, turns, merges, finishes, built, probed, empties, stops}
use Rattle.vx_rest.specs.Changes.{OthersStay, AnswerChanges, JoinStands, TakeChanges, Makes}
use Rattle.vx_rest.specs.Reclaims.{Reclaims, ReclaimsJoin}
use Rattle.vx_rest.specs.Sums.{weigh, rows_in, most_of, JoinTells, JoinStill, TakesTell, Tells, passed}
use Rattle.vx_rest.proofs.Totals.{total-add, total-under, total-equal, total-none, total-dot-most, total-together}
use Rattle.vx_rest.proofs.MachineParts.{eq_or, within-trans}
use Rattle.vx_rest.proofs.HandLaws.{taken-at, put-at, taking-hands, putting-hands, standing-hands}
use Rattle.vx_rest.proofs.JoinHandLaws.{together-at, turn}
use Rattle.vx_rest.proofs.MostLaws.{CountsHere, most-down, counts-other, counts-all, join-still}

-- ---- one driver's rows

pub only-length : (p d : ℕ) (rows : List Row) → length (only_at p rows d) ≡ cond (nat_eq d p) (length rows) 0
only-length p d rows = by_test (nat_eq d p)
    (λ t. ap (λ b. length (cond b rows [])) t ∙ sym (ap (λ b. cond b (length rows) 0) t))
    (λ t. ap (λ b. length (cond b rows [])) t ∙ sym (ap (λ b. cond b (length rows) 0) t))

only-self : (p : ℕ) (rows : List Row) → length (only_at p rows p) ≡ length rows
only-self p rows = only-length p p rows ∙ ap (λ b. cond b (length rows) 0) (eq-eqb p p refl)

only-else : (p d : ℕ) (rows : List Row) → d ≢ p → length (only_at p rows d) ≡ 0
only-else p d rows ne = by_test (nat_eq d p) (λ t. absurd (ne (eqb-true d p t))) (λ t. only-length p d rows ∙ ap (λ b. cond b (length rows) 0) t)

pub only-rows : (n p : ℕ) (rows : List Row) → p < n → total n (λ d. length (only_at p rows d)) ≡ length rows
only-rows n p rows w = total-together n (only_at p rows) ∙ ap length (together-at n p rows w)

only-most : (n p : ℕ) (rows : List Row) → total n (λ d. length (only_at p rows d)) ≤ length rows
only-most n p rows =
    let e = total-equal n (λ d. length (only_at p rows d)) (λ d. cond (nat_eq p d) (length rows) 0) (λ d w. only-length p d rows ∙ ap (λ b. cond b (length rows) 0) (turn d p)) in
    let m = total-dot-most n p (length rows) in
    omega arith

put-counts : (n p : ℕ) (f g : ℕ → ℕ) (rows : List Row) → f p + length rows ≤ g p → ((d : ℕ) → d ≢ p → f d ≤ g d) → total n f + total n (λ d. length (only_at p rows d)) ≤ total n g
put-counts n p f g rows here other =
    let e = total-add n f (λ d. length (only_at p rows d)) in
    let m = total-under n (λ d. f d + length (only_at p rows d)) g
    (λ d w. eq_or d p (λ a. subst (λ k. f k + length (only_at p rows k) ≤ g k) (sym a) (let z = only-self p rows in omega arith)) (λ ne. let z = only-else p d rows ne in let y = other d ne in omega arith)) in
    omega arith

take-counts : (n p : ℕ) (f g : ℕ → ℕ) (rows : List Row) → f p ≤ g p + length rows → ((d : ℕ) → d ≢ p → f d ≤ g d) → total n f ≤ total n g + length rows
take-counts n p f g rows here other =
    let e = total-add n g (λ d. length (only_at p rows d)) in
    let m = total-under n f (λ d. g d + length (only_at p rows d))
    (λ d w. eq_or d p (λ a. subst (λ k. f k ≤ g k + length (only_at p rows k)) (sym a) (let z = only-self p rows in omega arith)) (λ ne. let z = only-else p d rows ne in let y = other d ne in omega arith)) in
    let o = only-most n p rows in
    omega arith

-- ---- the queues of an exchange

each-kept : (test : Row → Bool) (x : Row) (xs : List Row) → length (filter test (x ∷ xs)) ≡ cond (test x) 1 0 + length (filter test xs)
each-kept test x xs = at (test x) where
  at : (b : Bool) → length (cond b (x ∷ filter test xs) (filter test xs)) ≡ cond b 1 0 + length (filter test xs)
  at true = omega arith
  at false = omega arith

hash-counts : (keys : List ℕ) (queues n : ℕ) (xs : List Row) → total n (λ q. length (filter (belongs Hash keys queues q) xs)) ≤ length xs
hash-counts keys queues n [] = let z = total-none n (λ q. length (filter (belongs Hash keys queues q) [])) (λ d w. refl) in omega arith
hash-counts keys queues n (x ∷ xs) =
    let h = hash_of (key_bytes keys x) % queues in
    let e = total-equal n (λ q. length (filter (belongs Hash keys queues q) (x ∷ xs))) (λ q. cond (nat_eq h q) 1 0 + length (filter (belongs Hash keys queues q) xs)) (λ q w. each-kept (belongs Hash keys queues q) x xs) in
    let s = total-add n (λ q. cond (nat_eq h q) 1 0) (λ q. length (filter (belongs Hash keys queues q) xs)) in
    let d = total-dot-most n h 1 in
    let r = hash-counts keys queues n xs in
    omega arith

gather-count : (keys : List ℕ) (queues queue : ℕ) (xs : List Row) → length (filter (belongs Gather keys queues queue) xs) ≡ length xs
gather-count keys queues queue [] = refl
gather-count keys queues queue (x ∷ xs) = ap suc (gather-count keys queues queue xs)

exchange-counts : (drivers id : ℕ) (kind : ExchangeKind) (keys : List ℕ) (source : Tree) (xs : List Row)
    → total (drivers_of drivers (over id (exchange kind keys) source)) (λ q. length (filter (belongs kind keys (drivers_of drivers (over id (exchange kind keys) source)) q) xs)) ≤ length xs
exchange-counts drivers id Gather keys source xs = let e = gather-count keys 1 0 xs in omega arith
exchange-counts drivers id Hash keys source xs = hash-counts keys (drivers_of drivers (over id (exchange Hash keys) source)) (drivers_of drivers (over id (exchange Hash keys) source)) xs

-- ---- a node's numbers, move by move

weaker : (kind : JoinKind) (old new : HeldJoin) (tl tr put tl' tr' put' : ℕ) → JoinTells kind old new tl tr put → tl ≤ tl' → tr ≤ tr' → put' ≤ put → JoinTells kind old new tl' tr' put'
weaker kind old new tl tr put tl' tr' put' h a b c = record {
  answered = h.answered;
  given = h.given;
  gone = h.gone;
  alone = h.alone;
  owed = let x = h.owed in omega arith;
  deferred = let x = h.deferred in omega arith;
  build = let x = h.build in omega arith;
  few = h.few;
  less = h.less;
}

none-rows : (drivers : ℕ) (t : Tree) → rows_in drivers t nothing ≡ 0
none-rows drivers t = total-none (drivers_of drivers t) (λ d. 0) (λ d w. refl)

module _ (drivers : ℕ) (t : Tree) (once : AreOnce t) (old new : Machine) where
  abbrev q : Holding
  q = old.query

  abbrev q' : Holding
  q' = new.query

  abbrev Counts : Passed → Tree → Type 0
  Counts m s = CountsHere drivers q q' m s

  put-rows : (s : Tree) (id d : ℕ) → rows_in drivers s ((putting id d (q'.hand id d)).put id) ≡ total (drivers_of drivers s) (λ k. length (only_at d (q'.hand id d) k))
  put-rows s id d = ap (rows_in drivers s) (put-at id d (q'.hand id d))

  taken-rows : (s : Tree) (id d : ℕ) → d < drivers_of drivers s → rows_in drivers s ((taking id d (q.hand id d)).taken id) ≡ length (q.hand id d)
  taken-rows s id d w = ap (rows_in drivers s) (taken-at id d (q.hand id d)) ∙ only-rows (drivers_of drivers s) d (q.hand id d) w

  weigh-others : (id d : ℕ) (own : Own) → OthersStay d (q.held id) (q'.held id) → (k : ℕ) → k ≢ d → weigh own (q'.held id k) ≤ weigh own (q.held id k)
  weigh-others id d own h k ne = let e = ap (weigh own) (h k ne) in omega arith

  gives-here : (id : ℕ) (own : Own) (source : Tree) (d : ℕ) → OthersStay d (q.held id) (q'.held id) → weigh own (q'.held id d) + length (q'.hand id d) ≤ weigh own (q.held id d) → Counts (putting id d (q'.hand id d)) (over id own source)
  gives-here id own source d others told =
      let p = put-rows (over id own source) id d in
      let c = put-counts (drivers_of drivers (over id own source)) d (λ k. weigh own (q'.held id k)) (λ k. weigh own (q.held id k)) (q'.hand id d) told (weigh-others id d own others) in
      omega arith

  takes-plain : (id : ℕ) (own : Own) (source : Tree) (d : ℕ) → d < drivers_of drivers source → OthersStay d (q.held id) (q'.held id) → weigh own (q'.held id d) ≤ weigh own (q.held id d) + length (q.hand (id_of source) d)
      → Counts (taking (id_of source) d (q.hand (id_of source) d)) (over id own source)
  takes-plain id own source d w others told =
      let z = none-rows drivers (over id own source) in
      let p = taken-rows source (id_of source) d w in
      let c = take-counts (drivers_of drivers (over id own source)) d (λ k. weigh own (q'.held id k)) (λ k. weigh own (q.held id k)) (q.hand (id_of source) d) told (weigh-others id d own others) in
      omega arith

  takes-queues : (id : ℕ) (kind : ExchangeKind) (keys : List ℕ) (source : Tree) (d : ℕ) → d < drivers_of drivers source
      → ExchangeKeeps kind keys (drivers_of drivers source) (drivers_of drivers (over id (exchange kind keys) source)) (q.held id) (q'.held id) (only_at d (q.hand (id_of source) d)) nothing → Counts (taking (id_of source) d (q.hand (id_of source) d)) (over id (exchange kind keys) source)
  takes-queues id kind keys source d w keeps =
      let n = drivers_of drivers (over id (exchange kind keys) source) in
      let xs = together (drivers_of drivers source) (only_at d (q.hand (id_of source) d)) in
      let z = none-rows drivers (over id (exchange kind keys) source) in
      let p = taken-rows source (id_of source) d w in
      let x : length xs ≡ length (q.hand (id_of source) d) = ap length (together-at (drivers_of drivers source) d (q.hand (id_of source) d) w) in
      let e = total-equal n (λ k. length (q'.held id k).rows) (λ k. length (q.held id k).rows + length (filter (belongs kind keys n k) xs))
      (λ k low. let a = length_permutation _ _ (keeps k low) in let b = length-append (q.held id k).rows (filter (belongs kind keys n k) xs) in omega arith) in
      let s = total-add n (λ k. length (q.held id k).rows) (λ k. length (filter (belongs kind keys n k) xs)) in
      let c = exchange-counts drivers id kind keys source xs in
      omega arith

  takes-here : (id : ℕ) (own : Own) (source : Tree) (d : ℕ) → d < drivers_of drivers source → TakeChanges drivers id own source d old new → TakesTell own (q.held id d) (q'.held id d) (length (q.hand (id_of source) d)) → Counts (taking (id_of source) d (q.hand (id_of source) d)) (over id own source)
  takes-here id (filtering x) source d w c told = takes-plain id (filtering x) source d w c.others.0 told
  takes-here id (project xs) source d w c told = takes-plain id (project xs) source d w c.others.0 told
  takes-here id (aggregation step keys aggregates) source d w c told = takes-plain id (aggregation step keys aggregates) source d w c.others.0 told
  takes-here id (order keys) source d w c told = takes-plain id (order keys) source d w c.others.0 told
  takes-here id (topn count keys) source d w c told = takes-plain id (topn count keys) source d w c.others.0 told
  takes-here id (limit offset count) source d w c told = takes-plain id (limit offset count) source d w c.others.0 told
  takes-here id (exchange kind keys) source d w c told =
      takes-queues id kind keys source d w
      (subst (λ rows. ExchangeKeeps kind keys (drivers_of drivers source) (drivers_of drivers (over id (exchange kind keys) source)) (q.held id) (q'.held id) (only_at d rows) nothing) (sym c.hand.before) c.keeps)

  stays-here : (id : ℕ) (own : Own) (source : Tree) (d : ℕ) → OthersStay d (q.held id) (q'.held id) → weigh own (q'.held id d) ≤ weigh own (q.held id d) → Counts standing (over id own source)
  stays-here id own source d others told =
      let z = none-rows drivers (over id own source) in
      let y = none-rows drivers source in
      let m = total-under (drivers_of drivers (over id own source)) (λ k. weigh own (q'.held id k)) (λ k. weigh own (q.held id k))
      (λ k w. eq_or k d (λ e. subst (λ k. weigh own (q'.held id k) ≤ weigh own (q.held id k)) (sym e) told) (weigh-others id d own others k)) in
      omega arith

  emptied : (id d : ℕ) (rows : List Row) → HandEmptied id d rows q q' → HandEmptied id d (q.hand id d) q q'
  emptied id d rows h = record { before = refl; after = h.after; others = h.others }

  filled : (id d : ℕ) (rows : List Row) → HandFilled id d rows q q' → HandFilled id d (q'.hand id d) q q'
  filled id d rows h = record { before = h.before; after = refl; others = h.others }

  abbrev Down : Passed → Type 0
  Down m = (s : Tree) → Within s t → most_of drivers q' s + rows_in drivers s (m.taken (id_of s)) ≤ most_of drivers q s

  down : (m : Passed) → HandsPass m q q' → ((s : Tree) → Within s t → Counts m s) → Down m
  down m hands counts s w = most-down drivers q q' m hands s (λ u v. counts u (within-trans u s t v w))

  put-down : (part : Tree) (d : ℕ) (rows : List Row) → Within part t → StaysBut (id_of part) q q' → HandFilled (id_of part) d rows q q' → Counts (putting (id_of part) d (q'.hand (id_of part) d)) part → Down (putting (id_of part) d (q'.hand (id_of part) d))
  put-down part d rows within stays hand here =
      let m = putting (id_of part) d (q'.hand (id_of part) d) in
      let hands = putting-hands (id_of part) d (q'.hand (id_of part) d) q q' (filled (id_of part) d rows hand) in
      down m hands (counts-all drivers q q' m hands t part once within stays
      (λ id ne. by_test (nat_eq id (id_of part)) (λ e. absurd (ne (eqb-true id (id_of part) e))) (λ e. ap (λ b. cond b (only_at d (q'.hand (id_of part) d)) nothing) e)) here)

  take-down : (part : Tree) (id d : ℕ) (rows : List Row) → Within part t → StaysBut (id_of part) q q' → HandEmptied id d rows q q' → Counts (taking id d (q.hand id d)) part → Down (taking id d (q.hand id d))
  take-down part id d rows within stays hand here =
      let m = taking id d (q.hand id d) in
      let hands = taking-hands id d (q.hand id d) q q' (emptied id d rows hand) in
      down m hands (counts-all drivers q q' m hands t part once within stays (λ k ne. refl) here)

  pub stay-down : (part : Tree) → Within part t → StaysBut (id_of part) q q' → HandsStay q q' → Counts standing part → Down standing
  stay-down part within stays hands here =
      let pass = standing-hands q q' hands in
      down standing pass (counts-all drivers q q' standing pass t part once within stays (λ k ne. refl) here)

  joint-counts : (j : JoinNode) (m : Passed) (tl tr put : ℕ) → JoinTells j.kind (q.join j.id) (q'.join j.id) tl tr put → tl ≤ rows_in drivers j.left (m.taken (id_of j.left)) → tr ≤ rows_in drivers j.right (m.taken (id_of j.right))
      → rows_in drivers (join_node j) (m.put j.id) ≤ put → Counts m (join_node j)
  joint-counts j m tl tr put told a b c = weaker j.kind (q.join j.id) (q'.join j.id) tl tr put _ _ _ told a b c

  stands-down : (j : JoinNode) → Within (join_node j) t → StaysBut j.id q q' → HandsStay q q' → JoinStill j old new → Down standing
  stands-down j within stays hands told =
      stay-down (join_node j) within stays hands (joint-counts j standing 0 0 0 told (omega arith) (omega arith) (let z = none-rows drivers (join_node j) in omega arith))

  answers-down : (j : JoinNode) → Within (join_node j) t → AnswerChanges j old new → JoinTells j.kind (q.join j.id) (q'.join j.id) 0 0 (length (q'.hand j.id 0)) → Down (putting j.id 0 (q'.hand j.id 0))
  answers-down j within c told =
      put-down (join_node j) 0 c.rows within c.here.here.stays c.hand
      (joint-counts j (putting j.id 0 (q'.hand j.id 0)) 0 0 (length (q'.hand j.id 0)) told (omega arith) (omega arith)
      (let p = put-rows (join_node j) j.id 0 in let o = only-most (drivers_of drivers (join_node j)) 0 (q'.hand j.id 0) in omega arith))

module _ (drivers : ℕ) (some : 1 ≤ drivers) (t : Tree) (once : AreOnce t) (well : Rattle.vx_rest.specs.Start.AreDealtWell t) where
  pub move-down : (move : Move) (old new : Machine) → Makes drivers t move old new → Tells move old new → (s : Tree) → Within s t → most_of drivers new.query s + rows_in drivers s ((passed t move old new).taken (id_of s)) ≤ most_of drivers old.query s
  move-down (reads id kinds all parallel d) old new h told =
      let c = h.changes in
      let part = values id kinds all parallel in
      put-down drivers t once old new part d c.rows h.can.needs.0 c.here.stays c.hand
      (let p = put-rows drivers t once old new part id d in
      let k = put-counts (drivers_of drivers part) d (λ k. length (new.query.held id k).rows) (λ k. length (old.query.held id k).rows) (new.query.hand id d)
      (let a = ap length c.is in let b = length-append c.rows (new.query.held id d).rows in let e = ap length c.hand.after in omega arith)
      (λ k ne. let e = ap (λ (x : Held). length x.rows) (c.others k ne) in omega arith) in
      omega arith)
  move-down (gives id own source d) old new h told =
      let c = h.changes in
      put-down drivers t once old new (over id own source) d c.rows h.can.needs.0 c.here.stays c.hand (gives-here drivers t once old new id own source d c.others told)
  move-down (takes id own source d) old new h told =
      let c = h.changes in
      take-down drivers t once old new (over id own source) (id_of source) d _ h.can.needs.0 c.here.stays c.hand (takes-here drivers t once old new id own source d h.can.needs.1 c told)
  move-down (merges id own source d) old new h told =
      let c = h.changes in
      stay-down drivers t once old new (over id own source) h.can.needs.0 c.here.stays c.hands (stays-here drivers t once old new id own source d c.others told)
  move-down (finishes id own source d) old new h told =
      let c = h.changes in
      stay-down drivers t once old new (over id own source) h.can.needs.0 c.here.stays c.hands (stays-here drivers t once old new id own source d c.others told)
  move-down (answers j) old new h told = answers-down drivers t once old new j h.can.needs.0 h.changes told
  move-down (leaves j) old new h told = answers-down drivers t once old new j h.can.needs.0 h.changes told
  move-down (builds j d) old new h told =
      let c = h.changes in
      take-down drivers t once old new (join_node j) (id_of j.right) d _ h.can.needs.0 c.here.here.stays c.hand
      (joint-counts drivers t once old new j (taking (id_of j.right) d (old.query.hand (id_of j.right) d)) 0 (length (old.query.hand (id_of j.right) d)) 0 told (omega arith)
      (let e = taken-rows drivers t once old new j.right (id_of j.right) d h.can.needs.1 in omega arith) (let z = none-rows drivers (join_node j) in omega arith))
  move-down (probes j) old new h told =
      let c = h.changes in
      let low : 0 < drivers_of drivers j.left = Rattle.vx_rest.proofs.StartLaw.lanes-some drivers some (Rattle.vx_plan.specs.Width.width_of j.left) in
      take-down drivers t once old new (join_node j) (id_of j.left) 0 _ h.can.needs.0 c.here.here.stays c.hand
      (joint-counts drivers t once old new j (taking (id_of j.left) 0 (old.query.hand (id_of j.left) 0)) (length (old.query.hand (id_of j.left) 0)) 0 0 told
      (let e = taken-rows drivers t once old new j.left (id_of j.left) 0 low in omega arith) (omega arith) (let z = none-rows drivers (join_node j) in omega arith))
  move-down comes_out old new h told =
      let c = h.changes.out in
      let m = taking (id_of t) 0 (old.query.hand (id_of t) 0) in
      let hands = taking-hands (id_of t) 0 (old.query.hand (id_of t) 0) old.query new.query (emptied drivers t once old new (id_of t) 0 _ c.hands) in
      down drivers t once old new m hands (λ s w. counts-other drivers old.query new.query m hands s (ap (λ f. f (id_of s)) c.held) (ap (λ f. f (id_of s)) c.join) refl)
  move-down (turns j) old new h told = stands-down drivers t once old new j h.can.needs.0 h.changes.here.here.stays h.changes.hands told
  move-down (built j d) old new h told = stands-down drivers t once old new j h.can.needs.0 h.changes.stands.here.here.stays h.changes.stands.hands told
  move-down (probed j) old new h told = stands-down drivers t once old new j h.can.needs.0 h.changes.stands.here.here.stays h.changes.stands.hands told
  move-down (empties j) old new h told = stands-down drivers t once old new j h.can.needs.0 h.changes.stands.here.here.stays h.changes.stands.hands told
  move-down stops old new h told = λ s w.
      let e : most_of drivers new.query s ≡ most_of drivers old.query s = ap (λ (x : Holding). most_of drivers x s) h.changes.query in
      let z = none-rows drivers s in
      omega arith

  pub reclaim-down : (id : ℕ) (own : Own) (source : Tree) (d : ℕ) (old new : Machine) → Reclaims drivers t id own source d old new → weigh own (new.query.held id d) ≤ weigh own (old.query.held id d) → (s : Tree) → Within s t → most_of drivers new.query s ≤ most_of drivers old.query s
  reclaim-down id own source d old new c told s w =
      let x = stay-down drivers t once old new (over id own source) c.within c.here.stays c.hands (stays-here drivers t once old new id own source d c.others told) s w in
      omega arith

  pub cut-down : (j : JoinNode) (old new : Machine) → ReclaimsJoin drivers t j old new → JoinStill j old new → (s : Tree) → Within s t → most_of drivers new.query s ≤ most_of drivers old.query s
  cut-down j old new c told s w = let x = stands-down drivers t once old new j c.within c.here.here.stays c.hands told s w in omega arith
