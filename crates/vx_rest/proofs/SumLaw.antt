-- The sums of rows taken in and of rows still to come hold at the start, and moves and reclaims keep them.
use Rattle.std.proofs.Common.{◌≡◌, ◌≢◌, ℕ, zero, suc, ◌<◌, ◌≤◌, ◌+◌, ◌*◌, ◌&&◌, Bool, true, false, cond, List, [], ◌∷◌, ◌++◌, length, refl, sym, ap, ap₂, ◌∙◌, subst, inl, inr, nat_eq, eqb-true, arith, mul-le-mul, Ok}
use Rattle.std.proofs.lemmas.Bool.{eq-eqb}
use Rattle.std.proofs.lemmas.List.Sorted.{length_permutation}
use Rattle.vx_value.specs.Row.{Row}
use Rattle.vx_plan.specs.declared.node.JoinKind.{JoinKind}
use Rattle.vx_plan.specs.declared.node.JoinKind.TheVariants.{Inner, Left, Right, Full, Semi, Anti}
use Rattle.vx_plan.specs.declared.aggregate.Aggregate.{Aggregate}
use Rattle.vx_plan.specs.declared.widths.Width.{Width}
use Rattle.vx_plan.specs.declared.widths.Width.TheVariants.{One, Many}
use Rattle.vx_plan.specs.Widths.{is_one, check_widths}
use Rattle.vx_plan.specs.Ids.{check_ids}
use Rattle.vx_plan.specs.Width.{width_of}
use Rattle.vx_plan.specs.Tree.{Tree, values, over, join, Own, filter, project, aggregation, order, topn, limit, exchange, id_of}
use Rattle.vx_plan.specs.Limits.{growth, growth_over, growth_joined}
use Rattle.vx_meaning.proofs.PlusLaws.{by_test}
use Rattle.vx_rest.specs.Lists.{Lists, together, nothing, only_at, drivers_of}
use Rattle.vx_rest.specs.Held.{Held, HeldJoin, Holding, first_groups}
use Rattle.vx_rest.specs.Start.{new_held, new_join, AreNew, AreDealtWell}
use Rattle.vx_rest.specs.Fits.{Within, AreOnce}
use Rattle.vx_rest.specs.HandMoves.{taking}
use Rattle.vx_rest.specs.Counts.{join_most}
use Rattle.vx_rest.specs.MachineRank.{total}
use Rattle.vx_rest.specs.Machine.{Machine, JoinNode, join_node, Move, reads, gives, answers, leaves, takes, builds, probes, comes_out, turns, merges, finishes, built, probed, empties, stops}
use Rattle.vx_rest.specs.Changes.{Makes}
use Rattle.vx_rest.specs.Reclaims.{Reclaims, ReclaimsJoin}
use Rattle.vx_rest.specs.Run.{StartsNew}
use Rattle.vx_rest.specs.Sums.{weigh, rows_in, most_of, Tells, passed, JoinStill, Counters, taken_in, built_in, Ticks, Sum, JoinSum, HasSums, StartsCounted, ReclaimTells, IsCounted, started, moved, reclaimed, cut}
use Rattle.vx_rest.proofs.Totals.{total-add, total-under, total-equal, total-none, total-ones, total-together}
use Rattle.vx_rest.proofs.Checked.{well-from_check, once-from_check}
use Rattle.vx_rest.proofs.MachineParts.{eq_or, within-trans}
use Rattle.vx_rest.proofs.OnlyAtLaws.{within-unique}
use Rattle.vx_rest.proofs.HandLaws.{taken-at}
use Rattle.vx_rest.proofs.MostMachine.{only-length, only-rows, move-down, reclaim-down, cut-down}

-- ---- at the start

few-lanes : (drivers : ℕ) → 1 ≤ drivers → (w : Width) → cond (is_one w) 1 drivers ≤ drivers
few-lanes drivers some One = some
few-lanes drivers some Many = omega arith

new-weigh : (own : Own) (below n : ℕ) (held : ℕ → Held) → n ≤ 8 → ((d : ℕ) → d < n → held d ≡ new_held own) → total n (λ d. weigh own (held d)) + below ≤ growth_over own below
new-weigh (filter x) below n held low h = let z = total-none n (λ d. length (held d).rows) (λ d w. ap (λ (x : Held). length x.rows) (h d w)) in omega arith
new-weigh (project xs) below n held low h = let z = total-none n (λ d. length (held d).rows) (λ d w. ap (λ (x : Held). length x.rows) (h d w)) in omega arith
new-weigh (order keys) below n held low h = let z = total-none n (λ d. length (held d).rows) (λ d w. ap (λ (x : Held). length x.rows) (h d w)) in omega arith
new-weigh (topn count keys) below n held low h = let z = total-none n (λ d. length (held d).rows) (λ d w. ap (λ (x : Held). length x.rows) (h d w)) in omega arith
new-weigh (limit offset count) below n held low h = let z = total-none n (λ d. length (held d).rows) (λ d w. ap (λ (x : Held). length x.rows) (h d w)) in omega arith
new-weigh (exchange kind keys) below n held low h = let z = total-none n (λ d. length (held d).rows) (λ d w. ap (λ (x : Held). length x.rows) (h d w)) in omega arith
new-weigh (aggregation step keys aggregates) below n held low h =
    let z = total-ones n (λ d. length (held d).groups) (λ d w. let e = ap (λ (x : Held). length x.groups) (h d w) in let f = few keys in omega arith) in
    omega arith where
      few : (keys : List ℕ) → length (first_groups keys aggregates) ≤ 1
      few [] = omega arith
      few (key ∷ keys) = omega arith

new-join : (kind : JoinKind) (l r l' r' : ℕ) → l ≤ l' → r ≤ r' → join_most kind 0 (0 + l) (0 + r) ≤ growth_joined kind l' r'
new-join Semi l r l' r' a b = omega arith
new-join Anti l r l' r' a b = omega arith
new-join Inner l r l' r' a b = let t = mul-le-mul a b in omega arith
new-join Left l r l' r' a b = let t = mul-le-mul a b in omega arith
new-join Right l r l' r' a b = let t = mul-le-mul a b in omega arith
new-join Full l r l' r' a b = let t = mul-le-mul a b in omega arith

module _ (drivers : ℕ) (some : 1 ≤ drivers) (few : drivers ≤ 8) (q : Holding) (hands : (id d : ℕ) → q.hand id d ≡ []) where
  no-hands : (t : Tree) (id : ℕ) → rows_in drivers t (q.hand id) ≡ 0
  no-hands t id = total-none (drivers_of drivers t) (λ d. length (q.hand id d)) (λ d w. ap length (hands id d))

  pub most-start : (s : Tree) → AreNew drivers q s → most_of drivers q s ≤ growth s
  most-start (values id kinds all parallel) n =
      let z = no-hands (values id kinds all parallel) id in
      let a = total-together (drivers_of drivers (values id kinds all parallel)) (λ d. (q.held id d).rows) in
      let b = length_permutation _ _ n in
      omega arith
  most-start (over id own source) n =
      let z = no-hands (over id own source) id in
      let low = few-lanes drivers some (width_of (over id own source)) in
      let a = new-weigh own (most_of drivers q source) (drivers_of drivers (over id own source)) (q.held id) (omega arith) n.1 in
      let b = most-start source n.0 in
      let c = rises own (most_of drivers q source) (growth source) b in
      omega arith where
        rises : (own : Own) (x y : ℕ) → x ≤ y → growth_over own x ≤ growth_over own y
        rises (filter e) x y h = h
        rises (project es) x y h = h
        rises (aggregation step keys aggregates) x y h = omega arith
        rises (order keys) x y h = h
        rises (topn count keys) x y h = h
        rises (limit offset count) x y h = h
        rises (exchange kind keys) x y h = h
  most-start (join id kind left_keys right_keys left right) n =
      let z = no-hands (join id kind left_keys right_keys left right) id in
      let a = most-start left n.0 in
      let b = most-start right n.1 in
      let c = new-join kind _ _ _ _ a b in
      let e : join_most kind (length (q.join id).owed) (length (q.join id).deferred + most_of drivers q left) (length (q.join id).build + most_of drivers q right) ≡ join_most kind 0 (0 + most_of drivers q left) (0 + most_of drivers q right) =
      ap (λ (j : HeldJoin). join_most kind (length j.owed) (length j.deferred + most_of drivers q left) (length j.build + most_of drivers q right)) n.2 in
      omega arith

  new-in : (s u : Tree) → Within s u → AreNew drivers q u → AreNew drivers q s
  new-in s (values id kinds all parallel) w n = subst (AreNew drivers q) (sym w) n
  new-in s (over id own source) (inl w) n = subst (AreNew drivers q) (sym w) n
  new-in s (over id own source) (inr w) n = new-in s source w n.0
  new-in s (join id kind left_keys right_keys left right) (inl w) n = subst (AreNew drivers q) (sym w) n
  new-in s (join id kind left_keys right_keys left right) (inr (inl w)) n = new-in s left w n.0
  new-in s (join id kind left_keys right_keys left right) (inr (inr w)) n = new-in s right w n.1

  sum-start : (taken : ℕ → ℕ → ℕ) → ((id d : ℕ) → taken id d ≡ 0) → (s : Tree) → AreNew drivers q s → Sum drivers q taken s
  sum-start taken none (values id kinds all parallel) n = tt
  sum-start taken none (over id own source) n = let z = total-none (drivers_of drivers source) (taken id) (λ d w. none id d) in let a = most-start source n.0 in omega arith
  sum-start taken none (join id kind left_keys right_keys left right) n = tt

  join-start : (gone : ℕ → ℕ) → ((id : ℕ) → gone id ≡ 0) → (s : Tree) → AreNew drivers q s → JoinSum drivers q gone s
  join-start gone none (values id kinds all parallel) n = tt
  join-start gone none (over id own source) n = tt
  join-start gone none (join id kind left_keys right_keys left right) n = let z = none id in let a = most-start right n.1 in let b = ap (λ (j : HeldJoin). length j.build) n.2 in omega arith

  pub sums-start : (t : Tree) → AreNew drivers q t → (c : Counters) → StartsCounted c → HasSums drivers t q c
  sums-start t n c s = record {
    first = λ part w. sum-start c.took s.took part (new-in part t w n);
    second = λ part w. sum-start c.since s.since part (new-in part t w n);
    third = λ part w. join-start c.left s.left part (new-in part t w n);
  }

-- ---- from there on

abbrev source_of : Tree → Tree
source_of (over id own source) = source
source_of (join id kind left_keys right_keys left right) = right
source_of (values id kinds all parallel) = values id kinds all parallel

module _ (drivers : ℕ) (t : Tree) (once : AreOnce t) where
  -- what counters count is taken out of hands
  taken-few : (move : Move) (old new : Machine) → Makes drivers t move old new → (id : ℕ) (own : Own) (source : Tree) → Within (over id own source) t → (d : ℕ) → taken_in move old id d ≤ length ((passed t move old new).taken (id_of source) d)
  taken-few (takes id' own' source' d') old new h id own source w d = by_test (nat_eq id id')
      (λ e.
      let same : source ≡ source' = ap source_of (within-unique (over id own source) (over id' own' source') t once w h.can.needs.0 (eqb-true id id' e)) in
      let rows : List Row = old.query.hand (id_of source') d' in
      let a : taken_in (takes id' own' source' d') old id d ≡ cond (nat_eq d d') (length rows) 0 = ap (λ b. cond (b && nat_eq d d') (length rows) 0) e in
      let b : (taking (id_of source') d' rows).taken (id_of source) d ≡ only_at d' rows d = ap (λ s. (taking (id_of source') d' rows).taken (id_of s) d) same ∙ ap (λ f. f d) (taken-at (id_of source') d' rows) in
      let c = ap length b in
      let x = only-length d' d rows in
      omega arith)
      (λ e. let a : taken_in (takes id' own' source' d') old id d ≡ 0 = ap (λ b. cond (b && nat_eq d d') (length (old.query.hand (id_of source') d')) 0) e in omega arith)
  taken-few (reads id' kinds all parallel d') old new h id own source w d = omega arith
  taken-few (gives id' own' source' d') old new h id own source w d = omega arith
  taken-few (merges id' own' source' d') old new h id own source w d = omega arith
  taken-few (finishes id' own' source' d') old new h id own source w d = omega arith
  taken-few (answers j) old new h id own source w d = omega arith
  taken-few (leaves j) old new h id own source w d = omega arith
  taken-few (builds j d') old new h id own source w d = omega arith
  taken-few (probes j) old new h id own source w d = omega arith
  taken-few comes_out old new h id own source w d = omega arith
  taken-few (turns j) old new h id own source w d = omega arith
  taken-few (built j d') old new h id own source w d = omega arith
  taken-few (probed j) old new h id own source w d = omega arith
  taken-few (empties j) old new h id own source w d = omega arith
  taken-few stops old new h id own source w d = omega arith

  built-few : (move : Move) (old new : Machine) → Makes drivers t move old new → (id : ℕ) (kind : JoinKind) (left_keys right_keys : List ℕ) (left right : Tree) → Within (join id kind left_keys right_keys left right) t
      → built_in move old id ≤ rows_in drivers right ((passed t move old new).taken (id_of right))
  built-few (builds j d') old new h id kind left_keys right_keys left right w = by_test (nat_eq id j.id)
      (λ e.
      let same : right ≡ j.right = ap source_of (within-unique (join id kind left_keys right_keys left right) (join_node j) t once w h.can.needs.0 (eqb-true id j.id e)) in
      let rows : List Row = old.query.hand (id_of j.right) d' in
      let a : built_in (builds j d') old id ≡ length rows = ap (λ b. cond b (length rows) 0) e in
      let b : rows_in drivers right ((taking (id_of j.right) d' rows).taken (id_of right)) ≡ total (drivers_of drivers j.right) (λ k. length (only_at d' rows k)) =
      ap (λ s. rows_in drivers s ((taking (id_of j.right) d' rows).taken (id_of s))) same ∙ ap (rows_in drivers j.right) (taken-at (id_of j.right) d' rows) in
      let c = only-rows (drivers_of drivers j.right) d' rows h.can.needs.1 in
      omega arith)
      (λ e. let a : built_in (builds j d') old id ≡ 0 = ap (λ b. cond b (length (old.query.hand (id_of j.right) d')) 0) e in omega arith)
  built-few (takes id' own' source' d') old new h id kind left_keys right_keys left right w = omega arith
  built-few (reads id' kinds all parallel d') old new h id kind left_keys right_keys left right w = omega arith
  built-few (gives id' own' source' d') old new h id kind left_keys right_keys left right w = omega arith
  built-few (merges id' own' source' d') old new h id kind left_keys right_keys left right w = omega arith
  built-few (finishes id' own' source' d') old new h id kind left_keys right_keys left right w = omega arith
  built-few (answers j) old new h id kind left_keys right_keys left right w = omega arith
  built-few (leaves j) old new h id kind left_keys right_keys left right w = omega arith
  built-few (probes j) old new h id kind left_keys right_keys left right w = omega arith
  built-few comes_out old new h id kind left_keys right_keys left right w = omega arith
  built-few (turns j) old new h id kind left_keys right_keys left right w = omega arith
  built-few (built j d') old new h id kind left_keys right_keys left right w = omega arith
  built-few (probed j) old new h id kind left_keys right_keys left right w = omega arith
  built-few (empties j) old new h id kind left_keys right_keys left right w = omega arith
  built-few stops old new h id kind left_keys right_keys left right w = omega arith

  module _ (move : Move) (old new : Machine) (makes : Makes drivers t move old new) (down : (s : Tree) → Within s t → most_of drivers new.query s + rows_in drivers s ((passed t move old new).taken (id_of s)) ≤ most_of drivers old.query s) where
    sum-moves : (before after : ℕ → ℕ → ℕ) → ((id d : ℕ) → after id d ≤ before id d + taken_in move old id d) → (part : Tree) → Within part t → Sum drivers old.query before part → Sum drivers new.query after part
    sum-moves before after ticks (values id kinds all parallel) w h = tt
    sum-moves before after ticks (join id kind left_keys right_keys left right) w h = tt
    sum-moves before after ticks (over id own source) w h =
        let a = down source (Rattle.vx_rest.proofs.DrainedLaws.source-within id own source t w) in
        let b = total-under (drivers_of drivers source) (after id) (λ d. before id d + length ((passed t move old new).taken (id_of source) d))
        (λ d low. let x = ticks id d in let y = taken-few move old new makes id own source w d in omega arith) in
        let c = total-add (drivers_of drivers source) (before id) (λ d. length ((passed t move old new).taken (id_of source) d)) in
        omega arith

    join-moves : (before after : ℕ → ℕ) → ((id : ℕ) → after id + length (new.query.join id).build ≤ before id + (length (old.query.join id).build + built_in move old id)) → (part : Tree) → Within part t → JoinSum drivers old.query before part → JoinSum drivers new.query after part
    join-moves before after ticks (values id kinds all parallel) w h = tt
    join-moves before after ticks (over id own source) w h = tt
    join-moves before after ticks (join id kind left_keys right_keys left right) w h =
        let a = down right (within-trans right (join id kind left_keys right_keys left right) t (inr (inr (Rattle.vx_rest.proofs.EndMoves.within-here right))) w) in
        let b = ticks id in
        let c = built-few move old new makes id kind left_keys right_keys left right w in
        omega arith

    pub sums-moved : (before after : Counters) → Ticks move old new before after → HasSums drivers t old.query before → HasSums drivers t new.query after
    sums-moved before after ticks h = record {
      first = λ part w. sum-moves before.took after.took (λ id d. let e = ticks.took id d in omega arith) part w (h.first part w);
      second = λ part w. sum-moves before.since after.since ticks.since part w (h.second part w);
      third = λ part w. join-moves before.left after.left ticks.left part w (h.third part w);
    }

  module _ (old new : Machine) (down : (s : Tree) → Within s t → most_of drivers new.query s ≤ most_of drivers old.query s) where
    sum-spares : (before after : ℕ → ℕ → ℕ) → ((id d : ℕ) → after id d ≤ before id d) → (part : Tree) → Within part t → Sum drivers old.query before part → Sum drivers new.query after part
    sum-spares before after ticks (values id kinds all parallel) w h = tt
    sum-spares before after ticks (join id kind left_keys right_keys left right) w h = tt
    sum-spares before after ticks (over id own source) w h =
        let a = down source (Rattle.vx_rest.proofs.DrainedLaws.source-within id own source t w) in
        let b = total-under (drivers_of drivers source) (after id) (before id) (λ d low. ticks id d) in
        omega arith

    join-spares : (before after : ℕ → ℕ) → ((id : ℕ) → after id + length (new.query.join id).build ≤ before id + length (old.query.join id).build) → (part : Tree) → Within part t → JoinSum drivers old.query before part → JoinSum drivers new.query after part
    join-spares before after ticks (values id kinds all parallel) w h = tt
    join-spares before after ticks (over id own source) w h = tt
    join-spares before after ticks (join id kind left_keys right_keys left right) w h =
        let a = down right (within-trans right (join id kind left_keys right_keys left right) t (inr (inr (Rattle.vx_rest.proofs.EndMoves.within-here right))) w) in
        let b = ticks id in
        omega arith

    pub sums-spared : (before after : Counters) → ReclaimTells old new before after → HasSums drivers t old.query before → HasSums drivers t new.query after
    sums-spared before after ticks h = record {
      first = λ part w. sum-spares before.took after.took (λ id d. let e = ticks.took id d in omega arith) part w (h.first part w);
      second = λ part w. sum-spares before.since after.since ticks.since part w (h.second part w);
      third = λ part w. join-spares before.left after.left ticks.left part w (h.third part w);
    }

module _ (drivers : ℕ) (some : 1 ≤ drivers) (few : drivers ≤ 8) (t : Tree) (ids : check_ids t ≡ Ok tt) (widths : check_widths t ≡ Ok tt) where
  once : AreOnce t
  once = once-from_check t ids

  well : AreDealtWell t
  well = (well-from_check t widths).0

  pub counted_sums : (m : Machine) (c : Counters) → IsCounted drivers t m c → HasSums drivers t m.query c
  counted_sums _ _ (started m c new counts) = sums-start drivers some few m.query new.query.hands t new.query.new c counts
  counted_sums _ _ (moved move old m before c makes tells ticks h) =
      sums-moved drivers t once move old m makes (move-down drivers some t once well move old m makes tells) before c ticks (counted_sums old before h)
  counted_sums _ _ (reclaimed id own source d old m before c rec told ticks h) = sums-spared drivers t once old m (reclaim-down drivers some t once well id own source d old m rec told) before c ticks (counted_sums old before h)
  counted_sums _ _ (cut j old m before c rec told ticks h) = sums-spared drivers t once old m (cut-down drivers some t once well j old m rec told) before c ticks (counted_sums old before h)

pub run_most : (drivers : ℕ) → 1 ≤ drivers → (t : Tree) → check_ids t ≡ Ok tt → check_widths t ≡ Ok tt → (move : Move) (old new : Machine) → Makes drivers t move old new → Tells move old new → (s : Tree) → Within s t
    → most_of drivers new.query s + rows_in drivers s ((passed t move old new).taken (id_of s)) ≤ most_of drivers old.query s
run_most drivers some t ids widths move old new makes tells = move-down drivers some t (once-from_check t ids) (well-from_check t widths).0 move old new makes tells
