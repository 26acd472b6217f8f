-- No move raises the most rows that a node may still give, and rows taken out of the hand behind it lower them.
use Rattle.std.proofs.Common.{◌≡◌, ◌≢◌, ℕ, zero, suc, ◌<◌, ◌≤◌, ◌+◌, ◌*◌, ◌%◌, Bool, true, false, cond, List, [], ◌∷◌, ◌++◌, length, refl, sym, ap, ap₂, ◌∙◌, subst, inl, inr, nat_eq, eqb-true, arith, mul-le-mul, add-mul, mul-add, mul-one, append-nil}
use Rattle.std.specs.Prelude.{filter, ⊤}
use Rattle.std.specs.List.Sorted.{IsPermutation}
use Rattle.std.proofs.lemmas.Bool.{eq-eqb}
use Rattle.std.proofs.lemmas.List.{length-append}
use Rattle.std.proofs.lemmas.List.Sorted.{length_permutation}
use Rattle.vx_value.specs.Row.{Row}
use Rattle.vx_value.specs.KeyBytes.{key_bytes}
use Rattle.vx_value.specs.Hash.{hash_of}
use Rattle.vx_plan.specs.declared.node.JoinKind.{JoinKind}
use Rattle.vx_plan.specs.declared.node.JoinKind.TheVariants.{Inner, Left, Right, Full, Semi, Anti}
use Rattle.vx_plan.specs.declared.node.ExchangeKind.{ExchangeKind}
use Rattle.vx_plan.specs.declared.node.ExchangeKind.TheVariants.{Gather, Hash}
use Rattle.vx_plan.specs.Tree.{Tree, values, over, join, Own, filter as filtering, project, aggregation, order, topn, limit, exchange, id_of}
use Rattle.vx_meaning.proofs.PlusLaws.{by_test}
use Rattle.vx_rest.specs.Lists.{Lists, together, nothing, only_at, drivers_of}
use Rattle.vx_rest.specs.Held.{Held, HeldJoin, Holding}
use Rattle.vx_rest.specs.Rest.{belongs}
use Rattle.vx_rest.specs.Fits.{Passed, HandsPass, Within, AreOnce}
use Rattle.vx_rest.specs.Calls.{AllKeep, ExchangeKeeps}
use Rattle.vx_rest.specs.HandMoves.{taking, putting, standing, HandEmptied, HandFilled, HandsStay, StaysBut}
use Rattle.vx_rest.specs.Counts.{join_most}
use Rattle.vx_rest.specs.MachineRank.{total}
use Rattle.vx_rest.specs.Machine.{Machine, JoinNode, join_node, Move, reads, gives, answers, leaves, takes, builds, probes, comes_out, turns, merges, finishes, built, probed, empties, stops}
use Rattle.vx_rest.specs.Changes.{Makes}
use Rattle.vx_rest.specs.Reclaims.{Reclaims, ReclaimsJoin}
use Rattle.vx_rest.specs.Sums.{weigh, rows_in, most_of, allowed, alone_most, JoinTells, TakesTell, Tells, passed}
use Rattle.vx_rest.proofs.Totals.{total-add, total-under, total-equal, total-none, total-at, total-dot-most, total-together}
use Rattle.vx_rest.proofs.MachineParts.{eq_or}
use Rattle.vx_rest.proofs.OnlyAtLaws.{within-unique}
use Rattle.vx_rest.proofs.HandLaws.{taken-at, put-at, taking-hands, putting-hands, standing-hands}
use Rattle.vx_rest.proofs.JoinHandLaws.{together-at}

-- ---- a join's numbers

other-sides : (w w' p p' b b' put given alone k gone B : ℕ) → w' + put ≤ w + (given + alone) → p' + k ≤ p → b' + gone ≤ b → given ≤ k * (B + 1) → alone ≤ gone → B ≤ b' → w' + (p' * b' + (p' + b')) + put ≤ w + (p * b + (p + b))
other-sides w w' p p' b b' put given alone k gone B hw hp hb few less low =
    let big : (p' + k) * (b' + gone) ≤ p * b = mul-le-mul hp hb in
    let one = add-mul p' k (b' + gone) in
    let two = mul-add p' b' gone in
    let three = mul-add k b' gone in
    let four = mul-add k B 1 in
    let five : k * 1 ≡ k = mul-one k in
    let six : k * B ≤ k * b' = mul-le-mul (let z : k ≤ k = omega arith in z) low in
    omega arith

pub join-falls : (kind : JoinKind) (old new : HeldJoin) (tl tr put l l' r r' : ℕ) → JoinTells kind old new tl tr put → l' + tl ≤ l → r' + tr ≤ r
    → join_most kind (length new.owed) (length new.deferred + l') (length new.build + r') + put ≤ join_most kind (length old.owed) (length old.deferred + l) (length old.build + r)
join-falls Semi old new tl tr put l l' r r' h hl hr =
    let a = h.owed in let b = h.deferred in let c = h.few in let e = h.less in let one : h.answered * 1 ≡ h.answered = mul-one h.answered in omega arith
join-falls Anti old new tl tr put l l' r r' h hl hr =
    let a = h.owed in let b = h.deferred in let c = h.few in let e = h.less in let one : h.answered * 1 ≡ h.answered = mul-one h.answered in omega arith
join-falls Inner old new tl tr put l l' r r' h hl hr =
    let b = h.deferred in let c = h.build in
    other-sides (length old.owed) (length new.owed) (length old.deferred + l) (length new.deferred + l') (length old.build + r) (length new.build + r') put h.given h.alone h.answered h.gone (length new.build) h.owed (omega arith) (omega arith) h.few h.less (omega arith)
join-falls Left old new tl tr put l l' r r' h hl hr =
    let b = h.deferred in let c = h.build in
    other-sides (length old.owed) (length new.owed) (length old.deferred + l) (length new.deferred + l') (length old.build + r) (length new.build + r') put h.given h.alone h.answered h.gone (length new.build) h.owed (omega arith) (omega arith) h.few h.less (omega arith)
join-falls Right old new tl tr put l l' r r' h hl hr =
    let b = h.deferred in let c = h.build in
    other-sides (length old.owed) (length new.owed) (length old.deferred + l) (length new.deferred + l') (length old.build + r) (length new.build + r') put h.given h.alone h.answered h.gone (length new.build) h.owed (omega arith) (omega arith) h.few h.less (omega arith)
join-falls Full old new tl tr put l l' r r' h hl hr =
    let b = h.deferred in let c = h.build in
    other-sides (length old.owed) (length new.owed) (length old.deferred + l) (length new.deferred + l') (length old.build + r) (length new.build + r') put h.given h.alone h.answered h.gone (length new.build) h.owed (omega arith) (omega arith) h.few h.less (omega arith)

-- nothing changes
pub join-still : (kind : JoinKind) (old new : HeldJoin) (tl tr : ℕ) → new ≡ old → JoinTells kind old new tl tr 0
join-still kind old new tl tr same = subst (λ n. JoinTells kind old n tl tr 0) (sym same) (record {
  answered = 0;
  given = 0;
  gone = 0;
  alone = 0;
  owed = omega arith;
  deferred = omega arith;
  build = omega arith;
  few = omega arith;
  less = omega arith;
})

-- ---- what a node's numbers owe

abbrev pub CountsHere : ℕ → Holding → Holding → Passed → Tree → Type 0
CountsHere drivers old new m (values id kinds all parallel) =
    total (drivers_of drivers (values id kinds all parallel)) (λ d. length (new.held id d).rows) + rows_in drivers (values id kinds all parallel) (m.put id) ≤ total (drivers_of drivers (values id kinds all parallel)) (λ d. length (old.held id d).rows)
CountsHere drivers old new m (over id own source) =
    total (drivers_of drivers (over id own source)) (λ d. weigh own (new.held id d)) + rows_in drivers (over id own source) (m.put id)
    ≤ total (drivers_of drivers (over id own source)) (λ d. weigh own (old.held id d)) + rows_in drivers source (m.taken (id_of source))
CountsHere drivers old new m (join id kind left_keys right_keys left right) =
    JoinTells kind (old.join id) (new.join id) (rows_in drivers left (m.taken (id_of left))) (rows_in drivers right (m.taken (id_of right))) (rows_in drivers (join id kind left_keys right_keys left right) (m.put id))

module _ (drivers : ℕ) (old new : Holding) (m : Passed) (hands : HandsPass m old new) where
  hand-rows : (t : Tree) (id : ℕ) → rows_in drivers t (m.taken id) + rows_in drivers t (new.hand id) ≡ rows_in drivers t (old.hand id) + rows_in drivers t (m.put id)
  hand-rows t id =
      sym (total-add (drivers_of drivers t) (λ d. length (m.taken id d)) (λ d. length (new.hand id d)))
      ∙ total-equal (drivers_of drivers t) (λ d. length (m.taken id d) + length (new.hand id d)) (λ d. length (old.hand id d) + length (m.put id d))
      (λ d w. let a = length-append (m.taken id d) (new.hand id d) in let b = length-append (old.hand id d) (m.put id d) in let e = ap length (hands id d) in omega arith)
      ∙ total-add (drivers_of drivers t) (λ d. length (old.hand id d)) (λ d. length (m.put id d))

  pub most-down : (s : Tree) → ((u : Tree) → Within u s → CountsHere drivers old new m u) → most_of drivers new s + rows_in drivers s (m.taken (id_of s)) ≤ most_of drivers old s
  most-down (values id kinds all parallel) h =
      let a = hand-rows (values id kinds all parallel) id in
      let b = h (values id kinds all parallel) refl in
      omega arith
  most-down (over id own source) h =
      let a = hand-rows (over id own source) id in
      let b = h (over id own source) (inl refl) in
      let c = most-down source (λ u w. h u (inr w)) in
      omega arith
  most-down (join id kind left_keys right_keys left right) h =
      let a = hand-rows (join id kind left_keys right_keys left right) id in
      let b = join-falls kind (old.join id) (new.join id) _ _ _ (most_of drivers old left) (most_of drivers new left) (most_of drivers old right) (most_of drivers new right) (h (join id kind left_keys right_keys left right) (inl refl))
      (most-down left (λ u w. h u (inr (inl w)))) (most-down right (λ u w. h u (inr (inr w)))) in
      omega arith

  -- at a node that a move doesn't name
  none-put : (t : Tree) (id : ℕ) → m.put id ≡ nothing → rows_in drivers t (m.put id) ≡ 0
  none-put t id h = ap (rows_in drivers t) h ∙ total-none (drivers_of drivers t) (λ d. 0) (λ d w. refl)

  pub counts-other : (s : Tree) → new.held (id_of s) ≡ old.held (id_of s) → new.join (id_of s) ≡ old.join (id_of s) → m.put (id_of s) ≡ nothing → CountsHere drivers old new m s
  counts-other (values id kinds all parallel) held joins put =
      let e = ap (λ (f : ℕ → Held). total (drivers_of drivers (values id kinds all parallel)) (λ d. length (f d).rows)) held in
      let z = none-put (values id kinds all parallel) id put in
      omega arith
  counts-other (over id own source) held joins put =
      let e = ap (λ (f : ℕ → Held). total (drivers_of drivers (over id own source)) (λ d. weigh own (f d))) held in
      let z = none-put (over id own source) id put in
      omega arith
  counts-other (join id kind left_keys right_keys left right) held joins put =
      subst (JoinTells kind (old.join id) (new.join id) (rows_in drivers left (m.taken (id_of left))) (rows_in drivers right (m.taken (id_of right)))) (sym (none-put (join id kind left_keys right_keys left right) id put))
      (join-still kind (old.join id) (new.join id) _ _ joins)

  -- at all nodes
  pub counts-all : (t part : Tree) → AreOnce t → Within part t → StaysBut (id_of part) old new → ((id : ℕ) → id ≢ id_of part → m.put id ≡ nothing) → CountsHere drivers old new m part → (s : Tree) → Within s t → CountsHere drivers old new m s
  counts-all t part once within stays puts here s w = eq_or (id_of s) (id_of part)
      (λ e. subst (CountsHere drivers old new m) (sym (within-unique s part t once w within e)) here)
      (λ ne. counts-other s (stays.held (id_of s) ne) (stays.join (id_of s) ne) (puts (id_of s) ne))
