-- While a query goes on some move can be made.
use Rattle.std.proofs.Common.{◌≡◌, ◌≢◌, ℕ, zero, suc, ◌<◌, ◌≤◌, Bool, true, false, List, [], ◌∷◌, refl, sym, ap, ◌∙◌, subst, arith, inl, inr, ⊎_elim, true≢false}
use Rattle.std.specs.Prelude.{◌⊎◌, ⊤}
use Rattle.vx_plan.specs.Tree.{Tree, values, over, join, Own, filter, project, aggregation, order, topn, limit, exchange, id_of}
use Rattle.vx_plan.specs.declared.widths.Width.TheVariants.{One, Many}
use Rattle.vx_plan.specs.Width.{width_of}
use Rattle.vx_meaning.specs.Joins.{joined}
use Rattle.vx_meaning.proofs.PlusLaws.{by_test}
use Rattle.vx_rest.specs.Lists.{drivers_of}
use Rattle.vx_rest.specs.Held.{Held, Holding}
use Rattle.vx_rest.specs.Fits.{Within}
use Rattle.vx_rest.specs.Start.{AreDealtWell}
use Rattle.vx_rest.specs.Through.{IsThrough, IsJoinThrough}
use Rattle.vx_rest.specs.Ends.{Ends, AllEnd, IsDrained, AreEndsRight}
use Rattle.vx_rest.specs.Machine.{Machine, JoinNode, join_node, Move, reads, gives, answers, leaves, takes, builds, probes, comes_out, turns, merges, finishes, built, probed, empties, stops, HasEnded, KeepsRows, CanGive, CanMake, IsBuilt}
use Rattle.vx_rest.specs.Changes.{KnowsEnd}
use Rattle.vx_rest.specs.Steady.{IsSteadyAt, IsSteady}
use Rattle.vx_rest.proofs.OnlyAtLaws.{not-true, clash}
use Rattle.vx_rest.proofs.StartLaw.{lanes-one, lanes-groups}
use Rattle.vx_rest.proofs.EndLaw.{nat_split}
use Rattle.vx_rest.proofs.EndMoves.{within-here}
use Rattle.vx_rest.proofs.DrainedLaws.{drained-hand, source-within}

-- ---- searches

pub search_low : (n : ℕ) (P Q : ℕ → Type 0) → ((d : ℕ) → d < n → P d ⊎ Q d) → ((d : ℕ) × (d < n) × P d) ⊎ ((d : ℕ) → d < n → Q d)
search_low zero P Q h = inr (λ d w. absurd (omega arith))
search_low (suc n) P Q h =
    ⊎_elim
    (λ p. inl (zero, (let z : 0 < suc n = omega arith in z), p))
    (λ q. ⊎_elim
    (λ r. inl (suc r.0, (let w = r.1 in omega arith), r.2))
    (λ r. inr (later q r))
    (search_low n (λ d. P (suc d)) (λ d. Q (suc d)) (λ d w. h (suc d) (omega arith))))
    (h zero (let z : 0 < suc n = omega arith in z)) where
      later : Q zero → ((d : ℕ) → d < n → Q (suc d)) → (d : ℕ) → d < suc n → Q d
      later q r zero w = q
      later q r (suc d) w = r d (omega arith)

pub some_row : {X : Type 0} (xs : List X) → (xs ≡ []) ⊎ (xs ≢ [])
some_row [] = inl refl
some_row (x ∷ xs) = inr (λ e. absurd (cc))

pub test : (b : Bool) → (b ≡ true) ⊎ (b ≡ false)
test true = inl refl
test false = inr refl

some_left : (n : ℕ) → (n ≡ 0) ⊎ (n ≢ 0)
some_left zero = inl refl
some_left (suc n) = inr (λ e. omega arith)

-- ---- one operator

abbrev pub HasQueues : Own → Type 0
HasQueues (exchange kind keys) = Unit {0}
HasQueues own = ⊥

-- an operator whose input has ended has something to give or is through
pub gives-or-through : (own : Own) (held : Held) → KnowsEnd own held → CanGive own held ⊎ IsThrough own held
gives-or-through (filter x) held k = ⊎_elim inr inl (some_row held.rows)
gives-or-through (project xs) held k = ⊎_elim inr inl (some_row held.rows)
gives-or-through (aggregation step keys aggregates) held k = ⊎_elim inr (λ s. inl (k, s)) (some_row held.groups)
gives-or-through (order keys) held k = ⊎_elim inr (λ s. inl (k, s)) (some_row held.rows)
gives-or-through (topn count keys) held k = ⊎_elim (λ e. inr (inl e)) (λ s. ⊎_elim (λ e. inr (inr e)) (λ l. inl (k, s, l)) (some_left held.left)) (some_row held.rows)
gives-or-through (limit offset count) held k = ⊎_elim inr inl (some_row held.rows)
gives-or-through (exchange kind keys) held k = ⊎_elim inr inl (some_row held.rows)

module _ (drivers : ℕ) (some : 1 ≤ drivers) (t : Tree) (m : Machine) (going : m.done ≡ false) (nodes : (part : Tree) → Within part t → IsSteadyAt drivers m part) where
  abbrev q : Holding
  q = m.query

  abbrev e : Ends
  e = m.ends

  abbrev AMove : Type 0
  AMove = (move : Move) × CanMake drivers t m move

  abbrev HasRows : Tree → Type 0
  HasRows s = (d : ℕ) × (d < drivers_of drivers s) × (q.hand (id_of s) d ≢ [])

  abbrev AllEnded : Tree → Type 0
  AllEnded s = (d : ℕ) → d < drivers_of drivers s → HasEnded drivers m s d

  -- in a node and below it a move can be made, or a hand behind it has rows, or it is at its end
  abbrev Goes : Tree → Type 0
  Goes s = AMove ⊎ (HasRows s ⊎ AllEnded s)

  drained-over : (id : ℕ) (own : Own) (source : Tree) (d : ℕ) → (HasQueues own → ⊥) → q.hand id d ≡ [] → IsThrough own (q.held id d) → e.input id d ≡ true → HasEnded drivers m (over id own source) d
  drained-over id (filter x) source d single a b c = ((a, b, c), tt)
  drained-over id (project xs) source d single a b c = ((a, b, c), tt)
  drained-over id (aggregation step keys aggregates) source d single a b c = ((a, b, c), tt)
  drained-over id (order keys) source d single a b c = ((a, b, c), tt)
  drained-over id (topn count keys) source d single a b c = ((a, b, c), tt)
  drained-over id (limit offset count) source d single a b c = ((a, b, c), tt)
  drained-over id (exchange kind keys) source d single a b c = absurd (single tt)

  module _ (id : ℕ) (own : Own) (source : Tree) (within : Within (over id own source) t) (right : AreEndsRight drivers e q (over id own source)) where
    goes-on : (d : ℕ) → d < drivers_of drivers source → q.hand (id_of source) d ≢ [] → e.input id d ≡ false
    goes-on d w full = not-true (e.input id d) (λ z. full (drained-hand drivers e q source d (right.1 d w z)))

    -- a batch stands before an operator whose own hand is empty
    merges-or : KeepsRows own → (d : ℕ) → d < drivers_of drivers source → q.hand (id_of source) d ≢ [] → ((m.runs id d < 8) → AMove) → AMove
    merges-or keeps d w full take = ⊎_elim take (λ l. (merges id own source d, record { going = going; needs = (within, w, l, goes-on d w full, keeps) })) (nat_split (m.runs id d) 8)

  batch-before : (id : ℕ) (own : Own) (source : Tree) → Within (over id own source) t → AreEndsRight drivers e q (over id own source) → (HasQueues own → ⊥) → (d : ℕ) → d < drivers_of drivers source → d < drivers_of drivers (over id own source)
      → q.hand (id_of source) d ≢ [] → q.hand id d ≡ [] → AMove
  batch-before id (filter x) source within right single d w v full empty =
      ⊎_elim (λ n. (takes id (filter x) source d, record { going = going; needs = (within, w, full, n) })) (λ n. (gives id (filter x) source d, record { going = going; needs = (within, v, empty, n) })) (some_row (q.held id d).rows)
  batch-before id (project x) source within right single d w v full empty =
      ⊎_elim (λ n. (takes id (project x) source d, record { going = going; needs = (within, w, full, n) })) (λ n. (gives id (project x) source d, record { going = going; needs = (within, v, empty, n) })) (some_row (q.held id d).rows)
  batch-before id (limit offset count) source within right single d w v full empty =
      ⊎_elim (λ n. (takes id (limit offset count) source d, record { going = going; needs = (within, w, full, n) })) (λ n. (gives id (limit offset count) source d, record { going = going; needs = (within, v, empty, n) })) (some_row (q.held id d).rows)
  batch-before id (aggregation step keys aggregates) source within right single d w v full empty =
      merges-or id (aggregation step keys aggregates) source within right tt d w full (λ l. (takes id (aggregation step keys aggregates) source d, record { going = going; needs = (within, w, full, l) }))
  batch-before id (order keys) source within right single d w v full empty =
      merges-or id (order keys) source within right tt d w full (λ l. (takes id (order keys) source d, record { going = going; needs = (within, w, full, l) }))
  batch-before id (topn count keys) source within right single d w v full empty =
      merges-or id (topn count keys) source within right tt d w full (λ l. (takes id (topn count keys) source d, record { going = going; needs = (within, w, full, l) }))
  batch-before id (exchange kind keys) source within right single d w v full empty = absurd (single tt)

  -- the source has ended
  end-before : (id : ℕ) (own : Own) (source : Tree) → Within (over id own source) t → IsSteadyAt drivers m (over id own source) → (HasQueues own → ⊥) → (d : ℕ) → d < drivers_of drivers source → d < drivers_of drivers (over id own source)
      → HasEnded drivers m source d → q.hand id d ≡ [] → AMove ⊎ HasEnded drivers m (over id own source) d
  end-before id own source within steady single d w v ended empty =
      ⊎_elim
      (λ input. ⊎_elim
      (λ g. inl (gives id own source d, record { going = going; needs = (within, v, empty, g) }))
      (λ through. inr (drained-over id own source d single empty through input))
      (gives-or-through own (q.held id d) (steady.0 d w input)))
      (λ input. inl (finishes id own source d, record { going = going; needs = (within, w, input, ended) }))
      (test (e.input id d))

  operator-goes : (id : ℕ) (own : Own) (source : Tree) → Within (over id own source) t → AreEndsRight drivers e q (over id own source) → (HasQueues own → ⊥) → drivers_of drivers (over id own source) ≡ drivers_of drivers source
      → Goes source → Goes (over id own source)
  operator-goes id own source within right single same (inl move) = inl move
  operator-goes id own source within right single same (inr (inl full)) =
      let v : full.0 < drivers_of drivers (over id own source) = subst (λ n. full.0 < n) (sym same) full.1 in
      ⊎_elim (λ empty. inl (batch-before id own source within right single full.0 full.1 v full.2 empty)) (λ mine. inr (inl (full.0, v, mine))) (some_row (q.hand id full.0))
  operator-goes id own source within right single same (inr (inr ended)) =
      ⊎_elim
      (λ found. ⊎_elim inl (λ mine. inr (inl (found.0, found.1, mine))) found.2)
      (λ all. inr (inr all))
      (search_low (drivers_of drivers (over id own source)) (λ d. AMove ⊎ (q.hand id d ≢ [])) (λ d. HasEnded drivers m (over id own source) d)
      (λ d v. let w : d < drivers_of drivers source = subst (λ n. d < n) same v in
      ⊎_elim (λ empty. ⊎_elim (λ move. inl (inl move)) inr (end-before id own source within (nodes (over id own source) within) single d w v (ended d w) empty)) (λ mine. inl (inr mine)) (some_row (q.hand id d))))

  -- rows in a queue
  queue-gives : (id : ℕ) (kind : Rattle.vx_plan.specs.declared.node.ExchangeKind.ExchangeKind) (keys : List ℕ) (source : Tree) → Within (over id (exchange kind keys) source) t → (d : ℕ) → d < drivers_of drivers (over id (exchange kind keys) source) → (q.held id d).rows ≢ [] → AMove ⊎ (q.hand id d ≢ [])
  queue-gives id kind keys source within d w rows = ⊎_elim (λ empty. inl (gives id (exchange kind keys) source d, record { going = going; needs = (within, w, empty, rows) })) inr (some_row (q.hand id d))

  exchange-goes : (id : ℕ) (kind : Rattle.vx_plan.specs.declared.node.ExchangeKind.ExchangeKind) (keys : List ℕ) (source : Tree) → Within (over id (exchange kind keys) source) t → Goes source → Goes (over id (exchange kind keys) source)
  exchange-goes id kind keys source within (inl move) = inl move
  exchange-goes id kind keys source within (inr (inl there)) =
      ⊎_elim
      (λ found. ⊎_elim inl (λ mine. inr (inl (found.0, found.1, mine))) (queue-gives id kind keys source within found.0 found.1 ((nodes (over id (exchange kind keys) source) within).1 found.0 found.2)))
      (λ room. inl (takes id (exchange kind keys) source there.0, record { going = going; needs = (within, there.1, there.2, room) }))
      (search_low (drivers_of drivers (over id (exchange kind keys) source)) (λ d. m.full id d ≡ true) (λ d. m.full id d ≡ false) (λ d w. test (m.full id d)))
  exchange-goes id kind keys source within (inr (inr ended)) =
      ⊎_elim
      (λ found. inl (finishes id (exchange kind keys) source found.0, record { going = going; needs = (within, found.1, found.2, ended found.0 found.1) }))
      (λ all. ⊎_elim
      (λ found. ⊎_elim inl (λ mine. inr (inl (found.0, found.1, mine))) found.2)
      (λ none. inr (inr (λ d w. (((none d w).0, (none d w).1, all), tt))))
      (search_low (drivers_of drivers (over id (exchange kind keys) source)) (λ d. AMove ⊎ (q.hand id d ≢ [])) (λ d. (q.hand id d ≡ []) × ((q.held id d).rows ≡ []))
      (λ d w. ⊎_elim (λ empty. ⊎_elim (λ none. inr (empty, none)) (λ rows. inl (queue-gives id kind keys source within d w rows)) (some_row (q.held id d).rows)) (λ mine. inl (inr mine)) (some_row (q.hand id d)))))
      (search_low (drivers_of drivers source) (λ d. e.input id d ≡ false) (λ d. e.input id d ≡ true) (λ d w. ⊎_elim inr inl (test (e.input id d))))

  -- the probe's side, once the build is complete
  probe-goes : (j : JoinNode) → Within (join_node j) t → IsSteadyAt drivers m (join_node j) → IsBuilt drivers m j → drivers_of drivers j.left ≡ 1 → Goes j.left → Goes (join_node j)
  probe-goes j within steady whole one (inl move) = inl move
  probe-goes j within steady whole one (inr (inl there)) =
      let w = there.1 in
      let z : there.0 ≡ 0 = omega arith in
      let full : q.hand (id_of j.left) 0 ≢ [] = subst (λ d. q.hand (id_of j.left) d ≢ []) z there.2 in
      ⊎_elim
      (λ empty. ⊎_elim
      (λ none. inl (probes j, record { going = going; needs = (within, whole, full, none) }))
      (λ owed. inl (answers j, record { going = going; needs = (within, whole, empty, owed) }))
      (some_row (q.join j.id).owed))
      (λ mine. inr (inl (0, (let z : 0 < 1 = omega arith in z), mine)))
      (some_row (q.hand j.id 0))
  probe-goes j within steady whole one (inr (inr ended)) =
      ⊎_elim
      (λ empty. ⊎_elim
      (λ input. ⊎_elim
      (λ none. ⊎_elim
      (λ over. let gone = (steady.0 over).0 in inr (inr (λ d w. let z : d ≡ 0 = omega arith in ((ap (q.hand j.id) z ∙ empty, gone, input, whole), over))))
      (λ stands. ⊎_elim
      (λ lonely. inl (leaves j, record { going = going; needs = (within, whole, empty, input, none, lonely) }))
      (λ gone. ⊎_elim
      (λ last. inl (empties j, record { going = going; needs = (within, whole, input, none, gone, stands, last) }))
      (λ more. inl (turns j, record { going = going; needs = (within, whole, input, none, gone, stands, more) }))
      (some_left (m.inside j.id)))
      (test (m.leaving j.id)))
      (test (m.through j.id)))
      (λ owed. inl (answers j, record { going = going; needs = (within, whole, empty, owed) }))
      (some_row (q.join j.id).owed))
      (λ input. inl (probed j, record { going = going; needs = (within, whole, input, ended 0 (omega arith)) }))
      (test (e.input j.id 0)))
      (λ mine. inr (inl (0, (let z : 0 < 1 = omega arith in z), mine)))
      (some_row (q.hand j.id 0))

  join-goes : (j : JoinNode) → Within (join_node j) t → IsSteadyAt drivers m (join_node j) → drivers_of drivers j.left ≡ 1 → Goes j.left → Goes j.right → Goes (join_node j)
  join-goes j within steady one left (inl move) = inl move
  join-goes j within steady one left (inr (inl there)) = inl (builds j there.0, record { going = going; needs = (within, there.1, there.2) })
  join-goes j within steady one left (inr (inr ended)) =
      ⊎_elim
      (λ found. inl (built j found.0, record { going = going; needs = (within, found.1, found.2, ended found.0 found.1) }))
      (λ whole. probe-goes j within steady whole one left)
      (search_low (drivers_of drivers j.right) (λ d. e.build j.id d ≡ false) (λ d. e.build j.id d ≡ true) (λ d w. ⊎_elim inr inl (test (e.build j.id d))))

  goes : (s : Tree) → ((part : Tree) → Within part s → Within part t) → AreDealtWell s → AreEndsRight drivers e q s → Goes s
  goes (values id kinds all parallel) below well right =
      ⊎_elim
      (λ found. ⊎_elim inl (λ mine. inr (inl (found.0, found.1, mine))) found.2)
      (λ none. inr (inr (λ d w. (none d w, tt))))
      (search_low (drivers_of drivers (values id kinds all parallel)) (λ d. AMove ⊎ (q.hand id d ≢ [])) (λ d. (q.hand id d ≡ []) × ((q.held id d).rows ≡ []))
      (λ d w. ⊎_elim
      (λ empty. ⊎_elim (λ none. inr (empty, none)) (λ rows. inl (inl (reads id kinds all parallel d, record { going = going; needs = (below (values id kinds all parallel) refl, w, empty, rows) }))) (some_row (q.held id d).rows))
      (λ mine. inl (inr mine)) (some_row (q.hand id d))))
  goes (over id (filter x) source) below well right = operator-goes id (filter x) source (below _ (inl refl)) right (λ z. z) refl (goes source (λ part w. below part (inr w)) well.0 right.0)
  goes (over id (project x) source) below well right = operator-goes id (project x) source (below _ (inl refl)) right (λ z. z) refl (goes source (λ part w. below part (inr w)) well.0 right.0)
  goes (over id (aggregation step keys aggregates) source) below well right =
      operator-goes id (aggregation step keys aggregates) source (below _ (inl refl)) right (λ z. z) (lanes-groups drivers id step keys aggregates source well.1) (goes source (λ part w. below part (inr w)) well.0 right.0)
  goes (over id (order keys) source) below well right = operator-goes id (order keys) source (below _ (inl refl)) right (λ z. z) (sym (lanes-one drivers source well.1)) (goes source (λ part w. below part (inr w)) well.0 right.0)
  goes (over id (topn count keys) source) below well right = operator-goes id (topn count keys) source (below _ (inl refl)) right (λ z. z) (sym (lanes-one drivers source well.1)) (goes source (λ part w. below part (inr w)) well.0 right.0)
  goes (over id (limit offset count) source) below well right = operator-goes id (limit offset count) source (below _ (inl refl)) right (λ z. z) (sym (lanes-one drivers source well.1)) (goes source (λ part w. below part (inr w)) well.0 right.0)
  goes (over id (exchange kind keys) source) below well right = exchange-goes id kind keys source (below _ (inl refl)) (goes source (λ part w. below part (inr w)) well.0 right.0)
  goes (join id kind left_keys right_keys left right_source) below well right =
      join-goes (record { id = id; kind = kind; left_keys = left_keys; right_keys = right_keys; left = left; right = right_source }) (below _ (inl refl)) (nodes (join id kind left_keys right_keys left right_source) (below _ (inl refl))) (lanes-one drivers left well.2)
      (goes left (λ part w. below part (inr (inl w))) well.0 right.0) (goes right_source (λ part w. below part (inr (inr w))) well.1 right.1)

-- while a query goes on some move can be made
pub some-move : (drivers : ℕ) → 1 ≤ drivers → (t : Tree) → AreDealtWell t → width_of t ≡ One → (m : Machine) → IsSteady drivers t m → m.done ≡ false → (move : Move) × CanMake drivers t m move
some-move drivers some t well one m steady going =
    let n = lanes-one drivers t one in
    ⊎_elim (λ move. move)
    (λ r. ⊎_elim
    (λ full. let w = full.1 in let z : full.0 ≡ 0 = omega arith in (comes_out, record { going = going; needs = subst (λ d. m.query.hand (id_of t) d ≢ []) z full.2 }))
    (λ ended. (stops, record { going = going; needs = ended 0 (omega arith) })) r)
    (goes drivers some t m going steady.nodes t (λ part w. w) well steady.right)
