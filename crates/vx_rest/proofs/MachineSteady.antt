-- Each move keeps what a query's type has to keep.
use Rattle.std.proofs.Common.{◌≡◌, ◌≢◌, ℕ, ◌<◌, ◌≤◌, Bool, true, false, List, [], ◌∷◌, refl, sym, ap, ap₂, ◌∙◌, subst, inl, inr, ⊎_elim, true≢false, arith}
use Rattle.std.specs.Prelude.{◌⊎◌}
use Rattle.vx_value.specs.Row.{Row}
use Rattle.vx_plan.specs.Tree.{Tree, values, over, join, Own, filter, project, aggregation, order, topn, limit, exchange, id_of}
use Rattle.vx_meaning.specs.Joins.{joined}
use Rattle.vx_rest.specs.Lists.{drivers_of}
use Rattle.vx_rest.specs.Held.{Held, HeldJoin, Holding}
use Rattle.vx_rest.specs.Fits.{Within, AreOnce, has_node}
use Rattle.vx_rest.specs.HandMoves.{HandEmptied, HandFilled, HandsStay, StaysBut, ComesOut}
use Rattle.vx_rest.specs.Start.{AreDealtWell}
use Rattle.vx_rest.specs.Through.{IsThrough, IsJoinThrough}
use Rattle.vx_rest.specs.Ends.{Ends, AllEnd, IsDrained, AreEndsRight, HaveNoMoreHands, HasStarted, MayGive, HeldStarted, RowsStarted}
use Rattle.vx_rest.specs.Machine.{Machine, JoinNode, join_node, on_of, Move, reads, gives, answers, leaves, takes, builds, probes, comes_out, turns, merges, finishes, built, probed, empties, stops, HasEnded, KeepsRows, CanGive, CanTake, CanMake}
use Rattle.vx_rest.specs.Changes.{EndsStay, MemoryStays, OthersStay, TakersStay, FullHaveRows, Here, HereJoin, ReadChanges, GiveChanges, TakeChanges, MergeChanges, IsSet, KnowsEnd, FinishChanges, AnswerChanges, BuildChanges, ProbeChanges, JoinStands, BuiltChanges, ProbedChanges, EmptyChanges, OutputChanges, StopChanges, Makes}
use Rattle.vx_rest.specs.Steady.{IsSteadyAt, IsSteady}
use Rattle.vx_rest.specs.Reclaims.{Reclaims, ReclaimsJoin}
use Rattle.vx_rest.proofs.OnlyAtLaws.{within-unique, clash, root-node}
use Rattle.vx_rest.proofs.ThroughLaw.{joined-none}
use Rattle.vx_rest.proofs.StartLaw.{lanes-one, lanes-groups}
use Rattle.vx_rest.proofs.EndLaw.{started-drained, started-stays}
use Rattle.vx_rest.proofs.EndMoves.{FlagsStay, NewEnds, StaysDrained, Ends-kept, drained-same, drained-but, within-here}
use Rattle.vx_rest.proofs.DrainedLaws.{ends-within, source-within, drained-hand, goes-on, not-empty, filled-drained, emptied-drained, join-goes-on, out-drained, still-drained}
use Rattle.vx_rest.proofs.StartedLaw.{started-hand, started-gives}
use Rattle.vx_rest.proofs.MachineParts.{eq_or, once-within, well-within, within-trans, apart, MoreAt, more-at, more-all, HandsAt, HeldAt, rows-at, rows-within, rows-all, HeldAt-same, HandsFall, fall-emptied, fall-same, fall-more, fall-hands, fill-more}

-- ---- one node

knows-same : (own : Own) (old new : Held) → new.ended ≡ old.ended → KnowsEnd own old → KnowsEnd own new
knows-same (filter x) old new same h = tt
knows-same (project xs) old new same h = tt
knows-same (aggregation step keys aggregates) old new same h = same ∙ h
knows-same (order keys) old new same h = same ∙ h
knows-same (topn count keys) old new same h = same ∙ h
knows-same (limit offset count) old new same h = tt
knows-same (exchange kind keys) old new same h = tt

-- what gives isn't drained
gives-live : (drivers : ℕ) (e : Ends) (q : Holding) (id : ℕ) (own : Own) (source : Tree) (d : ℕ) → CanGive own (q.held id d) → IsDrained drivers e q (over id own source) d → ⊥
gives-live drivers e q id (filter x) source d g h = g h.1
gives-live drivers e q id (project xs) source d g h = g h.1
gives-live drivers e q id (aggregation step keys aggregates) source d g h = g.1 h.1
gives-live drivers e q id (order keys) source d g h = g.1 h.1
gives-live drivers e q id (topn count keys) source d g h = ⊎_elim g.1 g.2 h.1
gives-live drivers e q id (limit offset count) source d g h = g h.1
gives-live drivers e q id (exchange kind keys) source d g h = g h.1

may-give : (drivers : ℕ) (e : Ends) (q : Holding) (id : ℕ) (own : Own) (source : Tree) → AreDealtWell (over id own source) → AreEndsRight drivers e q (over id own source) → (d : ℕ) → d < drivers_of drivers (over id own source) → CanGive own (q.held id d) → MayGive e own id (q.held id d) d
may-give drivers e q id (filter x) source well right d w g = g
may-give drivers e q id (project xs) source well right d w g = g
may-give drivers e q id (aggregation step keys aggregates) source well right d w g = right.2 d (subst (λ n. d < n) (lanes-groups drivers id step keys aggregates source well.1) w) g.0
may-give drivers e q id (order keys) source well right d w g = right.2 d (subst (λ n. d < n) (sym (lanes-one drivers source well.1)) w) g.0
may-give drivers e q id (topn count keys) source well right d w g = right.2 d (subst (λ n. d < n) (sym (lanes-one drivers source well.1)) w) g.0
may-give drivers e q id (limit offset count) source well right d w g = g
may-give drivers e q id (exchange kind keys) source well right d w g = g

-- where a source has started, so may what an operator over it keeps
held-started : (drivers : ℕ) (e : Ends) (q : Holding) (id : ℕ) (own : Own) (source : Tree) → HasStarted drivers e source → HeldStarted drivers e q id own source
held-started drivers e q id (filter x) source h = λ d w some. h
held-started drivers e q id (project xs) source h = λ d w some. h
held-started drivers e q id (aggregation step keys aggregates) source h = tt
held-started drivers e q id (order keys) source h = tt
held-started drivers e q id (topn count keys) source h = tt
held-started drivers e q id (limit offset count) source h = λ d w some. h
held-started drivers e q id (exchange kind keys) source h = λ d w some. h

-- what an operator keeps has rows only where it had
held-fewer : (drivers : ℕ) (e : Ends) (old new : Holding) (id : ℕ) (own : Own) (source : Tree) → ((d : ℕ) → (new.held id d).rows ≢ [] → (old.held id d).rows ≢ []) → HeldStarted drivers e old id own source → HeldStarted drivers e new id own source
held-fewer drivers e old new id (filter x) source less h = λ d w some. h d w (less d some)
held-fewer drivers e old new id (project xs) source less h = λ d w some. h d w (less d some)
held-fewer drivers e old new id (aggregation step keys aggregates) source less h = tt
held-fewer drivers e old new id (order keys) source less h = tt
held-fewer drivers e old new id (topn count keys) source less h = tt
held-fewer drivers e old new id (limit offset count) source less h = λ d w some. h d w (less d some)
held-fewer drivers e old new id (exchange kind keys) source less h = λ d w some. h d w (less d some)

rows-gives : (old new : Holding) (id d : ℕ) → OthersStay d (old.held id) (new.held id) → (old.held id d).rows ≢ [] → (k : ℕ) → (new.held id k).rows ≢ [] → (old.held id k).rows ≢ []
rows-gives old new id d others h k some = eq_or k d (λ e. subst (λ k. (old.held id k).rows ≢ []) (sym e) h) (λ e. subst (λ (x : Held). x.rows ≢ []) (others k e) some)

-- so with an operator that gives rows
held-gives : (drivers : ℕ) (e : Ends) (old new : Holding) (id : ℕ) (own : Own) (source : Tree) (d : ℕ) → CanGive own (old.held id d) → OthersStay d (old.held id) (new.held id) → HeldStarted drivers e old id own source → HeldStarted drivers e new id own source
held-gives drivers e old new id (filter x) source d g others h = held-fewer drivers e old new id (filter x) source (rows-gives old new id d others g) h
held-gives drivers e old new id (project xs) source d g others h = held-fewer drivers e old new id (project xs) source (rows-gives old new id d others g) h
held-gives drivers e old new id (aggregation step keys aggregates) source d g others h = tt
held-gives drivers e old new id (order keys) source d g others h = tt
held-gives drivers e old new id (topn count keys) source d g others h = tt
held-gives drivers e old new id (limit offset count) source d g others h = held-fewer drivers e old new id (limit offset count) source (rows-gives old new id d others g) h
held-gives drivers e old new id (exchange kind keys) source d g others h = held-fewer drivers e old new id (exchange kind keys) source (rows-gives old new id d others g) h

others-ended : (d : ℕ) (old new : ℕ → Held) → OthersStay d old new → (new d).ended ≡ (old d).ended → (k : ℕ) → (new k).ended ≡ (old k).ended
others-ended d old new others same k = eq_or k d (λ e. ap (λ k. (new k).ended) e ∙ same ∙ ap (λ k. (old k).ended) (sym e)) (λ e. ap (λ (x : Held). x.ended) (others k e))

takers-ended : (own : Own) (d : ℕ) (old new : ℕ → Held) → TakersStay own d old new → (k : ℕ) → (new k).ended ≡ (old k).ended
takers-ended (filter x) d old new h = others-ended d old new h.0 h.1
takers-ended (project xs) d old new h = others-ended d old new h.0 h.1
takers-ended (aggregation step keys aggregates) d old new h = others-ended d old new h.0 h.1
takers-ended (order keys) d old new h = others-ended d old new h.0 h.1
takers-ended (topn count keys) d old new h = others-ended d old new h.0 h.1
takers-ended (limit offset count) d old new h = others-ended d old new h.0 h.1
takers-ended (exchange kind keys) d old new h = h

-- an operator that takes a batch isn't drained in that driver, an exchange in none
takers-live : (drivers : ℕ) (e : Ends) (old new : Holding) (id : ℕ) (own : Own) (source : Tree) (d : ℕ) → d < drivers_of drivers source → (e.input id d ≡ true → ⊥) → TakersStay own d (old.held id) (new.held id)
    → (k : ℕ) → IsDrained drivers e old (over id own source) k → new.held id k ≡ old.held id k
takers-live drivers e old new id (filter x) source d w going stay k h = stay.0 k (goes-on drivers e old id (filter x) source d w going k h)
takers-live drivers e old new id (project xs) source d w going stay k h = stay.0 k (goes-on drivers e old id (project xs) source d w going k h)
takers-live drivers e old new id (aggregation step keys aggregates) source d w going stay k h = stay.0 k (goes-on drivers e old id (aggregation step keys aggregates) source d w going k h)
takers-live drivers e old new id (order keys) source d w going stay k h = stay.0 k (goes-on drivers e old id (order keys) source d w going k h)
takers-live drivers e old new id (topn count keys) source d w going stay k h = stay.0 k (goes-on drivers e old id (topn count keys) source d w going k h)
takers-live drivers e old new id (limit offset count) source d w going stay k h = stay.0 k (goes-on drivers e old id (limit offset count) source d w going k h)
takers-live drivers e old new id (exchange kind keys) source d w going stay k h = absurd (going (h.2 d w))

fill-hands : (drivers : ℕ) (e : Ends) (t : Tree) → AreOnce t → (part : Tree) → Within part t → (place : ℕ) (rows : List Row) (old new : Holding) → HandFilled (id_of part) place rows old new → HasStarted drivers e part
    → (s : Tree) → Within s t → (d : ℕ) → new.hand (id_of s) d ≢ [] → (old.hand (id_of s) d ≢ []) ⊎ HasStarted drivers e s
fill-hands drivers e t once part within place rows old new h started s w d some = eq_or (id_of s) (id_of part)
    (λ a. inr (subst (HasStarted drivers e) (sym (within-unique s part t once w within a)) started))
    (λ a. inl (subst (λ l. l ≢ []) (h.others (id_of s) d (inl a)) some))

-- ---- from what changes at one node to all facts

flags-set : (node place : ℕ) (old new : ℕ → ℕ → Bool) → IsSet node place old new → (id d : ℕ) → old id d ≡ true → new id d ≡ true
flags-set node place old new h id d b = eq_or id node
    (λ a. eq_or d place (λ c. subst (λ k. new k d ≡ true) (sym a) (subst (λ k. new node k ≡ true) (sym c) h.after)) (λ c. h.others id d (inr c) ∙ b))
    (λ a. h.others id d (inl a) ∙ b)

module _ (drivers : ℕ) (some : 1 ≤ drivers) (t : Tree) (once : AreOnce t) (well : AreDealtWell t) (old new : Machine) (steady : IsSteady drivers t old) (going : old.done ≡ false) where
  abbrev e : Ends
  e = old.ends

  abbrev e' : Ends
  e' = new.ends

  abbrev q : Holding
  q = old.query

  abbrev q' : Holding
  q' = new.query

  -- what changes at the first node of a part, and not elsewhere
  record ChangesAt (part : Tree) : Type 0 where
    within : Within part t
    held : (id : ℕ) → id ≢ id_of part → q'.held id ≡ q.held id
    joins : (id : ℕ) → id ≢ id_of part → q'.join id ≡ q.join id
    full : (id : ℕ) → id ≢ id_of part → new.full id ≡ old.full id
    inputs : (id d : ℕ) → id ≢ id_of part → e'.input id d ≡ e.input id d
    builds : (id d : ℕ) → id ≢ id_of part → e'.build id d ≡ e.build id d
    through : (id : ℕ) → id ≢ id_of part → new.through id ≡ old.through id
    leaving : (id : ℕ) → id ≢ id_of part → new.leaving id ≡ old.leaving id
    flags : FlagsStay e e'
    done : new.done ≡ old.done

  right-at : (s : Tree) → Within s t → AreEndsRight drivers e q s
  right-at s w = ends-within drivers e q s t w steady.right

  rows-in : (s : Tree) → Within s t → RowsStarted drivers e q s
  rows-in s w = rows-within drivers e q t steady.rows s w

  steady-other : (part : Tree) → ChangesAt part → (s : Tree) → id_of s ≢ id_of part → IsSteadyAt drivers old s → IsSteadyAt drivers new s
  steady-other part c (values id kinds all parallel) a h = tt
  steady-other part c (over id own source) a h = (
    λ d w i. knows-same own (q.held id d) (q'.held id d) (ap (λ (f : ℕ → Held). (f d).ended) (c.held id a)) (h.0 d w (sym (c.inputs id d a) ∙ i)),
    λ queue f. subst (λ (g : ℕ → Held). (g queue).rows ≢ []) (sym (c.held id a)) (h.1 queue (ap (λ g. g queue) (sym (c.full id a)) ∙ f)),
  )
  steady-other part c (join id kind left_keys right_keys left right) a h = (
    λ th. let o = h.0 (sym (c.through id a) ∙ th) in (subst IsJoinThrough (sym (c.joins id a)) o.0, c.inputs id 0 a ∙ o.1, λ d w. c.builds id d a ∙ o.2 d w),
    λ l. subst (λ (x : HeldJoin). x.build ≢ []) (sym (c.joins id a)) (h.1 (sym (c.leaving id a) ∙ l)),
  )

  news-other : (part : Tree) → ChangesAt part → (s : Tree) → Within s t → id_of s ≢ id_of part → NewEnds drivers e e' q' s
  news-other part c (values id kinds all parallel) w a = tt
  news-other part c (over id own source) w a = (
    λ d low f. inl (sym (c.inputs id d a) ∙ f),
    λ d low x. c.inputs id d a ∙ (right-at (over id own source) w).2 d low (ap (λ (f : ℕ → Held). (f d).ended) (sym (c.held id a)) ∙ x),
  )
  news-other part c (join id kind left_keys right_keys left right) w a = (
    λ f. inl (sym (c.inputs id 0 a) ∙ f),
    λ d low f. inl (sym (c.builds id d a) ∙ f),
    λ x. c.inputs id 0 a ∙ (right-at (join id kind left_keys right_keys left right) w).4 (ap (λ (f : HeldJoin). f.ended) (sym (c.joins id a)) ∙ x),
  )

  steady-by : (part : Tree) → ChangesAt part → ((s : Tree) → Within s t → StaysDrained drivers e e' q q' s) → NewEnds drivers e e' q' part
      → ((s : Tree) → Within s t → MoreAt drivers q s → MoreAt drivers q' s) → ((s : Tree) → Within s t → (d : ℕ) → q'.hand (id_of s) d ≢ [] → (q.hand (id_of s) d ≢ []) ⊎ HasStarted drivers e s)
      → HeldAt drivers e' q' part → IsSteadyAt drivers new part → IsSteady drivers t new
  steady-by part c drained news more hands here node = record {
    right = Ends-kept drivers e e' q q' t drained
        (λ s w. eq_or (id_of s) (id_of part) (λ a. subst (NewEnds drivers e e' q') (sym (within-unique s part t once w c.within a)) news) (λ a. news-other part c s w a)) steady.right;
    hands = more-all drivers q' t (λ s w. more s w (more-at drivers q t steady.hands s w));
    rows = rows-all drivers e' q' t (λ s w.
        let before = rows-at drivers e q t steady.rows s w in (
          (λ d full. started-stays drivers e e' c.flags.input c.flags.build s (⊎_elim (λ b. before.0 d b) (λ h. h) (hands s w d full))),
          eq_or (id_of s) (id_of part) (λ a. subst (HeldAt drivers e' q') (sym (within-unique s part t once w c.within a)) here) (λ a. HeldAt-same drivers e e' c.flags q q' s (c.held (id_of s) a) (c.joins (id_of s) a) before.1),
        ));
    nodes = λ s w. eq_or (id_of s) (id_of part) (λ a. subst (IsSteadyAt drivers new) (sym (within-unique s part t once w c.within a)) node) (λ a. steady-other part c s a (steady.nodes s w));
    done = λ z. absurd (true≢false (sym z ∙ c.done ∙ going));
  }

  -- ---- moves that leave the ends as they are

  flags-same : EndsStay old new → FlagsStay e e'
  flags-same s = record { input = λ id d h. ap (λ (x : Ends). x.input id d) s.ends ∙ h; build = λ id d h. ap (λ (x : Ends). x.build id d) s.ends ∙ h }

  changes-still : (part : Tree) → Within part t → Here (id_of part) old new → EndsStay old new → ChangesAt part
  changes-still part within h s = record {
    within = within;
    held = h.stays.held;
    joins = h.stays.join;
    full = h.memory.full;
    leaving = h.memory.leaving;
    inputs = λ id d a. ap (λ (x : Ends). x.input id d) s.ends;
    builds = λ id d a. ap (λ (x : Ends). x.build id d) s.ends;
    through = λ id a. ap (λ f. f id) s.through;
    flags = flags-same s;
    done = s.done;
  }

  drained-still : EndsStay old new → ((s : Tree) → Within s t → StaysDrained drivers e e q q' s) → (s : Tree) → Within s t → StaysDrained drivers e e' q q' s
  drained-still s h = subst (λ x. (s : Tree) → Within s t → StaysDrained drivers e x q q' s) (sym s.ends) h

  over-news : EndsStay old new → (id : ℕ) (own : Own) (source : Tree) → Within (over id own source) t → ((k : ℕ) → (q'.held id k).ended ≡ (q.held id k).ended) → NewEnds drivers e e' q' (over id own source)
  over-news s id own source within same = (
    λ k w f. inl (ap (λ (x : Ends). x.input id k) (sym s.ends) ∙ f),
    λ k w x. (flags-same s).input id k ((right-at (over id own source) within).2 k w (sym (same k) ∙ x)),
  )

  join-news : EndsStay old new → (j : JoinNode) → Within (join_node j) t → (q'.join j.id).ended ≡ (q.join j.id).ended → NewEnds drivers e e' q' (join_node j)
  join-news s j within same = (
    λ f. inl (ap (λ (x : Ends). x.input j.id 0) (sym s.ends) ∙ f),
    λ k w f. inl (ap (λ (x : Ends). x.build j.id k) (sym s.ends) ∙ f),
    λ x. (flags-same s).input j.id 0 ((right-at (join_node j) within).4 (sym same ∙ x)),
  )

  over-node : EndsStay old new → (id : ℕ) (own : Own) (source : Tree) → Within (over id own source) t → ((k : ℕ) → (q'.held id k).ended ≡ (q.held id k).ended) → FullHaveRows new id → IsSteadyAt drivers new (over id own source)
  over-node s id own source within same full = (
    λ k w i. knows-same own (q.held id k) (q'.held id k) (same k) ((steady.nodes (over id own source) within).0 k w (ap (λ (x : Ends). x.input id k) (sym s.ends) ∙ i)),
    full,
  )

  held-still : EndsStay old new → (part : Tree) → HeldAt drivers e q' part → HeldAt drivers e' q' part
  held-still s part h = subst (λ x. HeldAt drivers x q' part) (sym s.ends) h

  reads-steady : (id : ℕ) (kinds : List Rattle.vx_value.specs.declared.value.Kind.Kind) (all : List (List Rattle.vx_value.specs.declared.value.Value.Value)) (parallel : Bool) (d : ℕ) → Makes drivers t (reads id kinds all parallel d) old new → IsSteady drivers t new
  reads-steady id kinds all parallel d h =
      let c = h.changes in
      let part = values id kinds all parallel in
      let within = h.can.needs.0 in
      steady-by part (changes-still part within c.here c.ends)
      (drained-still c.ends (filled-drained drivers e t once q q' part within c.here.stays d c.rows c.hand
      (λ k r. let off : k ≢ d = (λ z. h.can.needs.3 (subst (λ k. (q.held id k).rows ≡ []) z r.1)) in (off, c.others k off, c.joins))))
      tt (fill-more drivers t once part within d h.can.needs.1 c.rows q q' c.hand) (fill-hands drivers e t once part within d c.rows q q' c.hand tt) tt tt

  gives-steady : (id : ℕ) (own : Own) (source : Tree) (d : ℕ) → Makes drivers t (gives id own source d) old new → IsSteady drivers t new
  gives-steady id own source d h =
      let c = h.changes in
      let part = over id own source in
      let within = h.can.needs.0 in
      let low = h.can.needs.1 in
      let can = h.can.needs.3 in
      let same = others-ended d (q.held id) (q'.held id) c.others c.ended in
      let started : HasStarted drivers e part = started-gives drivers some e q id own source (well-within part t within well) (right-at part within) (rows-in part within) d low (may-give drivers e q id own source (well-within part t within well) (right-at part within) d low can) in
      steady-by part (changes-still part within c.here c.ends)
      (drained-still c.ends (filled-drained drivers e t once q q' part within c.here.stays d c.rows c.hand
      (λ k r. let off : k ≢ d = (λ z. gives-live drivers e q id own source d can (subst (IsDrained drivers e q part) z r)) in (off, c.others k off, c.joins))))
      (over-news c.ends id own source within same) (fill-more drivers t once part within d low c.rows q q' c.hand) (fill-hands drivers e t once part within d c.rows q q' c.hand started)
      (held-still c.ends part (held-gives drivers e q q' id own source d can c.others (rows-at drivers e q t steady.rows part within).1)) (over-node c.ends id own source within same c.here.full)

  takes-steady : (id : ℕ) (own : Own) (source : Tree) (d : ℕ) → Makes drivers t (takes id own source d) old new → IsSteady drivers t new
  takes-steady id own source d h =
      let c = h.changes in
      let part = over id own source in
      let within = h.can.needs.0 in
      let low = h.can.needs.1 in
      let below : Within source t = source-within id own source t within in
      let same = takers-ended own d (q.held id) (q'.held id) c.others in
      let open_input : e.input id d ≡ true → ⊥ = (λ i. not-empty c.row c.rows (sym c.hand.before ∙ drained-hand drivers e q source d ((right-at part within).1 d low i))) in
      let started : HasStarted drivers e source = started-hand drivers some e q source (rows-in source below) d (λ z. not-empty c.row c.rows (sym c.hand.before ∙ z)) in
      let fall = fall-emptied (id_of source) d (c.row ∷ c.rows) q q' c.hand in
      steady-by part (changes-still part within c.here c.ends)
      (drained-still c.ends (emptied-drained drivers e t once q q' part source within below (apart id source (once-within part t within once).0) c.here.stays d c.row c.rows c.hand
      (λ k r. (takers-live drivers e q q' id own source d low open_input c.others k r, c.joins))))
      (over-news c.ends id own source within same) (λ s w. fall-more drivers q q' fall s) (λ s w k full. inl (fall-hands q q' fall (id_of s) k full))
      (held-still c.ends part (held-started drivers e q' id own source started)) (over-node c.ends id own source within same c.here.full)

  merges-steady : (id : ℕ) (own : Own) (source : Tree) (d : ℕ) → Makes drivers t (merges id own source d) old new → IsSteady drivers t new
  merges-steady id own source d h =
      let c = h.changes in
      let part = over id own source in
      let within = h.can.needs.0 in
      let low = h.can.needs.1 in
      let same = others-ended d (q.held id) (q'.held id) c.others c.ended in
      let flags : FlagsStay e e = record { input = λ id d h. h; build = λ id d h. h } in
      let fall = fall-same q q' c.hands in
      steady-by part (changes-still part within c.here c.ends)
      (drained-still c.ends (still-drained drivers e e flags t once q q' part within c.here.stays c.hands
      (λ k r. drained-same drivers e e q q' flags part k (c.hands id k) (c.others k (goes-on drivers e q id own source d low (λ i. true≢false (sym i ∙ h.can.needs.3)) k r)) c.joins r)))
      (over-news c.ends id own source within same) (λ s w. fall-more drivers q q' fall s) (λ s w k full. inl (fall-hands q q' fall (id_of s) k full))
      (held-still c.ends part (held-fewer drivers e q q' id own source (λ k r. eq_or k d (λ a. subst (λ k. (q.held id k).rows ≢ []) (sym a) (c.some (subst (λ k. (q'.held id k).rows ≢ []) a r))) (λ a. subst (λ (x : Held). x.rows ≢ []) (c.others k a) r))
      (rows-at drivers e q t steady.rows part within).1)) (over-node c.ends id own source within same c.here.full)

  finishes-steady : (id : ℕ) (own : Own) (source : Tree) (d : ℕ) → Makes drivers t (finishes id own source d) old new → IsSteady drivers t new
  finishes-steady id own source d h =
      let c = h.changes in
      let part = over id own source in
      let within = h.can.needs.0 in
      let low = h.can.needs.1 in
      let below : Within source t = source-within id own source t within in
      let open_input : e.input id d ≡ true → ⊥ = (λ i. true≢false (sym i ∙ h.can.needs.2)) in
      let flags : FlagsStay e e' = record { input = flags-set id d e.input e'.input c.input; build = λ k j b. ap (λ f. f k j) c.build ∙ b } in
      let fall = fall-same q q' c.hands in
      let other : id_of source ≢ id = apart id source (once-within part t within once).0 in
      let started : HasStarted drivers e source = started-drained drivers some e q source (well-within source t below well) (right-at source below) d low h.can.needs.3.0 in
      let over_source : IsDrained drivers e' q' source d = drained-same drivers e e' q q' flags source d (c.hands (id_of source) d) (ap (λ f. f d) (c.here.stays.held (id_of source) other)) (c.here.stays.join (id_of source) other) h.can.needs.3.0 in
      steady-by part (record {
        within = within;
        held = c.here.stays.held;
        joins = c.here.stays.join;
        full = c.here.memory.full;
        leaving = c.here.memory.leaving;
        inputs = λ k j a. c.input.others k j (inl a);
        builds = λ k j a. ap (λ f. f k j) c.build;
        through = λ k a. ap (λ f. f k) c.through;
        flags = flags;
        done = c.done;
      })
      (still-drained drivers e e' flags t once q q' part within c.here.stays c.hands (λ k r. drained-same drivers e e' q q' flags part k (c.hands id k) (c.others k (goes-on drivers e q id own source d low open_input k r)) c.joins r)) (
        (λ k w f. eq_or k d (λ a. inr (subst (IsDrained drivers e' q' source) (sym a) over_source)) (λ a. inl (sym (c.input.others id k (inr a)) ∙ f))),
        (λ k w x. eq_or k d (λ a. subst (λ k. e'.input id k ≡ true) (sym a) c.input.after) (λ a. flags.input id k ((right-at part within).2 k w (ap (λ (x : Held). x.ended) (sym (c.others k a)) ∙ x)))),
      )
      (λ s w. fall-more drivers q q' fall s) (λ s w k full. inl (fall-hands q q' fall (id_of s) k full))
      (held-started drivers e' q' id own source (started-stays drivers e e' flags.input flags.build source started)) (
        (λ k w i. eq_or k d (λ a. subst (λ k. KnowsEnd own (q'.held id k)) (sym a) c.knows)
            (λ a. subst (KnowsEnd own) (sym (c.others k a)) ((steady.nodes part within).0 k w (sym (c.input.others id k (inr a)) ∙ i)))),
        c.here.full,
      )

  -- ---- joins

  join-node : (j : JoinNode) → (new.through j.id ≡ true → ⊥) → (new.leaving j.id ≡ true → (q'.join j.id).build ≢ []) → IsSteadyAt drivers new (join_node j)
  join-node j no_end lonely = ((λ th. absurd (no_end th)), lonely)

  was-through : (j : JoinNode) → EndsStay old new → new.through j.id ≡ true → old.through j.id ≡ true
  was-through j s th = ap (λ f. f j.id) (sym s.through) ∙ th

  -- the probe's rows, and build rows without a match
  fills-steady : (j : JoinNode) → Within (join_node j) t → AnswerChanges j old new → (IsJoinThrough (q.join j.id) → ⊥) → HasStarted drivers e (join_node j) → IsSteady drivers t new
  fills-steady j within c live started =
      let part = join_node j in
      steady-by part (changes-still part within c.here.here c.ends)
      (drained-still c.ends (filled-drained drivers e t once q q' part within c.here.here.stays 0 c.rows c.hand (λ k r. absurd (live r.1))))
      (join-news c.ends j within c.ended) (fill-more drivers t once part within 0 (let z : 0 < 1 = omega arith in z) c.rows q q' c.hand) (fill-hands drivers e t once part within 0 c.rows q q' c.hand started)
      (held-still c.ends part (λ owed. started))
      (join-node j (λ th. live ((steady.nodes part within).0 (was-through j c.ends th)).0) c.here.leaving)

  answers-steady : (j : JoinNode) → Makes drivers t (answers j) old new → IsSteady drivers t new
  answers-steady j h =
      let owed = h.can.needs.3 in
      fills-steady j h.can.needs.0 h.changes (λ z. owed z.owed) ((rows-at drivers e q t steady.rows (join_node j) h.can.needs.0).1 owed)

  leaves-steady : (j : JoinNode) → Makes drivers t (leaves j) old new → IsSteady drivers t new
  leaves-steady j h =
      fills-steady j h.can.needs.0 h.changes (λ z. (steady.nodes (join_node j) h.can.needs.0).1 h.can.needs.5 z.build) (h.can.needs.1, inl h.can.needs.3)

  left-within : (j : JoinNode) → Within (join_node j) t → Within j.left t
  left-within j w = within-trans j.left (join_node j) t (inr (inl (within-here j.left))) w

  right-within : (j : JoinNode) → Within (join_node j) t → Within j.right t
  right-within j w = within-trans j.right (join_node j) t (inr (inr (within-here j.right))) w

  builds-steady : (j : JoinNode) (d : ℕ) → Makes drivers t (builds j d) old new → IsSteady drivers t new
  builds-steady j d h =
      let c = h.changes in
      let part = join_node j in
      let within = h.can.needs.0 in
      let low = h.can.needs.1 in
      let right = right-at part within in
      let fall = fall-emptied (id_of j.right) d (c.row ∷ c.rows) q q' c.hand in
      steady-by part (changes-still part within c.here.here c.ends)
      (drained-still c.ends (emptied-drained drivers e t once q q' part j.right within (right-within j within) (apart j.id j.right (once-within part t within once).1) c.here.here.stays d c.row c.rows c.hand
      (λ k r. absurd (join-goes-on drivers e q j.id j.kind j.left_keys j.right_keys j.left j.right right c.row c.rows (inr (d, low, c.hand.before)) k r))))
      (join-news c.ends j within c.ended) (λ s w. fall-more drivers q q' fall s) (λ s w k full. inl (fall-hands q q' fall (id_of s) k full))
      (held-still c.ends part (λ owed. (rows-at drivers e q t steady.rows part within).1 (subst (λ l. l ≢ []) c.owed owed)))
      (join-node j (λ th. not-empty c.row c.rows (sym c.hand.before ∙ drained-hand drivers e q j.right d (right.3 d low (((steady.nodes part within).0 (was-through j c.ends th)).2 d low)))) c.here.leaving)

  probes-steady : (j : JoinNode) → Makes drivers t (probes j) old new → IsSteady drivers t new
  probes-steady j h =
      let c = h.changes in
      let part = join_node j in
      let within = h.can.needs.0 in
      let right = right-at part within in
      let fall = fall-emptied (id_of j.left) 0 (c.row ∷ c.rows) q q' c.hand in
      steady-by part (changes-still part within c.here.here c.ends)
      (drained-still c.ends (emptied-drained drivers e t once q q' part j.left within (left-within j within) (apart j.id j.left (once-within part t within once).0) c.here.here.stays 0 c.row c.rows c.hand
      (λ k r. absurd (join-goes-on drivers e q j.id j.kind j.left_keys j.right_keys j.left j.right right c.row c.rows (inl c.hand.before) k r))))
      (join-news c.ends j within c.ended) (λ s w. fall-more drivers q q' fall s) (λ s w k full. inl (fall-hands q q' fall (id_of s) k full))
      (held-still c.ends part (λ owed. (h.can.needs.1, inr (started-hand drivers some e q j.left (rows-in j.left (left-within j within)) 0 h.can.needs.2))))
      (join-node j (λ th. not-empty c.row c.rows (sym c.hand.before ∙ drained-hand drivers e q j.left 0 (right.2 ((steady.nodes part within).0 (was-through j c.ends th)).1))) c.here.leaving)

  -- the build's end, the probe's, and the last table's
  changes-join : (j : JoinNode) → Within (join_node j) t → JoinStands j old new → ((id d : ℕ) → id ≢ j.id → e'.input id d ≡ e.input id d) → ((id d : ℕ) → id ≢ j.id → e'.build id d ≡ e.build id d) → ((id : ℕ) → id ≢ j.id → new.through id ≡ old.through id)
      → FlagsStay e e' → new.done ≡ old.done → ChangesAt (join_node j)
  changes-join j within c inputs build_ends through flags done = record {
    within = within;
    held = c.here.here.stays.held;
    joins = c.here.here.stays.join;
    full = c.here.here.memory.full;
    leaving = c.here.here.memory.leaving;
    inputs = inputs;
    builds = build_ends;
    through = through;
    flags = flags;
    done = done;
  }

  stands-steady : (j : JoinNode) → JoinStands j old new → ChangesAt (join_node j) → StaysDrained drivers e e' q q' (join_node j) → NewEnds drivers e e' q' (join_node j) → IsSteadyAt drivers new (join_node j) → IsSteady drivers t new
  stands-steady j c at drained news node =
      let part = join_node j in
      let fall = fall-same q q' c.hands in
      steady-by part at (still-drained drivers e e' at.flags t once q q' part at.within c.here.here.stays c.hands drained) news (λ s w. fall-more drivers q q' fall s) (λ s w k full. inl (fall-hands q q' fall (id_of s) k full))
      (λ owed. started-stays drivers e e' at.flags.input at.flags.build part ((rows-at drivers e q t steady.rows part at.within).1 (subst (λ l. l ≢ []) c.owed owed))) node

  built-steady : (j : JoinNode) (d : ℕ) → Makes drivers t (built j d) old new → IsSteady drivers t new
  built-steady j d h =
      let c = h.changes in
      let part = join_node j in
      let within = h.can.needs.0 in
      let low = h.can.needs.1 in
      let flags : FlagsStay e e' = record { input = λ k i b. ap (λ f. f k i) c.input ∙ b; build = flags-set j.id d e.build e'.build c.build } in
      let other : id_of j.right ≢ j.id = apart j.id j.right (once-within part t within once).1 in
      let over_right : IsDrained drivers e' q' j.right d = drained-same drivers e e' q q' flags j.right d (c.stands.hands (id_of j.right) d) (ap (λ f. f d) (c.stands.here.here.stays.held (id_of j.right) other)) (c.stands.here.here.stays.join (id_of j.right) other) h.can.needs.3.0 in
      stands-steady j c.stands
      (changes-join j within c.stands (λ k i a. ap (λ f. f k i) c.input) (λ k i a. c.build.others k i (inl a)) (λ k a. ap (λ f. f k) c.through) flags c.done)
      (λ k r. absurd (true≢false (sym (r.3 d low) ∙ h.can.needs.2))) (
        (λ f. inl (ap (λ f. f j.id 0) (sym c.input) ∙ f)),
        (λ k w f. eq_or k d (λ a. inr (subst (IsDrained drivers e' q' j.right) (sym a) over_right)) (λ a. inl (sym (c.build.others j.id k (inr a)) ∙ f))),
        (λ x. flags.input j.id 0 ((right-at part within).4 (sym c.ended ∙ x))),
      )
      (join-node j (λ th. true≢false (sym (((steady.nodes part within).0 (ap (λ f. f j.id) (sym c.through) ∙ th)).2 d low) ∙ h.can.needs.2)) c.stands.here.leaving)

  probed-steady : (j : JoinNode) → Makes drivers t (probed j) old new → IsSteady drivers t new
  probed-steady j h =
      let c = h.changes in
      let part = join_node j in
      let within = h.can.needs.0 in
      let flags : FlagsStay e e' = record { input = flags-set j.id 0 e.input e'.input c.input; build = λ k i b. ap (λ f. f k i) c.build ∙ b } in
      let other : id_of j.left ≢ j.id = apart j.id j.left (once-within part t within once).0 in
      let over_left : IsDrained drivers e' q' j.left 0 = drained-same drivers e e' q q' flags j.left 0 (c.stands.hands (id_of j.left) 0) (ap (λ f. f 0) (c.stands.here.here.stays.held (id_of j.left) other)) (c.stands.here.here.stays.join (id_of j.left) other) h.can.needs.3.0 in
      stands-steady j c.stands
      (changes-join j within c.stands (λ k i a. c.input.others k i (inl a)) (λ k i a. ap (λ f. f k i) c.build) (λ k a. ap (λ f. f k) c.through) flags c.done)
      (λ k r. absurd (true≢false (sym r.2 ∙ h.can.needs.2)))
      ((λ f. inr over_left), (λ k w f. inl (ap (λ f. f j.id k) (sym c.build) ∙ f)), (λ x. c.input.after))
      (join-node j (λ th. true≢false (sym ((steady.nodes part within).0 (ap (λ f. f j.id) (sym c.through) ∙ th)).1 ∙ h.can.needs.2)) c.stands.here.leaving)

  empties-steady : (j : JoinNode) → Makes drivers t (empties j) old new → IsSteady drivers t new
  empties-steady j h =
      let c = h.changes in
      let part = join_node j in
      let within = h.can.needs.0 in
      let flags : FlagsStay e e' = record { input = λ k i b. ap (λ (x : Ends). x.input k i) c.ends ∙ b; build = λ k i b. ap (λ (x : Ends). x.build k i) c.ends ∙ b } in
      let gone : IsJoinThrough (q'.join j.id) = c.gone in
      stands-steady j c.stands
      (changes-join j within c.stands (λ k i a. ap (λ (x : Ends). x.input k i) c.ends) (λ k i a. ap (λ (x : Ends). x.build k i) c.ends) (λ k a. c.others k a) flags c.done)
      (λ k r. (c.stands.hands j.id k ∙ r.0, gone, flags.input j.id 0 r.2, (λ i w. flags.build j.id i (r.3 i w))))
      ((λ f. inl (ap (λ (x : Ends). x.input j.id 0) (sym c.ends) ∙ f)), (λ k w f. inl (ap (λ (x : Ends). x.build j.id k) (sym c.ends) ∙ f)), (λ x. flags.input j.id 0 ((right-at part within).4 (sym c.ended ∙ x))))
      ((λ th. (gone, flags.input j.id 0 h.can.needs.2, (λ i w. flags.build j.id i (h.can.needs.1 i w)))), c.stands.here.leaving)

  turns-steady : (j : JoinNode) → Makes drivers t (turns j) old new → IsSteady drivers t new
  turns-steady j h =
      let c = h.changes in
      let part = join_node j in
      let within = h.can.needs.0 in
      let flags = flags-same c.ends in
      let fall = fall-same q q' c.hands in
      steady-by part (changes-still part within c.here.here c.ends)
      (still-drained drivers e e' flags t once q q' part within c.here.here.stays c.hands (λ k r. (c.hands j.id k ∙ r.0, c.still r.1, flags.input j.id 0 r.2, (λ i w. flags.build j.id i (r.3 i w)))))
      (join-news c.ends j within c.ended) (λ s w. fall-more drivers q q' fall s) (λ s w k full. inl (fall-hands q q' fall (id_of s) k full))
      (held-still c.ends part (λ owed. (h.can.needs.1, inl h.can.needs.2)))
      (join-node j (λ th. true≢false (sym (was-through j c.ends th) ∙ h.can.needs.5)) c.here.leaving)

  -- ---- the output

  out-steady : Makes drivers t comes_out old new → IsSteady drivers t new
  out-steady h =
      let c = h.changes in
      let fall = fall-emptied (id_of t) 0 (c.row ∷ c.rows) q q' c.out.hands in
      let at : ChangesAt t = record {
        within = within-here t;
        held = λ k a. ap (λ f. f k) c.out.held;
        joins = λ k a. ap (λ f. f k) c.out.join;
        full = λ k a. ap (λ f. f k) c.full;
        leaving = λ k a. ap (λ f. f k) c.leaving;
        inputs = λ k d a. ap (λ (x : Ends). x.input k d) c.ends.ends;
        builds = λ k d a. ap (λ (x : Ends). x.build k d) c.ends.ends;
        through = λ k a. ap (λ f. f k) c.ends.through;
        flags = flags-same c.ends;
        done = c.ends.done;
      } in
      steady-by t at (drained-still c.ends (out-drained drivers e t once q q' c.row c.rows c.out)) (news t (within-here t) c) (λ s w. fall-more drivers q q' fall s) (λ s w k full. inl (fall-hands q q' fall (id_of s) k full))
      (HeldAt-same drivers e e' (flags-same c.ends) q q' t (ap (λ f. f (id_of t)) c.out.held) (ap (λ f. f (id_of t)) c.out.join) (rows-at drivers e q t steady.rows t (within-here t)).1)
      (node t (within-here t) c) where
        news : (s : Tree) → Within s t → OutputChanges t old new → NewEnds drivers e e' q' s
        news (values id kinds all parallel) w c = tt
        news (over id own source) w c = over-news c.ends id own source w (λ k. ap (λ (f : ℕ → ℕ → Held). (f id k).ended) c.out.held)
        news (join id kind left_keys right_keys left right) w c = join-news c.ends (record { id = id; kind = kind; left_keys = left_keys; right_keys = right_keys; left = left; right = right }) w (ap (λ (f : ℕ → HeldJoin). (f id).ended) c.out.join)

        node : (s : Tree) → Within s t → OutputChanges t old new → IsSteadyAt drivers new s
        node (values id kinds all parallel) w c = tt
        node (over id own source) w c = over-node c.ends id own source w (λ k. ap (λ (f : ℕ → ℕ → Held). (f id k).ended) c.out.held)
            (λ queue full. subst (λ (f : ℕ → ℕ → Held). (f id queue).rows ≢ []) (sym c.out.held) ((steady.nodes (over id own source) w).1 queue (ap (λ f. f id queue) (sym c.full) ∙ full)))
        node (join id kind left_keys right_keys left right) w c = (
          (λ th. let o = (steady.nodes (join id kind left_keys right_keys left right) w).0 (ap (λ f. f id) (sym c.ends.through) ∙ th) in
              (subst IsJoinThrough (ap (λ f. f id) (sym c.out.join)) o.0, (flags-same c.ends).input id 0 o.1, (λ i v. (flags-same c.ends).build id i (o.2 i v)))),
          (λ l. subst (λ (f : ℕ → HeldJoin). (f id).build ≢ []) (sym c.out.join) ((steady.nodes (join id kind left_keys right_keys left right) w).1 (ap (λ f. f id) (sym c.leaving) ∙ l))),
        )

  stops-steady : Makes drivers t stops old new → IsSteady drivers t new
  stops-steady h =
      let c = h.changes in
      let both = λ (P : Ends → Holding → Type 0) (p : P e q). subst (λ x. P x q') (sym c.ends) (subst (P e) (sym c.query) p) in
      record {
        right = both (λ x k. AreEndsRight drivers x k t) steady.right;
        hands = both (λ x k. HaveNoMoreHands drivers k t) steady.hands;
        rows = both (λ x k. RowsStarted drivers x k t) steady.rows;
        nodes = node c;
        done = λ z. both (λ x k. IsDrained drivers x k t 0) h.can.needs.0;
      } where
        node : StopChanges old new → (s : Tree) → Within s t → IsSteadyAt drivers new s
        node c (values id kinds all parallel) w = tt
        node c (over id own source) w = (
          (λ k v i. subst (λ (x : Holding). KnowsEnd own (x.held id k)) (sym c.query) ((steady.nodes (over id own source) w).0 k v (ap (λ (x : Ends). x.input id k) (sym c.ends) ∙ i))),
          (λ queue full. subst (λ (x : Holding). (x.held id queue).rows ≢ []) (sym c.query) ((steady.nodes (over id own source) w).1 queue (ap (λ f. f id queue) (sym c.full) ∙ full))),
        )
        node c (join id kind left_keys right_keys left right) w = (
          (λ th. let o = (steady.nodes (join id kind left_keys right_keys left right) w).0 (ap (λ f. f id) (sym c.through) ∙ th) in
              (subst (λ (x : Holding). IsJoinThrough (x.join id)) (sym c.query) o.0, subst (λ (x : Ends). x.input id 0 ≡ true) (sym c.ends) o.1, subst (λ (x : Ends). AllEnd (drivers_of drivers right) (x.build id)) (sym c.ends) o.2)),
          (λ l. subst (λ (x : Holding). (x.join id).build ≢ []) (sym c.query) ((steady.nodes (join id kind left_keys right_keys left right) w).1 (ap (λ f. f id) (sym c.leaving) ∙ l))),
        )

  -- ---- reclaims

  reclaimed-drained : (id : ℕ) (own : Own) (source : Tree) (d : ℕ) → Reclaims drivers t id own source d old new → StaysDrained drivers e e q q' (over id own source)
  reclaimed-drained id (aggregation step keys aggregates) source d c k r = (c.hands id k ∙ r.0, eq_or k d (λ z. subst (λ k. IsThrough (aggregation step keys aggregates) (q'.held id k)) (sym z) (c.still (subst (λ k. IsThrough (aggregation step keys aggregates) (q.held id k)) z r.1))) (λ ne. subst (IsThrough (aggregation step keys aggregates)) (sym (c.others k ne)) r.1), r.2)
  reclaimed-drained id (order keys) source d c k r = (c.hands id k ∙ r.0, eq_or k d (λ z. subst (λ k. IsThrough (order keys) (q'.held id k)) (sym z) (c.still (subst (λ k. IsThrough (order keys) (q.held id k)) z r.1))) (λ ne. subst (IsThrough (order keys)) (sym (c.others k ne)) r.1), r.2)
  reclaimed-drained id (topn count keys) source d c k r = (c.hands id k ∙ r.0, eq_or k d (λ z. subst (λ k. IsThrough (topn count keys) (q'.held id k)) (sym z) (c.still (subst (λ k. IsThrough (topn count keys) (q.held id k)) z r.1))) (λ ne. subst (IsThrough (topn count keys)) (sym (c.others k ne)) r.1), r.2)
  reclaimed-drained id (filter x) source d c k r = absurd c.kind
  reclaimed-drained id (project xs) source d c k r = absurd c.kind
  reclaimed-drained id (limit offset count) source d c k r = absurd c.kind
  reclaimed-drained id (exchange kind keys) source d c k r = absurd c.kind

  reclaimed-started : (id : ℕ) (own : Own) (source : Tree) → KeepsRows own → HeldStarted drivers e q' id own source
  reclaimed-started id (aggregation step keys aggregates) source k = tt
  reclaimed-started id (order keys) source k = tt
  reclaimed-started id (topn count keys) source k = tt
  reclaimed-started id (filter x) source k = absurd k
  reclaimed-started id (project xs) source k = absurd k
  reclaimed-started id (limit offset count) source k = absurd k
  reclaimed-started id (exchange kind keys) source k = absurd k

  pub reclaims-steady : (id : ℕ) (own : Own) (source : Tree) (d : ℕ) → Reclaims drivers t id own source d old new → IsSteady drivers t new
  reclaims-steady id own source d c =
      let part = over id own source in
      let same = others-ended d (q.held id) (q'.held id) c.others c.ended in
      let flags : FlagsStay e e = record { input = λ id d h. h; build = λ id d h. h } in
      let fall = fall-same q q' c.hands in
      steady-by part (changes-still part c.within c.here c.ends)
      (drained-still c.ends (still-drained drivers e e flags t once q q' part c.within c.here.stays c.hands (reclaimed-drained id own source d c)))
      (over-news c.ends id own source c.within same) (λ s w. fall-more drivers q q' fall s) (λ s w k full. inl (fall-hands q q' fall (id_of s) k full))
      (held-still c.ends part (reclaimed-started id own source c.kind)) (over-node c.ends id own source c.within same c.here.full)

  pub reclaims-join-steady : (j : JoinNode) → ReclaimsJoin drivers t j old new → IsSteady drivers t new
  reclaims-join-steady j c =
      let part = join_node j in
      let flags = flags-same c.ends in
      let fall = fall-same q q' c.hands in
      steady-by part (changes-still part c.within c.here.here c.ends)
      (still-drained drivers e e' flags t once q q' part c.within c.here.here.stays c.hands (λ k r. (c.hands j.id k ∙ r.0, c.still r.1, flags.input j.id 0 r.2, (λ i w. flags.build j.id i (r.3 i w)))))
      (join-news c.ends j c.within c.ended) (λ s w. fall-more drivers q q' fall s) (λ s w k full. inl (fall-hands q q' fall (id_of s) k full))
      (held-still c.ends part (λ owed. (rows-at drivers e q t steady.rows part c.within).1 (subst (λ l. l ≢ []) c.owed owed))) (
        (λ th.
            let o = (steady.nodes part c.within).0 (was-through j c.ends th) in
            (c.still o.0, flags.input j.id 0 o.1, (λ i w. flags.build j.id i (o.2 i w)))),
        c.here.leaving,
      )

-- a move keeps what a query's type keeps
pub steady-kept : (drivers : ℕ) → 1 ≤ drivers → (t : Tree) → AreOnce t → AreDealtWell t → (move : Move) (old new : Machine) → Makes drivers t move old new → IsSteady drivers t old → IsSteady drivers t new
steady-kept drivers some t once well (reads id kinds all parallel d) old new h steady = reads-steady drivers some t once well old new steady h.can.going id kinds all parallel d h
steady-kept drivers some t once well (gives id own source d) old new h steady = gives-steady drivers some t once well old new steady h.can.going id own source d h
steady-kept drivers some t once well (takes id own source d) old new h steady = takes-steady drivers some t once well old new steady h.can.going id own source d h
steady-kept drivers some t once well (merges id own source d) old new h steady = merges-steady drivers some t once well old new steady h.can.going id own source d h
steady-kept drivers some t once well (finishes id own source d) old new h steady = finishes-steady drivers some t once well old new steady h.can.going id own source d h
steady-kept drivers some t once well (answers j) old new h steady = answers-steady drivers some t once well old new steady h.can.going j h
steady-kept drivers some t once well (leaves j) old new h steady = leaves-steady drivers some t once well old new steady h.can.going j h
steady-kept drivers some t once well (builds j d) old new h steady = builds-steady drivers some t once well old new steady h.can.going j d h
steady-kept drivers some t once well (probes j) old new h steady = probes-steady drivers some t once well old new steady h.can.going j h
steady-kept drivers some t once well (built j d) old new h steady = built-steady drivers some t once well old new steady h.can.going j d h
steady-kept drivers some t once well (probed j) old new h steady = probed-steady drivers some t once well old new steady h.can.going j h
steady-kept drivers some t once well (empties j) old new h steady = empties-steady drivers some t once well old new steady h.can.going j h
steady-kept drivers some t once well (turns j) old new h steady = turns-steady drivers some t once well old new steady h.can.going j h
steady-kept drivers some t once well comes_out old new h steady = out-steady drivers some t once well old new steady h.can.going h
steady-kept drivers some t once well stops old new h steady = stops-steady drivers some t once well old new steady h.can.going h
