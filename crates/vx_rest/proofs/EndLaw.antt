-- Where ends were passed on only in order, a drained node is quiet, and a node that has begun to give is open.
use Rattle.std.proofs.Common.{◌≡◌, ℕ, zero, suc, ◌<◌, ◌≤◌, true, List, [], ◌∷◌, refl, sym, subst, arith, inl, inr, ⊎_elim, true≢false}
use Rattle.std.specs.Prelude.{◌⊎◌}
use Rattle.vx_plan.specs.declared.aggregate.Aggregate.{Aggregate}
use Rattle.vx_plan.specs.declared.aggregate.Step.{Step}
use Rattle.vx_plan.specs.declared.aggregate.Step.TheVariants.{Single, Partial, Final}
use Rattle.vx_plan.specs.declared.node.ExchangeKind.{ExchangeKind}
use Rattle.vx_plan.specs.declared.node.ExchangeKind.TheVariants.{Gather, Hash}
use Rattle.vx_plan.specs.declared.widths.Width.{Width}
use Rattle.vx_plan.specs.declared.widths.Width.TheVariants.{One, Many}
use Rattle.vx_plan.specs.Tree.{Tree, values, over, join, Own, filter, project, aggregation, order, topn, limit, exchange}
use Rattle.vx_plan.specs.Width.{width_of}
use Rattle.vx_plan.specs.Widths.{is_dealt_by}
use Rattle.vx_meaning.specs.Lines.{spread}
use Rattle.vx_rest.specs.Lists.{drivers_of}
use Rattle.vx_rest.specs.Held.{Holding}
use Rattle.vx_rest.specs.Rest.{Stands}
use Rattle.vx_rest.specs.Start.{ComeTogether, AreDealtWell}
use Rattle.vx_rest.specs.Through.{IsThrough, IsQuiet}
use Rattle.vx_rest.specs.Open.{IsClosed, IsEmptyFor, HasWhole, IsOpen}
use Rattle.vx_rest.specs.Ends.{Ends, IsDrained, AreEndsRight, HaveNoMoreHands, has_begun, HasStarted}
use Rattle.vx_rest.proofs.StartLaw.{lanes-one, lanes-groups}
use Rattle.vx_rest.proofs.ThroughLaw.{Stands-quiet}

pub nat_split : (d n : ℕ) → (d < n) ⊎ (n ≤ d)
nat_split d zero = inr (omega arith)
nat_split zero (suc n) = inl (omega arith)
nat_split (suc d) (suc n) = ⊎_elim (λ l. inl (omega arith)) (λ g. inr (omega arith)) (nat_split d n)

some-queue : (drivers id : ℕ) (kind : ExchangeKind) (keys : List ℕ) (source : Tree) → 1 ≤ drivers → 0 < drivers_of drivers (over id (exchange kind keys) source)
some-queue drivers id Gather keys source h = omega arith
some-queue drivers id Hash keys source h = h

module _ (drivers : ℕ) (some : 1 ≤ drivers) (e : Ends) (q : Holding) where
  all-hands : (id n : ℕ) → ((d : ℕ) → d < n → q.hand id d ≡ []) → ((d : ℕ) → n ≤ d → q.hand id d ≡ []) → (d : ℕ) → q.hand id d ≡ []
  all-hands id n low high d = ⊎_elim (low d) (high d) (nat_split d n)

  -- of an operator of one driver, with as many drivers as its source
  one-to-one : (id : ℕ) (own : Own) (source : Tree) → (n : ℕ) → n ≡ drivers_of drivers source → drivers_of drivers (over id own source) ≡ n
      → ((d : ℕ) → d < n → (q.hand id d ≡ []) × IsThrough own (q.held id d) × (e.input id d ≡ true)) → ((d : ℕ) → n ≤ d → q.hand id d ≡ [])
      → ((d : ℕ) → d < drivers_of drivers source → e.input id d ≡ true → IsDrained drivers e q source d) → (((d : ℕ) → d < drivers_of drivers source → IsDrained drivers e q source d) → IsQuiet drivers q source) → IsQuiet drivers q (over id own source)
  one-to-one id own source n same mine h more ends below = (
    all-hands id n (λ d w. (h d w).0) more,
    below (λ d w. ends d w (h d (subst (λ k. d < k) (sym same) w)).2),
    λ d w. (h d (subst (λ k. d < k) mine w)).1,
  )

  pub quiet-drained : (t : Tree) → AreDealtWell t → AreEndsRight drivers e q t → HaveNoMoreHands drivers q t → ((d : ℕ) → d < drivers_of drivers t → IsDrained drivers e q t d) → IsQuiet drivers q t
  quiet-drained (values id kinds all parallel) well right more h = (all-hands id (drivers_of drivers (values id kinds all parallel)) (λ d w. (h d w).0) more, λ d w. (h d w).1)
  quiet-drained (over id (filter x) source) well right more h = one-to-one id (filter x) source (drivers_of drivers source) refl refl h more.1 right.1 (quiet-drained source well.0 right.0 more.0)
  quiet-drained (over id (project x) source) well right more h = one-to-one id (project x) source (drivers_of drivers source) refl refl h more.1 right.1 (quiet-drained source well.0 right.0 more.0)
  quiet-drained (over id (aggregation step keys aggregates) source) well right more h =
      one-to-one id (aggregation step keys aggregates) source (drivers_of drivers (over id (aggregation step keys aggregates) source)) (lanes-groups drivers id step keys aggregates source well.1) refl h more.1 right.1 (quiet-drained source well.0 right.0 more.0)
  quiet-drained (over id (order keys) source) well right more h = one-to-one id (order keys) source 1 (sym (lanes-one drivers source well.1)) refl h more.1 right.1 (quiet-drained source well.0 right.0 more.0)
  quiet-drained (over id (topn count keys) source) well right more h = one-to-one id (topn count keys) source 1 (sym (lanes-one drivers source well.1)) refl h more.1 right.1 (quiet-drained source well.0 right.0 more.0)
  quiet-drained (over id (limit offset count) source) well right more h = one-to-one id (limit offset count) source 1 (sym (lanes-one drivers source well.1)) refl h more.1 right.1 (quiet-drained source well.0 right.0 more.0)
  quiet-drained (over id (exchange kind keys) source) well right more h = (
    all-hands id (drivers_of drivers (over id (exchange kind keys) source)) (λ d w. (h d w).0) more.1,
    quiet-drained source well.0 right.0 more.0 (λ d w. right.1 d w ((h 0 (some-queue drivers id kind keys source some)).2 d w)),
    λ d w. (h d w).1,
  )
  quiet-drained (join id kind left_keys right_keys left right_source) well right more h =
      let j = h 0 (omega arith) in (
        all-hands id 1 (λ d w. (h d w).0) more.2,
        quiet-drained left well.0 right.0 more.0 (λ d w. let z : d ≡ 0 = (let one = lanes-one drivers left well.2 in omega arith) in subst (IsDrained drivers e q left) (sym z) (right.2 j.2)),
        quiet-drained right_source well.1 right.1 more.1 (λ d w. right.3 d w (j.3 d w)),
        j.1,
      )

  -- ---- a source of which whole lists are needed

  closed-quiet : (t : Tree) → IsQuiet drivers q t → IsClosed drivers q t
  closed-quiet (values id kinds all parallel) h = h
  closed-quiet (over id (filter x) source) h = h
  closed-quiet (over id (project x) source) h = h
  closed-quiet (over id (aggregation step keys aggregates) source) h = h
  closed-quiet (over id (order keys) source) h = h
  closed-quiet (over id (topn count keys) source) h = h
  closed-quiet (over id (limit offset count) source) h = h
  closed-quiet (over id (exchange kind keys) source) h = h.1
  closed-quiet (join id kind left_keys right_keys left right_source) h = h

  empty-for : (t : Tree) (d : ℕ) → IsDrained drivers e q t d → IsEmptyFor drivers q t d
  empty-for (values id kinds all parallel) d h = tt
  empty-for (over id (filter x) source) d h = tt
  empty-for (over id (project x) source) d h = tt
  empty-for (over id (aggregation step keys aggregates) source) d h = tt
  empty-for (over id (order keys) source) d h = tt
  empty-for (over id (topn count keys) source) d h = tt
  empty-for (over id (limit offset count) source) d h = tt
  empty-for (over id (exchange kind keys) source) d h = (h.0, h.1)
  empty-for (join id kind left_keys right_keys left right_source) d h = tt

  closed-one : (t : Tree) → AreDealtWell t → AreEndsRight drivers e q t → HaveNoMoreHands drivers q t → width_of t ≡ One → (d : ℕ) → d < drivers_of drivers t → IsDrained drivers e q t d → IsClosed drivers q t
  closed-one t well right more one d w h =
      let n = lanes-one drivers t one in
      closed-quiet t (quiet-drained t well right more (λ k v. let z : k ≡ d = omega arith in subst (IsDrained drivers e q t) (sym z) h))

  closed-dealt : (keys : List ℕ) (t : Tree) → is_dealt_by keys t ≡ true → AreDealtWell t → AreEndsRight drivers e q t → HaveNoMoreHands drivers q t → (d : ℕ) → IsDrained drivers e q t d → IsClosed drivers q t
  closed-dealt keys (over id (exchange Hash dealt) source) h well right more d drained = quiet-drained source well.0 right.0 more.0 (λ k w. right.1 k w (drained.2 k w))
  closed-dealt keys _ h well right more d drained = absurd (true≢false (sym h))

  closed-together : (keys : List ℕ) (t : Tree) → ComeTogether keys t → AreDealtWell t → AreEndsRight drivers e q t → HaveNoMoreHands drivers q t → (d : ℕ) → d < drivers_of drivers t → IsDrained drivers e q t d → IsClosed drivers q t
  closed-together [] t one well right more d w h = closed-one t well right more one d w h
  closed-together (key ∷ keys) t (inl one) well right more d w h = closed-one t well right more one d w h
  closed-together (key ∷ keys) t (inr dealt) well right more d w h = closed-dealt (key ∷ keys) t dealt well right more d h

  whole-of : (id : ℕ) (own : Own) (source : Tree) → AreEndsRight drivers e q (over id own source) → (count : ℕ) → count ≡ drivers_of drivers source → IsClosed drivers q source → HasWhole drivers q id count source
  whole-of id own source right count same closed = record {
    closed = closed;
    empty = λ d w ended. let low : d < drivers_of drivers source = omega arith in empty-for source d (right.1 d low (right.2 d low ended));
  }

  -- a driver of an aggregation has met its end, where whole lists are needed
  pub whole-group : (id : ℕ) (step : Step) (keys : List ℕ) (aggregates : List Aggregate) (source : Tree) → AreDealtWell (over id (aggregation step keys aggregates) source) → AreEndsRight drivers e q (over id (aggregation step keys aggregates) source) → HaveNoMoreHands drivers q source
      → spread step (width_of source) ≡ One → (d : ℕ) → d < drivers_of drivers source → e.input id d ≡ true → HasWhole drivers q id (drivers_of drivers (over id (aggregation step keys aggregates) source)) source
  whole-group id Partial keys aggregates source well right more one d w ended =
      whole-of id (aggregation Partial keys aggregates) source right (drivers_of drivers source) refl (closed-one source well.0 right.0 more one d w (right.1 d w ended))
  whole-group id Single keys aggregates source well right more one d w ended =
      whole-of id (aggregation Single keys aggregates) source right _ (lanes-groups drivers id Single keys aggregates source well.1) (closed-together keys source well.1 well.0 right.0 more d w (right.1 d w ended))
  whole-group id Final keys aggregates source well right more one d w ended =
      whole-of id (aggregation Final keys aggregates) source right _ (lanes-groups drivers id Final keys aggregates source well.1) (closed-together keys source well.1 well.0 right.0 more d w (right.1 d w ended))

  pub whole-order : (id : ℕ) (own : Own) (source : Tree) → AreDealtWell source → width_of source ≡ One → AreEndsRight drivers e q (over id own source) → HaveNoMoreHands drivers q source → e.input id 0 ≡ true → HasWhole drivers q id 1 source
  whole-order id own source well one right more ended =
      let n = lanes-one drivers source one in
      let low : 0 < drivers_of drivers source = omega arith in
      whole-of id own source right 1 (sym n) (closed-one source well right.0 more one 0 low (right.1 0 low ended))

  lanes-low : (t : Tree) → 0 < drivers_of drivers t
  lanes-low t = Rattle.vx_rest.proofs.StartLaw.lanes-some drivers some (width_of t)

  zero-lane : (t : Tree) → width_of t ≡ One → (d : ℕ) → d < drivers_of drivers t → d ≡ 0
  zero-lane t one d w = let n = lanes-one drivers t one in omega arith

  -- a node that a driver gets nothing more from is open, as is one that has given a row
  pub open-drained : (t : Tree) → AreDealtWell t → AreEndsRight drivers e q t → HaveNoMoreHands drivers q t → (d : ℕ) → d < drivers_of drivers t → IsDrained drivers e q t d → IsOpen drivers q t
  open-drained (values id kinds all parallel) well right more d w h = tt
  open-drained (over id (filter x) source) well right more d w h = open-drained source well.0 right.0 more.0 d w (right.1 d w h.2)
  open-drained (over id (project x) source) well right more d w h = open-drained source well.0 right.0 more.0 d w (right.1 d w h.2)
  open-drained (over id (aggregation step keys aggregates) source) well right more d w h = by_spread (spread step (width_of source)) refl (open-drained source well.0 right.0 more.0 d low (right.1 d low h.2)) where
    low : d < drivers_of drivers source
    low = subst (λ n. d < n) (lanes-groups drivers id step keys aggregates source well.1) w

    by_spread : (v : Width) → spread step (width_of source) ≡ v → IsOpen drivers q source → has_begun v (HasWhole drivers q id (drivers_of drivers (over id (aggregation step keys aggregates) source)) source) (IsOpen drivers q source)
    by_spread One is below = whole-group id step keys aggregates source well right more.0 is d low h.2
    by_spread Many is below = below
  open-drained (over id (order keys) source) well right more d w h = whole-order id (order keys) source well.0 well.1 right more.0 (subst (λ d. e.input id d ≡ true) (let z : d ≡ 0 = omega arith in z) h.2)
  open-drained (over id (topn count keys) source) well right more d w h = whole-order id (topn count keys) source well.0 well.1 right more.0 (subst (λ d. e.input id d ≡ true) (let z : d ≡ 0 = omega arith in z) h.2)
  open-drained (over id (limit offset count) source) well right more d w h =
      let low : d < drivers_of drivers source = (let n = lanes-one drivers source well.1 in omega arith) in
      open-drained source well.0 right.0 more.0 d low (right.1 d low h.2)
  open-drained (over id (exchange kind keys) source) well right more d w h = open-drained source well.0 right.0 more.0 0 (lanes-low source) (right.1 0 (lanes-low source) (h.2 0 (lanes-low source)))
  open-drained (join id kind left_keys right_keys left right_source) well right more d w h =
      let low = lanes-low left in
      let drained = right.2 h.2 in (
        quiet-drained right_source well.1 right.1 more.1 (λ k v. right.3 k v (h.3 k v)),
        (λ _. quiet-drained left well.0 right.0 more.0 (λ k v. subst (IsDrained drivers e q left) (sym (zero-lane left well.2 k v)) drained)),
        (λ _. open-drained left well.0 right.0 more.0 0 low drained),
      )

  -- from a driver's end to the flags
  pub started-drained : (t : Tree) → AreDealtWell t → AreEndsRight drivers e q t → (d : ℕ) → d < drivers_of drivers t → IsDrained drivers e q t d → HasStarted drivers e t
  started-drained (values id kinds all parallel) well right d w h = tt
  started-drained (over id (filter x) source) well right d w h = started-drained source well.0 right.0 d w (right.1 d w h.2)
  started-drained (over id (project x) source) well right d w h = started-drained source well.0 right.0 d w (right.1 d w h.2)
  started-drained (over id (aggregation step keys aggregates) source) well right d w h = by_spread (spread step (width_of source)) (started-drained source well.0 right.0 d low (right.1 d low h.2)) where
    low : d < drivers_of drivers source
    low = subst (λ n. d < n) (lanes-groups drivers id step keys aggregates source well.1) w

    by_spread : (v : Width) → HasStarted drivers e source → has_begun v ((k : ℕ) × (k < drivers_of drivers source) × (e.input id k ≡ true)) (HasStarted drivers e source)
    by_spread One below = (d, low, h.2)
    by_spread Many below = below
  started-drained (over id (order keys) source) well right d w h = subst (λ d. e.input id d ≡ true) (let z : d ≡ 0 = omega arith in z) h.2
  started-drained (over id (topn count keys) source) well right d w h = subst (λ d. e.input id d ≡ true) (let z : d ≡ 0 = omega arith in z) h.2
  started-drained (over id (limit offset count) source) well right d w h =
      let low : d < drivers_of drivers source = (let n = lanes-one drivers source well.1 in omega arith) in
      started-drained source well.0 right.0 d low (right.1 d low h.2)
  started-drained (over id (exchange kind keys) source) well right d w h = started-drained source well.0 right.0 0 (lanes-low source) (right.1 0 (lanes-low source) (h.2 0 (lanes-low source)))
  started-drained (join id kind left_keys right_keys left right_source) well right d w h = (h.3, inl h.2)

  -- by the flags a node is open
  pub open-started : (t : Tree) → AreDealtWell t → AreEndsRight drivers e q t → HaveNoMoreHands drivers q t → HasStarted drivers e t → IsOpen drivers q t
  open-started (values id kinds all parallel) well right more h = tt
  open-started (over id (filter x) source) well right more h = open-started source well.0 right.0 more.0 h
  open-started (over id (project x) source) well right more h = open-started source well.0 right.0 more.0 h
  open-started (over id (aggregation step keys aggregates) source) well right more h = by_spread (spread step (width_of source)) refl h (open-started source well.0 right.0 more.0) where
    by_spread : (v : Width) → spread step (width_of source) ≡ v → has_begun v ((k : ℕ) × (k < drivers_of drivers source) × (e.input id k ≡ true)) (HasStarted drivers e source) → (HasStarted drivers e source → IsOpen drivers q source)
        → has_begun v (HasWhole drivers q id (drivers_of drivers (over id (aggregation step keys aggregates) source)) source) (IsOpen drivers q source)
    by_spread One is s ih = whole-group id step keys aggregates source well right more.0 is s.0 s.1 s.2
    by_spread Many is s ih = ih s
  open-started (over id (order keys) source) well right more h = whole-order id (order keys) source well.0 well.1 right more.0 h
  open-started (over id (topn count keys) source) well right more h = whole-order id (topn count keys) source well.0 well.1 right more.0 h
  open-started (over id (limit offset count) source) well right more h = open-started source well.0 right.0 more.0 h
  open-started (over id (exchange kind keys) source) well right more h = open-started source well.0 right.0 more.0 h
  open-started (join id kind left_keys right_keys left right_source) well right more h =
      let low = lanes-low left in (
        quiet-drained right_source well.1 right.1 more.1 (λ k v. right.3 k v (h.0 k v)),
        (λ ended. quiet-drained left well.0 right.0 more.0 (λ k v. subst (IsDrained drivers e q left) (sym (zero-lane left well.2 k v)) (right.2 (right.4 ended)))),
        (λ _. ⊎_elim (λ input. open-drained left well.0 right.0 more.0 0 low (right.2 input)) (open-started left well.0 right.0 more.0) h.1),
      )

  -- where the last driver has ended the query stands for what has come out
  pub Stands-done : (t : Tree) → AreDealtWell t → width_of t ≡ One → AreEndsRight drivers e q t → HaveNoMoreHands drivers q t → IsDrained drivers e q t 0 → Stands drivers q t q.out
  Stands-done t well one right more h = Stands-quiet drivers q t (quiet-drained t well right more (λ k w. subst (IsDrained drivers e q t) (sym (zero-lane t one k w)) h))

-- flags that are set stay set
pub started-stays : (drivers : ℕ) (old new : Ends) → ((id d : ℕ) → old.input id d ≡ true → new.input id d ≡ true) → ((id d : ℕ) → old.build id d ≡ true → new.build id d ≡ true) → (t : Tree) → HasStarted drivers old t → HasStarted drivers new t
started-stays drivers old new a b (values id kinds all parallel) h = tt
started-stays drivers old new a b (over id (filter x) source) h = started-stays drivers old new a b source h
started-stays drivers old new a b (over id (project x) source) h = started-stays drivers old new a b source h
started-stays drivers old new a b (over id (aggregation step keys aggregates) source) h = by_spread (spread step (width_of source)) h (started-stays drivers old new a b source) where
  by_spread : (v : Width) → has_begun v ((k : ℕ) × (k < drivers_of drivers source) × (old.input id k ≡ true)) (HasStarted drivers old source) → (HasStarted drivers old source → HasStarted drivers new source)
      → has_begun v ((k : ℕ) × (k < drivers_of drivers source) × (new.input id k ≡ true)) (HasStarted drivers new source)
  by_spread One s ih = (s.0, s.1, a id s.0 s.2)
  by_spread Many s ih = ih s
started-stays drivers old new a b (over id (order keys) source) h = a id 0 h
started-stays drivers old new a b (over id (topn count keys) source) h = a id 0 h
started-stays drivers old new a b (over id (limit offset count) source) h = started-stays drivers old new a b source h
started-stays drivers old new a b (over id (exchange kind keys) source) h = started-stays drivers old new a b source h
started-stays drivers old new a b (join id kind left_keys right_keys left right) h = ((λ k w. b id k (h.0 k w)), ⊎_elim (λ x. inl (a id 0 x)) (λ y. inr (started-stays drivers old new a b left y)) h.1)
