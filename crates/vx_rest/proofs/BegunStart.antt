-- What a query that has just started may begin with begins answers of its plan, and its faults are its plan's.
use Rattle.std.proofs.Common.{◌≡◌, ℕ, zero, suc, ◌<◌, ◌≤◌, Bool, cond, List, [], ◌∷◌, ◌++◌, map, take, drop, length, All, refl, sym, ap, ap₂, ◌∙◌, subst, arith, append_assoc, inl, inr, Ok, Err}
use Rattle.std.specs.Prelude.{◌⊎◌, filter, Contains, get_or, Option, Some, None}
use Rattle.std.specs.List.Sorted.{IsPermutation}
use Rattle.std.proofs.Math.Seq.{take-append_seam}
use Rattle.std.proofs.lemmas.List.{get_or_append_left, append-nil, map-append, take-map, take-append-drop}
use Rattle.std.proofs.lemmas.List.Elements.{filter-append, All-take}
use Rattle.std.proofs.lemmas.List.Sorted.{IsPermutation-refl, IsPermutation-trans, IsPermutation-sym, IsPermutation-append, Contains-permutation}
use Rattle.vx_value.specs.declared.value.Value.{Value}
use Rattle.vx_value.specs.Row.{Row}
use Rattle.vx_expr.specs.declared.expression.Expr.{Expr}
use Rattle.vx_expr.specs.declared.outcome.Fault.{Fault}
use Rattle.vx_plan.specs.declared.aggregate.Aggregate.{Aggregate}
use Rattle.vx_plan.specs.declared.aggregate.AggregateName.{AggregateName}
use Rattle.vx_plan.specs.declared.aggregate.AggregateName.TheVariants.{Count, Sum, Min, Max, BoolAnd, BoolOr}
use Rattle.vx_plan.specs.declared.aggregate.Step.{Step}
use Rattle.vx_plan.specs.declared.aggregate.Step.TheVariants.{Single, Partial, Final}
use Rattle.vx_plan.specs.declared.widths.Width.{Width}
use Rattle.vx_plan.specs.declared.widths.Width.TheVariants.{One, Many}
use Rattle.vx_plan.specs.Tree.{Tree, values, over, join, Own, filter as filtering, project, aggregation, order, topn, limit, exchange}
use Rattle.vx_plan.specs.Width.{width_of}
use Rattle.vx_meaning.specs.Rows.{holds, image, IsSound}
use Rattle.vx_meaning.specs.Folds.{finish, finish_all}
use Rattle.vx_meaning.specs.Groups.{Outcome, row_or_key, outcome, groups}
use Rattle.vx_meaning.specs.Joins.{Build, fresh, joined, probed}
use Rattle.vx_meaning.specs.Lines.{Filtered, Projected, spread, Grouped, Joined, Line}
use Rattle.vx_meaning.specs.Answer.{Answers, joined_on}
use Rattle.vx_meaning.specs.Begun.{Begins, grouped_from as begun_from, LineBegun, Begun}
use Rattle.vx_meaning.specs.Faulty.{Faulty}
use Rattle.vx_meaning.proofs.PlusLaws.{by_test}
use Rattle.vx_rest.specs.Lists.{Lists, together, drivers_of}
use Rattle.vx_rest.specs.Held.{Held, HeldJoin, Holding, group_of, outcomes}
use Rattle.vx_rest.specs.Rest.{NodeGives, JoinGives, Rest}
use Rattle.vx_rest.specs.RestFaulty.{NodeBegins, grouped_from, begun_source, Starts, RestBegun, RestFaulty}
use Rattle.vx_rest.specs.Start.{new_held, new_join, AreNew, IsAtStart, AggregatesTogether, IsDealtWell, AreDealtWell}
use Rattle.vx_rest.proofs.Together.{four, together-ahead, together-same, together-each, together-All, together-Contains, together-one}
use Rattle.vx_rest.proofs.StartLaw.{lanes-one, lanes-some, lanes-groups, Parted, new-outcomes, given-is, parted-for, group-spread, queues, over-line, together-given, join-is, Answers-start}

-- ---- the rows of a list that a filter has to see for so many results

reach : (Row → Bool) → ℕ → List Row → List Row
reach p zero xs = []
reach p (suc k) [] = []
reach p (suc k) (x ∷ xs) = x ∷ cond (p x) (reach p k xs) (reach p (suc k) xs)

reach-prefix : (p : Row → Bool) (k : ℕ) (xs : List Row) → (later : List Row) × (reach p k xs ++ later ≡ xs)
unfolding reach
reach-prefix p zero xs = (xs, refl)
reach-prefix p (suc k) [] = ([], refl)
reach-prefix p (suc k) (x ∷ xs) = by_test (p x)
    (λ t. ((reach-prefix p k xs).0, ap (λ b. x ∷ (cond b (reach p k xs) (reach p (suc k) xs) ++ (reach-prefix p k xs).0)) t ∙ ap (λ l. x ∷ l) (reach-prefix p k xs).1))
    (λ t. ((reach-prefix p (suc k) xs).0, ap (λ b. x ∷ (cond b (reach p k xs) (reach p (suc k) xs) ++ (reach-prefix p (suc k) xs).0)) t ∙ ap (λ l. x ∷ l) (reach-prefix p (suc k) xs).1))

reach-filter : (p : Row → Bool) (k : ℕ) (xs front later : List Row) → length front ≡ k → front ++ later ≡ filter p xs → filter p (reach p k xs) ≡ front
unfolding reach
reach-filter p zero xs [] later len is = refl
reach-filter p zero xs (f ∷ front) later len is = absurd (omega arith)
reach-filter p (suc k) xs [] later len is = absurd (omega arith)
reach-filter p (suc k) [] (f ∷ front) later len is = absurd (cc)
reach-filter p (suc k) (x ∷ xs) (f ∷ front) later len is = by_test (p x)
    (λ t.
    let all : f ∷ (front ++ later) ≡ x ∷ filter p xs = is ∙ ap (λ b. cond b (x ∷ filter p xs) (filter p xs)) t in
    let first : f ≡ x = cc in
    let rest : front ++ later ≡ filter p xs = cc in
    ap (λ b. filter p (x ∷ cond b (reach p k xs) (reach p (suc k) xs))) t ∙ ap (λ b. cond b (x ∷ filter p (reach p k xs)) (filter p (reach p k xs))) t ∙ ap₂ ◌∷◌ (sym first) (reach-filter p k xs front later (omega arith) rest))
    (λ t. ap (λ b. filter p (x ∷ cond b (reach p k xs) (reach p (suc k) xs))) t ∙ ap (λ b. cond b (x ∷ filter p (reach p (suc k) xs)) (filter p (reach p (suc k) xs))) t
    ∙ reach-filter p (suc k) xs (f ∷ front) later len (is ∙ ap (λ b. cond b (x ∷ filter p xs) (filter p xs)) t))

All-front : (P : Row → Type 0) (xs ys : List Row) → All P (xs ++ ys) → All P xs
All-front P xs ys h k d within = subst P (get_or_append_left xs ys d k within) (h k d (let e = Rattle.std.proofs.lemmas.List.length-append xs ys in omega arith))

-- ---- partial groups don't overflow

partial-cells : (name : AggregateName) (v : Value) → (cells : List Value) × (finish Partial name v ≡ Some cells)
partial-cells Count v = (_, refl)
partial-cells Sum v = (_, refl)
partial-cells Min v = (_, refl)
partial-cells Max v = (_, refl)
partial-cells BoolAnd v = (_, refl)
partial-cells BoolOr v = (_, refl)

partial-all : (aggregates : List Aggregate) (vs : List Value) → (cells : List Value) × (finish_all Partial aggregates vs ≡ Some cells)
partial-all [] vs = ([], refl)
partial-all (a ∷ aggregates) [] = ([], refl)
partial-all (a ∷ aggregates) (v ∷ vs) =
    let first = partial-cells a.name v in
    let more = partial-all aggregates vs in
    (first.0 ++ more.0, ap₂ (λ x y. Rattle.std.specs.Prelude.option_and_then (λ cells. Rattle.std.specs.Prelude.option_map (λ more. cells ++ more) y) x) first.1 more.1)

ok-err : (a b : Row) → (let o : Outcome = Ok a in o ≡ Err b) → ⊥
ok-err a b h = absurd (cc)

no_error : (aggregates : List Aggregate) (es : List (Row × List Value)) (row : Row) → Contains (map (outcome Partial aggregates) es) (Err row) → ⊥
no_error aggregates [] row h = absurd (let w = h.1 in omega arith)
no_error aggregates (e ∷ es) row (zero, w, is) =
    let all = partial-all aggregates e.1 in
    ok-err (e.0 ++ all.0) row (sym (ap (row_or_key e.0) all.1) ∙ is)
no_error aggregates (e ∷ es) row (suc k, w, is) = no_error aggregates es row (k, omega arith, is)

-- ---- begun lists may be cut further

Starts-cut : (hand : Lists) (Give : Lists → Type 0) (lists front : Lists) → ((d : ℕ) → (back : List Row) × (front d ++ back ≡ lists d)) → Starts hand Give lists → Starts hand Give front
Starts-cut hand Give lists front cut h = (h.0, h.1, λ d. ((cut d).0 ++ (h.2 d).0, sym (append_assoc (front d) (cut d).0 (h.2 d).0) ∙ ap (λ l. l ++ (h.2 d).0) (cut d).1 ∙ (h.2 d).1))

pub RestBegun-cut : (drivers : ℕ) (q : Holding) (t : Tree) (lists front : Lists) → ((d : ℕ) → (back : List Row) × (front d ++ back ≡ lists d)) → RestBegun drivers q t lists → RestBegun drivers q t front
RestBegun-cut drivers q (values id kinds all parallel) lists front cut h = Starts-cut (q.hand id) _ lists front cut h
RestBegun-cut drivers q (over id own source) lists front cut h = Starts-cut (q.hand id) _ lists front cut h
RestBegun-cut drivers q (join id kind left_keys right_keys left right) lists front cut (inl h) = inl (Starts-cut (q.hand id) _ lists front cut h)
RestBegun-cut drivers q (join id kind left_keys right_keys left right) lists front cut (inr h) = inr (Starts-cut (q.hand id) _ lists front cut h)

-- ---- outcomes of all drivers, of which some came out

collect : (count : ℕ) (F : ℕ → List Outcome) (lists : Lists) → ((d : ℕ) → d < count → (rest : List Outcome) × IsPermutation (F d) (map Ok (lists d) ++ rest))
    → (rest : List Outcome) × IsPermutation (together count F) (map Ok (together count lists) ++ rest)
collect zero F lists h = ([], IsPermutation-refl [])
collect (suc count) F lists h =
    let here = h zero (omega arith) in
    let more = collect count (λ d. F (suc d)) (λ d. lists (suc d)) (λ d w. h (suc d) (omega arith)) in
    let others = together count (λ d. lists (suc d)) in (
      here.0 ++ more.0,
      subst (λ l. IsPermutation (together (suc count) F) (l ++ (here.0 ++ more.0))) (sym (map-append Ok (lists zero) others))
          (IsPermutation-trans _ _ _ (IsPermutation-append _ _ _ _ here.1 more.1) (four (map Ok (lists zero)) here.0 (map Ok others) more.0)),
    )

module _ (drivers : ℕ) (some : 1 ≤ drivers) (q : Holding) (hands : (id driver : ℕ) → q.hand id driver ≡ []) where
  cut-is : (id : ℕ) (lists given : Lists) (Give : Lists → Type 0) → ((d : ℕ) → (later : List Row) × (lists d ++ later ≡ q.hand id d ++ given d)) → (d : ℕ) → (later : List Row) × (lists d ++ later ≡ given d)
  cut-is id lists given Give is d = ((is d).0, (is d).1 ∙ ap (λ l. l ++ given d) (hands id d))

  -- all lists, and what was cut off
  cut-all : (count : ℕ) (lists given : Lists) (cut : (d : ℕ) → (later : List Row) × (lists d ++ later ≡ given d)) → IsPermutation (together count given) (together count lists ++ together count (λ d. (cut d).0))
  cut-all count lists given cut = subst (λ l. IsPermutation l (together count lists ++ together count (λ d. (cut d).0))) (together-same count (λ d. lists d ++ (cut d).0) given (λ d w. (cut d).1)) (together-ahead count lists (λ d. (cut d).0))

  cut-one : (lists given : Lists) (cut : (d : ℕ) → (later : List Row) × (lists d ++ later ≡ given d)) → together 1 given ≡ together 1 lists ++ (cut 0).0
  cut-one lists given cut = together-one given ∙ sym (cut 0).1 ∙ ap (λ l. l ++ (cut 0).0) (sym (together-one lists))

  filter-begun : (From : List Row → Type 0) (e : Expr) (count : ℕ) (held : ℕ → Held) (more given lists : Lists) → ((front : Lists) → ((d : ℕ) → (back : List Row) × (front d ++ back ≡ more d)) → From (together count front))
      → ((d : ℕ) → d < count → held d ≡ new_held (filtering e)) → NodeGives count count (filtering e) held more given → ((d : ℕ) → (later : List Row) × (lists d ++ later ≡ given d)) → Begins (Filtered e From) (together count lists)
  filter-begun From e count held more given lists from new gives cut =
      let front : Lists = λ d. reach (holds e) (length (lists d)) (more d) in (
        [],
        subst (Filtered e From) (sym (append-nil (together count lists))) (record {
          input = together count front;
          from = from front (λ d. reach-prefix (holds e) (length (lists d)) (more d));
          sound = together-All (IsSound (e ∷ [])) count front (λ d w. All-front (IsSound (e ∷ [])) (front d) (reach-prefix (holds e) (length (lists d)) (more d)).0
              (subst (All (IsSound (e ∷ []))) (sym (reach-prefix (holds e) (length (lists d)) (more d)).1) (gives d w).sound));
          is = together-same count lists (λ d. filter (holds e) (front d)) (λ d w. sym (reach-filter (holds e) (length (lists d)) (more d) (lists d) (cut d).0 refl
              ((cut d).1 ∙ (gives d w).is ∙ ap (λ (h : Held). h.rows ++ filter (holds e) (more d)) (new d w)))) ∙ together-each (filter (holds e)) refl (filter-append (holds e)) count front;
        }),
      )

  project-begun : (From : List Row → Type 0) (es : List Expr) (count : ℕ) (held : ℕ → Held) (more given lists : Lists) → ((front : Lists) → ((d : ℕ) → (back : List Row) × (front d ++ back ≡ more d)) → From (together count front))
      → ((d : ℕ) → d < count → held d ≡ new_held (project es)) → NodeGives count count (project es) held more given → ((d : ℕ) → (later : List Row) × (lists d ++ later ≡ given d)) → Begins (Projected es From) (together count lists)
  project-begun From es count held more given lists from new gives cut =
      let front : Lists = λ d. take (length (lists d)) (more d) in (
        [],
        subst (Projected es From) (sym (append-nil (together count lists))) (record {
          input = together count front;
          from = from front (λ d. (drop (length (lists d)) (more d), take-append-drop (length (lists d)) (more d)));
          sound = together-All (IsSound es) count front (λ d w. All-take (IsSound es) (length (lists d)) (more d) (gives d w).sound);
          is = together-same count lists (λ d. map (image es) (front d)) (λ d w.
              sym (take-append_seam (lists d) (cut d).0) ∙ ap (take (length (lists d))) ((cut d).1 ∙ (gives d w).is ∙ ap (λ (h : Held). h.rows ++ map (image es) (more d)) (new d w)) ∙ take-map (image es) (length (lists d)) (more d))
              ∙ together-each (map (image es)) refl (map-append (image es)) count front;
        }),
      )

  group-begun : (From : List Row → Type 0) (step : Step) (keys : List ℕ) (aggregates : List Aggregate) (before after : ℕ) (held : ℕ → Held) (more given lists : Lists) → From (together before more) → 1 ≤ before → after ≡ before
      → ((d : ℕ) → d < after → held d ≡ new_held (aggregation step keys aggregates)) → NodeBegins before after (aggregation step keys aggregates) held more given → ((d : ℕ) → (later : List Row) × (lists d ++ later ≡ given d))
      → (w : Width) → (w ≡ One → Parted keys before more) → Begins (Grouped step keys aggregates w From) (map Ok (together after lists))
  group-begun From step keys aggregates before after held more given lists from ok same new gives cut w one =
      let all = collect after (λ d. groups step keys aggregates (more d)) lists (λ d within. (
        map Ok (cut d).0 ++ (gives d within).later,
        subst (λ l. IsPermutation l (map Ok (lists d) ++ (map Ok (cut d).0 ++ (gives d within).later))) (new-outcomes step keys aggregates (held d) (more d) (new d within))
            (subst (IsPermutation (outcomes step aggregates ((held d).groups ++ map (group_of step keys aggregates) (more d))))
            (ap (λ l. map Ok l ++ (gives d within).later) (sym (cut d).1) ∙ ap (λ l. l ++ (gives d within).later) (map-append Ok (lists d) (cut d).0) ∙ append_assoc (map Ok (lists d)) (map Ok (cut d).0) (gives d within).later)
            (gives d within).is),
      )) in (
        all.0,
        group-spread From more step keys aggregates before (map Ok (together after lists) ++ all.0) from ok
            (subst (λ n. IsPermutation (together n (λ d. groups step keys aggregates (more d))) (map Ok (together after lists) ++ all.0)) same all.1) w one,
      )

  join-begun : (Left Right : List Row → Type 0) (result : List Row → List Build → List Row) (lanes_left lanes_right : ℕ) (held : HeldJoin) (left right given lists : Lists) → Left (together lanes_left left) → Right (together lanes_right right) → lanes_left ≡ 1
      → held ≡ new_join → JoinGives result lanes_right held left right given → ((d : ℕ) → (later : List Row) × (lists d ++ later ≡ given d)) → Begins (Joined result Left Right) (together 1 lists)
  join-begun Left Right result lanes_left lanes_right held left right given lists from_left from_right one new gives cut = (
    (cut 0).0,
    subst (Joined result Left Right) (cut-one lists given cut) (record {
      left = together lanes_left left;
      from_left = from_left;
      right = together lanes_right right;
      from_right = from_right;
      is =
          subst (IsPermutation (result (together lanes_left left) (map fresh (together lanes_right right)))) (sym (together-one given))
          (subst (λ l. IsPermutation (result l (map fresh (together lanes_right right))) (given 0)) (sym (ap (λ n. together n left) one ∙ together-one left)) (join-is drivers some q hands result lanes_right held new left right given gives));
    }),
  )

  -- by the lists of its source, which has begun or given a whole answer
  over-begun : (id : ℕ) (own : Own) (source : Tree) → AreNew drivers q (over id own source) → AreDealtWell source → IsDealtWell own source → ((lists : Lists) → RestBegun drivers q source lists → Begun source (together (drivers_of drivers source) lists))
      → (more given lists : Lists) → begun_source own (width_of source) (Rest drivers q source) (RestBegun drivers q source) more → NodeBegins (drivers_of drivers source) (drivers_of drivers (over id own source)) own (q.held id) more given
      → ((d : ℕ) → (later : List Row) × (lists d ++ later ≡ given d)) → LineBegun own (width_of source) (Answers source) (Begun source) (together (drivers_of drivers (over id own source)) lists)
  over-begun id (filtering e) source new below well begun more given lists from gives cut =
      filter-begun (Begun source) e (drivers_of drivers source) (q.held id) more given lists (λ front back. begun front (RestBegun-cut drivers q source more front back from)) new.1 gives cut
  over-begun id (project es) source new below well begun more given lists from gives cut =
      project-begun (Begun source) es (drivers_of drivers source) (q.held id) more given lists (λ front back. begun front (RestBegun-cut drivers q source more front back from)) new.1 gives cut
  over-begun id (aggregation step keys aggregates) source new below well begun more given lists from gives cut =
      by_spread (spread step (width_of source)) refl from where
        by_spread : (w : Width) → spread step (width_of source) ≡ w → grouped_from w (Rest drivers q source) (RestBegun drivers q source) more
            → Begins (Grouped step keys aggregates w (begun_from w (Answers source) (Begun source))) (map Ok (together (drivers_of drivers (over id (aggregation step keys aggregates) source)) lists))
        by_spread One is r = group-begun (Answers source) step keys aggregates (drivers_of drivers source) (drivers_of drivers (over id (aggregation step keys aggregates) source)) (q.held id) more given lists
            (Answers-start drivers some q hands source new.0 below more r) (lanes-some drivers some (width_of source)) (lanes-groups drivers id step keys aggregates source well) new.1 gives cut One
            (λ _. parted-for drivers q hands step keys source new.0 well more r is)
        by_spread Many is r = group-begun (Begun source) step keys aggregates (drivers_of drivers source) (drivers_of drivers (over id (aggregation step keys aggregates) source)) (q.held id) more given lists
            (begun more r) (lanes-some drivers some (width_of source)) (lanes-groups drivers id step keys aggregates source well) new.1 gives cut Many (λ e. absurd (cc))
  over-begun id (order keys) source new below well begun more given lists from gives cut = (
    (cut 0).0,
    subst (Line (order keys) (width_of source) (Answers source)) (cut-one lists given cut)
        (over-line drivers some q hands id (order keys) source new well (Answers source) more (Answers-start drivers some q hands source new.0 below more from) (λ step ks t one. parted-for drivers q hands step ks source new.0 t more from one) given gives),
  )
  over-begun id (topn count keys) source new below well begun more given lists from gives cut = (
    (cut 0).0,
    subst (Line (topn count keys) (width_of source) (Answers source)) (cut-one lists given cut)
        (over-line drivers some q hands id (topn count keys) source new well (Answers source) more (Answers-start drivers some q hands source new.0 below more from) (λ step ks t one. parted-for drivers q hands step ks source new.0 t more from one) given gives),
  )
  over-begun id (limit offset count) source new below well begun more given lists from gives cut = (
    (cut 0).0,
    subst (Line (limit offset count) (width_of source) (Begun source)) (cut-one lists given cut)
        (Rattle.vx_rest.proofs.StartLaw.limit-line (Begun source) more offset count (drivers_of drivers source) (q.held id) given (begun more from) (lanes-one drivers source well) new.1 gives (width_of source)),
  )
  over-begun id (exchange kind keys) source new below well begun more given lists from gives cut = (
    together (drivers_of drivers (over id (exchange kind keys) source)) (λ d. (cut d).0),
    record {
      input = together (drivers_of drivers source) more;
      from = begun more from;
      is = IsPermutation-trans _ _ _ (queues (Begun source) more kind keys drivers some (together (drivers_of drivers source) more) (q.held id) given new.1 gives) (cut-all (drivers_of drivers (over id (exchange kind keys) source)) lists given cut);
    },
  )

  pub Begun-start : (t : Tree) → AreNew drivers q t → AreDealtWell t → (lists : Lists) → RestBegun drivers q t lists → Begun t (together (drivers_of drivers t) lists)
  Begun-start (values id kinds all parallel) new well lists h =
      let cut = cut-is id lists h.0 (λ _. ⊥) h.2 in
      let count = drivers_of drivers (values id kinds all parallel) in
      (together count (λ d. (cut d).0), IsPermutation-trans _ _ _ new (IsPermutation-trans _ _ _ h.1 (cut-all count lists h.0 cut)))
  Begun-start (over id own source) new well lists h =
      over-begun id own source new well.0 well.1 (Begun-start source new.0 well.0) h.1.more h.0 lists h.1.from h.1.gives (cut-is id lists h.0 (λ _. ⊥) h.2)
  Begun-start (join id kind left_keys right_keys left right) new well lists (inl h) =
      inl (join-begun (Answers left) (Answers right) (joined kind (joined_on left_keys right_keys left right)) (drivers_of drivers left) (drivers_of drivers right) (q.join id) h.1.left h.1.right h.0 lists
      (Answers-start drivers some q hands left new.0 well.0 h.1.left h.1.from_left) (Answers-start drivers some q hands right new.1 well.1 h.1.right h.1.from_right) (lanes-one drivers left well.2) new.2 h.1.gives (cut-is id lists h.0 (λ _. ⊥) h.2))
  Begun-start (join id kind left_keys right_keys left right) new well lists (inr h) =
      inr (join-begun (Begun left) (Answers right) (probed kind (joined_on left_keys right_keys left right)) (drivers_of drivers left) (drivers_of drivers right) (q.join id) h.1.left h.1.right h.0 lists
      (Begun-start left new.0 well.0 h.1.left h.1.from_left) (Answers-start drivers some q hands right new.1 well.1 h.1.right h.1.from_right) (lanes-one drivers left well.2) new.2 h.1.gives.1 (cut-is id lists h.0 (λ _. ⊥) h.2))

  -- ---- faults

  same-lanes : (id : ℕ) (step : Step) (keys : List ℕ) (aggregates : List Aggregate) (source : Tree) → AggregatesTogether step keys source → (d : ℕ) → d < drivers_of drivers source → d < drivers_of drivers (over id (aggregation step keys aggregates) source)
  same-lanes id step keys aggregates source well d w = subst (λ n. d < n) (sym (lanes-groups drivers id step keys aggregates source well)) w

  pub Faulty-start : (t : Tree) → AreNew drivers q t → AreDealtWell t → (at : ℕ) (row : Row) (code : Fault) → RestFaulty drivers q t at row code → Faulty t at row code
  Faulty-start (values id kinds all parallel) new well at row code h = h
  Faulty-start (over id own source) new well at row code (inr h) = inr (Faulty-start source new.0 well.0 at row code h)
  Faulty-start (over id (filtering e) source) new well at row code (inl h) =
      inl (h.0, record { input = together (drivers_of drivers source) h.1.more; from = Begun-start source new.0 well.0 h.1.more h.1.from; there = together-Contains (drivers_of drivers source) h.1.more h.1.driver row h.1.within h.1.meets.there; fault = h.1.meets.fault })
  Faulty-start (over id (project es) source) new well at row code (inl h) =
      inl (h.0, record { input = together (drivers_of drivers source) h.1.more; from = Begun-start source new.0 well.0 h.1.more h.1.from; there = together-Contains (drivers_of drivers source) h.1.more h.1.driver row h.1.within h.1.meets.there; fault = h.1.meets.fault })
  Faulty-start (over id (aggregation step keys aggregates) source) new well at row code (inl h) =
      let d = h.1.driver in
      let there : Contains (groups step keys aggregates (h.1.more d)) (Err row) =
      subst (λ l. Contains l (Err row)) (new-outcomes step keys aggregates (q.held id d) (h.1.more d) (new.1 d (same-lanes id step keys aggregates source well.1 d h.1.within))) h.1.meets.there in
      inl (
        h.0,
        record {
          input = together (drivers_of drivers source) h.1.more;
          from = Answers-start drivers some q hands source new.0 well.0 h.1.more h.1.from;
          there = whole step refl there (together-Contains (drivers_of drivers source) (λ d. groups step keys aggregates (h.1.more d)) d (Err row) h.1.within there);
          fault = h.1.meets.fault;
        },
      ) where
        whole : (s : Step) → s ≡ step → Contains (groups step keys aggregates (h.1.more h.1.driver)) (Err row) → Contains (together (drivers_of drivers source) (λ d. groups step keys aggregates (h.1.more d))) (Err row)
            → Contains (groups step keys aggregates (together (drivers_of drivers source) h.1.more)) (Err row)
        whole Single is there all = Contains-permutation _ _ (Err row) (IsPermutation-sym _ _ (parted-for drivers q hands step keys source new.0 well.1 h.1.more h.1.from (ap (λ s. spread s (width_of source)) (sym is)) step aggregates)) all
        whole Final is there all = Contains-permutation _ _ (Err row) (IsPermutation-sym _ _ (parted-for drivers q hands step keys source new.0 well.1 h.1.more h.1.from (ap (λ s. spread s (width_of source)) (sym is)) step aggregates)) all
        whole Partial is there all = absurd (no_error aggregates _ row (subst (λ s. Contains (groups s keys aggregates (h.1.more h.1.driver)) (Err row)) (sym is) there))
  Faulty-start (over id (order keys) source) new well at row code (inl h) = absurd h.1.meets
  Faulty-start (over id (topn count keys) source) new well at row code (inl h) = absurd h.1.meets
  Faulty-start (over id (limit offset count) source) new well at row code (inl h) = absurd h.1.meets
  Faulty-start (over id (exchange kind keys) source) new well at row code (inl h) = absurd h.1.meets
  Faulty-start (join id kind left_keys right_keys left right) new well at row code (inl h) = inl (Faulty-start left new.0 well.0 at row code h)
  Faulty-start (join id kind left_keys right_keys left right) new well at row code (inr h) = inr (Faulty-start right new.1 well.1 at row code h)

pub RestFaulty-start : (drivers : ℕ) (q : Holding) (t : Tree) → 1 ≤ drivers → IsAtStart drivers q t → AreDealtWell t → (at : ℕ) (row : Row) (code : Fault) → RestFaulty drivers q t at row code → Faulty t at row code
RestFaulty-start drivers q t some start well at row code h = Faulty-start drivers some q start.hands t start.new well at row code h
