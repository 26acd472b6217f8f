-- What a query that has just started stands for are its plan's answers.
use Rattle.std.proofs.Common.{◌≡◌, ℕ, ◌<◌, ◌≤◌, ◌+◌, ◌%◌, mod-lt, true, List, [], ◌∷◌, ◌++◌, map, take, drop, All, refl, sym, ap, ◌∙◌, subst, arith, true≢false, inl, inr, Ok, eqb-true, if◌then◌else◌}
use Rattle.std.specs.Prelude.{◌⊎◌, filter, flat_map, Contains}
use Rattle.std.specs.List.Sorted.{IsPermutation}
use Rattle.std.proofs.lemmas.List.{append-nil, map-append}
use Rattle.std.proofs.lemmas.List.Elements.{filter-append, filter_passes}
use Rattle.std.proofs.lemmas.List.Sorted.{IsPermutation-refl, IsPermutation-trans, All-permutation}
use Rattle.vx_value.specs.declared.sorting.SortKey.{SortKey}
use Rattle.vx_value.specs.Row.{Row}
use Rattle.vx_value.specs.KeyBytes.{key_bytes}
use Rattle.vx_value.specs.Hash.{hash_of}
use Rattle.vx_expr.specs.declared.expression.Expr.{Expr}
use Rattle.vx_plan.specs.declared.aggregate.Aggregate.{Aggregate}
use Rattle.vx_plan.specs.declared.aggregate.Step.{Step}
use Rattle.vx_plan.specs.declared.aggregate.Step.TheVariants.{Single, Partial, Final}
use Rattle.vx_plan.specs.declared.node.ExchangeKind.{ExchangeKind}
use Rattle.vx_plan.specs.declared.node.ExchangeKind.TheVariants.{Gather, Hash}
use Rattle.vx_plan.specs.declared.widths.Width.{Width}
use Rattle.vx_plan.specs.declared.widths.Width.TheVariants.{One, Many}
use Rattle.vx_plan.specs.Tree.{Tree, values, over, join, Own, filter as filtering, project, aggregation, order, topn, limit, exchange}
use Rattle.vx_plan.specs.Width.{width_of, width_of_groups}
use Rattle.vx_plan.specs.Widths.{is_one, is_dealt_by}
use Rattle.vx_meaning.specs.Rows.{holds, image, IsSound}
use Rattle.vx_meaning.specs.Groups.{Outcome, groups}
use Rattle.vx_meaning.specs.Joins.{Build, fresh, joined}
use Rattle.vx_meaning.specs.Lines.{spread, Grouped, Line, Ordered}
use Rattle.vx_meaning.specs.Answer.{Answers, joined_on}
use Rattle.vx_rest.specs.Lists.{Lists, together, drivers_of}
use Rattle.vx_rest.specs.Held.{Held, HeldJoin, Holding, group_of, outcomes}
use Rattle.vx_rest.specs.Rest.{Orders, TakesFirst, belongs, Deals, NodeGives, JoinGives, Rest, Stands}
use Rattle.vx_rest.specs.Start.{new_held, new_join, AreNew, IsAtStart, ComeTogether, AggregatesTogether, IsDealtWell, AreDealtWell}
use Rattle.vx_rest.proofs.Together.{perm_is, together-same, together-perm, together-each, together-All, together-one, together-dealt, listed, flat_map-listed, length-listed}
use Rattle.vx_rest.proofs.GroupEntries.{outcomes-start}
use Rattle.vx_rest.proofs.Dealt.{same-bytes, groups-dealt}

-- ---- how many drivers

pub lanes-one : (drivers : ℕ) (t : Tree) → width_of t ≡ One → drivers_of drivers t ≡ 1
lanes-one drivers t h = ap (λ w. if is_one w then 1 else drivers) h

pub lanes-some : (drivers : ℕ) → 1 ≤ drivers → (w : Width) → 1 ≤ (if is_one w then 1 else drivers)
lanes-some drivers some One = omega arith
lanes-some drivers some Many = some

groups-width : (step : Step) (keys : List ℕ) (source : Tree) → AggregatesTogether step keys source → width_of_groups step keys (width_of source) ≡ width_of source
groups-width Partial keys source h = refl
groups-width Single [] source h = sym h
groups-width Single (key ∷ keys) source h = refl
groups-width Final [] source h = sym h
groups-width Final (key ∷ keys) source h = refl

pub lanes-groups : (drivers id : ℕ) (step : Step) (keys : List ℕ) (aggregates : List Aggregate) (source : Tree) → AggregatesTogether step keys source → drivers_of drivers (over id (aggregation step keys aggregates) source) ≡ drivers_of drivers source
lanes-groups drivers id step keys aggregates source h = ap (λ w. if is_one w then 1 else drivers) (groups-width step keys source h)

-- ---- groups over many drivers

-- the groups of all rows are each driver's groups put together
abbrev pub Parted : List ℕ → ℕ → Lists → Type 0
Parted keys count more = (step : Step) (aggregates : List Aggregate) → IsPermutation (groups step keys aggregates (together count more)) (together count (λ d. groups step keys aggregates (more d)))

pub parted-one : (keys : List ℕ) (count : ℕ) (more : Lists) → count ≡ 1 → Parted keys count more
parted-one keys count more one step aggregates = subst (λ n. IsPermutation (groups step keys aggregates (together n more)) (together n (λ d. groups step keys aggregates (more d)))) (sym one)
    (perm_is _ _ (ap (groups step keys aggregates) (together-one more) ∙ sym (together-one (λ d. groups step keys aggregates (more d)))))

pub given-is : (hand lists given : Lists) → ((d : ℕ) → hand d ≡ []) → ((d : ℕ) → lists d ≡ hand d ++ given d) → (d : ℕ) → lists d ≡ given d
given-is hand lists given none h d = h d ∙ ap (λ l. l ++ given d) (none d)

-- rows that come out of a new hash exchange lie where their keys belong
queue-rows : (dealt : List ℕ) (queues queue : ℕ) (rows more given lists : List Row) → rows ≡ [] → IsPermutation (rows ++ filter (belongs Hash dealt queues queue) more) given → lists ≡ given
    → All (λ row. hash_of (key_bytes dealt row) % queues ≡ 0 + queue) lists
queue-rows dealt queues queue rows more given lists none same is k d within =
    let all = All-permutation (λ row. belongs Hash dealt queues queue row ≡ true) (rows ++ filter (belongs Hash dealt queues queue) more) given same
    (subst (λ l. All (λ row. belongs Hash dealt queues queue row ≡ true) (l ++ filter (belongs Hash dealt queues queue) more)) (sym none) (filter_passes (belongs Hash dealt queues queue) more)) in
    let row = Rattle.std.specs.Prelude.get_or lists k d in
    let e : hash_of (key_bytes dealt row) % queues ≡ queue = eqb-true _ queue (subst (λ l. All (λ row. belongs Hash dealt queues queue row ≡ true) l) (sym is) all k d within) in
    omega arith

parted-hash : (drivers : ℕ) (q : Holding) → ((id driver : ℕ) → q.hand id driver ≡ []) → (key : ℕ) (keys : List ℕ) (source : Tree) → AreNew drivers q source → is_dealt_by (key ∷ keys) source ≡ true
    → (more : Lists) → Rest drivers q source more → Parted (key ∷ keys) (drivers_of drivers source) more
parted-hash drivers q hands key keys (over id (exchange Hash dealt) source) new h more r step aggregates =
    groups-dealt key keys (λ row. hash_of (key_bytes dealt row) % drivers) (λ a b same. ap (λ bytes. hash_of bytes % drivers) (same-bytes (key ∷ keys) dealt a b h same)) step aggregates drivers 0 more
    (λ d w. queue-rows dealt drivers d (q.held id d).rows (together (drivers_of drivers source) r.1.more) (r.0 d) (more d) (ap (λ (x : Held). x.rows) (new.1 d w)) (r.1.gives d w) (given-is (q.hand id) more r.0 (hands id) r.2 d))
parted-hash drivers q hands key keys _ new h more r step aggregates = absurd (true≢false (sym h))

pub parted : (drivers : ℕ) (q : Holding) → ((id driver : ℕ) → q.hand id driver ≡ []) → (keys : List ℕ) (source : Tree) → AreNew drivers q source → ComeTogether keys source
    → (more : Lists) → Rest drivers q source more → Parted keys (drivers_of drivers source) more
parted drivers q hands [] source new one more r = parted-one [] (drivers_of drivers source) more (lanes-one drivers source one)
parted drivers q hands (key ∷ keys) source new (inl one) more r = parted-one (key ∷ keys) (drivers_of drivers source) more (lanes-one drivers source one)
parted drivers q hands (key ∷ keys) source new (inr dealt) more r = parted-hash drivers q hands key keys source new dealt more r

-- ---- one line of the plan after another

-- each driver's outcomes are its groups
pub new-outcomes : (step : Step) (keys : List ℕ) (aggregates : List Aggregate) (held : Held) (more : List Row) → held ≡ new_held (aggregation step keys aggregates)
    → outcomes step aggregates (held.groups ++ map (group_of step keys aggregates) more) ≡ groups step keys aggregates more
new-outcomes step keys aggregates held more new = ap (λ (h : Held). outcomes step aggregates (h.groups ++ map (group_of step keys aggregates) more)) new ∙ outcomes-start step keys aggregates more

module _ (From : List Row → Type 0) (more : Lists) where
  filter-line : (e : Expr) (count : ℕ) (held : ℕ → Held) (given : Lists) → From (together count more) → ((d : ℕ) → d < count → held d ≡ new_held (filtering e)) → NodeGives count count (filtering e) held more given
      → (source : Width) → Line (filtering e) source From (together count given)
  filter-line e count held given from new gives source = record {
    input = together count more;
    from = from;
    sound = together-All (IsSound (e ∷ [])) count more (λ d w. (gives d w).sound);
    is = together-same count given (λ d. filter (holds e) (more d)) (λ d w. (gives d w).is ∙ ap (λ (h : Held). h.rows ++ filter (holds e) (more d)) (new d w)) ∙ together-each (filter (holds e)) refl (filter-append (holds e)) count more;
  }

  project-line : (es : List Expr) (count : ℕ) (held : ℕ → Held) (given : Lists) → From (together count more) → ((d : ℕ) → d < count → held d ≡ new_held (project es)) → NodeGives count count (project es) held more given
      → (source : Width) → Line (project es) source From (together count given)
  project-line es count held given from new gives source = record {
    input = together count more;
    from = from;
    sound = together-All (IsSound es) count more (λ d w. (gives d w).sound);
    is = together-same count given (λ d. map (image es) (more d)) (λ d w. (gives d w).is ∙ ap (λ (h : Held). h.rows ++ map (image es) (more d)) (new d w)) ∙ together-each (map (image es)) refl (map-append (image es)) count more;
  }

  -- an aggregation over one list, or over as many lists as drivers
  pub group-spread : (step : Step) (keys : List ℕ) (aggregates : List Aggregate) (count : ℕ) (out : List Outcome) → From (together count more) → 1 ≤ count
      → IsPermutation (together count (λ d. groups step keys aggregates (more d))) out → (w : Width) → (w ≡ One → Parted keys count more) → Grouped step keys aggregates w From out
  group-spread step keys aggregates count out from some same One one = record {
    input = together count more;
    from = from;
    lists = together count more ∷ [];
    dealt = record { some = omega arith; one = λ _. refl; all = subst (IsPermutation (together count more)) (sym (append-nil (together count more))) (IsPermutation-refl (together count more)) };
    is = subst (λ l. IsPermutation l out) (sym (append-nil (groups step keys aggregates (together count more)))) (IsPermutation-trans _ _ _ (one refl step aggregates) same);
  }
  group-spread step keys aggregates count out from some same Many one = record {
    input = together count more;
    from = from;
    lists = listed count more;
    dealt = record {
      some = let e = length-listed count more in omega arith;
      one = λ e. absurd (cc);
      all = perm_is _ _ (sym (flat_map-listed (λ list. list) count more));
    };
    is = subst (λ l. IsPermutation l out) (sym (flat_map-listed (groups step keys aggregates) count more)) same;
  }

  group-line : (step : Step) (keys : List ℕ) (aggregates : List Aggregate) (before after : ℕ) (held : ℕ → Held) (given : Lists) → From (together before more) → 1 ≤ before → after ≡ before
      → ((d : ℕ) → d < after → held d ≡ new_held (aggregation step keys aggregates)) → NodeGives before after (aggregation step keys aggregates) held more given
      → (source : Width) → (spread step source ≡ One → Parted keys before more) → Line (aggregation step keys aggregates) source From (together after given)
  group-line step keys aggregates before after held given from some same new gives source one =
      group-spread step keys aggregates before (map Ok (together after given)) from some
      (subst (λ n. IsPermutation (together n (λ d. groups step keys aggregates (more d))) (map Ok (together after given))) same
      (subst (IsPermutation (together after (λ d. groups step keys aggregates (more d)))) (together-each (map Ok) refl (map-append Ok) after given)
      (together-perm after (λ d. groups step keys aggregates (more d)) (λ d. map Ok (given d)) (λ d w.
      subst (λ l. IsPermutation l (map Ok (given d))) (new-outcomes step keys aggregates (held d) (more d) (new d w)) (gives d w).is))))
      (spread step source) one

  all-one : (before : ℕ) → before ≡ 1 → together before more ≡ more 0
  all-one before one = ap (λ n. together n more) one ∙ together-one more

  orders : (own : Own) (keys : List SortKey) (held : Held) (before : ℕ) (given : List Row) → From (together before more) → before ≡ 1 → (held.rows ≡ []) → Orders keys held (more 0) given → Ordered keys From given
  orders own keys held before given from one none h = record {
    input = together before more;
    from = from;
    same = subst (λ l. IsPermutation l given) (ap (λ l. l ++ more 0) none ∙ sym (all-one before one)) h.same;
    sorted = h.sorted;
  }

  order-line : (keys : List SortKey) (before : ℕ) (held : ℕ → Held) (given : Lists) → From (together before more) → before ≡ 1 → ((d : ℕ) → d < 1 → held d ≡ new_held (order keys)) → NodeGives before 1 (order keys) held more given
      → (source : Width) → Line (order keys) source From (together 1 given)
  order-line keys before held given from one new gives source =
      subst (Ordered keys From) (sym (together-one given)) (orders (order keys) keys (held 0) before (given 0) from one (ap (λ (h : Held). h.rows) (new 0 (omega arith))) (gives 0 (omega arith)))

  topn-line : (keys : List SortKey) (count before : ℕ) (held : ℕ → Held) (given : Lists) → From (together before more) → before ≡ 1 → ((d : ℕ) → d < 1 → held d ≡ new_held (topn count keys)) → NodeGives before 1 (topn count keys) held more given
      → (source : Width) → Line (topn count keys) source From (together 1 given)
  topn-line keys count before held given from one new gives source =
      let h : TakesFirst keys (held 0) (more 0) (given 0) = gives 0 (omega arith) in
      record {
        sorted = h.all;
        ordered = orders (topn count keys) keys (held 0) before h.all from one (ap (λ (h : Held). h.rows) (new 0 (omega arith))) h.ordered;
        is = together-one given ∙ h.is ∙ ap (λ (k : Held). take k.left h.all) (new 0 (omega arith));
      }

  pub limit-line : (offset count before : ℕ) (held : ℕ → Held) (given : Lists) → From (together before more) → before ≡ 1 → ((d : ℕ) → d < 1 → held d ≡ new_held (limit offset count)) → NodeGives before 1 (limit offset count) held more given
      → (source : Width) → Line (limit offset count) source From (together 1 given)
  limit-line offset count before held given from one new gives source = record {
    input = together before more;
    from = from;
    is = together-one given ∙ (gives 0 (omega arith)).is ∙ ap (λ (k : Held). k.rows ++ take k.left (drop k.skip (more 0))) (new 0 (omega arith)) ∙ ap (λ l. take count (drop offset l)) (sym (all-one before one));
  }

  filter-true : (rows : List Row) → filter (λ row. true) rows ≡ rows
  filter-true [] = refl
  filter-true (row ∷ rows) = ap (λ l. row ∷ l) (filter-true rows)

  -- all rows come out of an exchange, each in one queue
  pub queues : (kind : ExchangeKind) (keys : List ℕ) (drivers : ℕ) → 1 ≤ drivers → (source : List Row) (held : ℕ → Held) (given : Lists)
      → (let after = if is_one (Rattle.vx_plan.specs.Widths.width_exchanged kind) then 1 else drivers in
      ((d : ℕ) → d < after → held d ≡ new_held (exchange kind keys)) → Deals kind keys after held source given → IsPermutation source (together after given))
  queues Gather keys drivers some source held given new gives =
      subst (IsPermutation source) (sym (together-one given))
      (subst (λ l. IsPermutation l (given 0)) (ap (λ (h : Held). h.rows ++ filter (λ row. true) source) (new 0 (omega arith)) ∙ filter-true source) (gives 0 (omega arith)))
  queues Hash keys drivers some source held given new gives =
      IsPermutation-trans _ _ _ (together-dealt (λ row. hash_of (key_bytes keys row) % drivers) drivers source (λ k d within. mod-lt _ (omega arith)))
      (together-perm drivers (λ d. filter (belongs Hash keys drivers d) source) given (λ d w.
      subst (λ l. IsPermutation l (given d)) (ap (λ (h : Held). h.rows ++ filter (belongs Hash keys drivers d) source) (new d w)) (gives d w)))

-- ---- the whole plan

pub parted-for : (drivers : ℕ) (q : Holding) → ((id driver : ℕ) → q.hand id driver ≡ []) → (step : Step) (keys : List ℕ) (source : Tree) → AreNew drivers q source → AggregatesTogether step keys source
    → (more : Lists) → Rest drivers q source more → spread step (width_of source) ≡ One → Parted keys (drivers_of drivers source) more
parted-for drivers q hands Partial keys source new well more r one = parted-one keys (drivers_of drivers source) more (lanes-one drivers source one)
parted-for drivers q hands Single keys source new well more r one = parted drivers q hands keys source new well more r
parted-for drivers q hands Final keys source new well more r one = parted drivers q hands keys source new well more r

module _ (drivers : ℕ) (some : 1 ≤ drivers) (q : Holding) (hands : (id driver : ℕ) → q.hand id driver ≡ []) where
  pub together-given : (id count : ℕ) (lists given : Lists) → ((d : ℕ) → lists d ≡ q.hand id d ++ given d) → together count given ≡ together count lists
  together-given id count lists given is = sym (together-same count lists given (λ d w. given-is (q.hand id) lists given (hands id) is d))

  pub over-line : (id : ℕ) (own : Own) (source : Tree) → AreNew drivers q (over id own source) → IsDealtWell own source → (From : List Row → Type 0) (more : Lists) → From (together (drivers_of drivers source) more)
      → ((step : Step) (keys : List ℕ) → AggregatesTogether step keys source → spread step (width_of source) ≡ One → Parted keys (drivers_of drivers source) more)
      → (given : Lists) → NodeGives (drivers_of drivers source) (drivers_of drivers (over id own source)) own (q.held id) more given → Line own (width_of source) From (together (drivers_of drivers (over id own source)) given)
  over-line id (filtering e) source new well From more from part given gives = filter-line From more e (drivers_of drivers source) (q.held id) given from new.1 gives (width_of source)
  over-line id (project es) source new well From more from part given gives = project-line From more es (drivers_of drivers source) (q.held id) given from new.1 gives (width_of source)
  over-line id (aggregation step keys aggregates) source new well From more from part given gives =
      group-line From more step keys aggregates (drivers_of drivers source) (drivers_of drivers (over id (aggregation step keys aggregates) source)) (q.held id) given from (lanes-some drivers some (width_of source)) (lanes-groups drivers id step keys aggregates source well)
      new.1 gives (width_of source) (part step keys well)
  over-line id (order keys) source new well From more from part given gives = order-line From more keys (drivers_of drivers source) (q.held id) given from (lanes-one drivers source well) new.1 gives (width_of source)
  over-line id (topn count keys) source new well From more from part given gives = topn-line From more keys count (drivers_of drivers source) (q.held id) given from (lanes-one drivers source well) new.1 gives (width_of source)
  over-line id (limit offset count) source new well From more from part given gives = limit-line From more offset count (drivers_of drivers source) (q.held id) given from (lanes-one drivers source well) new.1 gives (width_of source)
  over-line id (exchange kind keys) source new well From more from part given gives = record {
    input = together (drivers_of drivers source) more;
    from = from;
    is = queues From more kind keys drivers some (together (drivers_of drivers source) more) (q.held id) given new.1 gives;
  }

  pub join-is : (result : List Row → List Build → List Row) (lanes_right : ℕ) (held : HeldJoin) → held ≡ new_join → (left right given : Lists) → JoinGives result lanes_right held left right given
      → IsPermutation (result (left 0) (map fresh (together lanes_right right))) (given 0)
  join-is result lanes_right held new left right given h = subst (λ l. IsPermutation l (given 0)) (ap (λ (k : HeldJoin). k.owed ++ result (k.deferred ++ left 0) (k.build ++ map fresh (together lanes_right right))) new) h.is

  pub Answers-start : (t : Tree) → AreNew drivers q t → AreDealtWell t → (lists : Lists) → Rest drivers q t lists → Answers t (together (drivers_of drivers t) lists)
  Answers-start (values id kinds all parallel) new well lists h =
      subst (IsPermutation all) (together-given id (drivers_of drivers (values id kinds all parallel)) lists h.0 h.2) (IsPermutation-trans _ _ _ new h.1)
  Answers-start (over id own source) new well lists h =
      subst (Answers (over id own source)) (together-given id (drivers_of drivers (over id own source)) lists h.0 h.2)
      (over-line id own source new well.1 (Answers source) h.1.more (Answers-start source new.0 well.0 h.1.more h.1.from)
      (λ step keys together one. parted-for drivers q hands step keys source new.0 together h.1.more h.1.from one) h.0 h.1.gives)
  Answers-start (join id kind left_keys right_keys left right) new well lists h =
      subst (Answers (join id kind left_keys right_keys left right)) (together-given id 1 lists h.0 h.2) (record {
        left = together (drivers_of drivers left) h.1.left;
        from_left = Answers-start left new.0 well.0 h.1.left h.1.from_left;
        right = together (drivers_of drivers right) h.1.right;
        from_right = Answers-start right new.1 well.1 h.1.right h.1.from_right;
        is =
            let result = joined kind (joined_on left_keys right_keys left right) in
            subst (IsPermutation (result (together (drivers_of drivers left) h.1.left) (map fresh (together (drivers_of drivers right) h.1.right)))) (sym (together-one h.0))
            (subst (λ l. IsPermutation (result l (map fresh (together (drivers_of drivers right) h.1.right))) (h.0 0)) (sym (ap (λ n. together n h.1.left) (lanes-one drivers left well.2) ∙ together-one h.1.left))
            (join-is result (drivers_of drivers right) (q.join id) new.2 h.1.left h.1.right h.0 h.1.gives));
      })

-- a query that has just started stands for answers of its plan
pub Stands-start : (drivers : ℕ) (q : Holding) (t : Tree) → 1 ≤ drivers → IsAtStart drivers q t → AreDealtWell t → width_of t ≡ One → (rows : List Row) → Stands drivers q t rows → Answers t rows
Stands-start drivers q t some start well one rows h =
    subst (Answers t) (ap (λ n. together n h.lists) (lanes-one drivers t one) ∙ together-one h.lists ∙ sym (h.is ∙ ap (λ l. l ++ h.lists 0) start.out)) (Answers-start drivers some q start.hands t start.new well h.lists h.rest)
