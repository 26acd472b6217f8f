-- Where a node may have given rows, the rows of its hands begin an answer: so a fault on one of them is a fault of the
-- query.
use Rattle.std.proofs.Common.{◌≡◌, ℕ, ◌<◌, Bool, true, false, List, [], ◌∷◌, ◌++◌, map, take, drop, refl, sym, ap₂, subst, arith, inl, inr, append-nil, Err, Some}
use Rattle.std.specs.Prelude.{filter, Contains}
use Rattle.std.proofs.lemmas.List.Sorted.{IsPermutation-refl}
use Rattle.vx_value.specs.Row.{Row}
use Rattle.vx_expr.specs.declared.expression.Expr.{Expr}
use Rattle.vx_expr.specs.declared.outcome.Fault.{Fault}
use Rattle.vx_expr.specs.declared.outcome.Fault.TheVariants.{Overflow}
use Rattle.vx_plan.specs.declared.aggregate.Aggregate.{Aggregate}
use Rattle.vx_plan.specs.declared.aggregate.Step.{Step}
use Rattle.vx_plan.specs.declared.widths.Width.{Width}
use Rattle.vx_plan.specs.declared.widths.Width.TheVariants.{One, Many}
use Rattle.vx_plan.specs.Tree.{Tree, values, over, join, filter as filtering, project, aggregation, order, topn, limit, exchange, id_of}
use Rattle.vx_plan.specs.Width.{width_of}
use Rattle.vx_meaning.specs.Rows.{first_fault}
use Rattle.vx_meaning.specs.Joins.{fresh, joined, probed}
use Rattle.vx_meaning.specs.Lines.{spread}
use Rattle.vx_meaning.specs.Answer.{joined_on}
use Rattle.vx_rest.specs.Lists.{Lists, together, nothing, drivers_of}
use Rattle.vx_rest.specs.Held.{Holding, group_of, outcomes}
use Rattle.vx_rest.specs.Rest.{EndsWith, belongs, OverRest, Rest}
use Rattle.vx_rest.specs.RestFaulty.{NodeBegins, grouped_from, Starts, RestBegun, RestFaulty}
use Rattle.vx_rest.specs.Fits.{Within}
use Rattle.vx_rest.specs.Through.{IsQuiet}
use Rattle.vx_rest.specs.Ends.{has_begun}
use Rattle.vx_rest.specs.Open.{IsClosed, IsEmptyFor, HasWhole, IsOpen}
use Rattle.vx_rest.proofs.Together.{together-none}
use Rattle.vx_rest.proofs.ThroughLaw.{Rest-quiet}
use Rattle.vx_rest.proofs.Sorts.{in_order, in_order-same, in_order-sorted}
use Rattle.vx_rest.proofs.BegunStart.{RestBegun-cut}

module _ (drivers : ℕ) (q : Holding) where
  -- whole lists that may still come out, with nothing for a driver for which all is empty
  abbrev WholeFor : Tree → Type 0
  WholeFor t = (lists : Lists) × Rest drivers q t lists × ((driver : ℕ) → IsEmptyFor drivers q t driver → lists driver ≡ [])

  quiet-whole : (t : Tree) → IsQuiet drivers q t → WholeFor t
  quiet-whole t h = (nothing, Rest-quiet drivers q t h, λ d e. refl)

  closed-whole : (t : Tree) → IsClosed drivers q t → WholeFor t
  closed-whole (values id kinds all parallel) h = quiet-whole (values id kinds all parallel) h
  closed-whole (over id (filtering e) source) h = quiet-whole (over id (filtering e) source) h
  closed-whole (over id (project es) source) h = quiet-whole (over id (project es) source) h
  closed-whole (over id (aggregation step keys aggregates) source) h = quiet-whole (over id (aggregation step keys aggregates) source) h
  closed-whole (over id (order keys) source) h = quiet-whole (over id (order keys) source) h
  closed-whole (over id (topn count keys) source) h = quiet-whole (over id (topn count keys) source) h
  closed-whole (over id (limit offset count) source) h = quiet-whole (over id (limit offset count) source) h
  closed-whole (join id kind left_keys right_keys left right) h = quiet-whole (join id kind left_keys right_keys left right) h
  closed-whole (over id (exchange kind keys) source) h =
      let mine = λ (d : ℕ). (q.held id d).rows ++ filter (belongs kind keys (drivers_of drivers (over id (exchange kind keys) source)) d) (together (drivers_of drivers source) nothing) in (
        (λ d. q.hand id d ++ mine d),
        (mine, record { more = nothing; from = Rest-quiet drivers q source h; gives = λ d w. IsPermutation-refl (mine d) }, λ d. refl),
        λ d e. ap₂ ◌++◌ e.0 (ap₂ (λ l m. l ++ filter (belongs kind keys (drivers_of drivers (over id (exchange kind keys) source)) d) m) e.1 (together-none (drivers_of drivers source))),
      )

  -- with what an operator over it needs
  pub has-whole : (id count : ℕ) (source : Tree) → HasWhole drivers q id count source → (lists : Lists) × Rest drivers q source lists × ((driver : ℕ) → driver < count → EndsWith (q.held id driver).ended (lists driver))
  has-whole id count source h =
      let whole = closed-whole source h.closed in
      (whole.0, whole.1, λ d w e. whole.2 d (h.empty d w e))

  -- from what comes behind the hands, and what is cut off there
  start-with : (hand given : Lists) (Give : Lists → Type 0) → Give given → Starts hand Give hand
  start-with hand given Give h = (given, h, λ d. (given d, refl))

  cut-nothing : (t : Tree) → RestBegun drivers q t (q.hand (id_of t)) → RestBegun drivers q t nothing
  cut-nothing t h = RestBegun-cut drivers q t (q.hand (id_of t)) nothing (λ d. (q.hand (id_of t) d, refl)) h

  pub RestBegun-open : (t : Tree) → IsOpen drivers q t → RestBegun drivers q t (q.hand (id_of t))
  RestBegun-open (values id kinds all parallel) h = start-with (q.hand id) (λ d. (q.held id d).rows) _ (IsPermutation-refl _)
  RestBegun-open (over id (filtering e) source) h =
      start-with (q.hand id) (λ d. (q.held id d).rows ++ []) _ (record { more = nothing; from = cut-nothing source (RestBegun-open source h); gives = λ d w. record { sound = λ k x within. absurd (omega arith); is = refl } })
  RestBegun-open (over id (project es) source) h =
      start-with (q.hand id) (λ d. (q.held id d).rows ++ []) _ (record { more = nothing; from = cut-nothing source (RestBegun-open source h); gives = λ d w. record { sound = λ k x within. absurd (omega arith); is = refl } })
  RestBegun-open (over id (aggregation step keys aggregates) source) h = by_spread (spread step (width_of source)) h (RestBegun-open source) where
    by_spread : (w : Width) → has_begun w (HasWhole drivers q id (drivers_of drivers (over id (aggregation step keys aggregates) source)) source) (IsOpen drivers q source) → (IsOpen drivers q source → RestBegun drivers q source (q.hand (id_of source)))
        → Starts (q.hand id) (OverRest (grouped_from w (Rest drivers q source) (RestBegun drivers q source)) (NodeBegins (drivers_of drivers source) (drivers_of drivers (over id (aggregation step keys aggregates) source)) (aggregation step keys aggregates) (q.held id))) (q.hand id)
    by_spread One whole ih =
        let w = has-whole id _ source whole in
        (nothing, record { more = w.0; from = w.1; gives = λ d within. record { ends = w.2 d within; later = outcomes step aggregates ((q.held id d).groups ++ map (group_of step keys aggregates) (w.0 d)); is = IsPermutation-refl _ } }, λ d. ([], refl))
    by_spread Many below ih =
        (nothing, record { more = nothing; from = cut-nothing source (ih below); gives = λ d within. record { ends = λ e. refl; later = outcomes step aggregates ((q.held id d).groups ++ []); is = IsPermutation-refl _ } }, λ d. ([], refl))
  RestBegun-open (over id (order keys) source) h =
      let w = has-whole id 1 source h in
      start-with (q.hand id) (λ d. in_order keys ((q.held id d).rows ++ w.0 d)) _ (record { more = w.0; from = w.1; gives = λ d within. record { ends = w.2 d within; same = in_order-same keys _; sorted = in_order-sorted keys _ } })
  RestBegun-open (over id (topn count keys) source) h =
      let w = has-whole id 1 source h in
      start-with (q.hand id) (λ d. take (q.held id d).left (in_order keys ((q.held id d).rows ++ w.0 d))) _
      (record { more = w.0; from = w.1; gives = λ d within. record { all = in_order keys ((q.held id d).rows ++ w.0 d); ordered = record { ends = w.2 d within; same = in_order-same keys _; sorted = in_order-sorted keys _ }; is = refl } })
  RestBegun-open (over id (limit offset count) source) h =
      start-with (q.hand id) (λ d. (q.held id d).rows ++ take (q.held id d).left (drop (q.held id d).skip [])) _ (record { more = nothing; from = cut-nothing source (RestBegun-open source h); gives = λ d w. record { is = refl } })
  RestBegun-open (over id (exchange kind keys) source) h =
      start-with (q.hand id) (λ d. (q.held id d).rows ++ filter (belongs kind keys (drivers_of drivers (over id (exchange kind keys) source)) d) (together (drivers_of drivers source) nothing)) _
      (record { more = nothing; from = cut-nothing source (RestBegun-open source h); gives = λ d w. IsPermutation-refl _ })
  RestBegun-open (join id kind left_keys right_keys left right) h = by_end (q.join id).ended refl (RestBegun-open left) where
    by_end : (b : Bool) → (q.join id).ended ≡ b → (IsOpen drivers q left → RestBegun drivers q left (q.hand (id_of left))) → RestBegun drivers q (join id kind left_keys right_keys left right) (q.hand id)
    by_end true e ih = inl (start-with (q.hand id) (λ d. (q.join id).owed ++ joined kind (joined_on left_keys right_keys left right) ((q.join id).deferred ++ []) ((q.join id).build ++ map fresh (together (drivers_of drivers right) nothing))) _
        (record {
          left = nothing;
          from_left = Rest-quiet drivers q left (h.1 e);
          right = nothing;
          from_right = Rest-quiet drivers q right h.0;
          gives = record { built = λ b. together-none (drivers_of drivers right); ends = λ b. refl; is = IsPermutation-refl _ };
        }))
    by_end false e ih = inr (start-with (q.hand id) (λ d. (q.join id).owed ++ probed kind (joined_on left_keys right_keys left right) ((q.join id).deferred ++ []) ((q.join id).build ++ map fresh (together (drivers_of drivers right) nothing))) _
        (record {
          left = nothing;
          from_left = cut-nothing left (ih (h.2 e));
          right = nothing;
          from_right = Rest-quiet drivers q right h.0;
          gives = (e, record { built = λ b. together-none (drivers_of drivers right); ends = λ b. refl; is = IsPermutation-refl _ });
        }))

  -- ---- faults

  pub RestFaulty-within : (part t : Tree) (at : ℕ) (row : Row) (code : Fault) → Within part t → RestFaulty drivers q part at row code → RestFaulty drivers q t at row code
  RestFaulty-within part (values id kinds all parallel) at row code w h = subst (λ t. RestFaulty drivers q t at row code) w h
  RestFaulty-within part (over id own source) at row code (inl w) h = subst (λ t. RestFaulty drivers q t at row code) w h
  RestFaulty-within part (over id own source) at row code (inr w) h = inr (RestFaulty-within part source at row code w h)
  RestFaulty-within part (join id kind left_keys right_keys left right) at row code (inl w) h = subst (λ t. RestFaulty drivers q t at row code) w h
  RestFaulty-within part (join id kind left_keys right_keys left right) at row code (inr (inl w)) h = inl (RestFaulty-within part left at row code w h)
  RestFaulty-within part (join id kind left_keys right_keys left right) at row code (inr (inr w)) h = inr (RestFaulty-within part right at row code w h)

  -- a row of a hand before a filter or a project
  pub Filter-faults : (id : ℕ) (e : Expr) (source : Tree) (driver : ℕ) (row : Row) (code : Fault) → IsOpen drivers q source → driver < drivers_of drivers source → Contains (q.hand (id_of source) driver) row → first_fault (e ∷ []) row ≡ Some code
      → RestFaulty drivers q (over id (filtering e) source) id row code
  Filter-faults id e source driver row code «open» within there fault = inl (refl, record { more = q.hand (id_of source); from = RestBegun-open source «open»; driver = driver; within = within; meets = record { there = there; fault = fault } })

  pub Project-faults : (id : ℕ) (es : List Expr) (source : Tree) (driver : ℕ) (row : Row) (code : Fault) → IsOpen drivers q source → driver < drivers_of drivers source → Contains (q.hand (id_of source) driver) row → first_fault es row ≡ Some code
      → RestFaulty drivers q (over id (project es) source) id row code
  Project-faults id es source driver row code «open» within there fault = inl (refl, record { more = q.hand (id_of source); from = RestBegun-open source «open»; driver = driver; within = within; meets = record { there = there; fault = fault } })

  -- a group that is to be given, where the aggregation has all its rows
  pub Group-faults : (id : ℕ) (step : Step) (keys : List ℕ) (aggregates : List Aggregate) (source : Tree) (driver : ℕ) (key : Row) → HasWhole drivers q id (drivers_of drivers (over id (aggregation step keys aggregates) source)) source → driver < drivers_of drivers source → driver < drivers_of drivers (over id (aggregation step keys aggregates) source) → (q.held id driver).ended ≡ true
      → Contains (outcomes step aggregates (q.held id driver).groups) (Err key) → RestFaulty drivers q (over id (aggregation step keys aggregates) source) id key Overflow
  Group-faults id step keys aggregates source driver key whole within low ended there =
      let w = has-whole id _ source whole in
      inl (
        refl,
        record {
          more = w.0;
          from = w.1;
          driver = driver;
          within = within;
          meets = record {
            ends = w.2 driver low;
            there = subst (λ l. Contains (outcomes step aggregates ((q.held id driver).groups ++ map (group_of step keys aggregates) l)) (Err key)) (sym (w.2 driver low ended)) (subst (λ l. Contains (outcomes step aggregates l) (Err key)) (sym (append-nil (q.held id driver).groups)) there);
            fault = refl;
          };
        },
      )
