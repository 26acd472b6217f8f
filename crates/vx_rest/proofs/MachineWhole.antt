-- A query from its start to its end.
use Rattle.std.proofs.Common.{◌≡◌, ◌≢◌, ℕ, ◌<◌, ◌≤◌, true, false, List, [], ◌∷◌, refl, sym, ap, ◌∙◌, subst, inl, inr, true≢false, Ok, Err}
use Rattle.std.specs.Prelude.{Contains}
use Rattle.vx_value.specs.Row.{Row}
use Rattle.vx_expr.specs.declared.outcome.Fault.{Fault}
use Rattle.vx_expr.specs.declared.outcome.Fault.TheVariants.{Overflow}
use Rattle.vx_plan.specs.declared.aggregate.Aggregate.{Aggregate}
use Rattle.vx_plan.specs.declared.aggregate.Step.{Step}
use Rattle.vx_plan.specs.declared.aggregate.Step.TheVariants.{Single, Partial, Final}
use Rattle.vx_plan.specs.Tree.{Tree, values, over, join, Own, filter, project, aggregation, order, topn, limit, exchange, id_of}
use Rattle.vx_plan.specs.Ids.{check_ids}
use Rattle.vx_plan.specs.Widths.{check_widths}
use Rattle.vx_meaning.specs.Answer.{Answers}
use Rattle.vx_meaning.specs.Faulty.{Faulty}
use Rattle.vx_rest.specs.Lists.{drivers_of}
use Rattle.vx_rest.specs.Held.{Held, HeldJoin, Holding, outcomes}
use Rattle.vx_rest.specs.RestFaulty.{RestFaulty}
use Rattle.vx_rest.specs.Start.{AreDealtWell, AreNew, new_held}
use Rattle.vx_rest.specs.Fits.{Within, AreOnce}
use Rattle.vx_rest.specs.Ends.{AreEndsRight, RowsStarted}
use Rattle.vx_rest.specs.Reached.{IsReached}
use Rattle.vx_rest.specs.Machine.{Machine, Move, reads, gives, answers, leaves, takes, builds, probes, comes_out, turns, merges, finishes, built, probed, empties, stops, CanMake}
use Rattle.vx_rest.specs.Changes.{KnowsEnd, Makes}
use Rattle.vx_rest.specs.Steady.{IsSteadyAt, IsSteady}
use Rattle.vx_rest.specs.Run.{StartsNew, IsRun, started, moved, Overflows, MeetsAt}
use Rattle.vx_rest.proofs.Checked.{well-from_check, once-from_check}
use Rattle.vx_rest.proofs.StartLaw.{lanes-groups}
use Rattle.vx_rest.proofs.OpenLaw.{RestFaulty-within, Group-faults}
use Rattle.vx_rest.proofs.EndLaw.{whole-group}
use Rattle.vx_rest.proofs.DrainedLaws.{ends-within, source-within}
use Rattle.vx_rest.proofs.StartedLaw.{filter-step-faults, project-step-faults}
use Rattle.vx_rest.proofs.WholeLaw.{answers-done, faulty_reached}
use Rattle.vx_rest.proofs.MachineParts.{well-within, rows-within, more-at, more-all, HandsAt, HeldAt, rows-all}
use Rattle.vx_rest.proofs.MachineMoved.{moved-by}
use Rattle.vx_rest.proofs.MachineSteady.{steady-kept}
use Rattle.vx_rest.proofs.Runnable.{some-move}
use Rattle.vx_rest.specs.Reached.IsReached.{started as reached_start, moved as reached_move}

-- ---- at the start

not-both : {P : Type 0} (b : Rattle.std.specs.Prelude.Bool) → b ≡ true → b ≡ false → P
not-both b t f = absurd (true≢false (sym t ∙ f))

new-rows : (own : Own) → (new_held own).rows ≡ []
new-rows (filter x) = refl
new-rows (project xs) = refl
new-rows (aggregation step keys aggregates) = refl
new-rows (order keys) = refl
new-rows (topn count keys) = refl
new-rows (limit offset count) = refl
new-rows (exchange kind keys) = refl

module _ (drivers : ℕ) (t : Tree) (m : Machine) (new : StartsNew drivers t m) where
  ends-new : (s : Tree) → AreNew drivers m.query s → AreEndsRight drivers m.ends m.query s
  ends-new (values id kinds all parallel) n = tt
  ends-new (over id own source) n = (ends-new source n.0, (λ d w i. not-both (m.ends.input id d) i (new.input id d)), (λ d w i. not-both ((m.query.held id d).ended) i (new.ended id d)))
  ends-new (join id kind left_keys right_keys left right) n =
      (ends-new left n.0, ends-new right n.1, (λ i. not-both (m.ends.input id 0) i (new.input id 0)), (λ d w i. not-both (m.ends.build id d) i (new.build id d)), (λ i. not-both ((m.query.join id).ended) i (ap (λ (j : HeldJoin). j.ended) n.2)))

  rows-new : (s : Tree) → AreNew drivers m.query s → RowsStarted drivers m.ends m.query s
  rows-new (values id kinds all parallel) n = tt
  rows-new (over id own source) n = (rows-new source n.0, (λ d full. absurd (full (new.query.hands id d))), none own n.1) where
    none : (own : Own) → ((d : ℕ) → d < drivers_of drivers (over id own source) → m.query.held id d ≡ new_held own) → Rattle.vx_rest.specs.Ends.HeldStarted drivers m.ends m.query id own source
    none (filter x) k = λ d w full. absurd (full (ap (λ (x : Held). x.rows) (k d w)))
    none (project xs) k = λ d w full. absurd (full (ap (λ (x : Held). x.rows) (k d w)))
    none (aggregation step keys aggregates) k = tt
    none (order keys) k = tt
    none (topn count keys) k = tt
    none (limit offset count) k = λ d w full. absurd (full (ap (λ (x : Held). x.rows) (k d w)))
    none (exchange kind keys) k = λ d w full. absurd (full (ap (λ (x : Held). x.rows) (k d w)))
  rows-new (join id kind left_keys right_keys left right) n =
      (rows-new left n.0, rows-new right n.1, (λ d full. absurd (full (new.query.hands id d))), (λ full. absurd (full (ap (λ (j : HeldJoin). j.owed) n.2))))

  new-within : (s u : Tree) → Within s u → AreNew drivers m.query u → AreNew drivers m.query s
  new-within s (values id kinds all parallel) w n = subst (AreNew drivers m.query) (sym w) n
  new-within s (over id own source) (inl w) n = subst (AreNew drivers m.query) (sym w) n
  new-within s (over id own source) (inr w) n = new-within s source w n.0
  new-within s (join id kind left_keys right_keys left right) (inl w) n = subst (AreNew drivers m.query) (sym w) n
  new-within s (join id kind left_keys right_keys left right) (inr (inl w)) n = new-within s left w n.0
  new-within s (join id kind left_keys right_keys left right) (inr (inr w)) n = new-within s right w n.1

  node-new : (s : Tree) → AreNew drivers m.query s → IsSteadyAt drivers m s
  node-new (values id kinds all parallel) n = tt
  node-new (over id own source) n = ((λ d w i. not-both (m.ends.input id d) i (new.input id d)), (λ queue full. not-both (m.full id queue) full (new.full id queue)))
  node-new (join id kind left_keys right_keys left right) n = ((λ i. not-both (m.through id) i (new.through id)), (λ l. not-both (m.leaving id) l (new.leaving id)))

  pub steady-start : IsSteady drivers t m
  steady-start = record {
    right = ends-new t new.query.new;
    hands = more-all drivers m.query t (λ s w d high. new.query.hands (id_of s) d);
    rows = rows-new t new.query.new;
    nodes = λ s w. node-new s (new-within s t w new.query.new);
    done = λ d. not-both m.done d new.done;
  }

-- ---- from there on

module _ (drivers : ℕ) (some : 1 ≤ drivers) (t : Tree) (ids : check_ids t ≡ Ok tt) (widths : check_widths t ≡ Ok tt) where
  once : AreOnce t
  once = once-from_check t ids

  well : AreDealtWell t
  well = (well-from_check t widths).0

  pub run-steady : (m : Machine) → IsRun drivers t m → IsSteady drivers t m
  run-steady _ (started m new) = steady-start drivers t m new
  run-steady _ (moved move old m makes before) = steady-kept drivers some t once well move old m makes (run-steady old before)

  pub run-reached : (m : Machine) → IsRun drivers t m → IsReached drivers t m.query
  run-reached _ (started m new) = reached_start m.query new.query
  run-reached _ (moved move old m makes before) = let s = moved-by drivers t once move old m makes in reached_move s.0 old.query m.query s.1 (run-reached old before)

  pub run_answers : (m : Machine) → IsRun drivers t m → m.done ≡ true → Answers t m.query.out
  run_answers m run done = let steady = run-steady m run in answers-done drivers some t widths m.ends m.query (run-reached m run) steady.right steady.hands (steady.done done)

  pub run_goes : (m : Machine) → IsRun drivers t m → m.done ≡ false → (move : Move) × CanMake drivers t m move
  run_goes m run going = some-move drivers some t well (well-from_check t widths).1 m (run-steady m run) going

  pub run_runnable : (m : Machine) → IsRun drivers t m → m.done ≡ false → (line : List Move) × Rattle.vx_rest.specs.Pick.IsAmong line (Rattle.vx_rest.specs.Pick.all_lines drivers t) × Rattle.vx_rest.specs.Pick.IsRunnable drivers t m line
  run_runnable m run going = Rattle.vx_rest.proofs.PickLaw.some-runnable drivers some t well (well-from_check t widths).1 m (run-steady m run) going

  -- ---- faults

  module _ (m : Machine) (steady : IsSteady drivers t m) where
    takes-fault : (id : ℕ) (own : Own) (source : Tree) (d : ℕ) → CanMake drivers t m (takes id own source d) → (row : Row) (code : Fault) → Rattle.vx_rest.specs.Run.TakesFault own (m.query.hand (id_of source) d) row code → RestFaulty drivers m.query t id row code
    takes-fault id (filter x) source d can row code f =
        let below = source-within id (filter x) source t can.needs.0 in
        filter-step-faults drivers some m.ends m.query t id x source can.needs.0 (well-within source t below well) (ends-within drivers m.ends m.query source t below steady.right)
        (more-all drivers m.query source (λ s w. more-at drivers m.query t steady.hands s (Rattle.vx_rest.proofs.MachineParts.within-trans s source t w below))) (rows-within drivers m.ends m.query t steady.rows source below) d can.needs.1 row code f.0 f.1
    takes-fault id (project xs) source d can row code f =
        let below = source-within id (project xs) source t can.needs.0 in
        project-step-faults drivers some m.ends m.query t id xs source can.needs.0 (well-within source t below well) (ends-within drivers m.ends m.query source t below steady.right)
        (more-all drivers m.query source (λ s w. more-at drivers m.query t steady.hands s (Rattle.vx_rest.proofs.MachineParts.within-trans s source t w below))) (rows-within drivers m.ends m.query t steady.rows source below) d can.needs.1 row code f.0 f.1
    takes-fault id (aggregation step keys aggregates) source d can row code f = absurd f
    takes-fault id (order keys) source d can row code f = absurd f
    takes-fault id (topn count keys) source d can row code f = absurd f
    takes-fault id (limit offset count) source d can row code f = absurd f
    takes-fault id (exchange kind keys) source d can row code f = absurd f

    group-fault : (id : ℕ) (step : Step) (keys : List ℕ) (aggregates : List Aggregate) (source : Tree) (d : ℕ) → Rattle.vx_meaning.specs.Lines.spread step (Rattle.vx_plan.specs.Width.width_of source) ≡ Rattle.vx_plan.specs.declared.widths.Width.TheVariants.One → CanMake drivers t m (gives id (aggregation step keys aggregates) source d) → (row : Row) (code : Fault)
        → code ≡ Overflow → Contains (outcomes step aggregates (m.query.held id d).groups) (Err row) → RestFaulty drivers m.query t id row code
    group-fault id step keys aggregates source d one can row code over_it there =
        let part = over id (aggregation step keys aggregates) source in
        let within = can.needs.0 in
        let here = well-within part t within well in
        let right = ends-within drivers m.ends m.query part t within steady.right in
        let low : d < drivers_of drivers source = subst (λ n. d < n) (lanes-groups drivers id step keys aggregates source here.1) can.needs.1 in
        let below = source-within id (aggregation step keys aggregates) source t within in
        let more = more-all drivers m.query source (λ s w. more-at drivers m.query t steady.hands s (Rattle.vx_rest.proofs.MachineParts.within-trans s source t w below)) in
        subst (RestFaulty drivers m.query t id row) (sym over_it) (RestFaulty-within drivers m.query part t id row Overflow within
        (Group-faults drivers m.query id step keys aggregates source d row (whole-group drivers some m.ends m.query id step keys aggregates source here right more one d low (right.2 d low can.needs.3.0)) low can.needs.1 can.needs.3.0 there))

    gives-fault : (id : ℕ) (own : Own) (source : Tree) (d : ℕ) → CanMake drivers t m (gives id own source d) → (row : Row) (code : Fault) → Rattle.vx_rest.specs.Run.GivesFault own (m.query.held id d) row code → RestFaulty drivers m.query t id row code
    gives-fault id (aggregation Single keys aggregates) source d can row code f = group-fault id Single keys aggregates source d refl can row code f.0 f.1
    gives-fault id (aggregation Final keys aggregates) source d can row code f = group-fault id Final keys aggregates source d refl can row code f.0 f.1
    gives-fault id (aggregation Partial keys aggregates) source d can row code f = absurd f
    gives-fault id (filter x) source d can row code f = absurd f
    gives-fault id (project xs) source d can row code f = absurd f
    gives-fault id (order keys) source d can row code f = absurd f
    gives-fault id (topn count keys) source d can row code f = absurd f
    gives-fault id (limit offset count) source d can row code f = absurd f
    gives-fault id (exchange kind keys) source d can row code f = absurd f

    pub move-fault : (move : Move) → CanMake drivers t m move → (at : ℕ) (row : Row) (code : Fault) → MeetsAt m move at row code → RestFaulty drivers m.query t at row code
    move-fault (takes id own source d) can at row code f = subst (λ k. RestFaulty drivers m.query t k row code) f.0 (takes-fault id own source d can row code f.1)
    move-fault (gives id own source d) can at row code f = subst (λ k. RestFaulty drivers m.query t k row code) f.0 (gives-fault id own source d can row code f.1)
    move-fault (reads id kinds all parallel d) can at row code f = absurd f
    move-fault (answers j) can at row code f = absurd f
    move-fault (leaves j) can at row code f = absurd f
    move-fault (builds j d) can at row code f = absurd f
    move-fault (probes j) can at row code f = absurd f
    move-fault (turns j) can at row code f = absurd f
    move-fault comes_out can at row code f = absurd f
    move-fault (merges id own source d) can at row code f = absurd f
    move-fault (finishes id own source d) can at row code f = absurd f
    move-fault (built j d) can at row code f = absurd f
    move-fault (probed j) can at row code f = absurd f
    move-fault (empties j) can at row code f = absurd f
    move-fault stops can at row code f = absurd f

  pub run_faulty : (m : Machine) → IsRun drivers t m → (move : Move) → CanMake drivers t m move → (at : ℕ) (row : Row) (code : Fault) → MeetsAt m move at row code → Faulty t at row code
  run_faulty m run move can at row code f = faulty_reached drivers some t widths m.query (run-reached m run) at row code (move-fault m (run-steady m run) move can at row code f)

pub run_falls : (drivers : ℕ) → 1 ≤ drivers → (t : Tree) → check_ids t ≡ Ok tt → (move : Move) (old new : Machine) → Makes drivers t move old new → Rattle.vx_rest.specs.Rank.IsLower (Rattle.vx_rest.specs.MachineRank.rank_of drivers t new) (Rattle.vx_rest.specs.MachineRank.rank_of drivers t old)
run_falls drivers some t ids move old new makes = Rattle.vx_rest.proofs.MachineFalls.falls drivers some t (once-from_check t ids) old new move makes
