-- Rows come only out of what has started, so that a fault on a row is a fault of the query.
use Rattle.std.proofs.Common.{◌≡◌, ◌≢◌, ℕ, ◌<◌, ◌≤◌, true, List, [], ◌∷◌, subst, arith, Some}
use Rattle.std.specs.Prelude.{Contains}
use Rattle.vx_value.specs.Row.{Row}
use Rattle.vx_expr.specs.declared.expression.Expr.{Expr}
use Rattle.vx_expr.specs.declared.outcome.Fault.{Fault}
use Rattle.vx_plan.specs.declared.widths.Width.{Width}
use Rattle.vx_plan.specs.declared.widths.Width.TheVariants.{One, Many}
use Rattle.vx_plan.specs.Tree.{Tree, values, over, join, Own, filter, project, aggregation, order, topn, limit, exchange, id_of}
use Rattle.vx_plan.specs.Width.{width_of}
use Rattle.vx_meaning.specs.Rows.{first_fault}
use Rattle.vx_meaning.specs.Lines.{spread}
use Rattle.vx_rest.specs.Lists.{drivers_of}
use Rattle.vx_rest.specs.Held.{Holding}
use Rattle.vx_rest.specs.RestFaulty.{RestFaulty}
use Rattle.vx_rest.specs.Start.{AreDealtWell}
use Rattle.vx_rest.specs.Fits.{Within}
use Rattle.vx_rest.specs.Ends.{Ends, AreEndsRight, HaveNoMoreHands, has_begun, HasStarted, MayGive, RowsStarted}
use Rattle.vx_rest.proofs.StartLaw.{lanes-groups}
use Rattle.vx_rest.proofs.OpenLaw.{RestFaulty-within, Filter-faults, Project-faults}
use Rattle.vx_rest.proofs.EndLaw.{started-drained, open-started}

module _ (drivers : ℕ) (some : 1 ≤ drivers) (e : Ends) (q : Holding) where
  -- rows in a hand
  pub started-hand : (t : Tree) → RowsStarted drivers e q t → (d : ℕ) → q.hand (id_of t) d ≢ [] → HasStarted drivers e t
  started-hand (values id kinds all parallel) h d some = tt
  started-hand (over id own source) h d some = h.1 d some
  started-hand (join id kind left_keys right_keys left right) h d some = h.2 d some

  -- an operator that gives a row
  pub started-gives : (id : ℕ) (own : Own) (source : Tree) → AreDealtWell (over id own source) → AreEndsRight drivers e q (over id own source) → RowsStarted drivers e q (over id own source)
      → (d : ℕ) → d < drivers_of drivers (over id own source) → MayGive e own id (q.held id d) d → HasStarted drivers e (over id own source)
  started-gives id (filter x) source well right h d w give = h.2 d w give
  started-gives id (project x) source well right h d w give = h.2 d w give
  started-gives id (aggregation step keys aggregates) source well right h d w give = by_spread (spread step (width_of source)) (started-drained drivers some e q source well.0 right.0 d low (right.1 d low give)) where
    low : d < drivers_of drivers source
    low = subst (λ n. d < n) (lanes-groups drivers id step keys aggregates source well.1) w

    by_spread : (v : Width) → HasStarted drivers e source → has_begun v ((k : ℕ) × (k < drivers_of drivers source) × (e.input id k ≡ true)) (HasStarted drivers e source)
    by_spread One below = (d, low, give)
    by_spread Many below = below
  started-gives id (order keys) source well right h d w give = subst (λ d. e.input id d ≡ true) (let z : d ≡ 0 = omega arith in z) give
  started-gives id (topn count keys) source well right h d w give = subst (λ d. e.input id d ≡ true) (let z : d ≡ 0 = omega arith in z) give
  started-gives id (limit offset count) source well right h d w give = h.2 d w give
  started-gives id (exchange kind keys) source well right h d w give = h.2 d w give

  -- what a filter meets in a batch that is put into it is a fault of the query
  contains-some : (rows : List Row) (row : Row) → Contains rows row → rows ≢ []
  contains-some [] row there is = absurd (let w = there.1 in omega arith)
  contains-some (x ∷ rows) row there is = absurd (cc)

  pub filter-step-faults : (t : Tree) (id : ℕ) (x : Expr) (source : Tree) → Within (over id (filter x) source) t → AreDealtWell source → AreEndsRight drivers e q source → HaveNoMoreHands drivers q source → RowsStarted drivers e q source
      → (d : ℕ) → d < drivers_of drivers source → (row : Row) (code : Fault) → Contains (q.hand (id_of source) d) row → first_fault (x ∷ []) row ≡ Some code → RestFaulty drivers q t id row code
  filter-step-faults t id x source within well right more rows d w row code there fault =
      RestFaulty-within drivers q (over id (filter x) source) t id row code within
      (Filter-faults drivers q id x source d row code (open-started drivers some e q source well right more (started-hand source rows d (contains-some (q.hand (id_of source) d) row there))) w there fault)

  pub project-step-faults : (t : Tree) (id : ℕ) (xs : List Expr) (source : Tree) → Within (over id (project xs) source) t → AreDealtWell source → AreEndsRight drivers e q source → HaveNoMoreHands drivers q source → RowsStarted drivers e q source
      → (d : ℕ) → d < drivers_of drivers source → (row : Row) (code : Fault) → Contains (q.hand (id_of source) d) row → first_fault xs row ≡ Some code → RestFaulty drivers q t id row code
  project-step-faults t id xs source within well right more rows d w row code there fault =
      RestFaulty-within drivers q (over id (project xs) source) t id row code within
      (Project-faults drivers q id xs source d row code (open-started drivers some e q source well right more (started-hand source rows d (contains-some (q.hand (id_of source) d) row there))) w there fault)
