-- The lines of nodes over sources that may give more lists, and what follows: an answer is begun, and the first fault in
-- post-order is a fault.
use Rattle.std.proofs.Common.{◌≡◌, ℕ, List, [], ◌∷◌, map, refl, sym, subst, inl, inr, arith, Some}
use Rattle.std.specs.Prelude.{slice_get, Contains, Ok}
use Rattle.std.specs.List.Sorted.{IsPermutation}
use Rattle.std.proofs.lemmas.List.{append-nil}
use Rattle.std.proofs.lemmas.List.Elements.{Contains-append_right}
use Rattle.vx_value.specs.declared.sorting.SortKey.{SortKey}
use Rattle.vx_value.specs.Row.{Row}
use Rattle.vx_expr.specs.declared.expression.Expr.{Expr}
use Rattle.vx_expr.specs.declared.outcome.Fault.{Fault}
use Rattle.vx_plan.specs.declared.aggregate.Aggregate.{Aggregate}
use Rattle.vx_plan.specs.declared.aggregate.Step.{Step}
use Rattle.vx_plan.specs.declared.node.JoinKind.{JoinKind}
use Rattle.vx_plan.specs.declared.widths.Width.{Width}
use Rattle.vx_plan.specs.declared.widths.Width.TheVariants.{One, Many}
use Rattle.vx_plan.specs.Tree.{Tree, values, over, join, Own, filter, project, aggregation, order, topn, limit, exchange}
use Rattle.vx_plan.specs.Width.{width_of}
use Rattle.vx_meaning.specs.Groups.{Outcome}
use Rattle.vx_meaning.specs.Joins.{joined}
use Rattle.vx_meaning.specs.Lines.{Filtered, Projected, spread, Grouped, Joined, Shuffled, Ordered, FirstOf, Limited, Line}
use Rattle.vx_meaning.specs.Answer.{Answers, joined_on}
use Rattle.vx_meaning.specs.Begun.{Begins, grouped_from, LineBegun, Begun}
use Rattle.vx_meaning.specs.Faulty.{RowFaults, GroupFaults, LineFaults, Faulty, StopsAtRow, LineStops, IsFirstFault}

module _ {From To : List Row → Type 0} (more : (rows : List Row) → From rows → To rows) where
  pub Filtered-more : (e : Expr) (rows : List Row) → Filtered e From rows → Filtered e To rows
  Filtered-more e rows h = record { input = h.input; from = more h.input h.from; sound = h.sound; is = h.is }

  pub Projected-more : (exprs : List Expr) (rows : List Row) → Projected exprs From rows → Projected exprs To rows
  Projected-more exprs rows h = record { input = h.input; from = more h.input h.from; sound = h.sound; is = h.is }

  pub Grouped-more : (step : Step) (keys : List ℕ) (aggregates : List Aggregate) (w : Width) (outcomes : List Outcome) → Grouped step keys aggregates w From outcomes → Grouped step keys aggregates w To outcomes
  Grouped-more step keys aggregates w outcomes h = record { input = h.input; from = more h.input h.from; lists = h.lists; dealt = h.dealt; is = h.is }

  pub Shuffled-more : (rows : List Row) → Shuffled From rows → Shuffled To rows
  Shuffled-more rows h = record { input = h.input; from = more h.input h.from; is = h.is }

  pub Ordered-more : (keys : List SortKey) (rows : List Row) → Ordered keys From rows → Ordered keys To rows
  Ordered-more keys rows h = record { input = h.input; from = more h.input h.from; same = h.same; sorted = h.sorted }

  pub FirstOf-more : (count : ℕ) (keys : List SortKey) (rows : List Row) → FirstOf count keys From rows → FirstOf count keys To rows
  FirstOf-more count keys rows h = record { sorted = h.sorted; ordered = Ordered-more keys h.sorted h.ordered; is = h.is }

  pub Limited-more : (offset count : ℕ) (rows : List Row) → Limited offset count From rows → Limited offset count To rows
  Limited-more offset count rows h = record { input = h.input; from = more h.input h.from; is = h.is }

  pub RowFaults-more : (exprs : List Expr) (row : Row) (code : Fault) → RowFaults exprs From row code → RowFaults exprs To row code
  RowFaults-more exprs row code h = record { input = h.input; from = more h.input h.from; there = h.there; fault = h.fault }

  pub StopsAtRow-more : (exprs : List Expr) (row : Row) (code : Fault) → StopsAtRow exprs From row code → StopsAtRow exprs To row code
  StopsAtRow-more exprs row code h = record { input = h.input; from = more h.input h.from; place = h.place; before = h.before; there = h.there; fault = h.fault }

  pub GroupFaults-more : (step : Step) (keys : List ℕ) (aggregates : List Aggregate) (key : Row) (code : Fault) → GroupFaults step keys aggregates From key code → GroupFaults step keys aggregates To key code
  GroupFaults-more step keys aggregates key code h = record { input = h.input; from = more h.input h.from; there = h.there; fault = h.fault }

-- a list that is one of these lists begins one
pub Begins-whole : {X : Type 0} (Is : List X → Type 0) (rows : List X) → Is rows → Begins Is rows
Begins-whole Is rows h = ([], subst Is (sym (append-nil rows)) h)

-- from one list, exactly
pub only : (From : List Row → Type 0) (m : List Row) → From m → (rows : List Row) → rows ≡ m → From rows
only From m from rows is = subst From (sym is) from

-- where rows may be dealt into many lists they may be dealt into one
pub Grouped-spread : (step : Step) (keys : List ℕ) (aggregates : List Aggregate) (w : Width) (From : List Row → Type 0) (outcomes : List Outcome) → Grouped step keys aggregates One From outcomes → Grouped step keys aggregates w From outcomes
Grouped-spread step keys aggregates w From outcomes h = record { input = h.input; from = h.from; lists = h.lists; dealt = record { some = h.dealt.some; one = λ _. h.dealt.one refl; all = h.dealt.all }; is = h.is }

grouped_from-more : (w : Width) (whole begun : List Row → Type 0) → ((rows : List Row) → whole rows → begun rows) → (rows : List Row) → whole rows → grouped_from w whole begun rows
grouped_from-more One whole begun more rows h = h
grouped_from-more Many whole begun more rows h = more rows h

-- what a node makes of an answer may have come out of it
pub LineBegun-from_line : (own : Own) (source : Width) (whole begun : List Row → Type 0) → ((rows : List Row) → whole rows → begun rows) → (rows : List Row) → Line own source whole rows → LineBegun own source whole begun rows
LineBegun-from_line (filter e) source whole begun more rows h = Begins-whole (Filtered e begun) rows (Filtered-more more e rows h)
LineBegun-from_line (project exprs) source whole begun more rows h = Begins-whole (Projected exprs begun) rows (Projected-more more exprs rows h)
LineBegun-from_line (aggregation step keys aggregates) source whole begun more rows h =
    Begins-whole (Grouped step keys aggregates (spread step source) (grouped_from (spread step source) whole begun)) (map Ok rows)
    (Grouped-more (grouped_from-more (spread step source) whole begun more) step keys aggregates (spread step source) (map Ok rows) h)
LineBegun-from_line (order keys) source whole begun more rows h = Begins-whole (Ordered keys whole) rows h
LineBegun-from_line (topn count keys) source whole begun more rows h = Begins-whole (FirstOf count keys whole) rows h
LineBegun-from_line (limit offset count) source whole begun more rows h = Begins-whole (Limited offset count begun) rows (Limited-more more offset count rows h)
LineBegun-from_line (exchange kind keys) source whole begun more rows h = Begins-whole (Shuffled begun) rows (Shuffled-more more rows h)

-- an answer is begun
pub Begun-from_answer : (t : Tree) (rows : List Row) → Answers t rows → Begun t rows
Begun-from_answer (values id kinds all parallel) rows h = Begins-whole (IsPermutation all) rows h
Begun-from_answer (over id own source) rows h = LineBegun-from_line own (width_of source) (Answers source) (Begun source) (Begun-from_answer source) rows h
Begun-from_answer (join id kind left_keys right_keys left right) rows h = inl (Begins-whole (Joined (joined kind (joined_on left_keys right_keys left right)) (Answers left) (Answers right)) rows h)

Contains-cons : (x : Row) (xs : List Row) (row : Row) → Contains xs row → Contains (x ∷ xs) row
Contains-cons x xs row h = Contains-append_right (x ∷ []) xs row h

Contains-from_get : (rows : List Row) (place : ℕ) (row : Row) → slice_get rows place ≡ Some row → Contains rows row
Contains-from_get [] place row h = absurd (cc)
Contains-from_get (x ∷ xs) Prim.Native.Nat.zero row h = (0, omega arith, cc)
Contains-from_get (x ∷ xs) (Prim.Native.Nat.suc place) row h = Contains-cons x xs row (Contains-from_get xs place row h)

-- the row at which a list stops is a row of it
RowFaults-from_stop : (exprs : List Expr) (From : List Row → Type 0) (row : Row) (code : Fault) → StopsAtRow exprs From row code → RowFaults exprs From row code
RowFaults-from_stop exprs From row code h = record { input = h.input; from = h.from; there = Contains-from_get h.input h.place row h.there; fault = h.fault }

LineFaults-from_stop : (own : Own) (whole begun : List Row → Type 0) → ((rows : List Row) → whole rows → begun rows) → (row : Row) (code : Fault) → LineStops own whole row code → LineFaults own whole begun row code
LineFaults-from_stop (filter e) whole begun more row code h = RowFaults-more more (e ∷ []) row code (RowFaults-from_stop (e ∷ []) whole row code h)
LineFaults-from_stop (project exprs) whole begun more row code h = RowFaults-more more exprs row code (RowFaults-from_stop exprs whole row code h)
LineFaults-from_stop (aggregation step keys aggregates) whole begun more row code h = h
LineFaults-from_stop (order keys) whole begun more row code h = h
LineFaults-from_stop (topn count keys) whole begun more row code h = h
LineFaults-from_stop (limit offset count) whole begun more row code h = h
LineFaults-from_stop (exchange kind keys) whole begun more row code h = h

-- the first fault in post-order is a fault that the plan can meet
pub Faulty-from_first : (t : Tree) (at : ℕ) (row : Row) (code : Fault) → IsFirstFault t at row code → Faulty t at row code
Faulty-from_first (values id kinds all parallel) at row code h = h
Faulty-from_first (over id own source) at row code (inl below) = inr (Faulty-from_first source at row code below)
Faulty-from_first (over id own source) at row code (inr here) = inl (here.0, LineFaults-from_stop own (Answers source) (Begun source) (Begun-from_answer source) row code here.1)
Faulty-from_first (join id kind left_keys right_keys left right) at row code (inl below) = inl (Faulty-from_first left at row code below)
Faulty-from_first (join id kind left_keys right_keys left right) at row code (inr later) = inr (Faulty-from_first right at row code later.1)

-- a fault of a source is a fault of the plan
pub Faulty-from_source : (id : ℕ) (own : Own) (source : Tree) (at : ℕ) (row : Row) (code : Fault) → Faulty source at row code → Faulty (over id own source) at row code
Faulty-from_source id own source at row code h = inr h

pub Faulty-from_left : (id : ℕ) (kind : JoinKind) (left_keys right_keys : List ℕ) (left right : Tree) (at : ℕ) (row : Row) (code : Fault) → Faulty left at row code → Faulty (join id kind left_keys right_keys left right) at row code
Faulty-from_left id kind left_keys right_keys left right at row code h = inl h

pub Faulty-from_right : (id : ℕ) (kind : JoinKind) (left_keys right_keys : List ℕ) (left right : Tree) (at : ℕ) (row : Row) (code : Fault) → Faulty right at row code → Faulty (join id kind left_keys right_keys left right) at row code
Faulty-from_right id kind left_keys right_keys left right at row code h = inr h
