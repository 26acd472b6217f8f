-- The kinds of the columns that a node gives, or why the first node that doesn't type has none.
use Rattle.std.specs.Prelude.{ℕ, ◌+◌, Bool, true, false, ◌&&◌, if◌then◌else◌, nat_eq, List, [], ◌∷◌, ◌++◌, length, map, slice_get, Option, Some, None, Result, Ok, Err}
use Rattle.std.specs.List.{list_all}
use Rattle.vx_value.specs.declared.value.Kind.{Kind}
use Rattle.vx_value.specs.declared.value.Kind.TheVariants.{Bool as Truths, Int}
use Rattle.vx_expr.specs.declared.outcome.TypeError.{TypeError}
use Rattle.vx_expr.specs.declared.outcome.TypeError.TheVariants.{T2, T3, T4}
use Rattle.vx_expr.specs.Typing.{Typed, type_of, kind_at, all_kinds, is_same}
use Rattle.vx_plan.specs.declared.aggregate.Step.{Step}
use Rattle.vx_plan.specs.declared.aggregate.Step.TheVariants.{Single, Partial, Final}
use Rattle.vx_plan.specs.declared.aggregate.AggregateName.{AggregateName}
use Rattle.vx_plan.specs.declared.aggregate.AggregateName.TheVariants.{Count, Sum, Min, Max, BoolAnd, BoolOr}
use Rattle.vx_plan.specs.declared.aggregate.Aggregate.{Aggregate}
use Rattle.vx_plan.specs.declared.node.JoinKind.{JoinKind}
use Rattle.vx_plan.specs.declared.node.JoinKind.TheVariants.{Semi, Anti}
use Rattle.vx_plan.specs.declared.refusal.Refusal.{Refusal}
use Rattle.vx_plan.specs.declared.refusal.Refusal.TheVariants.{P4}
use Rattle.vx_plan.specs.Outcome.{on_ok}
use Rattle.vx_plan.specs.Tree.{Tree, values, over, join, Own, filter, project, aggregation, order, topn, limit, exchange}

-- the kinds of columns, or a refusal
abbrev pub Kinds : Type 0
Kinds = Result (List Kind) TypeError

-- the kinds at some columns; T1 where one isn't there
abbrev pub kinds_at : List Kind → List ℕ → Kinds
kinds_at kinds places = all_kinds (map (λ place. kind_at (slice_get kinds place)) places)

-- T1 where one of these columns isn't there
abbrev pub are_there : List Kind → List ℕ → Result Unit TypeError
are_there kinds [] = Ok tt
are_there kinds (place ∷ places) = on_ok (kind_at (slice_get kinds place)) (λ _. are_there kinds places)

-- ---- aggregates

-- the columns that an aggregate reads: a final sum has two, count may have none before a final
abbrev pub reads : Step → AggregateName → Option ℕ → Result (List ℕ) TypeError
reads Final Sum (Some c) = Ok (c ∷ (c + 1) ∷ [])
reads step name (Some c) = Ok (c ∷ [])
reads Single Count None = Ok []
reads Partial Count None = Ok []
reads step name None = Err T4

-- the kind that it reads, where only one will do
abbrev pub wants : Step → AggregateName → Option Kind
wants Final Count = Some Int
wants step Count = None
wants step Sum = Some Int
wants step Min = None
wants step Max = None
wants step BoolAnd = Some Truths
wants step BoolOr = Some Truths

abbrev pub is_wanted : Option Kind → Kind → Bool
is_wanted None kind = true
is_wanted (Some wanted) kind = is_same kind wanted

-- the kinds that it gives, from those that it reads: a partial sum is its high and its low
abbrev pub gives : Step → AggregateName → List Kind → List Kind
gives step Count kinds = Int ∷ []
gives Partial Sum kinds = Int ∷ Int ∷ []
gives step Sum kinds = Int ∷ []
gives step Min kinds = kinds
gives step Max kinds = kinds
gives step BoolAnd kinds = Truths ∷ []
gives step BoolOr kinds = Truths ∷ []

-- what an aggregate gives from these columns
abbrev pub aggregate_from : Step → AggregateName → List Kind → List ℕ → Kinds
aggregate_from step name kinds places =
    on_ok (kinds_at kinds places) (λ read.
    if list_all (is_wanted (wants step name)) read then Ok (gives step name read) else Err T2)

-- a wrong number of arguments is asked first, then that the columns are there, then their kinds
abbrev pub aggregate_kinds : Step → List Kind → Aggregate → Kinds
aggregate_kinds step kinds a = on_ok (reads step a.name a.column) (aggregate_from step a.name kinds)

-- all of these, one after another, or the leftmost refusal
abbrev pub all_in_order : List Kinds → Kinds
all_in_order [] = Ok []
all_in_order (k ∷ ks) = on_ok k (λ front. on_ok (all_in_order ks) (λ rest. Ok (front ++ rest)))

-- the keys, then the aggregates in order
abbrev pub kinds_grouped : Step → List ℕ → List Aggregate → List Kind → Kinds
kinds_grouped step keys aggregates kinds =
    on_ok (kinds_at kinds keys) (λ front.
    on_ok (all_in_order (map (aggregate_kinds step kinds) aggregates)) (λ rest. Ok (front ++ rest)))

-- ---- nodes over kinds of their sources

abbrev pub is_predicate : Typed → Result Unit TypeError
is_predicate t = on_ok t (λ kind. if is_same kind Truths then Ok tt else Err T2)

abbrev pub kinds_over : Own → List Kind → Kinds
kinds_over (filter predicate) kinds = on_ok (is_predicate (type_of predicate kinds)) (λ _. Ok kinds)
kinds_over (project es) kinds = all_kinds (map (λ e. type_of e kinds) es)
kinds_over (aggregation step keys aggregates) kinds = kinds_grouped step keys aggregates kinds
kinds_over (order keys) kinds = on_ok (are_there kinds (map (λ key. key.column) keys)) (λ _. Ok kinds)
kinds_over (topn count keys) kinds = on_ok (are_there kinds (map (λ key. key.column) keys)) (λ _. Ok kinds)
kinds_over (limit offset count) kinds = Ok kinds
kinds_over (exchange kind keys) kinds = on_ok (are_there kinds keys) (λ _. Ok kinds)

abbrev pub is_same_at : Option Kind → Option Kind → Bool
is_same_at (Some a) (Some b) = is_same a b
is_same_at _ _ = false

-- whether the keys' columns are of one kind, pair by pair
abbrev pub are_pairs_same : List Kind → List Kind → List ℕ → List ℕ → Bool
are_pairs_same left right (a ∷ on_left) (b ∷ on_right) =
    is_same_at (slice_get left a) (slice_get right b) && are_pairs_same left right on_left on_right
are_pairs_same left right _ _ = true

-- a semi or an anti join gives left columns alone
abbrev pub joined : {A : Type 0} → JoinKind → List A → List A → List A
joined Semi left right = left
joined Anti left right = left
joined _ left right = left ++ right

-- key lists of different length are T4; then the columns, left before right; then pairs of different kinds
abbrev pub kinds_joined : JoinKind → List ℕ → List ℕ → List Kind → List Kind → Kinds
kinds_joined kind on_left on_right left right =
    if nat_eq (length on_left) (length on_right) then
    on_ok (are_there left on_left) (λ _.
    on_ok (are_there right on_right) (λ _.
    if are_pairs_same left right on_left on_right then Ok (joined kind left right) else Err T3))
    else Err T4

-- ---- plans

-- a refusal names its node
abbrev pub named : ℕ → Kinds → Result (List Kind) Refusal
named id (Ok kinds) = Ok kinds
named id (Err error) = Err (P4 id error)

-- a node's kinds; sources come before it, left before right
abbrev pub typed : Tree → Result (List Kind) Refusal
typed (values id kinds rows parallel) = Ok kinds
typed (over id own source) = on_ok (typed source) (λ kinds. named id (kinds_over own kinds))
typed (join id kind on_left on_right left right) =
    on_ok (typed left) (λ a. on_ok (typed right) (λ b. named id (kinds_joined kind on_left on_right a b)))

-- the first node in post-order that doesn't type refuses
abbrev pub check_types : Tree → Result Unit Refusal
check_types t = on_ok (typed t) (λ _. Ok tt)
