-- The nodes of a plan file, read in pre-order.
use Rattle.std.specs.Prelude.{ℕ, zero, suc, Bool, false, if◌then◌else◌, List, [], ◌∷◌, length, codes, Option, Some, None, option_and_then, Result, Ok, nat_le}
use Rattle.serde_json.specs.Data.{Data}
use Rattle.serde_json.specs.Find.{get, as_str}
use Rattle.vx_value.specs.declared.sorting.SortKey.{SortKey}
use Rattle.vx_plan.specs.declared.aggregate.Aggregate.{Aggregate}
use Rattle.vx_plan.specs.declared.node.Node.{Node}
use Rattle.vx_plan.specs.declared.node.Body.{Body}
use Rattle.vx_plan.specs.declared.node.Body.TheVariants as body
use Rattle.vx_plan.specs.declared.node.ExchangeKind.{ExchangeKind}
use Rattle.vx_plan.specs.declared.node.ExchangeKind.TheVariants.{Gather, Hash}
use Rattle.vx_json.specs.declared.front.Opened.{Opened}
use Rattle.vx_json.specs.declared.front.Front.{Front}
use Rattle.vx_json.specs.declared.front.Front.TheVariants as front
use Rattle.vx_json.specs.declared.front.Work.{Work}
use Rattle.vx_json.specs.declared.front.Work.TheVariants as work
use Rattle.vx_json.specs.declared.lists.Count.{Count}
use Rattle.vx_json.specs.declared.lists.Count.TheVariants.{Any, NotEmpty, OneOrTwo, Exactly}
use Rattle.vx_json.specs.declared.words.NodeWord.{NodeWord}
use Rattle.vx_json.specs.declared.words.NodeWord.TheVariants as node
use Rattle.vx_json.specs.Place.{Said, at_field, at_item, misfit, and_then}
use Rattle.vx_json.specs.Lists.{or_misfit, items_at, item_of, list_at}
use Rattle.vx_json.specs.Words.{word_at, or_unknown, named, nodes, steps, joins, exchanges, aggregates, directions, null_places}
use Rattle.vx_json.specs.Fields.{has, has_only, part, small_at, count_at, bool_at}
use Rattle.vx_json.specs.Cells.{kinds_at, rows_at}
use Rattle.vx_json.specs.Expressions.{expr_at, exprs_at}

-- ---- parts of nodes

abbrev pub columns_at : Count → List ℕ → Data → Result (List ℕ) Said
columns_at count path d = list_at count (λ _. small_at) path d

-- `[column, "asc" or "desc", "first" or "last"]`
abbrev pub sort_key_at : List ℕ → Data → Result SortKey Said
sort_key_at path d =
    and_then (items_at (Exactly 3) path d) (λ ds.
    and_then (small_at (at_item path 0) (item_of ds 0)) (λ column.
    and_then (word_at directions (at_item path 1) (item_of ds 1)) (λ descending.
    and_then (word_at null_places (at_item path 2) (item_of ds 2)) (λ nulls_first.
    Ok (record { column = column; descending = descending; nulls_first = nulls_first })))))

abbrev pub sort_keys_at : List ℕ → Data → Result (List SortKey) Said
sort_keys_at path d = list_at NotEmpty (λ _. sort_key_at) path d

-- the column of an aggregate, if its list has one
abbrev pub argument_of : List ℕ → List Data → Result (Option ℕ) Said
argument_of path ds =
    if nat_le (length ds) 1 then Ok None
    else and_then (small_at (at_item path 1) (item_of ds 1)) (λ column. Ok (Some column))

-- `[name]` or `[name, column]`
abbrev pub aggregate_at : List ℕ → Data → Result Aggregate Said
aggregate_at path d =
    and_then (items_at OneOrTwo path d) (λ ds.
    and_then (word_at aggregates (at_item path 0) (item_of ds 0)) (λ name.
    and_then (argument_of path ds) (λ column.
    Ok (record { name = name; column = column }))))

abbrev pub aggregates_at : List ℕ → Data → Result (List Aggregate) Said
aggregates_at path d = list_at Any (λ _. aggregate_at) path d

-- true or false, and false where the field isn't there
abbrev pub parallel_at : List ℕ → Data → Result Bool Said
parallel_at path d = if has d (codes "parallel") then part (codes "parallel") bool_at path d else Ok false

-- ---- a node's own part, by its word, field by field

abbrev pub values_at : List ℕ → Data → Result Front Said
values_at path d =
    and_then (part (codes "kinds") kinds_at path d) (λ kinds.
    and_then (part (codes "rows") (rows_at kinds) path d) (λ rows.
    and_then (parallel_at path d) (λ parallel.
    Ok (front.Values kinds rows parallel))))

-- the same as a body
abbrev pub values_body_at : List ℕ → Data → Result Body Said
values_body_at path d =
    and_then (part (codes "kinds") kinds_at path d) (λ kinds.
    and_then (part (codes "rows") (rows_at kinds) path d) (λ rows.
    and_then (parallel_at path d) (λ parallel.
    Ok (body.Values kinds rows parallel))))

-- how many levels of JSON an expression may have, as many as the reader of JSON takes
abbrev pub most_levels : ℕ
most_levels = 128

abbrev pub filter_at : List ℕ → Data → Result Work Said
filter_at path d = and_then (part (codes "predicate") (expr_at most_levels) path d) (λ predicate. Ok (work.Filter predicate))

abbrev pub project_at : List ℕ → Data → Result Work Said
project_at path d = and_then (part (codes "exprs") (exprs_at most_levels) path d) (λ exprs. Ok (work.Project exprs))

abbrev pub aggregation_at : List ℕ → Data → Result Work Said
aggregation_at path d =
    and_then (part (codes "step") (word_at steps) path d) (λ step.
    and_then (part (codes "keys") (columns_at Any) path d) (λ keys.
    and_then (part (codes "aggregates") aggregates_at path d) (λ aggregates.
    Ok (work.Aggregation step keys aggregates))))

abbrev pub join_at : List ℕ → Data → Result Front Said
join_at path d =
    and_then (part (codes "kind") (word_at joins) path d) (λ kind.
    and_then (part (codes "left_keys") (columns_at NotEmpty) path d) (λ left_keys.
    and_then (part (codes "right_keys") (columns_at NotEmpty) path d) (λ right_keys.
    Ok (front.Join kind left_keys right_keys))))

abbrev pub order_at : List ℕ → Data → Result Work Said
order_at path d = and_then (part (codes "keys") sort_keys_at path d) (λ keys. Ok (work.Order keys))

abbrev pub topn_at : List ℕ → Data → Result Work Said
topn_at path d =
    and_then (part (codes "count") count_at path d) (λ count.
    and_then (part (codes "keys") sort_keys_at path d) (λ keys.
    Ok (work.TopN count keys)))

abbrev pub limit_at : List ℕ → Data → Result Work Said
limit_at path d =
    and_then (part (codes "offset") count_at path d) (λ offset.
    and_then (part (codes "count") count_at path d) (λ count.
    Ok (work.Limit offset count)))

-- a gather has no keys, a hash at least one
abbrev pub exchange_keys : ExchangeKind → Count
exchange_keys Gather = Exactly 0
exchange_keys Hash = NotEmpty

abbrev pub exchange_at : List ℕ → Data → Result Work Said
exchange_at path d =
    and_then (part (codes "kind") (word_at exchanges) path d) (λ kind.
    and_then (part (codes "keys") (columns_at (exchange_keys kind)) path d) (λ keys.
    Ok (work.Exchange kind keys)))

-- the part of a node that has one source
abbrev pub over : Result Work Said → Result Front Said
over read = and_then read (λ work. Ok (front.Over work))

abbrev pub front_at : NodeWord → List ℕ → Data → Result Front Said
front_at node.Values path d = values_at path d
front_at node.Filter path d = over (filter_at path d)
front_at node.Project path d = over (project_at path d)
front_at node.Aggregation path d = over (aggregation_at path d)
front_at node.Join path d = join_at path d
front_at node.Order path d = over (order_at path d)
front_at node.TopN path d = over (topn_at path d)
front_at node.Limit path d = over (limit_at path d)
front_at node.Exchange path d = over (exchange_at path d)

-- ---- a node: its word, its fields, its number, its own part, its sources

-- the fields that a node must have beside `node` and `id`
abbrev pub fields_of : NodeWord → List (List ℕ)
fields_of node.Values = codes "kinds" ∷ codes "rows" ∷ []
fields_of node.Filter = codes "predicate" ∷ codes "source" ∷ []
fields_of node.Project = codes "exprs" ∷ codes "source" ∷ []
fields_of node.Aggregation = codes "step" ∷ codes "keys" ∷ codes "aggregates" ∷ codes "source" ∷ []
fields_of node.Join = codes "kind" ∷ codes "left_keys" ∷ codes "right_keys" ∷ codes "left" ∷ codes "right" ∷ []
fields_of node.Order = codes "keys" ∷ codes "source" ∷ []
fields_of node.TopN = codes "count" ∷ codes "keys" ∷ codes "source" ∷ []
fields_of node.Limit = codes "offset" ∷ codes "count" ∷ codes "source" ∷ []
fields_of node.Exchange = codes "kind" ∷ codes "keys" ∷ codes "source" ∷ []

-- the fields that it may have
abbrev pub optional_of : NodeWord → List (List ℕ)
optional_of node.Values = codes "parallel" ∷ []
optional_of _ = []

-- the word of a node, a string in an object
abbrev pub node_word : List ℕ → Data → Result NodeWord Said
node_word path d =
    and_then (or_misfit path (option_and_then as_str (get (codes "node") d))) (λ word.
    or_unknown (at_field path (codes "node")) (named nodes word))

-- all fields of a node of this word, and no others
abbrev pub has_fields : NodeWord → Data → Bool
has_fields word d = has_only (codes "node" ∷ codes "id" ∷ fields_of word) (optional_of word) d

-- the word of a node that has the word's fields
abbrev pub node_form : List ℕ → Data → Result NodeWord Said
node_form path d = and_then (node_word path d) (λ word. if has_fields word d then Ok word else misfit path)

abbrev pub work_over : Work → Node → Body
work_over (work.Filter predicate) source = body.Filter predicate source
work_over (work.Project exprs) source = body.Project exprs source
work_over (work.Aggregation step keys aggregates) source = body.Aggregation step keys aggregates source
work_over (work.Order keys) source = body.Order keys source
work_over (work.TopN count keys) source = body.TopN count keys source
work_over (work.Limit offset count) source = body.Limit offset count source
work_over (work.Exchange kind keys) source = body.Exchange kind keys source

-- a body, its sources being read in this way, left before right
abbrev pub body_at : (List ℕ → Data → Result Node Said) → Front → List ℕ → Data → Result Body Said
body_at reads (front.Values kinds rows parallel) path d = Ok (body.Values kinds rows parallel)
body_at reads (front.Over work) path d = and_then (part (codes "source") reads path d) (λ source. Ok (work_over work source))
body_at reads (front.Join kind left_keys right_keys) path d =
    and_then (part (codes "left") reads path d) (λ left.
    and_then (part (codes "right") reads path d) (λ right.
    Ok (body.Join kind left_keys right_keys left right)))

-- a node's number and own part
abbrev pub opened_at : List ℕ → Data → Result Opened Said
opened_at path d =
    and_then (node_form path d) (λ word.
    and_then (part (codes "id") small_at path d) (λ id.
    and_then (front_at word path d) (λ own.
    Ok (record { id = id; front = own }))))

-- a values node that has the form of one
abbrev pub values_node_at : List ℕ → Data → Result Node Said
values_node_at path d =
    and_then (part (codes "id") small_at path d) (λ id.
    and_then (values_body_at path d) (λ body.
    Ok (record { id = id; body = body })))

-- a node with at most so many levels of nodes
unfoldable pub node_at : ℕ → List ℕ → Data → Result Node Said
node_at zero path d = misfit path
node_at (suc levels) path d =
    and_then (opened_at path d) (λ opened.
    and_then (body_at (node_at levels) opened.front path d) (λ body.
    Ok (record { id = opened.id; body = body })))
