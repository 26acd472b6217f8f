-- A plan as plain data: a node has no source, one, or two.
use Rattle.std.specs.Prelude.{ℕ, Bool, List, [], ◌∷◌, ◌++◌}
use Rattle.vx_value.specs.declared.value.Kind.{Kind}
use Rattle.vx_value.specs.declared.value.Value.{Value}
use Rattle.vx_value.specs.declared.sorting.SortKey.{SortKey}
use Rattle.vx_expr.specs.declared.expression.Expr.{Expr}
use Rattle.vx_plan.specs.declared.aggregate.Step.{Step}
use Rattle.vx_plan.specs.declared.aggregate.Aggregate.{Aggregate}
use Rattle.vx_plan.specs.declared.node.JoinKind.{JoinKind}
use Rattle.vx_plan.specs.declared.node.ExchangeKind.{ExchangeKind}
use Rattle.vx_plan.specs.declared.node.Node.{Node, fold-Node}
use Rattle.vx_plan.specs.declared.node.Body.TheOpen.{Body-F, Node-F}

-- what a node with one source does
pub data Own : Type 0 where
  filter : Expr → Own
  project : List Expr → Own
  aggregation : Step → List ℕ → List Aggregate → Own
  order : List SortKey → Own
  topn : ℕ → List SortKey → Own
  limit : ℕ → ℕ → Own
  exchange : ExchangeKind → List ℕ → Own

-- a node by its id: values, a node over its source, or a join of a left and a right source
pub data Tree : Type 0 where
  values : ℕ → List Kind → List (List Value) → Bool → Tree
  over : ℕ → Own → Tree → Tree
  join : ℕ → JoinKind → List ℕ → List ℕ → Tree → Tree → Tree

-- what a body's tree is for each id, where its sources have theirs
abbrev pub body_step : Body-F (ℕ → Tree) Tree → ℕ → Tree
body_step (Body-F.Values kinds rows parallel) id = values id kinds rows parallel
body_step (Body-F.Filter e source) id = over id (filter e) source
body_step (Body-F.Project es source) id = over id (project es) source
body_step (Body-F.Aggregation step keys aggregates source) id = over id (aggregation step keys aggregates) source
body_step (Body-F.Join kind on_left on_right left right) id = join id kind on_left on_right left right
body_step (Body-F.Order keys source) id = over id (order keys) source
body_step (Body-F.TopN count keys source) id = over id (topn count keys) source
body_step (Body-F.Limit offset count source) id = over id (limit offset count) source
body_step (Body-F.Exchange kind keys source) id = over id (exchange kind keys) source

abbrev pub node_step : Node-F (ℕ → Tree) Tree → Tree
node_step n = n.body n.id

-- a node and what lies below it
abbrev pub tree : Node → Tree
tree = fold-Node (ℕ → Tree) Tree body_step node_step

-- a node's number
abbrev pub id_of : Tree → ℕ
id_of (values id kinds rows parallel) = id
id_of (over id own source) = id
id_of (join id kind on_left on_right left right) = id

-- the nodes, each before its sources, left before right
abbrev pub pre_order : Tree → List Tree
pre_order (values id kinds rows parallel) = values id kinds rows parallel ∷ []
pre_order (over id own source) = over id own source ∷ pre_order source
pre_order (join id kind on_left on_right left right) = join id kind on_left on_right left right ∷ (pre_order left ++ pre_order right)
