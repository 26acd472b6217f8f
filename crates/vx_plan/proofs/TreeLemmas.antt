-- A node's tree, for each of its nine forms.
use Rattle.std.proofs.Common.{◌≡◌, ℕ, List, Bool, ap, sym, ◌∙◌, refl}
use Rattle.vx_value.specs.declared.value.Kind.{Kind}
use Rattle.vx_value.specs.declared.value.Value.{Value}
use Rattle.vx_value.specs.declared.sorting.SortKey.{SortKey}
use Rattle.vx_expr.specs.declared.expression.Expr.{Expr}
use Rattle.vx_plan.specs.declared.aggregate.Step.{Step}
use Rattle.vx_plan.specs.declared.aggregate.Aggregate.{Aggregate}
use Rattle.vx_plan.specs.declared.node.JoinKind.{JoinKind}
use Rattle.vx_plan.specs.declared.node.ExchangeKind.{ExchangeKind}
use Rattle.vx_plan.specs.declared.node.Node.{Node, fold_out-Node, outs-Node', Node-F}
use Rattle.vx_plan.specs.declared.node.Body.{Body, fold-Body, fold-roll-Body, out-Body}
use Rattle.vx_plan.specs.declared.node.Body.TheFolds.{map-Node, map-Body, fold_out-Body}
use Rattle.vx_plan.specs.declared.node.Body.TheVariants.{Values, Filter, Project, Aggregation, Join, Order, TopN, Limit, Exchange, rolls-Values, rolls-Filter, rolls-Project, rolls-Aggregation, rolls-Join, rolls-Order, rolls-TopN, rolls-Limit, rolls-Exchange}
use Rattle.vx_plan.specs.declared.node.Body.TheOpen.{Body-F}
use Rattle.vx_plan.specs.Tree.{Tree, tree, id_of, body_step, node_step, values, over, join, filter, project, aggregation, order, topn, limit, exchange}

abbrev of_body : Body → ℕ → Tree
of_body = fold-Body (ℕ → Tree) Tree body_step node_step

of_node : (n : Node) → tree n ≡ of_body n.body n.id
of_node n = fold_out-Node (ℕ → Tree) Tree body_step node_step n ∙ ap (λ (x : Node-F Body Node). node_step (map-Node Body Node (ℕ → Tree) Tree of_body tree x)) (outs-Node' n)

body-Values : (kinds : List Kind) (rows : List (List Value)) (parallel : Bool) → of_body (Values kinds rows parallel) ≡ body_step (Body-F.Values kinds rows parallel)
body-Values kinds rows parallel = ap of_body (sym (rolls-Values kinds rows parallel)) ∙ fold-roll-Body (ℕ → Tree) Tree body_step node_step (Body-F.Values kinds rows parallel)

pub tree-Values : (n : Node) (kinds : List Kind) (rows : List (List Value)) (parallel : Bool) → n.body ≡ Values kinds rows parallel → tree n ≡ values n.id kinds rows parallel
tree-Values n kinds rows parallel is = of_node n ∙ ap (λ b. of_body b n.id) is ∙ ap (λ (f : ℕ → Tree). f n.id) (body-Values kinds rows parallel)

body-Filter : (e : Expr) (s : Node) → of_body (Filter e s) ≡ body_step (Body-F.Filter e (tree s))
body-Filter e s = ap of_body (sym (rolls-Filter e s)) ∙ fold-roll-Body (ℕ → Tree) Tree body_step node_step (Body-F.Filter e s)

pub tree-Filter : (n : Node) (e : Expr) (s : Node) → n.body ≡ Filter e s → tree n ≡ over n.id (filter e) (tree s)
tree-Filter n e s is = of_node n ∙ ap (λ b. of_body b n.id) is ∙ ap (λ (f : ℕ → Tree). f n.id) (body-Filter e s)

body-Project : (es : List Expr) (s : Node) → of_body (Project es s) ≡ body_step (Body-F.Project es (tree s))
body-Project es s = ap of_body (sym (rolls-Project es s)) ∙ fold-roll-Body (ℕ → Tree) Tree body_step node_step (Body-F.Project es s)

pub tree-Project : (n : Node) (es : List Expr) (s : Node) → n.body ≡ Project es s → tree n ≡ over n.id (project es) (tree s)
tree-Project n es s is = of_node n ∙ ap (λ b. of_body b n.id) is ∙ ap (λ (f : ℕ → Tree). f n.id) (body-Project es s)

body-Aggregation : (step : Step) (keys : List ℕ) (aggregates : List Aggregate) (s : Node) → of_body (Aggregation step keys aggregates s) ≡ body_step (Body-F.Aggregation step keys aggregates (tree s))
body-Aggregation step keys aggregates s = ap of_body (sym (rolls-Aggregation step keys aggregates s)) ∙ fold-roll-Body (ℕ → Tree) Tree body_step node_step (Body-F.Aggregation step keys aggregates s)

pub tree-Aggregation : (n : Node) (step : Step) (keys : List ℕ) (aggregates : List Aggregate) (s : Node) → n.body ≡ Aggregation step keys aggregates s → tree n ≡ over n.id (aggregation step keys aggregates) (tree s)
tree-Aggregation n step keys aggregates s is = of_node n ∙ ap (λ b. of_body b n.id) is ∙ ap (λ (f : ℕ → Tree). f n.id) (body-Aggregation step keys aggregates s)

body-Join : (kind : JoinKind) (on_left : List ℕ) (on_right : List ℕ) (l : Node) (r : Node) → of_body (Join kind on_left on_right l r) ≡ body_step (Body-F.Join kind on_left on_right (tree l) (tree r))
body-Join kind on_left on_right l r = ap of_body (sym (rolls-Join kind on_left on_right l r)) ∙ fold-roll-Body (ℕ → Tree) Tree body_step node_step (Body-F.Join kind on_left on_right l r)

pub tree-Join : (n : Node) (kind : JoinKind) (on_left : List ℕ) (on_right : List ℕ) (l : Node) (r : Node) → n.body ≡ Join kind on_left on_right l r → tree n ≡ join n.id kind on_left on_right (tree l) (tree r)
tree-Join n kind on_left on_right l r is = of_node n ∙ ap (λ b. of_body b n.id) is ∙ ap (λ (f : ℕ → Tree). f n.id) (body-Join kind on_left on_right l r)

body-Order : (keys : List SortKey) (s : Node) → of_body (Order keys s) ≡ body_step (Body-F.Order keys (tree s))
body-Order keys s = ap of_body (sym (rolls-Order keys s)) ∙ fold-roll-Body (ℕ → Tree) Tree body_step node_step (Body-F.Order keys s)

pub tree-Order : (n : Node) (keys : List SortKey) (s : Node) → n.body ≡ Order keys s → tree n ≡ over n.id (order keys) (tree s)
tree-Order n keys s is = of_node n ∙ ap (λ b. of_body b n.id) is ∙ ap (λ (f : ℕ → Tree). f n.id) (body-Order keys s)

body-TopN : (count : ℕ) (keys : List SortKey) (s : Node) → of_body (TopN count keys s) ≡ body_step (Body-F.TopN count keys (tree s))
body-TopN count keys s = ap of_body (sym (rolls-TopN count keys s)) ∙ fold-roll-Body (ℕ → Tree) Tree body_step node_step (Body-F.TopN count keys s)

pub tree-TopN : (n : Node) (count : ℕ) (keys : List SortKey) (s : Node) → n.body ≡ TopN count keys s → tree n ≡ over n.id (topn count keys) (tree s)
tree-TopN n count keys s is = of_node n ∙ ap (λ b. of_body b n.id) is ∙ ap (λ (f : ℕ → Tree). f n.id) (body-TopN count keys s)

body-Limit : (offset : ℕ) (count : ℕ) (s : Node) → of_body (Limit offset count s) ≡ body_step (Body-F.Limit offset count (tree s))
body-Limit offset count s = ap of_body (sym (rolls-Limit offset count s)) ∙ fold-roll-Body (ℕ → Tree) Tree body_step node_step (Body-F.Limit offset count s)

pub tree-Limit : (n : Node) (offset : ℕ) (count : ℕ) (s : Node) → n.body ≡ Limit offset count s → tree n ≡ over n.id (limit offset count) (tree s)
tree-Limit n offset count s is = of_node n ∙ ap (λ b. of_body b n.id) is ∙ ap (λ (f : ℕ → Tree). f n.id) (body-Limit offset count s)

body-Exchange : (kind : ExchangeKind) (keys : List ℕ) (s : Node) → of_body (Exchange kind keys s) ≡ body_step (Body-F.Exchange kind keys (tree s))
body-Exchange kind keys s = ap of_body (sym (rolls-Exchange kind keys s)) ∙ fold-roll-Body (ℕ → Tree) Tree body_step node_step (Body-F.Exchange kind keys s)

pub tree-Exchange : (n : Node) (kind : ExchangeKind) (keys : List ℕ) (s : Node) → n.body ≡ Exchange kind keys s → tree n ≡ over n.id (exchange kind keys) (tree s)
tree-Exchange n kind keys s is = of_node n ∙ ap (λ b. of_body b n.id) is ∙ ap (λ (f : ℕ → Tree). f n.id) (body-Exchange kind keys s)

id_of_step : (f : Body-F (ℕ → Tree) Tree) (id : ℕ) → id_of (body_step f id) ≡ id
id_of_step (Body-F.Values kinds rows parallel) id = refl
id_of_step (Body-F.Filter e s) id = refl
id_of_step (Body-F.Project es s) id = refl
id_of_step (Body-F.Aggregation step keys aggregates s) id = refl
id_of_step (Body-F.Join kind on_left on_right l r) id = refl
id_of_step (Body-F.Order keys s) id = refl
id_of_step (Body-F.TopN count keys s) id = refl
id_of_step (Body-F.Limit offset count s) id = refl
id_of_step (Body-F.Exchange kind keys s) id = refl

-- a tree has its node's id
pub id_of_tree : (n : Node) → id_of (tree n) ≡ n.id
id_of_tree n =
    ap id_of (of_node n)
    ∙ ap (λ (f : ℕ → Tree). id_of (f n.id)) (fold_out-Body (ℕ → Tree) Tree body_step node_step n.body)
    ∙ id_of_step (map-Body Body Node (ℕ → Tree) Tree of_body tree (out-Body n.body)) n.id
