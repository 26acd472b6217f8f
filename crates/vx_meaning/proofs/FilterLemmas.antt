-- What a filter makes of its source's rows is an answer of its tree, and where it stops that is the first fault.
use Rattle.std.proofs.Common.{◌≡◌, ℕ, List, [], ◌∷◌, sym, ◌∙◌, ap, subst, inr, Result, Ok, Err, IfOk, IfErr, Vec, Global}
use Rattle.vx_value.specs.Row.{Row}
use Rattle.vx_expr.specs.declared.expression.Expr.{Expr}
use Rattle.vx_plan.specs.declared.node.Node.{Node}
use Rattle.vx_plan.specs.Tree.{Tree, tree, over, filter}
use Rattle.vx_meaning.specs.Answer.{Answers}
use Rattle.vx_meaning.specs.Faulty.{IsFirstFault}
use Rattle.vx_meaning.specs.Lines.{Filtered}
use Rattle.vx_meaning.specs.Stopped.{Exactly, StopsAmong, IfFault}
use Rattle.vx_meaning.specs.declared.outcome.Stop.{Stop}
use Rattle.vx_meaning.specs.declared.outcome.Stop.TheVariants.{Fault, NoMemory}
use Rattle.vx_meaning.proofs.LineLaws.{only, Filtered-more, StopsAtRow-more}

-- the tree of a filter whose parts were taken out of its body
pub filter-tree : (t : Tree) (id : ℕ) (e e' : Expr) (s s' s'' : Node) → t ≡ over id (filter e) (tree s) → e' ≡ e → s' ≡ s → s'' ≡ s' → t ≡ over id (filter e') (tree s'')
filter-tree t id e e' s s' s'' is same taken inner = is ∙ ap (λ x. over id (filter x) (tree s)) (sym same) ∙ ap (λ x. over id (filter e') (tree x)) (sym taken ∙ sym inner)

pub filter-rows : (t : Tree) (id : ℕ) (e : Expr) (source : Tree) (below : List Row) (result : Result (Vec Row Global) Stop) → t ≡ over id (filter e) source → Answers source below
    → IfOk result (λ rows. Filtered e (Exactly below) rows.items) → IfOk result (λ rows. Answers t rows.items)
filter-rows t id e source below (Ok rows) is from gives = subst (λ t. Answers t rows.items) (sym is) (Filtered-more (only (Answers source) below from) e rows.items gives)
filter-rows t id e source below (Err stop) is from gives = tt

pub filter-stop : (t : Tree) (id : ℕ) (e : Expr) (source : Tree) (below : List Row) (result : Result (Vec Row Global) Stop) → t ≡ over id (filter e) source → Answers source below
    → IfErr result (IfFault (StopsAmong id (e ∷ []) below)) → IfErr result (IfFault (IsFirstFault t))
filter-stop t id e source below (Ok rows) is from stops = tt
filter-stop t id e source below (Err NoMemory) is from stops = tt
filter-stop t id e source below (Err (Fault node row code)) is from stops =
    subst (λ t. IsFirstFault t node row code) (sym is) (inr (stops.0, StopsAtRow-more (only (Answers source) below from) (e ∷ []) row code stops.1))
