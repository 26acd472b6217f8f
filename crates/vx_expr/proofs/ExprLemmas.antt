-- The equations of an expression's folds, one for each form of an expression.
use Rattle.std.proofs.Common.{◌≡◌, ℕ, List, map, ap, sym, ◌∙◌, refl, ◌≤◌, [], ◌∷◌, length, arith, Ok}
use Rattle.std.specs.Prelude.{slice_get, unwrap_or, ◌+◌}
use Rattle.vx_value.specs.declared.value.Kind.{Kind}
use Rattle.vx_value.specs.declared.value.Value.{Value}
use Rattle.vx_value.specs.declared.value.Value.TheVariants.{Null}
use Rattle.vx_expr.specs.Typing.{type_step, type_of, type_of_call, kind_at}
use Rattle.vx_expr.specs.Eval.{eval_step, eval, apply, null}
use Rattle.vx_expr.specs.Depth.{greatest, text_len, depth_step, depth, longest_step, longest_literal}
use Rattle.vx_expr.specs.declared.outcome.Got.{Got}
use Rattle.vx_expr.specs.declared.outcome.Got.TheVariants as got
use Rattle.vx_expr.specs.declared.expression.Func.{Func}
use Rattle.vx_expr.specs.declared.expression.Func.TheVariants.{Plus}
use Rattle.vx_expr.specs.declared.expression.Expr.{Expr, fold-Expr, fold-roll-Expr}
use Rattle.vx_expr.specs.declared.expression.Expr.TheVariants.{Column, Literal, Call, rolls-Column, rolls-Literal, rolls-Call}
use Rattle.vx_expr.specs.declared.expression.Expr.TheOpen.{Expr-F}

-- any fold at a variant is its step at that variant's layer
pub fold-Column : {A : Type 0} (step : Expr-F A → A) (n : ℕ) → fold-Expr A step (Column n) ≡ step (Expr-F.Column n)
fold-Column {A} step n = ap (fold-Expr A step) (sym (rolls-Column n)) ∙ fold-roll-Expr A step (Expr-F.Column n)

pub fold-Literal : {A : Type 0} (step : Expr-F A → A) (v : Value) (k : Kind) → fold-Expr A step (Literal v k) ≡ step (Expr-F.Literal v k)
fold-Literal {A} step v k = ap (fold-Expr A step) (sym (rolls-Literal v k)) ∙ fold-roll-Expr A step (Expr-F.Literal v k)

pub fold-Call : {A : Type 0} (step : Expr-F A → A) (g : Func) (args : List Expr) → fold-Expr A step (Call g args) ≡ step (Expr-F.Call g (map (fold-Expr A step) args))
fold-Call {A} step g args = ap (fold-Expr A step) (sym (rolls-Call g args)) ∙ fold-roll-Expr A step (Expr-F.Call g args)

-- ---- kinds
pub type_of-Column : (n : ℕ) (kinds : List Kind) → type_of (Column n) kinds ≡ kind_at (slice_get kinds n)
type_of-Column n kinds = fold-Column (type_step kinds) n

pub type_of-Literal : (v : Value) (k : Kind) (kinds : List Kind) → type_of (Literal v k) kinds ≡ Ok k
type_of-Literal v k kinds = fold-Literal (type_step kinds) v k

pub type_of-Call : (g : Func) (args : List Expr) (kinds : List Kind) → type_of (Call g args) kinds ≡ type_of_call g (map (λ a. type_of a kinds) args)
type_of-Call g args kinds = fold-Call (type_step kinds) g args

-- ---- sizes
pub depth-Column : (n : ℕ) → depth (Column n) ≡ 1
depth-Column n = fold-Column depth_step n

pub depth-Literal : (v : Value) (k : Kind) → depth (Literal v k) ≡ 1
depth-Literal v k = fold-Literal depth_step v k

pub depth-Call : (g : Func) (args : List Expr) → depth (Call g args) ≡ greatest (map depth args) + 1
depth-Call g args = fold-Call depth_step g args

pub longest_literal-Column : (n : ℕ) → longest_literal (Column n) ≡ 0
longest_literal-Column n = fold-Column longest_step n

pub longest_literal-Literal : (v : Value) (k : Kind) → longest_literal (Literal v k) ≡ text_len v
longest_literal-Literal v k = fold-Literal longest_step v k

pub longest_literal-Call : (g : Func) (args : List Expr) → longest_literal (Call g args) ≡ greatest (map longest_literal args)
longest_literal-Call g args = fold-Call longest_step g args

-- ---- values
pub eval-Column : (n : ℕ) (row : List Value) → eval (Column n) row ≡ got.Value (unwrap_or (slice_get row n) Null)
eval-Column n row = fold-Column (eval_step row) n

pub eval-Literal : (v : Value) (k : Kind) (row : List Value) → eval (Literal v k) row ≡ got.Value v
eval-Literal v k row = fold-Literal (eval_step row) v k

pub eval-Call : (g : Func) (args : List Expr) (row : List Value) → eval (Call g args) row ≡ apply g (map (λ a. eval a row) args)
eval-Call g args row = fold-Call (eval_step row) g args

-- no function takes more than three arguments
apply-four : (g : Func) (a b c d : Got) (more : List Got) → apply g (a ∷ b ∷ c ∷ d ∷ more) ≡ null
apply-four Plus a b c d more = refl
apply-four _ a b c d more = refl

pub apply-many : (g : Func) (row : List Value) (args : List Expr) → 4 ≤ length args → apply g (map (λ a. eval a row) args) ≡ null
apply-many g row [] h = absurd (omega arith)
apply-many g row (a ∷ []) h = absurd (omega arith)
apply-many g row (a ∷ b ∷ []) h = absurd (omega arith)
apply-many g row (a ∷ b ∷ c ∷ []) h = absurd (omega arith)
apply-many g row (a ∷ b ∷ c ∷ d ∷ args) h = apply-four g (eval a row) (eval b row) (eval c row) (eval d row) (map (λ a. eval a row) args)
