-- The kind of an expression over columns of given kinds, or the first reason why it has none.
use Rattle.std.specs.Prelude.{ℕ, Bool, true, false, ◌&&◌, if◌then◌else◌, ◌==◌, List, [], ◌∷◌, length, Option, Some, None, slice_get, Result, Ok, Err}
use Rattle.vx_value.specs.declared.value.Kind.{Kind}
use Rattle.vx_value.specs.declared.value.Kind.TheVariants.{Bool as Truths, Int, Text}
use Rattle.vx_expr.specs.declared.expression.Expr.{Expr, fold-Expr}
use Rattle.vx_expr.specs.declared.expression.Expr.TheOpen.{Expr-F}
use Rattle.vx_expr.specs.declared.expression.Func.{Func}
use Rattle.vx_expr.specs.declared.expression.Func.TheVariants.{Plus, Minus, Multiply, Divide, Modulus, Negate, Eq, Neq, Lt, Lte, Gt, Gte, Not, And, Or, IsNull, If, Coalesce, Try, Concat, ByteLength, StartsWith}
use Rattle.vx_expr.specs.declared.outcome.TypeError.{TypeError}
use Rattle.vx_expr.specs.declared.outcome.TypeError.TheVariants.{T1, T2, T3, T4}

-- the outcome of typing
abbrev pub Typed : Type 0
Typed = Result Kind TypeError

-- how many arguments a function takes
abbrev pub arity : Func → ℕ
arity Plus = 2
arity Minus = 2
arity Multiply = 2
arity Divide = 2
arity Modulus = 2
arity Negate = 1
arity Eq = 2
arity Neq = 2
arity Lt = 2
arity Lte = 2
arity Gt = 2
arity Gte = 2
arity Not = 1
arity And = 2
arity Or = 2
arity IsNull = 1
arity If = 3
arity Coalesce = 2
arity Try = 1
arity Concat = 2
arity ByteLength = 1
arity StartsWith = 2

-- whether two kinds are one
abbrev pub is_same : Kind → Kind → Bool
is_same Truths Truths = true
is_same Int Int = true
is_same Text Text = true
is_same _ _ = false

-- one argument, of this kind
abbrev pub unary : Kind → Kind → List Kind → Typed
unary wanted out (a ∷ []) = if is_same a wanted then Ok out else Err T2
unary wanted out _ = Err T4

-- two arguments, both of this kind
abbrev pub binary : Kind → Kind → List Kind → Typed
binary wanted out (a ∷ b ∷ []) = if is_same a wanted && is_same b wanted then Ok out else Err T2
binary wanted out _ = Err T4

-- two arguments of one kind, whichever it is
abbrev pub comparison : List Kind → Typed
comparison (a ∷ b ∷ []) = if is_same a b then Ok Truths else Err T3
comparison _ = Err T4

-- one argument of any kind
abbrev pub unary_of_any : (Kind → Kind) → List Kind → Typed
unary_of_any out (a ∷ []) = Ok (out a)
unary_of_any out _ = Err T4

-- the first of two of one kind that isn't null
abbrev pub fallback : List Kind → Typed
fallback (a ∷ b ∷ []) = if is_same a b then Ok a else Err T3
fallback _ = Err T4

-- a bool that chooses between two of one kind
abbrev pub choice : List Kind → Typed
choice (c ∷ a ∷ b ∷ []) = if is_same c Truths then fallback (a ∷ b ∷ []) else Err T2
choice _ = Err T4

-- What a function gives for arguments of these kinds: SQL's kinds without conversions, so nothing but an int
-- is a number. A wrong kind is asked before two kinds that differ.
abbrev pub kind_of_call : Func → List Kind → Typed
kind_of_call Plus kinds = binary Int Int kinds
kind_of_call Minus kinds = binary Int Int kinds
kind_of_call Multiply kinds = binary Int Int kinds
kind_of_call Divide kinds = binary Int Int kinds
kind_of_call Modulus kinds = binary Int Int kinds
kind_of_call Negate kinds = unary Int Int kinds
kind_of_call Eq kinds = comparison kinds
kind_of_call Neq kinds = comparison kinds
kind_of_call Lt kinds = comparison kinds
kind_of_call Lte kinds = comparison kinds
kind_of_call Gt kinds = comparison kinds
kind_of_call Gte kinds = comparison kinds
kind_of_call Not kinds = unary Truths Truths kinds
kind_of_call And kinds = binary Truths Truths kinds
kind_of_call Or kinds = binary Truths Truths kinds
kind_of_call IsNull kinds = unary_of_any (λ _. Truths) kinds
kind_of_call If kinds = choice kinds
kind_of_call Coalesce kinds = fallback kinds
kind_of_call Try kinds = unary_of_any (λ k. k) kinds
kind_of_call Concat kinds = binary Text Text kinds
kind_of_call ByteLength kinds = unary Text Int kinds
kind_of_call StartsWith kinds = binary Text Truths kinds

-- goes on with what stands at Ok
abbrev pub and_then : {A B : Type 0} → Result A TypeError → (A → Result B TypeError) → Result B TypeError
and_then (Ok a) f = f a
and_then (Err e) f = Err e

-- all kinds, or the leftmost refusal
abbrev pub all_kinds : List Typed → Result (List Kind) TypeError
all_kinds [] = Ok []
all_kinds (t ∷ ts) = and_then t (λ k. and_then (all_kinds ts) (λ ks. Ok (k ∷ ks)))

-- a column's kind
abbrev pub kind_at : Option Kind → Typed
kind_at (Some k) = Ok k
kind_at None = Err T1

-- A wrong number of arguments is asked first, then the arguments from left to right, then their kinds.
abbrev pub type_of_call : Func → List Typed → Typed
type_of_call g args = if length args == arity g then and_then (all_kinds args) (kind_of_call g) else Err T4

-- one level, with each argument already typed
abbrev pub type_step : List Kind → Expr-F Typed → Typed
type_step kinds (Expr-F.Column n) = kind_at (slice_get kinds n)
type_step kinds (Expr-F.Literal v k) = Ok k
type_step kinds (Expr-F.Call g args) = type_of_call g args

abbrev pub type_of : Expr → List Kind → Typed
type_of e kinds = fold-Expr Typed (type_step kinds) e
