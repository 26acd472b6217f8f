-- What an expression gives on a row: a value or a fault. Nulls go by SQL's three-valued logic. A missing
-- column, a wrong kind and a wrong number of arguments give null, so that every expression means something.
use Rattle.std.specs.Prelude.{ℕ, ◌+◌, ◌^◌, Bool, true, false, not, ◌||◌, if◌then◌else◌, nat_eq, nat_lt, nat_le, ℤ, pos, negsuc, ◌+ℤ◌, ◌-ℤ◌, ◌*ℤ◌, neg_ℤ, int_div, int_rem, List, [], ◌∷◌, ◌++◌, length, slice_get, unwrap_or}
use Rattle.std.specs.List.{starts_with}
use Rattle.std.specs.Ordering.{int_eq, is_eq, is_ne, is_lt, is_le, is_gt, is_ge}
use Rattle.std.specs.declared.cmp.Ordering.{Ordering}
use Rattle.vx_value.specs.declared.value.Value.{Value}
use Rattle.vx_value.specs.declared.value.Value.TheVariants.{Null, Bool as Truth, Int, Text}
use Rattle.vx_value.specs.Order.{cmp_values}
use Rattle.vx_expr.specs.declared.expression.Expr.{Expr, fold-Expr}
use Rattle.vx_expr.specs.declared.expression.Expr.TheOpen.{Expr-F}
use Rattle.vx_expr.specs.declared.expression.Func.{Func}
use Rattle.vx_expr.specs.declared.expression.Func.TheVariants.{Plus, Minus, Multiply, Divide, Modulus, Negate, Eq, Neq, Lt, Lte, Gt, Gte, Not, And, Or, IsNull, If, Coalesce, Try, Concat, ByteLength, StartsWith}
use Rattle.vx_expr.specs.declared.outcome.Fault.TheVariants.{Overflow, DivideByZero, TooLong}
use Rattle.vx_expr.specs.declared.outcome.Got.{Got}
use Rattle.vx_expr.specs.declared.outcome.Got.TheVariants as got

abbrev pub null : Got
null = got.Value Null

abbrev pub truth : Bool → Got
truth b = got.Value (Truth b)

-- ---- ints: exact, with an overflow where the result leaves 64 bits

-- from -2^63 to 2^63 - 1
abbrev pub fits : ℤ → Bool
fits (pos n) = nat_lt n (2 ^ 63)
fits (negsuc n) = nat_lt n (2 ^ 63)

-- this number, or an overflow
abbrev pub int_of : ℤ → Got
int_of z = if fits z then got.Value (Int z) else got.Fault Overflow

abbrev pub sum : ℤ → ℤ → Got
sum x y = int_of (x +ℤ y)

abbrev pub difference : ℤ → ℤ → Got
difference x y = int_of (x -ℤ y)

abbrev pub product : ℤ → ℤ → Got
product x y = int_of (x *ℤ y)

-- rounded towards zero
abbrev pub quotient : ℤ → ℤ → Got
quotient x y = if int_eq y (pos 0) then got.Fault DivideByZero else int_of (int_div x y)

-- what is left by that division; it has the dividend's sign
abbrev pub remainder : ℤ → ℤ → Got
remainder x y = if int_eq y (pos 0) then got.Fault DivideByZero else got.Value (Int (int_rem x y))

-- ---- texts, as bytes

-- a text has at most 65,535 bytes
abbrev pub concatenation : List ℕ → List ℕ → Got
concatenation a b = if nat_le (length a + length b) 65535 then got.Value (Text (a ++ b)) else got.Fault TooLong

-- whether the first begins with the second
abbrev pub prefix_test : List ℕ → List ℕ → Got
prefix_test a b = truth (starts_with nat_eq a b)

-- ---- the result of a function on values: null where a side is null

abbrev pub of_ints : (ℤ → ℤ → Got) → Value → Value → Got
of_ints f (Int x) (Int y) = f x y
of_ints f _ _ = null

abbrev pub of_texts : (List ℕ → List ℕ → Got) → Value → Value → Got
of_texts f (Text a) (Text b) = f a b
of_texts f _ _ = null

-- what a comparison says of an order
abbrev pub order_test : Func → Ordering → Got
order_test Eq o = truth (is_eq o)
order_test Neq o = truth (is_ne o)
order_test Lt o = truth (is_lt o)
order_test Lte o = truth (is_le o)
order_test Gt o = truth (is_gt o)
order_test Gte o = truth (is_ge o)
order_test _ o = null

-- of two of one kind, by the order of values: false is less than true, and texts compare by their bytes
abbrev pub comparison : Func → Value → Value → Got
comparison g (Truth a) (Truth b) = order_test g (cmp_values (Truth a) (Truth b))
comparison g (Int a) (Int b) = order_test g (cmp_values (Int a) (Int b))
comparison g (Text a) (Text b) = order_test g (cmp_values (Text a) (Text b))
comparison g _ _ = null

-- strict functions of two arguments
abbrev pub result_of_two : Func → Value → Value → Got
result_of_two Plus = of_ints sum
result_of_two Minus = of_ints difference
result_of_two Multiply = of_ints product
result_of_two Divide = of_ints quotient
result_of_two Modulus = of_ints remainder
result_of_two Eq = comparison Eq
result_of_two Neq = comparison Neq
result_of_two Lt = comparison Lt
result_of_two Lte = comparison Lte
result_of_two Gt = comparison Gt
result_of_two Gte = comparison Gte
result_of_two Concat = of_texts concatenation
result_of_two StartsWith = of_texts prefix_test
result_of_two _ = λ _ _. null

abbrev pub negation : Value → Got
negation (Int x) = int_of (neg_ℤ x)
negation _ = null

abbrev pub complement : Value → Got
complement (Truth b) = truth (not b)
complement _ = null

-- the one function that a null doesn't make null
abbrev pub null_test : Value → Got
null_test Null = truth true
null_test _ = truth false

abbrev pub byte_length : Value → Got
byte_length (Text a) = got.Value (Int (pos (length a)))
byte_length _ = null

-- strict functions of one argument, and is_null
abbrev pub result_of_one : Func → Value → Got
result_of_one Negate = negation
result_of_one Not = complement
result_of_one IsNull = null_test
result_of_one ByteLength = byte_length
result_of_one _ = λ _. null

-- ---- faults: the leftmost one, else what the function gives

abbrev pub unary : (Value → Got) → Got → Got
unary f (got.Fault c) = got.Fault c
unary f (got.Value v) = f v

abbrev pub binary : (Value → Value → Got) → Got → Got → Got
binary f (got.Fault c) b = got.Fault c
binary f (got.Value v) (got.Fault c) = got.Fault c
binary f (got.Value v) (got.Value w) = f v w

-- ---- the functions that look at faults themselves

-- whether it is this truth value, and no fault
abbrev pub is_truth : Bool → Got → Bool
is_truth true (got.Value (Truth b)) = b
is_truth false (got.Value (Truth b)) = not b
is_truth _ _ = false

abbrev pub both_true : Value → Value → Got
both_true (Truth true) (Truth true) = truth true
both_true _ _ = null

abbrev pub both_false : Value → Value → Got
both_false (Truth false) (Truth false) = truth false
both_false _ _ = null

-- false where a side is false, even if the other faults; else the leftmost fault; else null where a side is
-- null; else true
abbrev pub conjunction : Got → Got → Got
conjunction a b = if is_truth false a || is_truth false b then truth false else binary both_true a b

-- the same with true and false exchanged
abbrev pub disjunction : Got → Got → Got
disjunction a b = if is_truth true a || is_truth true b then truth true else binary both_false a b

-- the condition's fault; else the second where it is true, else the third
abbrev pub choice : Got → Got → Got → Got
choice (got.Fault c) a b = got.Fault c
choice (got.Value (Truth true)) a b = a
choice (got.Value _) a b = b

-- the first's fault; else the first where it isn't null, else the second
abbrev pub first_given : Got → Got → Got
first_given (got.Value Null) b = b
first_given a b = a

-- null in place of a fault
abbrev pub value_or_null : Got → Got
value_or_null (got.Fault c) = null
value_or_null (got.Value v) = got.Value v

-- What a function gives for what its arguments gave, a case for each function here or in the two tables of
-- results above.
abbrev pub apply : Func → List Got → Got
apply And (a ∷ b ∷ []) = conjunction a b
apply Or (a ∷ b ∷ []) = disjunction a b
apply If (c ∷ a ∷ b ∷ []) = choice c a b
apply Coalesce (a ∷ b ∷ []) = first_given a b
apply Try (a ∷ []) = value_or_null a
apply g (a ∷ []) = unary (result_of_one g) a
apply g (a ∷ b ∷ []) = binary (result_of_two g) a b
apply g _ = null

-- one level, with each argument already evaluated
abbrev pub eval_step : List Value → Expr-F Got → Got
eval_step row (Expr-F.Column n) = got.Value (unwrap_or (slice_get row n) Null)
eval_step row (Expr-F.Literal v k) = got.Value v
eval_step row (Expr-F.Call g args) = apply g args

-- what an expression gives on a row
abbrev pub eval : Expr → List Value → Got
eval e row = fold-Expr Got (eval_step row) e
