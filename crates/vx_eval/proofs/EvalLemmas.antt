-- What a call needs of its arguments, and what their results give it.
use Rattle.std.proofs.Common.{◌≡◌, ◌∙◌, ℕ, ◌<◌, ◌≤◌, Bool, true, false, ◌&&◌, List, [], ◌∷◌, map, length, get_or, refl, ap, ap₂, sym, subst, arith, Ok, Err, IsOk, IsTrue}
use Rattle.std.specs.Prelude.{◌==◌, Result, IfOk, is_ok}
use Rattle.std.specs.List.{list_all}
use Rattle.vx_value.specs.declared.value.Kind.{Kind}
use Rattle.vx_value.specs.declared.value.Value.{Value}
use Rattle.vx_value.specs.declared.value.Value.TheVariants.{Null, Bool as Truth, Int, Text}
use Rattle.vx_expr.specs.declared.expression.Expr.{Expr}
use Rattle.vx_expr.specs.declared.expression.Expr.TheVariants.{Call}
use Rattle.vx_expr.specs.declared.expression.Func.{Func}
use Rattle.vx_expr.specs.declared.expression.Func.TheVariants.{And, Or, If, Coalesce}
use Rattle.vx_expr.specs.declared.outcome.Got.{Got}
use Rattle.vx_expr.specs.declared.outcome.Got.TheVariants as got
use Rattle.vx_expr.specs.Typing.{Typed, type_of, type_of_call, kind_of_call, arity}
use Rattle.vx_expr.specs.Eval.{eval, apply, choice, is_truth}
use Rattle.vx_expr.proofs.ExprLemmas.{fold-Call, type_of-Call, eval-Call}
use Rattle.vx_vector.specs.Batch.{row_of, kinds_of}
use Rattle.vx_vector.specs.Column.{Column}
use Rattle.vx_vector.specs.Lanes.{kind_of, rows_of}
use Rattle.vx_vector.specs.declared.lanes.Lanes.{Lanes}
use Rattle.vx_eval.specs.Got.{got_at}
use Rattle.vx_eval.specs.Gives.{Gives, GivesWhere}
use Rattle.vx_eval.specs.Literals.{literals_fit, literals_step}
use Rattle.vx_eval.specs.Matters.{matters, is_else}
use Rattle.vx_eval.specs.Evaluated.{IsReady, AreReady, Evaluated, EvaluatedCall}

-- ---- arguments that don't matter

same_when_unlooked : (g : Func) (a v w : Got) → matters g a ≡ false → apply g (a ∷ v ∷ []) ≡ apply g (a ∷ w ∷ [])
same_when_unlooked And (got.Value (Truth false)) v w h = refl
same_when_unlooked And (got.Value (Truth true)) v w h = absurd (cc)
same_when_unlooked And (got.Value Null) v w h = absurd (cc)
same_when_unlooked And (got.Value (Int n)) v w h = absurd (cc)
same_when_unlooked And (got.Value (Text t)) v w h = absurd (cc)
same_when_unlooked And (got.Fault f) v w h = absurd (cc)
same_when_unlooked Or (got.Value (Truth true)) v w h = refl
same_when_unlooked Or (got.Value (Truth false)) v w h = absurd (cc)
same_when_unlooked Or (got.Value Null) v w h = absurd (cc)
same_when_unlooked Or (got.Value (Int n)) v w h = absurd (cc)
same_when_unlooked Or (got.Value (Text t)) v w h = absurd (cc)
same_when_unlooked Or (got.Fault f) v w h = absurd (cc)
same_when_unlooked Coalesce (got.Value Null) v w h = absurd (cc)
same_when_unlooked Coalesce (got.Value (Truth b)) v w h = refl
same_when_unlooked Coalesce (got.Value (Int n)) v w h = refl
same_when_unlooked Coalesce (got.Value (Text t)) v w h = refl
same_when_unlooked Coalesce (got.Fault f) v w h = refl
same_when_unlooked g a v w h = absurd (cc)

same_when_not_taken : (c v w b : Got) → is_truth true c ≡ false → choice c v b ≡ choice c w b
same_when_not_taken (got.Value (Truth true)) v w b h = absurd (cc)
same_when_not_taken (got.Value (Truth false)) v w b h = refl
same_when_not_taken (got.Value Null) v w b h = refl
same_when_not_taken (got.Value (Int n)) v w b h = refl
same_when_not_taken (got.Value (Text t)) v w b h = refl
same_when_not_taken (got.Fault f) v w b h = refl

same_when_not_left : (c a v w : Got) → is_else c ≡ false → choice c a v ≡ choice c a w
same_when_not_left (got.Value (Truth true)) a v w h = refl
same_when_not_left (got.Value (Truth false)) a v w h = absurd (cc)
same_when_not_left (got.Value Null) a v w h = absurd (cc)
same_when_not_left (got.Value (Int n)) a v w h = absurd (cc)
same_when_not_left (got.Value (Text t)) a v w h = absurd (cc)
same_when_not_left (got.Fault f) a v w h = refl

-- by cases on a test, with what it says
by_test : {P : Type 0} (b : Bool) → (b ≡ true → P) → (b ≡ false → P) → P
by_test true f g = f refl
by_test false f g = g refl

-- what two arguments give where they are wanted, and what stands in their buffers
second : (g : Func) (a b x y : Got) (wanted : Bool) → x ≡ a → (wanted ≡ true → y ≡ b) → (wanted ≡ false → matters g x ≡ false) → apply g (x ∷ y ∷ []) ≡ apply g (a ∷ b ∷ [])
second g a b x y wanted e is unlooked =
    by_test wanted (λ (w : wanted ≡ true). ap₂ {C = Got} (λ (p q : Got). apply g (p ∷ q ∷ [])) e (is w))
    (λ (w : wanted ≡ false). same_when_unlooked g x y b (unlooked w) ∙ ap (λ (p : Got). apply g (p ∷ b ∷ [])) e)

third : (c a b z x y : Got) (first last : Bool) → z ≡ c → (first ≡ true → x ≡ a) → (first ≡ false → is_truth true z ≡ false) → (last ≡ true → y ≡ b) → (last ≡ false → is_else z ≡ false) → choice z x y ≡ choice c a b
third c a b z x y first last e is_first untaken is_last unleft =
    let one : choice z x y ≡ choice z a y =
    by_test first (λ (w : first ≡ true). ap (λ (p : Got). choice z p y) (is_first w)) (λ (w : first ≡ false). same_when_not_taken z x a y (untaken w)) in
    let two : choice z a y ≡ choice z a b =
    by_test last (λ (w : last ≡ true). ap (λ (p : Got). choice z a p) (is_last w)) (λ (w : last ≡ false). same_when_not_left z a y b (unleft w)) in
    one ∙ two ∙ ap (λ (p : Got). choice p a b) e

-- ---- a call types where its arguments do

call_two : (g : Func) (p q : Kind) → IsOk (type_of_call g (Ok p ∷ Ok q ∷ [])) → type_of_call g (Ok p ∷ Ok q ∷ []) ≡ kind_of_call g (p ∷ q ∷ [])
call_two g p q h =
    by_test (2 == arity g) (λ (e : (2 == arity g) ≡ true). rw e refl) (λ (e : (2 == arity g) ≡ false). let none : false ≡ true = rw e at h in absurd (cc))

call_three : (g : Func) (p q r : Kind) → IsOk (type_of_call g (Ok p ∷ Ok q ∷ Ok r ∷ [])) → type_of_call g (Ok p ∷ Ok q ∷ Ok r ∷ []) ≡ kind_of_call g (p ∷ q ∷ r ∷ [])
call_three g p q r h =
    by_test (3 == arity g) (λ (e : (3 == arity g) ≡ true). rw e refl) (λ (e : (3 == arity g) ≡ false). let none : false ≡ true = rw e at h in absurd (cc))

-- only a choice has three arguments
is_if : (g : Func) (p q r : Kind) → IsOk (kind_of_call g (p ∷ q ∷ r ∷ [])) → g ≡ If
is_if If p q r h = refl
is_if g p q r h = absurd (cc)

-- ---- a call and its arguments

literals_fit-Call : (g : Func) (args : List Expr) → literals_fit (Call g args) ≡ list_all (λ (b : Bool). b) (map literals_fit args)
literals_fit-Call g args = fold-Call literals_step g args

all_same : (args : List Expr) → list_all (λ (b : Bool). b) (map literals_fit args) ≡ list_all literals_fit args
all_same [] = refl
all_same (a ∷ args) = ap (λ (b : Bool). literals_fit a && b) (all_same args)

pub ready_call : (columns : List Column) (g : Func) (args now : List Expr) (e : Expr) → e ≡ Call g args → now ≡ args → IsReady columns e → AreReady columns g now
ready_call columns g args now e is same ready = record {
  types = subst IsOk (ap (λ (x : Expr). type_of x (kinds_of columns)) is ∙ type_of-Call g args (kinds_of columns) ∙ ap (λ (xs : List Expr). type_of_call g (map (λ a. type_of a (kinds_of columns)) xs)) (sym same)) ready.types;
  literals = subst IsTrue (ap literals_fit is ∙ literals_fit-Call g args ∙ all_same args ∙ ap (list_all literals_fit) (sym same)) ready.literals;
}

pub evaluated : (columns : List Column) (rows : List ℕ) (wanted : List Bool) (g : Func) (args now : List Expr) (e : Expr) (l : Lanes) → e ≡ Call g args → now ≡ args → EvaluatedCall columns rows wanted g now l → Evaluated columns rows wanted e l
evaluated columns rows wanted g args now e l is same call = record {
  kind = ap (λ (x : Expr). type_of x (kinds_of columns)) is ∙ type_of-Call g args (kinds_of columns) ∙ ap (λ (xs : List Expr). type_of_call g (map (λ a. type_of a (kinds_of columns)) xs)) (sym same) ∙ call.kind;
  count = call.count;
  each = λ (k : ℕ) (h : k < length rows) (w : get_or wanted k false ≡ true).
      let row : List Value = row_of columns (get_or rows k 0) in
      call.each k h w ∙ ap (λ (xs : List Expr). apply g (map (λ a. eval a row) xs)) same ∙ sym (ap (λ (x : Expr). eval x row) is ∙ eval-Call g args row);
}

-- ---- results of arguments

pub two_items : (args : List Expr) (a b : Expr) → 2 ≤ length args → length args < 3 → a ≡ get_or args 0 a → b ≡ get_or args 1 b → args ≡ a ∷ b ∷ []
two_items [] a b long short ea eb = absurd (omega arith)
two_items (x ∷ []) a b long short ea eb = absurd (omega arith)
two_items (x ∷ y ∷ []) a b long short ea eb = ap₂ (λ (p q : Expr). p ∷ q ∷ []) (sym ea) (sym eb)
two_items (x ∷ y ∷ z ∷ args) a b long short ea eb = absurd (omega arith)

pub three_items : (args : List Expr) (c a b : Expr) → 3 ≤ length args → length args < 4 → c ≡ get_or args 0 c → a ≡ get_or args 1 a → b ≡ get_or args 2 b → args ≡ c ∷ a ∷ b ∷ []
three_items [] c a b long short ec ea eb = absurd (omega arith)
three_items (x ∷ []) c a b long short ec ea eb = absurd (omega arith)
three_items (x ∷ y ∷ []) c a b long short ec ea eb = absurd (omega arith)
three_items (x ∷ y ∷ z ∷ []) c a b long short ec ea eb = ap₂ (λ (p : Expr) (qs : List Expr). p ∷ qs) (sym ec) (ap₂ (λ (p q : Expr). p ∷ q ∷ []) (sym ea) (sym eb))
three_items (x ∷ y ∷ z ∷ u ∷ args) c a b long short ec ea eb = absurd (omega arith)

evaluated_pair : (columns : List Column) (rows : List ℕ) (wanted seconds : List Bool) (g : Func) (a b : Expr) (la lb r : Lanes) → AreReady columns g (a ∷ b ∷ []) → Evaluated columns rows wanted a la → Evaluated columns rows seconds b lb
    → ((k : ℕ) → k < rows_of la → get_or wanted k false ≡ true → get_or seconds k false ≡ false → matters g (got_at la k) ≡ false)
    → kind_of_call g (kind_of la ∷ kind_of lb ∷ []) ≡ Ok (kind_of r) → GivesWhere wanted (rows_of la) (λ k. apply g (got_at la k ∷ got_at lb k ∷ [])) r → EvaluatedCall columns rows wanted g (a ∷ b ∷ []) r
evaluated_pair columns rows wanted seconds g a b la lb r ready ea eb unlooked kind given = record {
  kind =
      let types = ap₂ {C = Typed} (λ (p q : Typed). type_of_call g (p ∷ q ∷ [])) ea.kind eb.kind in
      types ∙ call_two g (kind_of la) (kind_of lb) (subst IsOk types ready.types) ∙ kind;
  count = given.rows ∙ ea.count;
  each = λ (k : ℕ) (h : k < length rows) (w : get_or wanted k false ≡ true).
      let inside : k < rows_of la = omega (arith, ea.count) in
      given.at k inside w
      ∙ second g (eval a (row_of columns (get_or rows k 0))) (eval b (row_of columns (get_or rows k 0))) (got_at la k) (got_at lb k) (get_or seconds k false) (ea.each k h w) (λ s. eb.each k h s) (λ s. unlooked k inside w s);
}

pub evaluated_two : {E : Type 0} (columns : List Column) (rows : List ℕ) (wanted seconds : List Bool) (g : Func) (args : List Expr) (a b : Expr) (la lb : Lanes) (r : Result Lanes E) → args ≡ a ∷ b ∷ [] → AreReady columns g args → Evaluated columns rows wanted a la → Evaluated columns rows seconds b lb
    → ((k : ℕ) → k < rows_of la → get_or wanted k false ≡ true → get_or seconds k false ≡ false → matters g (got_at la k) ≡ false)
    → IfOk r (λ l. kind_of_call g (kind_of la ∷ kind_of lb ∷ []) ≡ Ok (kind_of l)) → IfOk r (GivesWhere wanted (rows_of la) (λ k. apply g (got_at la k ∷ got_at lb k ∷ []))) → IfOk r (EvaluatedCall columns rows wanted g args)
evaluated_two columns rows wanted seconds g args a b la lb (Ok l) are ready ea eb unlooked kind given =
    subst (λ (xs : List Expr). EvaluatedCall columns rows wanted g xs l) (sym are) (evaluated_pair columns rows wanted seconds g a b la lb l (subst (AreReady columns g) are ready) ea eb unlooked kind given)
evaluated_two columns rows wanted seconds g args a b la lb (Err x) are ready ea eb unlooked kind given = tt

apply_if : (g : Func) (c a b : Got) → g ≡ If → apply g (c ∷ a ∷ b ∷ []) ≡ choice c a b
apply_if g c a b e = rw e refl

evaluated_triple : (columns : List Column) (rows : List ℕ) (wanted firsts lasts : List Bool) (g : Func) (c a b : Expr) (lc la lb r : Lanes) → AreReady columns g (c ∷ a ∷ b ∷ []) → Evaluated columns rows wanted c lc → Evaluated columns rows firsts a la → Evaluated columns rows lasts b lb
    → ((k : ℕ) → k < rows_of lc → get_or wanted k false ≡ true → get_or firsts k false ≡ false → is_truth true (got_at lc k) ≡ false)
    → ((k : ℕ) → k < rows_of lc → get_or wanted k false ≡ true → get_or lasts k false ≡ false → is_else (got_at lc k) ≡ false)
    → kind_of_call g (kind_of lc ∷ kind_of la ∷ kind_of lb ∷ []) ≡ Ok (kind_of r) → Gives (rows_of lc) (λ k. apply g (got_at lc k ∷ got_at la k ∷ got_at lb k ∷ [])) r → EvaluatedCall columns rows wanted g (c ∷ a ∷ b ∷ []) r
evaluated_triple columns rows wanted firsts lasts g c a b lc la lb r ready ec ea eb untaken unleft kind given =
    let firsts_typed = ap₂ {C = Typed} (λ (p q : Typed). type_of_call g (p ∷ q ∷ type_of b (kinds_of columns) ∷ [])) ec.kind ea.kind in
    let last_typed = ap (λ (p : Typed). type_of_call g (Ok (kind_of lc) ∷ Ok (kind_of la) ∷ p ∷ [])) eb.kind in
    let types = firsts_typed ∙ last_typed in
    let choice_it : g ≡ If = is_if g (kind_of lc) (kind_of la) (kind_of lb) (ap (λ (x : Typed). is_ok x) kind) in
    record {
      kind = types ∙ call_three g (kind_of lc) (kind_of la) (kind_of lb) (subst IsOk types ready.types) ∙ kind;
      count = given.rows ∙ ec.count;
      each = λ (k : ℕ) (h : k < length rows) (w : get_or wanted k false ≡ true).
          let row : List Value = row_of columns (get_or rows k 0) in
          let inside : k < rows_of lc = omega (arith, ec.count) in
          given.at k inside ∙ apply_if g (got_at lc k) (got_at la k) (got_at lb k) choice_it
          ∙ third (eval c row) (eval a row) (eval b row) (got_at lc k) (got_at la k) (got_at lb k) (get_or firsts k false) (get_or lasts k false) (ec.each k h w) (λ s. ea.each k h s) (λ s. untaken k inside w s) (λ s. eb.each k h s) (λ s. unleft k inside w s)
          ∙ sym (apply_if g (eval c row) (eval a row) (eval b row) choice_it);
    }

pub evaluated_three : {E : Type 0} (columns : List Column) (rows : List ℕ) (wanted firsts lasts : List Bool) (g : Func) (args : List Expr) (c a b : Expr) (lc la lb : Lanes) (r : Result Lanes E) → args ≡ c ∷ a ∷ b ∷ [] → AreReady columns g args → Evaluated columns rows wanted c lc → Evaluated columns rows firsts a la → Evaluated columns rows lasts b lb
    → ((k : ℕ) → k < rows_of lc → get_or wanted k false ≡ true → get_or firsts k false ≡ false → is_truth true (got_at lc k) ≡ false)
    → ((k : ℕ) → k < rows_of lc → get_or wanted k false ≡ true → get_or lasts k false ≡ false → is_else (got_at lc k) ≡ false)
    → IfOk r (λ l. kind_of_call g (kind_of lc ∷ kind_of la ∷ kind_of lb ∷ []) ≡ Ok (kind_of l)) → IfOk r (Gives (rows_of lc) (λ k. apply g (got_at lc k ∷ got_at la k ∷ got_at lb k ∷ []))) → IfOk r (EvaluatedCall columns rows wanted g args)
evaluated_three columns rows wanted firsts lasts g args c a b lc la lb (Ok l) are ready ec ea eb untaken unleft kind given =
    subst (λ (xs : List Expr). EvaluatedCall columns rows wanted g xs l) (sym are) (evaluated_triple columns rows wanted firsts lasts g c a b lc la lb l (subst (AreReady columns g) are ready) ec ea eb untaken unleft kind given)
evaluated_three columns rows wanted firsts lasts g args c a b lc la lb (Err x) are ready ec ea eb untaken unleft kind given = tt

-- ---- rows that are lent

pub evaluated_lent : (columns : List Column) (rows : List ℕ) (wanted : List Bool) (e : Expr) (l now : Lanes) → now ≡ l → Evaluated columns rows wanted e l → Evaluated columns rows wanted e now
evaluated_lent columns rows wanted e l now same done = subst (Evaluated columns rows wanted e) (sym same) done
