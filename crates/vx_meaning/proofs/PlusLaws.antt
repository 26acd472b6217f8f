-- Folds put together: the order and the grouping don't matter.
use Rattle.std.proofs.Common.{◌≡◌, ℤ, ◌+ℤ◌, Bool, true, false, ◌&&◌, ◌||◌, cond, refl, sym, ap, ◌∙◌, subst, arith, Ordering, Less, Equal, Greater, true≢false, Option, Some, None}
use Rattle.std.proofs.lemmas.Int.{ints}
use Rattle.std.specs.Ordering.{is_lt, is_gt, ordering_reverse, flip_args}
use Rattle.std.specs.Cmp.{IsTotalOrder}
use Rattle.std.proofs.lemmas.Cmp.{back_total}
use Rattle.std.proofs.lemmas.List.Sorted.{ranks_by}
use Rattle.vx_value.specs.declared.value.Value.{Value}
use Rattle.vx_value.specs.declared.value.Value.TheVariants.{Null, Bool as Truth, Int, Text}
use Rattle.vx_value.specs.Value.{is_null}
use Rattle.vx_value.specs.Order.{cmp_values}
use Rattle.vx_value.proofs.OrderLemmas.{cmp_values_total, cmp_values-tied}
use Rattle.vx_plan.specs.declared.aggregate.AggregateName.{AggregateName}
use Rattle.vx_plan.specs.declared.aggregate.AggregateName.TheVariants.{Count, Sum, Min, Max, BoolAnd, BoolOr}
use Rattle.vx_meaning.specs.Folds.{added, by_truths, plus}

-- two that may be missing, put together
abbrev optional : {X : Type 0} → (X → X → X) → Option X → Option X → Option X
optional f None b = b
optional f (Some x) None = Some x
optional f (Some x) (Some y) = Some (f x y)

module _ {X : Type 0} (f : X → X → X) (comm : (a b : X) → f a b ≡ f b a) (assoc : (a b c : X) → f (f a b) c ≡ f a (f b c)) where
  optional-comm : (a b : Option X) → optional f a b ≡ optional f b a
  optional-comm None None = refl
  optional-comm None (Some y) = refl
  optional-comm (Some x) None = refl
  optional-comm (Some x) (Some y) = ap Some (comm x y)

  optional-assoc : (a b c : Option X) → optional f (optional f a b) c ≡ optional f a (optional f b c)
  optional-assoc None b c = refl
  optional-assoc (Some x) None c = refl
  optional-assoc (Some x) (Some y) None = refl
  optional-assoc (Some x) (Some y) (Some z) = ap Some (assoc x y z)

  -- a function on values that goes by what is in them
  module _ (g : Value → Value → Value) (inside : Value → Option X) (back : Option X → Value) (there : (o : Option X) → inside (back o) ≡ o)
      (is : (a b : Value) → g a b ≡ back (optional f (inside a) (inside b))) where
    inside-comm : (a b : Value) → g a b ≡ g b a
    inside-comm a b = is a b ∙ ap back (optional-comm (inside a) (inside b)) ∙ sym (is b a)

    inside-is : (a b : Value) → inside (g a b) ≡ optional f (inside a) (inside b)
    inside-is a b = ap inside (is a b) ∙ there (optional f (inside a) (inside b))

    inside-assoc : (a b c : Value) → g (g a b) c ≡ g a (g b c)
    inside-assoc a b c =
        is (g a b) c ∙ ap (λ o. back (optional f o (inside c))) (inside-is a b)
        ∙ ap back (optional-assoc (inside a) (inside b) (inside c))
        ∙ sym (is a (g b c) ∙ ap (λ o. back (optional f (inside a) o)) (inside-is b c))

int_in : Value → Option ℤ
int_in (Int x) = Some x
int_in _ = None

int_back : Option ℤ → Value
int_back None = Null
int_back (Some x) = Int x

int_there : (o : Option ℤ) → int_in (int_back o) ≡ o
unfolding int_in int_back
int_there None = refl
int_there (Some x) = refl

added-is : (a b : Value) → added a b ≡ int_back (optional ◌+ℤ◌ (int_in a) (int_in b))
unfolding int_in int_back
added-is Null Null = refl
added-is Null (Truth c) = refl
added-is Null (Int y) = refl
added-is Null (Text u) = refl
added-is (Truth b) Null = refl
added-is (Truth b) (Truth c) = refl
added-is (Truth b) (Int y) = refl
added-is (Truth b) (Text u) = refl
added-is (Int x) Null = refl
added-is (Int x) (Truth c) = refl
added-is (Int x) (Int y) = refl
added-is (Int x) (Text u) = refl
added-is (Text t) Null = refl
added-is (Text t) (Truth c) = refl
added-is (Text t) (Int y) = refl
added-is (Text t) (Text u) = refl

int-comm : (x y : ℤ) → x +ℤ y ≡ y +ℤ x
int-comm x y = omega (arith, ints)

int-assoc : (x y z : ℤ) → (x +ℤ y) +ℤ z ≡ x +ℤ (y +ℤ z)
int-assoc x y z = omega (arith, ints)

added-comm : (a b : Value) → added a b ≡ added b a
added-comm = inside-comm ◌+ℤ◌ int-comm int-assoc added int_in int_back int_there added-is

added-assoc : (a b c : Value) → added (added a b) c ≡ added a (added b c)
added-assoc = inside-assoc ◌+ℤ◌ int-comm int-assoc added int_in int_back int_there added-is

truth_in : Value → Option Bool
truth_in (Truth b) = Some b
truth_in _ = None

truth_back : Option Bool → Value
truth_back None = Null
truth_back (Some b) = Truth b

truth_there : (o : Option Bool) → truth_in (truth_back o) ≡ o
unfolding truth_in truth_back
truth_there None = refl
truth_there (Some x) = refl

truths-is : (f : Bool → Bool → Bool) (a b : Value) → by_truths f a b ≡ truth_back (optional f (truth_in a) (truth_in b))
unfolding truth_in truth_back
truths-is f Null Null = refl
truths-is f Null (Truth c) = refl
truths-is f Null (Int y) = refl
truths-is f Null (Text u) = refl
truths-is f (Truth b) Null = refl
truths-is f (Truth b) (Truth c) = refl
truths-is f (Truth b) (Int y) = refl
truths-is f (Truth b) (Text u) = refl
truths-is f (Int x) Null = refl
truths-is f (Int x) (Truth c) = refl
truths-is f (Int x) (Int y) = refl
truths-is f (Int x) (Text u) = refl
truths-is f (Text t) Null = refl
truths-is f (Text t) (Truth c) = refl
truths-is f (Text t) (Int y) = refl
truths-is f (Text t) (Text u) = refl

module _ (f : Bool → Bool → Bool) (comm : (a b : Bool) → f a b ≡ f b a) (assoc : (a b c : Bool) → f (f a b) c ≡ f a (f b c)) where
  truths-comm : (a b : Value) → by_truths f a b ≡ by_truths f b a
  truths-comm = inside-comm f comm assoc (by_truths f) truth_in truth_back truth_there (truths-is f)

  truths-assoc : (a b c : Value) → by_truths f (by_truths f a b) c ≡ by_truths f a (by_truths f b c)
  truths-assoc = inside-assoc f comm assoc (by_truths f) truth_in truth_back truth_there (truths-is f)

and-comm : (a b : Bool) → (a && b) ≡ (b && a)
and-comm true true = refl
and-comm true false = refl
and-comm false true = refl
and-comm false false = refl

and-assoc : (a b c : Bool) → ((a && b) && c) ≡ (a && (b && c))
and-assoc true b c = refl
and-assoc false b c = refl

or-comm : (a b : Bool) → (a || b) ≡ (b || a)
or-comm true true = refl
or-comm true false = refl
or-comm false true = refl
or-comm false false = refl

or-assoc : (a b c : Bool) → ((a || b) || c) ≡ (a || (b || c))
or-assoc true b c = refl
or-assoc false b c = refl

-- ---- the lesser of two by an order in which only equal items tie

pub by_test : {P : Type 0} (b : Bool) → (b ≡ true → P) → (b ≡ false → P) → P
by_test true p q = p refl
by_test false p q = q refl

less_of : (r : Ordering) → is_lt r ≡ true → r ≡ Less
less_of Less h = refl
less_of Equal h = absurd (true≢false (sym h))
less_of Greater h = absurd (true≢false (sym h))

neither : (r s : Ordering) → r ≡ ordering_reverse s → is_lt r ≡ false → is_lt s ≡ false → r ≡ Equal
neither Less s e h k = absurd (true≢false h)
neither Equal s e h k = refl
neither Greater Less e h k = absurd (true≢false k)
neither Greater Equal e h k = absurd (cc)
neither Greater Greater e h k = absurd (cc)

module _ {K : Type 0} {R : K → K → Ordering} (o : IsTotalOrder R) (tied : (x y : K) → R x y ≡ Equal → x ≡ y) where
  abbrev pub pick : K → K → K
  pick a b = cond (is_lt (R b a)) b a

  pick-second : (a b : K) → is_lt (R b a) ≡ true → pick a b ≡ b
  pick-second a b h = ap (λ t. cond t b a) h

  pick-first : (a b : K) → is_lt (R b a) ≡ false → pick a b ≡ a
  pick-first a b h = ap (λ t. cond t b a) h

  pub pick-comm : (a b : K) → pick a b ≡ pick b a
  pick-comm a b = by_test (is_lt (R b a))
      (λ below. pick-second a b below ∙ sym (pick-first b a ((ranks_by o (λ x. x)).one_way b a below)))
      (λ above. by_test (is_lt (R a b))
      (λ below. pick-first a b above ∙ sym (pick-second b a below))
      (λ too. pick-first a b above ∙ tied a b (neither (R a b) (R b a) (o.antisymm a b) too above) ∙ sym (pick-first b a too)))

  pub pick-assoc : (a b c : K) → pick (pick a b) c ≡ pick a (pick b c)
  pick-assoc a b c = by_test (is_lt (R b a))
      (λ ba. by_test (is_lt (R c b))
      (λ cb. ap (λ x. pick x c) (pick-second a b ba) ∙ pick-second b c cb ∙ sym (ap (pick a) (pick-second b c cb)
      ∙ pick-second a c (ap is_lt (o.trans c b a (less_of (R c b) cb) (less_of (R b a) ba)))))
      (λ bc. ap (λ x. pick x c) (pick-second a b ba) ∙ pick-first b c bc ∙ sym (ap (pick a) (pick-first b c bc) ∙ pick-second a b ba)))
      (λ ab. by_test (is_lt (R c b))
      (λ cb. ap (λ x. pick x c) (pick-first a b ab) ∙ sym (ap (pick a) (pick-second b c cb)))
      (λ bc. ap (λ x. pick x c) (pick-first a b ab) ∙ pick-first a c ((ranks_by o (λ x. x)).chain c b a bc ab) ∙ sym (ap (pick a) (pick-first b c bc) ∙ pick-first a b ab)))

  pub pick-one : (P : K → Type 0) (a b : K) → P a → P b → P (pick a b)
  pick-one P a b p q = by_test (is_lt (R b a)) (λ h. subst P (sym (pick-second a b h)) q) (λ h. subst P (sym (pick-first a b h)) p)

-- ---- with nulls left out

abbrev choose : (Value → Value → Value) → Value → Value → Value
choose f a b = cond (is_null a) b (cond (is_null b) a (f a b))

module _ (f : Value → Value → Value) (comm : (a b : Value) → f a b ≡ f b a) (assoc : (a b c : Value) → f (f a b) c ≡ f a (f b c)) (kept : (a b : Value) → is_null a ≡ false → is_null b ≡ false → is_null (f a b) ≡ false) where
  choose-Null : (a : Value) → choose f a Null ≡ a
  choose-Null Null = refl
  choose-Null (Truth x) = refl
  choose-Null (Int x) = refl
  choose-Null (Text x) = refl

  given : (a b : Value) → is_null a ≡ false → is_null b ≡ false → choose f a b ≡ f a b
  given a b p q = ap (λ t. cond t b (cond (is_null b) a (f a b))) p ∙ ap (λ t. cond t a (f a b)) q

  null-is : (a : Value) → is_null a ≡ true → a ≡ Null
  null-is Null h = refl
  null-is (Truth x) h = absurd (true≢false (sym h))
  null-is (Int x) h = absurd (true≢false (sym h))
  null-is (Text x) h = absurd (true≢false (sym h))

  pub choose-comm : (a b : Value) → choose f a b ≡ choose f b a
  choose-comm a b = by_test (is_null a)
      (λ p. subst (λ v. choose f v b ≡ choose f b v) (sym (null-is a p)) (sym (choose-Null b)))
      (λ p. by_test (is_null b)
      (λ q. subst (λ v. choose f a v ≡ choose f v a) (sym (null-is b q)) (choose-Null a))
      (λ q. given a b p q ∙ comm a b ∙ sym (given b a q p)))

  pub choose-assoc : (a b c : Value) → choose f (choose f a b) c ≡ choose f a (choose f b c)
  choose-assoc a b c = by_test (is_null a)
      (λ p. subst (λ v. choose f (choose f v b) c ≡ choose f v (choose f b c)) (sym (null-is a p)) refl)
      (λ p. by_test (is_null b)
      (λ q. subst (λ v. choose f (choose f a v) c ≡ choose f a (choose f v c)) (sym (null-is b q)) (ap (λ v. choose f v c) (choose-Null a)))
      (λ q. by_test (is_null c)
      (λ r. subst (λ v. choose f (choose f a b) v ≡ choose f a (choose f b v)) (sym (null-is c r)) (choose-Null (choose f a b) ∙ sym (ap (choose f a) (choose-Null b))))
      (λ r. ap (λ v. choose f v c) (given a b p q) ∙ given (f a b) c (kept a b p q) r ∙ assoc a b c
      ∙ sym (ap (choose f a) (given b c q r) ∙ given a (f b c) p (kept b c q r)))))

lt-flipped : (r s : Ordering) → r ≡ ordering_reverse s → is_lt r ≡ is_gt s
lt-flipped r Less e = ap is_lt e
lt-flipped r Equal e = ap is_lt e
lt-flipped r Greater e = ap is_lt e

abbrev least : Value → Value → Value
least a b = cond (is_lt (cmp_values b a)) b a

abbrev greatest : Value → Value → Value
greatest a b = cond (is_gt (cmp_values b a)) b a

tied-back : (x y : Value) → flip_args cmp_values x y ≡ Equal → x ≡ y
tied-back x y e = sym (cmp_values-tied y x e)

greatest-is : (a b : Value) → greatest a b ≡ pick (back_total cmp_values_total) tied-back a b
greatest-is a b = ap (λ t. cond t b a) (sym (lt-flipped (cmp_values a b) (cmp_values b a) (cmp_values_total.antisymm a b)))

least-comm : (a b : Value) → least a b ≡ least b a
least-comm = pick-comm cmp_values_total cmp_values-tied

least-assoc : (a b c : Value) → least (least a b) c ≡ least a (least b c)
least-assoc = pick-assoc cmp_values_total cmp_values-tied

greatest-comm : (a b : Value) → greatest a b ≡ greatest b a
greatest-comm a b = greatest-is a b ∙ pick-comm (back_total cmp_values_total) tied-back a b ∙ sym (greatest-is b a)

greatest-assoc : (a b c : Value) → greatest (greatest a b) c ≡ greatest a (greatest b c)
greatest-assoc a b c =
    greatest-is (greatest a b) c ∙ ap (λ x. pick (back_total cmp_values_total) tied-back x c) (greatest-is a b)
    ∙ pick-assoc (back_total cmp_values_total) tied-back a b c
    ∙ sym (greatest-is a (greatest b c) ∙ ap (pick (back_total cmp_values_total) tied-back a) (greatest-is b c))

least-kept : (a b : Value) → is_null a ≡ false → is_null b ≡ false → is_null (least a b) ≡ false
least-kept a b p q = pick-one cmp_values_total cmp_values-tied (λ v. is_null v ≡ false) a b p q

greatest-kept : (a b : Value) → is_null a ≡ false → is_null b ≡ false → is_null (greatest a b) ≡ false
greatest-kept a b p q = subst (λ v. is_null v ≡ false) (sym (greatest-is a b)) (pick-one (back_total cmp_values_total) tied-back (λ v. is_null v ≡ false) a b p q)

-- ---- any aggregate

pub plus-comm : (name : AggregateName) (a b : Value) → plus name a b ≡ plus name b a
plus-comm Count = added-comm
plus-comm Sum = added-comm
plus-comm Min = choose-comm least least-comm least-assoc least-kept
plus-comm Max = choose-comm greatest greatest-comm greatest-assoc greatest-kept
plus-comm BoolAnd = truths-comm ◌&&◌ and-comm and-assoc
plus-comm BoolOr = truths-comm ◌||◌ or-comm or-assoc

pub plus-assoc : (name : AggregateName) (a b c : Value) → plus name (plus name a b) c ≡ plus name a (plus name b c)
plus-assoc Count = added-assoc
plus-assoc Sum = added-assoc
plus-assoc Min = choose-assoc least least-comm least-assoc least-kept
plus-assoc Max = choose-assoc greatest greatest-comm greatest-assoc greatest-kept
plus-assoc BoolAnd = truths-assoc ◌&&◌ and-comm and-assoc
plus-assoc BoolOr = truths-assoc ◌||◌ or-comm or-assoc

-- two rows may change places
pub plus-turns : (name : AggregateName) (a x y : Value) → plus name (plus name a x) y ≡ plus name (plus name a y) x
plus-turns name a x y = plus-assoc name a x y ∙ ap (plus name a) (plus-comm name x y) ∙ sym (plus-assoc name a y x)
