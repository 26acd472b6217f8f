-- Ids met part by part, and a tree's own id.
use Rattle.std.proofs.Common.{◌≡◌, ℕ, true, false, List, [], ◌∷◌, ◌++◌, nat_eq, if◌then◌else◌, refl, ap, sym, ◌∙◌, append_assoc, map, Result, Ok, Err}
use Rattle.std.proofs.lemmas.List.{append-nil, map-append}
use Rattle.std.specs.List.{list_any}
use Rattle.vx_plan.specs.declared.refusal.Refusal.{Refusal}
use Rattle.vx_plan.specs.declared.refusal.Refusal.TheVariants.{P7}
use Rattle.vx_plan.specs.Outcome.{on_ok}
use Rattle.vx_plan.specs.Tree.{Tree, values, over, join, id_of, pre_order}
use Rattle.vx_plan.specs.Ids.{no_repeat, enter, enter_all, check_ids}

pub no_repeat_append : (met xs ys : List ℕ) → no_repeat met (xs ++ ys) ≡ on_ok (no_repeat met xs) (λ _. no_repeat (met ++ xs) ys)
no_repeat_append met [] ys = ap (λ m. no_repeat m ys) (sym (append-nil met))
no_repeat_append met (x ∷ xs) ys =
    elim (list_any (nat_eq x) met) as (λ b. (if b then Err (P7 x) else no_repeat (met ++ x ∷ []) (xs ++ ys)) ≡ on_ok (if b then Err (P7 x) else no_repeat (met ++ x ∷ []) xs) (λ _. no_repeat (met ++ x ∷ xs) ys)) [
      | true ↦ refl
      | false ↦ no_repeat_append (met ++ x ∷ []) xs ys ∙ ap (λ m. on_ok (no_repeat (met ++ x ∷ []) xs) (λ _. no_repeat m ys)) (append_assoc met (x ∷ []) xs)
    ]

alone : {A E : Type 0} (r : Result A E) → r ≡ on_ok r Ok
alone (Ok a) = refl
alone (Err e) = refl

-- no id twice, with the ids that were met then
abbrev met_after : List ℕ → List ℕ → Result (List ℕ) Refusal
met_after met xs = on_ok (no_repeat met xs) (λ _. Ok (met ++ xs))

-- one id, and those after it
one_more : (met : List ℕ) (id : ℕ) (xs : List ℕ) → on_ok (enter met id) (λ here. met_after here xs) ≡ met_after met (id ∷ xs)
one_more met id xs =
    elim (list_any (nat_eq id) met) as (λ b. on_ok {E = Refusal} (if b then Err (P7 id) else Ok (met ++ id ∷ [])) (λ here. met_after here xs) ≡ on_ok {E = Refusal} (if b then Err (P7 id) else no_repeat (met ++ id ∷ []) xs) (λ _. Ok (met ++ id ∷ xs))) [
      | true ↦ refl
      | false ↦ ap (λ (m : List ℕ). on_ok {E = Refusal} (no_repeat (met ++ id ∷ []) xs) (λ _. Ok m)) (append_assoc met (id ∷ []) xs)
    ]

-- some ids, and those after them
both : (r : Result Unit Refusal) (here xs ys : List ℕ) → on_ok (on_ok r (λ _. Ok (here ++ xs))) (λ more. met_after more ys) ≡ on_ok (on_ok r (λ _. no_repeat (here ++ xs) ys)) (λ _. Ok ((here ++ xs) ++ ys))
both (Ok u) here xs ys = refl
both (Err e) here xs ys = refl

two_parts : (here xs ys : List ℕ) → on_ok (met_after here xs) (λ more. met_after more ys) ≡ met_after here (xs ++ ys)
two_parts here xs ys =
    both (no_repeat here xs) here xs ys
    ∙ ap (λ r. on_ok r (λ _. Ok ((here ++ xs) ++ ys))) (sym (no_repeat_append here xs ys))
    ∙ ap (λ (m : List ℕ). on_ok (no_repeat here (xs ++ ys)) (λ _. Ok m)) (append_assoc here xs ys)

-- what goes on alike gives alike
alike : {A B E : Type 0} (r : Result A E) (f g : A → Result B E) → ((a : A) → f a ≡ g a) → on_ok r f ≡ on_ok r g
alike (Ok a) f g h = h a
alike (Err e) f g h = refl

-- a node's ids are met one after another, in pre-order
pub enter_all_is : (t : Tree) (met : List ℕ) → enter_all t met ≡ met_after met (map id_of (pre_order t))
enter_all_is (values id kinds rows parallel) met = alone (enter met id) ∙ alike (enter met id) Ok (λ here. met_after here []) (λ here. ap Ok (sym (append-nil here))) ∙ one_more met id []
enter_all_is (over id own source) met =
    alike (enter met id) (enter_all source) (λ here. met_after here (map id_of (pre_order source))) (enter_all_is source)
    ∙ one_more met id (map id_of (pre_order source))
enter_all_is (join id kind on_left on_right l r) met =
    alike (enter met id) (λ here. on_ok (enter_all l here) (enter_all r)) (λ here. met_after here (map id_of (pre_order l ++ pre_order r))) (λ here.
    ap (λ x. on_ok x (enter_all r)) (enter_all_is l here)
    ∙ alike (met_after here (map id_of (pre_order l))) (enter_all r) (λ more. met_after more (map id_of (pre_order r))) (enter_all_is r)
    ∙ two_parts here (map id_of (pre_order l)) (map id_of (pre_order r))
    ∙ ap (met_after here) (sym (map-append id_of (pre_order l) (pre_order r))))
    ∙ one_more met id (map id_of (pre_order l ++ pre_order r))

forget : (r : Result Unit Refusal) (xs : List ℕ) → on_ok (on_ok r (λ _. Ok xs)) (λ _. Ok tt) ≡ r
forget (Ok tt) xs = refl
forget (Err e) xs = refl

-- so what was met, forgotten, is the stage
pub check_ids_is : (t : Tree) → on_ok (enter_all t []) (λ _. Ok tt) ≡ check_ids t
check_ids_is t = ap (λ r. on_ok r (λ _. Ok tt)) (enter_all_is t []) ∙ forget (no_repeat [] (map id_of (pre_order t))) (map id_of (pre_order t))
