-- Kinds found one after another.
use Rattle.std.proofs.Common.{◌≡◌, ℕ, List, [], ◌∷◌, ◌++◌, append_assoc, map, Result, Ok, Err, refl, ap, sym, ◌∙◌}
use Rattle.std.proofs.lemmas.List.{append-nil}
use Rattle.vx_value.specs.declared.value.Kind.{Kind}
use Rattle.vx_expr.specs.declared.outcome.TypeError.{TypeError}
use Rattle.vx_expr.specs.declared.expression.Expr.{Expr}
use Rattle.vx_expr.specs.Typing.{Typed, type_of, all_kinds, and_then}
use Rattle.vx_plan.specs.declared.refusal.Refusal.{Refusal}
use Rattle.vx_plan.specs.Outcome.{on_ok}
use Rattle.vx_plan.specs.Tree.{Tree, over, project}
use Rattle.vx_plan.specs.Types.{Kinds, all_in_order, named, typed}

-- what was found, then what is still to come
abbrev pub continued : List Kind → Kinds → Kinds
continued out rest = on_ok rest (λ more. Ok (out ++ more))

pub continued_first : (rest : Kinds) → continued [] rest ≡ rest
continued_first (Ok more) = refl
continued_first (Err e) = refl

pub continued_last : (out : List Kind) → continued out (Ok []) ≡ Ok out
continued_last out = ap Ok (append-nil out)

one_kind : (out : List Kind) (k : Kind) (rest : Kinds) → continued out (and_then (Ok k) (λ k. and_then rest (λ ks. Ok (k ∷ ks)))) ≡ continued (out ++ k ∷ []) rest
one_kind out k (Ok ks) = ap Ok (sym (append_assoc out (k ∷ []) ks))
one_kind out k (Err e) = refl

-- one more kind, and one that is refused
pub kind_more : (out : List Kind) (t : Typed) (k : Kind) (ts : List Typed) → t ≡ Ok k → continued out (all_kinds (t ∷ ts)) ≡ continued (out ++ k ∷ []) (all_kinds ts)
kind_more out t k ts is = ap (λ t. continued out (all_kinds (t ∷ ts))) is ∙ one_kind out k (all_kinds ts)

pub kind_refused : (out : List Kind) (t : Typed) (e : TypeError) (ts : List Typed) → t ≡ Err e → continued out (all_kinds (t ∷ ts)) ≡ Err e
kind_refused out t e ts is = ap (λ t. continued out (all_kinds (t ∷ ts))) is

some_kinds : (out ks : List Kind) (rest : Kinds) → continued out (on_ok (Ok ks) (λ front. on_ok rest (λ more. Ok (front ++ more)))) ≡ continued (out ++ ks) rest
some_kinds out ks (Ok more) = ap Ok (sym (append_assoc out ks more))
some_kinds out ks (Err e) = refl

-- some more kinds, and some that are refused
pub kinds_more : (out : List Kind) (t : Kinds) (ks : List Kind) (ts : List Kinds) → t ≡ Ok ks → continued out (all_in_order (t ∷ ts)) ≡ continued (out ++ ks) (all_in_order ts)
kinds_more out t ks ts is = ap (λ t. continued out (all_in_order (t ∷ ts))) is ∙ some_kinds out ks (all_in_order ts)

pub kinds_refused : (out : List Kind) (t : Kinds) (e : TypeError) (ts : List Kinds) → t ≡ Err e → continued out (all_in_order (t ∷ ts)) ≡ Err e
kinds_refused out t e ts is = ap (λ t. continued out (all_in_order (t ∷ ts))) is

-- a projection, in the form of an answer
pub projected : (t s : Tree) (id : ℕ) (es seen : List Expr) (ks seen_kinds : List Kind) (r : Result (List Kind) Refusal) (p : Kinds) → t ≡ over id (project es) s → Ok ks ≡ typed s → seen ≡ es → seen_kinds ≡ ks → p ≡ all_kinds (map (λ e. type_of e seen_kinds) seen) → r ≡ named id p → r ≡ typed t
projected t s id es seen ks seen_kinds r p is below same same_kinds found told =
    told ∙ ap (named id) (found ∙ ap (λ xs. all_kinds (map (λ e. type_of e seen_kinds) xs)) same ∙ ap (λ (kinds : List Kind). all_kinds (map (λ e. type_of e kinds) es)) same_kinds)
    ∙ ap (λ k. on_ok k (λ kinds. named id (all_kinds (map (λ e. type_of e kinds) es)))) below
    ∙ ap typed (sym is)
