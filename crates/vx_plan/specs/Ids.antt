-- That no id stands twice.
use Rattle.std.specs.Prelude.{ℕ, if◌then◌else◌, nat_eq, List, [], ◌∷◌, ◌++◌, map, Result, Ok, Err}
use Rattle.std.specs.List.{list_any}
use Rattle.vx_plan.specs.declared.refusal.Refusal.{Refusal}
use Rattle.vx_plan.specs.declared.refusal.Refusal.TheVariants.{P7}
use Rattle.vx_plan.specs.Outcome.{on_ok}
use Rattle.vx_plan.specs.Tree.{Tree, values, over, join, id_of, pre_order}

-- the first id that was met before, or stands earlier in the list, refuses
abbrev pub no_repeat : List ℕ → List ℕ → Result Unit Refusal
no_repeat met [] = Ok tt
no_repeat met (id ∷ ids) = if list_any (nat_eq id) met then Err (P7 id) else no_repeat (met ++ id ∷ []) ids

-- the first id in pre-order that repeats an earlier one refuses
abbrev pub check_ids : Tree → Result Unit Refusal
check_ids t = no_repeat [] (map id_of (pre_order t))

-- ---- the same, node by node

-- the ids that were met with one more, or its refusal
abbrev pub enter : List ℕ → ℕ → Result (List ℕ) Refusal
enter met id = if list_any (nat_eq id) met then Err (P7 id) else Ok (met ++ id ∷ [])

-- those with the ids of a node and all below it
abbrev pub enter_all : Tree → List ℕ → Result (List ℕ) Refusal
enter_all (values id kinds rows parallel) met = enter met id
enter_all (over id own source) met = on_ok (enter met id) (enter_all source)
enter_all (join id kind on_left on_right left right) met =
    on_ok (enter met id) (λ here. on_ok (enter_all left here) (enter_all right))
