-- Joins of whole lists, one row at a time.
use Rattle.std.proofs.Common.{◌≡◌, Bool, true, false, not, ◌||◌, cond, List, [], ◌∷◌, map, refl, sym, ap, ◌∙◌}
use Rattle.std.specs.Prelude.{filter, flat_map, if◌then◌else◌}
use Rattle.std.specs.List.{list_any}
use Rattle.vx_value.specs.Row.{Row}
use Rattle.vx_plan.specs.declared.node.JoinKind.{JoinKind}
use Rattle.vx_meaning.specs.Joins.{On, Build, fresh, matches, if_none, given, probed}

-- a list of rows keeps its rows when each is marked as not matched yet
pub rows-fresh : (rows : List Row) → map (λ (b : Build). b.row) (map fresh rows) ≡ rows
rows-fresh [] = refl
rows-fresh (row ∷ rows) = ap (λ rest. row ∷ rest) (rows-fresh rows)

pub probed-fresh : (kind : JoinKind) (on : On) (left right : List Row) → flat_map (λ l. given kind on l (filter (matches on l) right)) left ≡ probed kind on left (map fresh right)
probed-fresh kind on left right = ap (λ rows. flat_map (λ l. given kind on l (filter (matches on l) rows)) left) (sym (rows-fresh right))

pub if_none-is : (test : Row → Bool) (rows none some : List Row) → if_none (filter test rows) none some ≡ (if list_any test rows then some else none)
if_none-is test [] none some = refl
if_none-is test (row ∷ rows) none some = elim (test row) as (λ b. if_none (cond b (row ∷ filter test rows) (filter test rows)) none some ≡ (if b || list_any test rows then some else none)) [ true ↦ refl | false ↦ if_none-is test rows none some ]

pub if_none-some : (test : Row → Bool) (rows none some : List Row) → list_any test rows ≡ true → if_none (filter test rows) none some ≡ some
if_none-some test rows none some h = if_none-is test rows none some ∙ ap (λ b. if b then some else none) h

pub if_none-none : (test : Row → Bool) (rows none some : List Row) → list_any test rows ≡ false → if_none (filter test rows) none some ≡ none
if_none-none test rows none some h = if_none-is test rows none some ∙ ap (λ b. if b then some else none) h

turned : (b : Bool) (xs ys : List Row) → (if b then xs else ys) ≡ (if not b then ys else xs)
turned true xs ys = refl
turned false xs ys = refl

pub semi-is : (test : Row → Bool) (rows : List Row) (left : Row) → (if list_any test rows then left ∷ [] else []) ≡ if_none (filter test rows) [] (left ∷ [])
semi-is test rows left = sym (if_none-is test rows [] (left ∷ []))

pub anti-is : (test : Row → Bool) (rows : List Row) (left : Row) → (if not (list_any test rows) then left ∷ [] else []) ≡ if_none (filter test rows) (left ∷ []) []
anti-is test rows left = sym (if_none-is test rows (left ∷ []) [] ∙ turned (list_any test rows) [] (left ∷ []))
