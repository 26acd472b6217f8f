use Rattle.std.proofs.Common.{◌≡◌, ℕ, ◌<◌, List, [], ◌∷◌, length, drop, refl, sym, ◌∙◌, arith, Less, Greater, length-drop}
use Rattle.vx_value.specs.KeyBytes.{key_values}
use Rattle.vx_value.specs.Row.{Row}
use Rattle.vx_meaning.specs.Groups.{key_cmp}
use Rattle.vx_meaning.proofs.cells.cmp_keys.Goals as goal

longer : (xs ys : List ℕ) (a b : Row) → 0 < length xs → length ys ≡ 0 → key_cmp (key_values xs a) (key_values ys b) ≡ Greater
longer [] ys a b h e = absurd (omega arith)
longer (x ∷ xs) [] a b h e = refl
longer (x ∷ xs) (y ∷ ys) a b h e = absurd (omega arith)

shorter : (xs ys : List ℕ) (a b : Row) → length xs ≡ 0 → 0 < length ys → key_cmp (key_values xs a) (key_values ys b) ≡ Less
shorter [] [] a b e h = absurd (omega arith)
shorter [] (y ∷ ys) a b e h = refl
shorter (x ∷ xs) ys a b e h = absurd (omega arith)

pub returns-then-at-of_b : goal.returns-then-at-of_b
returns-then-at-of_b c =
    let xs = drop c.loop-at.at c.args.of_a.now in
    let ys = drop c.loop-at.at c.args.of_b.now in
    sym (longer xs ys c.args.a.now c.args.b.now (omega (arith, length-drop c.loop-at.at c.args.of_a.now)) (omega (arith, length-drop c.loop-at.at c.args.of_b.now))) ∙ c.loop-at.invariant.rest

pub returns-then-at-of_b-2 : goal.returns-then-at-of_b-2
returns-then-at-of_b-2 c =
    let xs = drop c.loop-at.at c.args.of_a.now in
    let ys = drop c.loop-at.at c.args.of_b.now in
    sym (shorter xs ys c.args.a.now c.args.b.now (omega (arith, length-drop c.loop-at.at c.args.of_a.now)) (omega (arith, length-drop c.loop-at.at c.args.of_b.now))) ∙ c.loop-at.invariant.rest
