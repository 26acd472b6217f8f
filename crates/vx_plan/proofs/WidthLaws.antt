-- Where a node's width is lawful, it is `width_of`.
use Rattle.std.proofs.Common.{◌≡◌, ℕ, List, [], ◌∷◌, Bool, true, false, Result, Ok, Err, if◌then◌else◌, refl, ap, ◌∙◌}
use Rattle.vx_plan.specs.declared.aggregate.Step.{Step}
use Rattle.vx_plan.specs.declared.aggregate.Step.TheVariants.{Single, Partial, Final}
use Rattle.vx_plan.specs.declared.refusal.Refusal.{Refusal}
use Rattle.vx_plan.specs.declared.refusal.Refusal.TheVariants.{P5}
use Rattle.vx_plan.specs.declared.widths.Width.{Width}
use Rattle.vx_plan.specs.declared.widths.Width.TheVariants.{One, Many}
use Rattle.vx_plan.specs.Outcome.{on_ok}
use Rattle.vx_plan.specs.Tree.{Tree, values, over, join, Own, filter, project, aggregation, order, topn, limit, exchange}
use Rattle.vx_plan.specs.Widths.{width, width_over, width_aggregated, width_grouped, from_one, is_dealt_by}
use Rattle.vx_plan.specs.Width.{width_of, width_over_of, width_of_groups}

one_is : (id : ℕ) (below w : Width) → from_one id below ≡ Ok w → One ≡ w
one_is id One w h = cc
one_is id Many w h = absurd (cc)

dealt_is : (dealt : Bool) (id : ℕ) (w : Width) → (if dealt then Ok Many else Err (P5 id)) ≡ Ok w → Many ≡ w
dealt_is true id w h = cc
dealt_is false id w h = absurd (cc)

-- a grouping with keys has its source's width
grouped_is : (id key : ℕ) (keys : List ℕ) (s : Tree) (below w : Width) → width_grouped id (key ∷ keys) s below ≡ Ok w → below ≡ w
grouped_is id key keys s One w h = cc
grouped_is id key keys s Many w h = dealt_is (is_dealt_by (key ∷ keys) s) id w h

aggregated_is : (id : ℕ) (step : Step) (keys : List ℕ) (s : Tree) (below w : Width) → width_aggregated id step keys s below ≡ Ok w → width_of_groups step keys below ≡ w
aggregated_is id Partial keys s below w h = cc
aggregated_is id Single [] s below w h = one_is id below w h
aggregated_is id Single (key ∷ keys) s below w h = grouped_is id key keys s below w h
aggregated_is id Final [] s below w h = one_is id below w h
aggregated_is id Final (key ∷ keys) s below w h = grouped_is id key keys s below w h

over_is : (id : ℕ) (own : Own) (s : Tree) (below w : Width) → width_over id own s below ≡ Ok w → width_over_of own below ≡ w
over_is id (filter e) s below w h = cc
over_is id (project es) s below w h = cc
over_is id (aggregation step keys aggregates) s below w h = aggregated_is id step keys s below w h
over_is id (order keys) s below w h = one_is id below w h
over_is id (topn count keys) s below w h = one_is id below w h
over_is id (limit offset count) s below w h = one_is id below w h
over_is id (exchange kind keys) s below w h = cc

joined_is : (a b : Result Width Refusal) (id : ℕ) (w : Width) → on_ok a (λ x. on_ok b (λ _. from_one id x)) ≡ Ok w → One ≡ w
joined_is (Ok x) (Ok y) id w h = one_is id x w h
joined_is (Ok x) (Err e) id w h = absurd (cc)
joined_is (Err e) b id w h = absurd (cc)

pub width_is : (t : Tree) (w : Width) → width t ≡ Ok w → width_of t ≡ w
width_is (values id kinds rows parallel) w h = cc
width_is (over id own s) w h =
    elim (width s) as (λ r. width s ≡ r → on_ok r (width_over id own s) ≡ Ok w → width_over_of own (width_of s) ≡ w) [
      | Ok below ↦ λ e found. ap (width_over_of own) (width_is s below e) ∙ over_is id own s below w found
      | Err error ↦ λ e found. absurd (cc)
    ] refl h
width_is (join id kind on_left on_right l r) w h = joined_is (width l) (width r) id w h
