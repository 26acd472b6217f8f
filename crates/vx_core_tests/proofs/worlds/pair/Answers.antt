use Rattle.std.proofs.Common.{◌≡◌, ◌≢◌, ℕ, ◌+◌, ◌≤◌, true, false, cond, eqb, List, [], ◌∷◌, ◌++◌, refl, ◌∙◌, ap, arith}
use Rattle.std.specs.List.{count_by}
use Rattle.std.proofs.lemmas.Bool.Decides.{nat_tests}
use Rattle.vx_world.specs.Plain.{Plain}
use Rattle.vx_core_tests.proofs.worlds.pair.Goals as goal

-- no number is two others
two_apart : (a b job : ℕ) → a ≢ b → 0 + cond (eqb a job) 1 0 + cond (eqb b job) 1 0 ≤ 1
two_apart a b job ne =
    elim (eqb a job) as (λ t. eqb a job ≡ t → 0 + cond t 1 0 + cond (eqb b job) 1 0 ≤ 1) [
      | true ↦ λ e. let is : a ≡ job = grind (arith, nat_tests) in
          let other : eqb b job ≡ false = grind (arith, nat_tests) in rw other (omega arith)
      | false ↦ λ e. elim (eqb b job) as (λ t. 0 + 0 + cond t 1 0 ≤ 1) [
        | true ↦ omega arith
        | false ↦ omega arith
      ]
    ] refl

members_apart : (items : List Plain) (a b : Plain) → items ≡ a ∷ b ∷ [] → a.job ≡ 0 → b.job ≡ 1 → (job : ℕ) → count_by (λ (m : Plain). eqb m.job job) items ≤ 1
members_apart items a b is first second job =
    let ne : a.job ≢ b.job = λ e. absurd (omega (arith, e, first, second)) in
    rw is (two_apart a.job b.job job ne)

pub new-requires-2-clause-apart : goal.new-requires-2-clause-apart
new-requires-2-clause-apart c =
    members_apart c.push_reserved-2.new.self.items c.args.first c.args.second
    (c.push_reserved-2.ensures.items ∙ ap (λ (l : List Plain). l ++ c.args.second ∷ []) (c.push_reserved.ensures.items ∙ ap (λ (l : List Plain). l ++ c.args.first ∷ []) (c.reserve.ensures.items ∙ c.new-members.ensures.items)))
    c.requires.first c.requires.second
