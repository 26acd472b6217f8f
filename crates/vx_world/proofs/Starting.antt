-- A world in which no job is live yet.
use Rattle.std.proofs.Common.{◌≡◌, ℕ, ◌≤◌, true, false, cond, eqb, Option, Some, None, MatchOption, List, [], ◌∷◌, All, refl, ap, arith}
use Rattle.std.specs.List.{sum_by, count_by}
use Rattle.std.proofs.lemmas.List.Sums.{sum_by-cons}
use Rattle.vx_arb.specs.declared.members.Member.{Ghosts}
use Rattle.vx_arb.specs.declared.rows.Live.{Live}
use Rattle.vx_arb.specs.Books.{Books, IsBooks}
use Rattle.vx_arb.specs.Rows.{is_live, capacity_at}
use Rattle.vx_world.specs.Scenes.{IsWorld, Fits, member_of}

-- no member has more than all have together
found_within : {M L : Type 0} (ghosts : Ghosts M L) (members : List M) (job : ℕ) (member : M) → member_of ghosts members job ≡ Some member → ghosts.capacity_is member ≤ sum_by ghosts.capacity_is members
found_within ghosts [] job member h = absurd (cc)
found_within ghosts (first ∷ rest) job member h =
    elim (eqb (ghosts.job_is first) job) as (λ b. cond b (Some first) (member_of ghosts rest job) ≡ Some member → ghosts.capacity_is member ≤ sum_by ghosts.capacity_is (first ∷ rest)) [
      | true ↦ λ f. let same : first ≡ member = cc in omega (arith, sum_by-cons ghosts.capacity_is first rest, ap ghosts.capacity_is same)
      | false ↦ λ f. omega (arith, sum_by-cons ghosts.capacity_is first rest, found_within ghosts rest job member f)
    ] h

pub world_new : {M L : Type 0} (ghosts : Ghosts M L) (books : Books) (members : List M) → IsBooks books → books.standing ≡ None → books.live ≡ [] → ((job : ℕ) → count_by (λ member. eqb (ghosts.job_is member) job) members ≤ 1) → sum_by ghosts.capacity_is members ≡ 0 → All (Fits ghosts) members → IsWorld ghosts (record { books = books; members = members; request = None })
world_new {M} ghosts books members rule quiet none apart bare fits = record {
  books_hold = rule;
  adds_up = omega (arith, bare, rule.adds_up, ap (λ (live : List Live). sum_by (λ (row : Live). row.capacity) live) none);
  within = fits;
  tied = λ job. rw none (tied job (member_of ghosts members job) refl);
  single = apart;
  stands = quiet;
}
  where
    tied : (job : ℕ) (o : Option M) → member_of ghosts members job ≡ o → MatchOption o (is_live [] job ≡ false) (λ member. capacity_at [] job ≡ ghosts.capacity_is member)
    tied job None e = refl
    tied job (Some member) e = omega (arith, bare, found_within ghosts members job member e)
