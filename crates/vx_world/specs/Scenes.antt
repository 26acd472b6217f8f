-- What a world is, and what holds of it in every run.
use Rattle.std.specs.Prelude.{◌≡◌, ℕ, ◌+◌, ◌≤◌, ◌==◌, false, if◌then◌else◌, Option, None, MatchOption, List, [], ◌∷◌, All, find, sum_by, count_by}
use Rattle.vx_arb.specs.declared.members.Member.{Ghosts}
use Rattle.vx_arb.specs.Books.{Books, Asked, IsBooks, Stands}
use Rattle.vx_arb.specs.Members.{IsWithin}
use Rattle.vx_arb.specs.Rows.{is_live, capacity_at}

-- the arbitrator's books, the members, and the request that stands
pub record Scene (M : Type 0) : Type 0 where
  pub books : Books
  pub members : List M
  pub request : Option Asked

-- the member of a job
abbrev pub member_of : {M L : Type 0} → Ghosts M L → List M → ℕ → Option M
member_of ghosts members job = find (λ member. ghosts.job_is member == job) members

-- the members, with another in the place of that of its job
abbrev pub with_member : {M L : Type 0} → Ghosts M L → List M → ℕ → M → List M
with_member ghosts [] job new = []
with_member ghosts (member ∷ rest) job new =
    if ghosts.job_is member == job then new ∷ rest else member ∷ with_member ghosts rest job new

-- a member's reserved amount is at most its capacity, and the rest of the capacity is unused
abbrev pub Fits : {M L : Type 0} → Ghosts M L → M → Type 0
Fits ghosts member = IsWithin (ghosts.capacity_is member) (ghosts.reserved_is member) (ghosts.unused_is member)

-- The rule of a world: no capacity is made or lost, no member has more reserved than its capacity, and
-- each live row has the capacity of its member.
pub record IsWorld {M L : Type 0} (ghosts : Ghosts M L) (scene : Scene M) : Type 0 where
  pub books_hold : IsBooks scene.books
  pub adds_up : scene.books.free + sum_by ghosts.capacity_is scene.members ≡ scene.books.total
  pub within : All (Fits ghosts) scene.members
  pub tied : (job : ℕ) → MatchOption (member_of ghosts scene.members job) (is_live scene.books.live job ≡ false)
      (λ member. capacity_at scene.books.live job ≡ ghosts.capacity_is member)
  pub single : (job : ℕ) → count_by (λ member. ghosts.job_is member == job) scene.members ≤ 1
  pub stands : MatchOption scene.request (scene.books.standing ≡ None) (Stands scene.books)
