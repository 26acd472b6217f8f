-- What the fields of a seat and of its board mean to each other.
use Rattle.std.proofs.Common.{◌≡◌, ℕ, ◌<◌, Bool, true, false, sym, ◌∙◌, subst, subst₂, length-set}
use Rattle.vx_board.specs.declared.view.Terms.{Terms}
use Rattle.vx_board.specs.declared.view.View.{View}
use Rattle.vx_board.specs.Seats.{Size, Known, IsWhole, IsSeatOf, Claims, Sees}

-- a fact of the values is one of the fields
pub own_inside : (size board : Size) (known seat : Known) → size ≡ board → known ≡ seat → IsSeatOf board seat
    → IsSeatOf size known
own_inside size board known seat same_size same own = subst₂ IsSeatOf (sym same_size) (sym same) own

pub low_inside : (size board : Size) (job : ℕ) → size ≡ board → job < board.terms.jobs → job < size.terms.jobs
low_inside size board job same low = subst (λ (z : Size). job < z.terms.jobs) (sym same) low

-- a seat still belongs to its board where its view stays whole
pub own_after : (size board : Size) (known seat now : Known) → size ≡ board → known ≡ seat
    → IsSeatOf board seat → now.table ≡ known.table
    → (IsWhole size.terms known.view → IsWhole size.terms now.view) → IsSeatOf board now
own_after size board known seat now same_size same own table whole =
    let inside = own_inside size board known seat same_size same own in
    subst (λ (z : Size). IsSeatOf z now) same_size
    (record { table = table ∙ inside.table; whole = whole inside.whole })

-- what a step tells of the view inside is told of the value
pub told_outside : (P : View → Type 0) (known seat : Known) → known ≡ seat → P known.view → P seat.view
told_outside P known seat same told = subst (λ (k : Known). P k.view) same told

pub claims_whole : (t : Terms) (v : View) (job : ℕ) (won : Bool) (w : View) → Claims v job won w → IsWhole t v
    → IsWhole t w
claims_whole t v job true w told whole =
    subst (IsWhole t) (sym told.drawn) (record { jobs = whole.jobs; most = whole.most })
claims_whole t v job false w told whole =
    subst (IsWhole t) (sym told.drawn) (record { jobs = whole.jobs; most = whole.most })

pub sees_whole : (t : Terms) (v : View) (job peak : ℕ) (w : View) → Sees v job peak w → IsWhole t v → IsWhole t w
sees_whole t v job peak w told whole =
    subst (IsWhole t) (sym told.noted)
    (record { jobs = length-set v.seen job peak ∙ whole.jobs; most = whole.most })
