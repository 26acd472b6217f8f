-- The moves of a query, each by what it names.
use Rattle.std.specs.Prelude.{◌≡◌, ◌≢◌, ◌⊎◌, ℕ, if◌then◌else◌, nat_eq, List, [], ◌++◌}
use Rattle.vx_value.specs.Row.{Row}
use Rattle.vx_rest.specs.Lists.{nothing, only_at}
use Rattle.vx_rest.specs.Held.{Holding}
use Rattle.vx_rest.specs.Fits.{Passed}

-- rows out of the hand behind a node in one driver
abbrev pub taking : ℕ → ℕ → List Row → Passed
taking node place rows =
    record { taken = λ id. if nat_eq id node then only_at place rows else nothing; put = λ id. nothing }

-- rows into it
abbrev pub putting : ℕ → ℕ → List Row → Passed
putting node place rows =
    record { taken = λ id. nothing; put = λ id. if nat_eq id node then only_at place rows else nothing }

-- no rows at all
abbrev pub standing : Passed
standing = record { taken = λ id. nothing; put = λ id. nothing }

-- the other hands stay
abbrev pub HandsStayBut : ℕ → ℕ → Holding → Holding → Type 0
HandsStayBut node place old new = (id driver : ℕ) → (id ≢ node) ⊎ (driver ≢ place)
    → new.hand id driver ≡ old.hand id driver

-- one hand had these rows, and has none
pub record HandEmptied (node place : ℕ) (rows : List Row) (old new : Holding) : Type 0 where
  pub before : old.hand node place ≡ rows
  pub after : new.hand node place ≡ []
  pub others : HandsStayBut node place old new

-- one hand had none, and has these rows
pub record HandFilled (node place : ℕ) (rows : List Row) (old new : Holding) : Type 0 where
  pub before : old.hand node place ≡ []
  pub after : new.hand node place ≡ rows
  pub others : HandsStayBut node place old new

-- all hands stay
abbrev pub HandsStay : Holding → Holding → Type 0
HandsStay old new = (id driver : ℕ) → new.hand id driver ≡ old.hand id driver

-- what the other nodes keep stays
pub record StaysBut (node : ℕ) (old new : Holding) : Type 0 where
  pub held : (id : ℕ) → id ≢ node → new.held id ≡ old.held id
  pub join : (id : ℕ) → id ≢ node → new.join id ≡ old.join id
  pub out : new.out ≡ old.out

-- the last hand comes out
pub record ComesOut (node : ℕ) (rows : List Row) (old new : Holding) : Type 0 where
  pub hands : HandEmptied node 0 rows old new
  pub held : new.held ≡ old.held
  pub join : new.join ≡ old.join
  pub out : new.out ≡ old.out ++ rows
