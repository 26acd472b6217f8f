-- What each kind of step on the accounts tells: of the step, the holder before, the number found and the
-- holder after. A holder is its view and the slots that it has, of which accounts have none.
use Rattle.std.specs.Prelude.{◌≡◌, ℕ}
use mathlib.Core.Option.{some}
use Rattle.atomic_table.specs.Table.{Me, Step}
use Rattle.vx_account.specs.declared.view.Slip.{Slip}
use Rattle.vx_account.specs.declared.view.View.{View}
use Rattle.vx_account.specs.Holders.{NoneTwice, Has, amount_of}

abbrev pub Sat : Type 0
Sat = Me Slip View

abbrev pub Kind : Type 1
Kind = Step Slip → Sat → ℕ → Sat → Type 0

-- what the rule says of one view alone
pub record Tells (view : View) : Type 0 where
  pub books : NoneTwice view.books
  pub parts : NoneTwice view.parts
  pub equal : (account : ℕ) → Has account view.books → Has account view.parts
      → amount_of account view.books ≡ amount_of account view.parts

-- a step that changes the view by the account and the amount that it is given
abbrev pub changed : (View → Slip → View) → Kind
changed change step before found after =
    (after.1 ≡ before.1)
    × ((given : Slip) → step.said ≡ some given → after.0 ≡ change before.0 given)
    × Tells before.0

-- a step that changes nothing
abbrev pub looked : Kind
looked step before found after = (after ≡ before) × Tells before.0
