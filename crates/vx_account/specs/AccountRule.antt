-- The rule of the accounts: what holds of their word and of the views of all holders, between any two
-- steps.
use Rattle.std.specs.Prelude.{◌≡◌, ℕ, if◌then◌else◌, nat_lt, List, [], ◌∷◌, sum_by}
use Rattle.vx_account.specs.declared.view.View.{View}
use Rattle.vx_account.specs.Holders.{count_of, amount_of}

-- one of each account, and none of a number that is no account's
abbrev pub one_each : ℕ → ℕ → ℕ
one_each accounts account = if nat_lt account accounts then 1 else 0

-- The word never changes. Over all views each account has one book and one part, and their amounts are
-- equal.
pub record KeepsAccounts (accounts : ℕ) (words : List ℕ) (views : List View) : Type 0 where
  pub word : words ≡ 0 ∷ []
  pub books : (account : ℕ)
      → sum_by (λ view. count_of account view.books) views ≡ one_each accounts account
  pub parts : (account : ℕ)
      → sum_by (λ view. count_of account view.parts) views ≡ one_each accounts account
  pub equal : (account : ℕ)
      → sum_by (λ view. amount_of account view.books) views
      ≡ sum_by (λ view. amount_of account view.parts) views
