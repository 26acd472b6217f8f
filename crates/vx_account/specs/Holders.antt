-- Books and parts of accounts, as holders have them, and how each call moves or changes them.
use Rattle.std.specs.Prelude.{ℕ, zero, suc, ◌<◌, ◌≤◌, ◌==◌, if◌then◌else◌, Bool, not, List, [], ◌∷◌, ◌++◌, map, filter, count_by, sum_by}
use Rattle.atomic_table.specs.Seated.{TableId}
use Rattle.vx_account.specs.declared.view.Slip.{Slip}
use Rattle.vx_account.specs.declared.view.View.{View}

-- what contracts see of the accounts: which table their word is, and how many they are
pub record Size : Type 0 where
  pub table : TableId
  pub accounts : ℕ

-- what contracts see of a holder: the table that it belongs to, and what it has
pub record Held : Type 0 where
  pub table : TableId
  pub books : List Slip
  pub parts : List Slip

abbrev pub slip : ℕ → ℕ → Slip
slip account amount = record { account = account; amount = amount }

-- whether the book or part is the account's
abbrev pub is_of : ℕ → Slip → Bool
is_of account book = book.account == account

-- how many books or parts of the account stand in a list
abbrev pub count_of : ℕ → List Slip → ℕ
count_of account slips = count_by (is_of account) slips

-- what the account's books or parts in a list have together
abbrev pub amount_of : ℕ → List Slip → ℕ
amount_of account slips =
    sum_by (λ book. if is_of account book then book.amount else 0) slips

-- no account stands twice
pub record NoneTwice (slips : List Slip) : Type 0 where
  pub at_most_once : (account : ℕ) → count_of account slips ≤ 1

abbrev pub Has : ℕ → List Slip → Type 0
Has account slips = 0 < count_of account slips

-- the holder has the account's book and its part
pub record HasBoth (held : Held) (account : ℕ) : Type 0 where
  pub book : Has account held.books
  pub part : Has account held.parts

-- one of each account below a number, with no amount
abbrev pub opened : ℕ → List Slip
opened zero = []
opened (suc n) = slip n 0 ∷ opened n

-- the account's amount becomes this one
abbrev pub changed_to : ℕ → ℕ → Slip → Slip
changed_to account amount book =
    slip book.account (if is_of account book then amount else book.amount)

abbrev pub all_with : ℕ → ℕ → List Slip → List Slip
all_with account amount slips = map (changed_to account amount) slips

abbrev pub all_but : ℕ → List Slip → List Slip
all_but account slips = filter (λ book. not (is_of account book)) slips

-- the first holder has every book and every part
abbrev pub holds_all : Size → Held
holds_all size = record {
  table = size.table;
  books = opened size.accounts;
  parts = opened size.accounts;
}

-- a holder with the account's part alone
abbrev pub part_of : Held → ℕ → Held
part_of held account = record {
  table = held.table;
  books = [];
  parts = slip account (amount_of account held.parts) ∷ [];
}

-- what the holder has without the account's part
abbrev pub without_part : Held → ℕ → Held
without_part held account = record held { parts = all_but account held.parts }

-- what two holders have together
abbrev pub held_together : Held → Held → Held
held_together held other = record {
  table = held.table;
  books = held.books ++ other.books;
  parts = held.parts ++ other.parts;
}

-- what the holder has once the account's book and part have this amount
abbrev pub with_amount : Held → ℕ → ℕ → Held
with_amount held account amount = record {
  table = held.table;
  books = all_with account amount held.books;
  parts = all_with account amount held.parts;
}

-- the same of views, as the steps go

abbrev pub first_view : ℕ → View
first_view accounts = record { books = opened accounts; parts = opened accounts; asked = 0 }

-- the view of a holder that was joined to another
abbrev pub spent : View
spent = record { books = []; parts = []; asked = 0 }

abbrev pub asking : View → Slip → View
asking view book = record view { asked = book.account }

abbrev pub set_book : View → Slip → View
set_book view book = record view { books = all_with book.account book.amount view.books }

abbrev pub set_part : View → Slip → View
set_part view book = record view { parts = all_with book.account book.amount view.parts }

abbrev pub without_asked : View → View
without_asked view = record view { parts = all_but view.asked view.parts }

abbrev pub asked_alone : View → View
asked_alone view = record { books = []; parts = filter (is_of view.asked) view.parts; asked = 0 }

abbrev pub together : View → View → View
together view other = record {
  books = view.books ++ other.books;
  parts = view.parts ++ other.parts;
  asked = view.asked;
}
