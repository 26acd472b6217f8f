-- Each kind of step keeps the rule of the accounts.
use Rattle.std.proofs.Common.{◌≡◌, ℕ, ◌≤◌, ◌==◌, Bool, true, false, cond, eqb, ltb, List, [], ◌∷◌, get_or, set, sum_by, sym, refl, ap, ◌∙◌, subst, arith}
use mathlib.Core.Logic.{dite}
use mathlib.Core.Option.{none, some, some-injective}
use native.Mathlib.Decide.{ℕ_discrete}
use lib.ListN.{get_elem?}
use prog.Atomic.{either}
use Rattle.std.proofs.lemmas.List.Sums.{sum_by-cons, sum_by_push}
use Rattle.atomic_table.specs.Table.{State, keeps, step, Allows, Splits, Joins}
use Rattle.atomic_table.proofs.Lists.{set_again, set_here}
use Rattle.vx_account.specs.declared.view.Slip.{Slip}
use Rattle.vx_account.specs.declared.view.View.{View}
use Rattle.vx_account.specs.Holders.{slip, count_of, amount_of, Has, first_view, spent, asking, set_book, set_part, without_asked, asked_alone, together}
use Rattle.vx_account.specs.AccountRule.{one_each, KeepsAccounts}
use Rattle.vx_account.specs.Kinds.{Sat, Tells, changed, looked}
use Rattle.vx_account.proofs.Places.{at_place, sum_by-changed, part-le-sum_by}
use Rattle.vx_account.proofs.Laws.{silent, amount_of-none, count_of-append, amount_of-append, count_of-parted, amount_of-parted, count_of-all_with, amount_of-all_with, amount_of-all_with_other, count_of-opened_each}

abbrev pub Law : ℕ → State Slip View → Type 0
Law accounts state = KeepsAccounts accounts state.words state.views

-- what one view adds to the counts and amounts of an account

abbrev books : ℕ → View → ℕ
books account view = count_of account view.books

abbrev parts : ℕ → View → ℕ
parts account view = count_of account view.parts

abbrev booked : ℕ → View → ℕ
booked account view = amount_of account view.books

abbrev parted : ℕ → View → ℕ
parted account view = amount_of account view.parts

one_at_most : (n account : ℕ) → one_each n account ≤ 1
one_at_most n account = at (ltb account n)
  where
    at : (b : Bool) → cond b 1 0 ≤ 1
    at true = omega arith
    at false = omega arith

-- where one view alone has slips of an account, it has all of its amount
alone : (f g : View → ℕ) → ((view : View) → f view ≡ 0 → g view ≡ 0) → f spent ≡ 0 → g spent ≡ 0
    → (views : List View) (id : ℕ) (v : View) → get_elem? views id ≡ some v → sum_by f views ≡ f v
    → sum_by g views ≡ g v
alone f g quiet no_f no_g views id v at one =
    let rest : sum_by f (set views id spent) ≡ 0 = omega (arith, sum_by-changed f views id v spent at) in
    omega (arith, sum_by-changed g views id v spent at, silent f g quiet (set views id spent) rest)

-- what the rule says of one view
pub tells : (n : ℕ) (words : List ℕ) (views : List View) (id : ℕ) (v : View) → KeepsAccounts n words views
    → get_elem? views id ≡ some v → Tells v
tells n words views id v r at = record {
  books = record {
    at_most_once = λ account.
        omega (arith, part-le-sum_by (books account) views id v at, r.books account, one_at_most n account);
  };
  parts = record {
    at_most_once = λ account.
        omega (arith, part-le-sum_by (parts account) views id v at, r.parts account, one_at_most n account);
  };
  equal = λ account has_book has_part.
      let all_books : sum_by (books account) views ≡ books account v =
      omega (arith, part-le-sum_by (books account) views id v at, r.books account, one_at_most n account) in
      let all_parts : sum_by (parts account) views ≡ parts account v =
      omega (arith, part-le-sum_by (parts account) views id v at, r.parts account, one_at_most n account) in
      sym (alone (books account) (booked account) (λ view. amount_of-none account view.books) refl refl views id v at all_books)
      ∙ r.equal account
      ∙ alone (parts account) (parted account) (λ view. amount_of-none account view.parts) refl refl views id v at all_parts;
}

-- A step of one holder keeps how often each account stands in its view, and the books equal to the
-- parts.
changes : (n : ℕ) (words ws : List ℕ) (views : List View) (id : ℕ) (v w : View) → KeepsAccounts n words views
    → get_elem? views id ≡ some v → ws ≡ 0 ∷ []
    → ((account : ℕ) → books account w ≡ books account v)
    → ((account : ℕ) → parts account w ≡ parts account v)
    → ((account : ℕ) → sum_by (booked account) (set views id w) ≡ sum_by (parted account) (set views id w))
    → KeepsAccounts n ws (set views id w)
changes n words ws views id v w r at word same_books same_parts equal = record {
  word = word;
  books = λ account.
      omega (arith, sum_by-changed (books account) views id v w at, same_books account, r.books account);
  parts = λ account.
      omega (arith, sum_by-changed (parts account) views id v w at, same_parts account, r.parts account);
  equal = equal;
}

-- the word after a load, and after a compare-exchange of 1, which it never is
loaded : (words : List ℕ) → words ≡ 0 ∷ [] → set words 0 (get_or words 0 0) ≡ 0 ∷ []
loaded words is = ap (λ (ws : List ℕ). set ws 0 (get_or ws 0 0)) is

missed : (words : List ℕ) → words ≡ 0 ∷ []
    → set words 0 (either (eqb (get_or words 0 0) 1) 1 (get_or words 0 0)) ≡ 0 ∷ []
missed words is = ap (λ (ws : List ℕ). set ws 0 (either (eqb (get_or ws 0 0) 1) 1 (get_or ws 0 0))) is

-- the table at the start
pub starts : (n : ℕ) → KeepsAccounts n (0 ∷ []) (first_view n ∷ [])
starts n = record {
  word = refl;
  books = λ account. omega (arith, sum_by-cons (books account) (first_view n) [], count_of-opened_each n account);
  parts = λ account. omega (arith, sum_by-cons (parts account) (first_view n) [], count_of-opened_each n account);
  equal = λ account. refl;
}

-- `agree`, and the look of `join`
pub looks : (n slots id : ℕ) (m : Sat) → Allows (Law n) slots id m 0 (λ k. k) (looked (step slots 0 0 0 none) m)
looks n slots id m s r homes at fits = (
  m.0,
  keeps,
  tt,
  changes n s.words (set s.words 0 (get_or s.words 0 0)) s.views id m.0 m.0 r at (loaded s.words r.word)
      (λ account. refl) (λ account. refl)
      (λ account.
      subst (λ (vs : List View). sum_by (booked account) vs ≡ sum_by (parted account) vs)
      (sym (set_again s.views id m.0 at)) (r.equal account)),
  (refl, tells n s.words s.views id m.0 r at),
)

-- the mark of `part`
pub asks : (n slots id : ℕ) (m : Sat) (book : Slip)
    → Allows (Law n) slots id m 0 (λ k. either (k == 1) 1 k) (changed asking (step slots 0 1 1 (some book)) m)
asks n slots id m book s r homes at fits =
    let w : View = asking m.0 book in (
      w,
      keeps,
      tt,
      changes n s.words _ s.views id m.0 w r at (missed s.words r.word) (λ account. refl) (λ account. refl)
          (λ account.
          omega (arith, sum_by-changed (booked account) s.views id m.0 w at, sum_by-changed (parted account) s.views id m.0 w at, r.equal account)),
      (
        refl,
        (λ given is. ap (asking m.0) (some-injective book given is)),
        tells n s.words s.views id m.0 r at,
      ),
    )

-- `set`: the account's book and part get one amount
sets-equal : (n : ℕ) (words : List ℕ) (views : List View) (id : ℕ) (v : View) (account amount : ℕ)
    → KeepsAccounts n words views → get_elem? views id ≡ some v → Has account v.books → Has account v.parts
    → (other : ℕ)
    → sum_by (booked other) (set views id (set_part (set_book v (slip account amount)) (slip account amount)))
    ≡ sum_by (parted other) (set views id (set_part (set_book v (slip account amount)) (slip account amount)))
sets-equal n words views id v account amount r at has_book has_part other =
    let w : View = set_part (set_book v (slip account amount)) (slip account amount) in
    let told = tells n words views id v r at in
    dite (ℕ_discrete other account)
    (λ e.
    let vs : List View = set views id w in
    let mine : get_elem? vs id ≡ some w = set_here views id w (at_place views id v at).0 in
    let one_book : books account v ≡ 1 = omega (arith, told.books.at_most_once account) in
    let one_part : parts account v ≡ 1 = omega (arith, told.parts.at_most_once account) in
    let same_books : books account w ≡ books account v = count_of-all_with account amount account v.books in
    let same_parts : parts account w ≡ parts account v = count_of-all_with account amount account v.parts in
    let all_books : sum_by (books account) vs ≡ books account w =
    omega (arith, sum_by-changed (books account) views id v w at, r.books account, one_at_most n account, part-le-sum_by (books account) views id v at) in
    let all_parts : sum_by (parts account) vs ≡ parts account w =
    omega (arith, sum_by-changed (parts account) views id v w at, r.parts account, one_at_most n account, part-le-sum_by (parts account) views id v at) in
    subst (λ (k : ℕ). sum_by (booked k) vs ≡ sum_by (parted k) vs) (sym e)
    (alone (books account) (booked account) (λ view. amount_of-none account view.books) refl refl vs id w mine all_books
    ∙ amount_of-all_with account amount v.books one_book
    ∙ sym (amount_of-all_with account amount v.parts one_part)
    ∙ sym (alone (parts account) (parted account) (λ view. amount_of-none account view.parts) refl refl vs id w mine all_parts)))
    (λ ne.
    omega (arith, sum_by-changed (booked other) views id v w at, sum_by-changed (parted other) views id v w at, amount_of-all_with_other account amount other v.books ne, amount_of-all_with_other account amount other v.parts ne, r.equal other))

pub sets : (n slots id : ℕ) (m : Sat) (account amount : ℕ) → Has account m.0.books → Has account m.0.parts
    → Allows (Law n) slots id m 0 (λ k. either (k == 1) 1 k)
    (changed (λ view book. set_part (set_book view book) book) (step slots 0 1 1 (some (slip account amount))) m)
sets n slots id m account amount has_book has_part s r homes at fits =
    let w : View = set_part (set_book m.0 (slip account amount)) (slip account amount) in (
      w,
      keeps,
      tt,
      changes n s.words _ s.views id m.0 w r at (missed s.words r.word)
          (λ other. count_of-all_with account amount other m.0.books)
          (λ other. count_of-all_with account amount other m.0.parts)
          (sets-equal n s.words s.views id m.0 account amount r at has_book has_part),
      (
        refl,
        (λ given is. ap (λ (book : Slip). set_part (set_book m.0 book) book) (some-injective (slip account amount) given is)),
        tells n s.words s.views id m.0 r at,
      ),
    )

-- `part`: what was asked for goes to a new holder
pub splits : (n id : ℕ) (v : View) → Splits (Law n) id v (without_asked v) (asked_alone v)
splits n id v s r at =
    let left : View = without_asked v in
    let right : View = asked_alone v in
    let vs : List View = set s.views id left in
    record {
      word = r.word;
      books = λ account.
          omega (arith, sum_by_push (books account) vs right, sum_by-changed (books account) s.views id v left at, r.books account);
      parts = λ account.
          omega (arith, sum_by_push (parts account) vs right, sum_by-changed (parts account) s.views id v left at, count_of-parted v.asked account v.parts, r.parts account);
      equal = λ account.
          omega (arith, sum_by_push (booked account) vs right, sum_by-changed (booked account) s.views id v left at, sum_by_push (parted account) vs right, sum_by-changed (parted account) s.views id v left at, amount_of-parted v.asked account v.parts, r.equal account);
    }

-- `join`
pub joins : (n id : ℕ) (v : View) (other : ℕ) (w : View) → Joins (Law n) id v other w (together v w) spent
joins n id v other w s r at apart there =
    let both : View = together v w in
    let vs : List View = set s.views id both in
    record {
      word = r.word;
      books = λ account.
          omega (arith, sum_by-changed (books account) s.views id v both at, sum_by-changed (books account) vs other w spent there, count_of-append account v.books w.books, r.books account);
      parts = λ account.
          omega (arith, sum_by-changed (parts account) s.views id v both at, sum_by-changed (parts account) vs other w spent there, count_of-append account v.parts w.parts, r.parts account);
      equal = λ account.
          omega (arith, sum_by-changed (booked account) s.views id v both at, sum_by-changed (booked account) vs other w spent there, sum_by-changed (parted account) s.views id v both at, sum_by-changed (parted account) vs other w spent there, amount_of-append account v.books w.books, amount_of-append account v.parts w.parts, r.equal account);
    }
