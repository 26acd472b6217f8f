-- Laws of the counts and amounts of accounts in a list.
use Rattle.std.proofs.Common.{◌≡◌, ◌≢◌, ℕ, zero, suc, ◌+◌, ◌<◌, ◌==◌, Bool, true, false, cond, not, List, [], ◌∷◌, ◌++◌, length, filter, sum_by, sym, refl, ap, ap₂, ◌∙◌, arith, eqb-true, ne_eqb, eq-eqb, lt-ltb, le-ltb, ltb}
use mathlib.Core.Logic.{dite}
use native.Mathlib.Decide.{ℕ_discrete, dec_le}
use Rattle.std.proofs.lemmas.List.Sums.{sum_by-cons, sum_by-append, length-filter}
use Rattle.std.proofs.lemmas.List.Filters.{sum_by-filter_both}
use Rattle.vx_account.specs.declared.view.Slip.{Slip}
use Rattle.vx_account.specs.Holders.{slip, is_of, count_of, amount_of, opened, changed_to, all_with, all_but}
use Rattle.vx_account.specs.AccountRule.{one_each}

-- 1 where the test holds, else 0
abbrev mark : Bool → ℕ
mark b = cond b 1 0

-- the number where the test holds, else 0
abbrev given : ℕ → Bool → ℕ
given n b = cond b n 0

-- what one slip adds to the account's count and to its amount
abbrev tally : ℕ → Slip → ℕ
tally account book = mark (is_of account book)

abbrev share : ℕ → Slip → ℕ
share account book = given book.amount (is_of account book)

count-cons : (account : ℕ) (book : Slip) (rest : List Slip)
    → count_of account (book ∷ rest) ≡ tally account book + count_of account rest
count-cons account book rest = sum_by-cons (tally account) book rest

amount-cons : (account : ℕ) (book : Slip) (rest : List Slip)
    → amount_of account (book ∷ rest) ≡ share account book + amount_of account rest
amount-cons account book rest = sum_by-cons (share account) book rest

pub count_of-append : (account : ℕ) (xs ys : List Slip)
    → count_of account (xs ++ ys) ≡ count_of account xs + count_of account ys
count_of-append account xs ys = sum_by-append (tally account) xs ys

pub amount_of-append : (account : ℕ) (xs ys : List Slip)
    → amount_of account (xs ++ ys) ≡ amount_of account xs + amount_of account ys
amount_of-append account xs ys = sum_by-append (share account) xs ys

-- where one sum is 0, so is one that adds nothing without it
pub silent : {A : Type 0} (f g : A → ℕ) → ((x : A) → f x ≡ 0 → g x ≡ 0) → (xs : List A)
    → sum_by f xs ≡ 0 → sum_by g xs ≡ 0
silent f g quiet [] e = refl
silent f g quiet (x ∷ xs) e =
    let split = sum_by-cons f x xs in
    let here : f x ≡ 0 = omega (arith, split, e) in
    let rest : sum_by f xs ≡ 0 = omega (arith, split, e) in
    omega (arith, sum_by-cons g x xs, quiet x here, silent f g quiet xs rest)

unmarked : (n : ℕ) (b : Bool) → mark b ≡ 0 → given n b ≡ 0
unmarked n true e = absurd (omega arith)
unmarked n false e = refl

-- no slip of the account, no amount
pub amount_of-none : (account : ℕ) (slips : List Slip) → count_of account slips ≡ 0
    → amount_of account slips ≡ 0
amount_of-none account slips e =
    silent (tally account) (share account) (λ book. unmarked book.amount (is_of account book)) slips e

none-of : {A : Type 0} (xs : List A) → length xs ≡ 0 → xs ≡ []
none-of [] e = refl
none-of (x ∷ xs) e = absurd (omega arith)

-- what is left of the account, and of the others, where its slips are taken out
pub count_of-parted : (account other : ℕ) (slips : List Slip)
    → count_of other (filter (is_of account) slips) + count_of other (all_but account slips)
    ≡ count_of other slips
count_of-parted account other slips =
    sum_by-filter_both (is_of account) (λ book. not (is_of account book)) (λ _. refl) (tally other) slips

pub amount_of-parted : (account other : ℕ) (slips : List Slip)
    → amount_of other (filter (is_of account) slips) + amount_of other (all_but account slips)
    ≡ amount_of other slips
amount_of-parted account other slips =
    sum_by-filter_both (is_of account) (λ book. not (is_of account book)) (λ _. refl) (share other) slips

-- where an account stands once, it stands with its amount

only-step : (account : ℕ) (book : Slip) (rest : List Slip) → count_of account (book ∷ rest) ≡ 1
    → (count_of account rest ≡ 1 → filter (is_of account) rest ≡ slip account (amount_of account rest) ∷ [])
    → (b : Bool) → is_of account book ≡ b
    → filter (is_of account) (book ∷ rest) ≡ slip account (amount_of account (book ∷ rest)) ∷ []
only-step account book rest e more true is =
    let others : List Slip = filter (is_of account) rest in
    let one : tally account book ≡ 1 = ap mark is in
    let left : count_of account rest ≡ 0 = omega (arith, count-cons account book rest, e) in
    let gone : others ≡ [] = none-of others (length-filter (is_of account) rest ∙ left) in
    let whole : share account book ≡ book.amount = ap (given book.amount) is in
    let same : book.amount ≡ amount_of account (book ∷ rest) =
    omega (arith, amount-cons account book rest, amount_of-none account rest left) in
    ap (λ (c : Bool). cond c (book ∷ others) others) is
    ∙ ap (λ (l : List Slip). book ∷ l) gone
    ∙ ap₂ (λ (a n : ℕ). slip a n ∷ []) (eqb-true book.account account is) same
only-step account book rest e more false is =
    let others : List Slip = filter (is_of account) rest in
    let absent : tally account book ≡ 0 = ap mark is in
    let left : count_of account rest ≡ 1 = omega (arith, count-cons account book rest, e) in
    let nothing : share account book ≡ 0 = ap (given book.amount) is in
    let same : amount_of account rest ≡ amount_of account (book ∷ rest) =
    omega (arith, amount-cons account book rest) in
    ap (λ (c : Bool). cond c (book ∷ others) others) is
    ∙ more left
    ∙ ap (λ (n : ℕ). slip account n ∷ []) same

pub only-one : (account : ℕ) (slips : List Slip) → count_of account slips ≡ 1
    → filter (is_of account) slips ≡ slip account (amount_of account slips) ∷ []
only-one account [] e = absurd (omega arith)
only-one account (book ∷ rest) e =
    only-step account book rest e (only-one account rest) (is_of account book) refl

-- a change of amounts keeps what stands in a list
pub count_of-all_with : (account amount other : ℕ) (slips : List Slip)
    → count_of other (all_with account amount slips) ≡ count_of other slips
count_of-all_with account amount other [] = refl
count_of-all_with account amount other (book ∷ rest) =
    omega (arith, count-cons other (changed_to account amount book) (all_with account amount rest), count-cons other book rest, count_of-all_with account amount other rest)

share-other : (account amount other : ℕ) (book : Slip) → other ≢ account → (b : Bool)
    → is_of other book ≡ b → share other (changed_to account amount book) ≡ share other book
share-other account amount other book ne true is =
    let apart : book.account ≢ account = λ e. ne (sym (eqb-true book.account other is) ∙ e) in
    ap (λ (c : Bool). given (cond c amount book.amount) (is_of other book)) (ne_eqb book.account account apart)
share-other account amount other book ne false is =
    ap (given (changed_to account amount book).amount) is ∙ sym (ap (given book.amount) is)

-- and no other account's amount
pub amount_of-all_with_other : (account amount other : ℕ) (slips : List Slip) → other ≢ account
    → amount_of other (all_with account amount slips) ≡ amount_of other slips
amount_of-all_with_other account amount other [] ne = refl
amount_of-all_with_other account amount other (book ∷ rest) ne =
    omega (arith, amount-cons other (changed_to account amount book) (all_with account amount rest), amount-cons other book rest, share-other account amount other book ne (is_of other book) refl, amount_of-all_with_other account amount other rest ne)

here-step : (account amount : ℕ) (book : Slip) (rest : List Slip) → count_of account (book ∷ rest) ≡ 1
    → (count_of account rest ≡ 1 → amount_of account (all_with account amount rest) ≡ amount)
    → (b : Bool) → is_of account book ≡ b
    → amount_of account (all_with account amount (book ∷ rest)) ≡ amount
here-step account amount book rest e more true is =
    let one : tally account book ≡ 1 = ap mark is in
    let left : count_of account rest ≡ 0 = omega (arith, count-cons account book rest, e) in
    let absent : amount_of account (all_with account amount rest) ≡ 0 =
    amount_of-none account (all_with account amount rest)
    (count_of-all_with account amount account rest ∙ left) in
    let set : share account (changed_to account amount book) ≡ amount =
    ap (λ (c : Bool). given (cond c amount book.amount) c) is in
    omega (arith, amount-cons account (changed_to account amount book) (all_with account amount rest))
here-step account amount book rest e more false is =
    let absent : tally account book ≡ 0 = ap mark is in
    let left : count_of account rest ≡ 1 = omega (arith, count-cons account book rest, e) in
    let nothing : share account (changed_to account amount book) ≡ 0 =
    ap (λ (c : Bool). given (cond c amount book.amount) c) is in
    omega (arith, amount-cons account (changed_to account amount book) (all_with account amount rest), more left)

-- the account has the amount, where it stands once
pub amount_of-all_with : (account amount : ℕ) (slips : List Slip) → count_of account slips ≡ 1
    → amount_of account (all_with account amount slips) ≡ amount
amount_of-all_with account amount [] e = absurd (omega arith)
amount_of-all_with account amount (book ∷ rest) e =
    here-step account amount book rest e (amount_of-all_with account amount rest) (is_of account book) refl

-- one of each account below the number
pub count_of-opened_each : (n account : ℕ) → count_of account (opened n) ≡ one_each n account
count_of-opened_each zero account =
    let absent : mark (ltb account 0) ≡ 0 = ap mark (le-ltb account 0 (omega arith)) in
    omega arith
count_of-opened_each (suc n) account =
    let more = sum_by-cons (λ (book : Slip). mark (is_of account book)) (slip n 0) (opened n) in
    let rest = count_of-opened_each n account in
    dite (ℕ_discrete n account)
    (λ e.
    let here : mark (n == account) ≡ 1 = ap mark (eq-eqb n account e) in
    let absent : mark (ltb account n) ≡ 0 = ap mark (le-ltb account n (omega arith)) in
    let one : mark (ltb account (suc n)) ≡ 1 = ap mark (lt-ltb account (suc n) (omega arith)) in
    omega (arith, more, rest))
    (λ ne.
    let other : mark (n == account) ≡ 0 = ap mark (ne_eqb n account ne) in
    dite (dec_le n account)
    (λ above.
    let absent : mark (ltb account n) ≡ 0 = ap mark (le-ltb account n above) in
    let nor : mark (ltb account (suc n)) ≡ 0 = ap mark (le-ltb account (suc n) (omega arith)) in
    omega (arith, more, rest))
    (λ below.
    let one : mark (ltb account n) ≡ 1 = ap mark (lt-ltb account n (omega arith)) in
    let too : mark (ltb account (suc n)) ≡ 1 = ap mark (lt-ltb account (suc n) (omega arith)) in
    omega (arith, more, rest)))

pub count_of-opened : (n account : ℕ) → account < n → count_of account (opened n) ≡ 1
count_of-opened n account low = count_of-opened_each n account ∙ ap mark (lt-ltb account n low)

-- with no amount
pub amount_of-opened : (n account : ℕ) → amount_of account (opened n) ≡ 0
amount_of-opened zero account = refl
amount_of-opened (suc n) account =
    let free : share account (slip n 0) ≡ 0 = cleared (is_of account (slip n 0)) in
    omega (arith, amount-cons account (slip n 0) (opened n), amount_of-opened n account)
  where
    cleared : (b : Bool) → given 0 b ≡ 0
    cleared true = refl
    cleared false = refl
