-- What the fields of a holder and of its accounts mean to each other, and what a step makes of them.
use Rattle.std.proofs.Common.{◌≡◌, ℕ, List, [], sym, ap, ap₂, ◌∙◌, subst, arith}
use Rattle.atomic_table.specs.Seated.{TableId}
use Rattle.vx_account.specs.declared.view.Slip.{Slip}
use Rattle.vx_account.specs.declared.view.View.{View}
use Rattle.vx_account.specs.Holders.{Size, Held, Has, slip, count_of, part_of, without_part, with_amount, asking, set_book, set_part, without_asked, asked_alone}
use Rattle.vx_account.specs.Kinds.{Tells}
use Rattle.vx_account.proofs.Laws.{only-one}

-- a fact of the values is one of the fields

pub table_inside : (size accounts : Size) (held holder : Held) → size ≡ accounts → held ≡ holder
    → holder.table ≡ accounts.table → held.table ≡ size.table
table_inside size accounts held holder same_size same own =
    ap (λ (h : Held). h.table) same ∙ own ∙ sym (ap (λ (z : Size). z.table) same_size)

pub book_inside : (held holder : Held) (account : ℕ) → held ≡ holder → Has account holder.books
    → Has account held.books
book_inside held holder account same has = subst (λ (h : Held). Has account h.books) (sym same) has

pub part_inside : (held holder : Held) (account : ℕ) → held ≡ holder → Has account holder.parts
    → Has account held.parts
part_inside held holder account same has = subst (λ (h : Held). Has account h.parts) (sym same) has

-- what contracts see of a table and a view
abbrev seen_as : TableId → View → Held
seen_as table view = record { table = table; books = view.books; parts = view.parts }

-- `part` gives what was asked for alone
pub part_given : (held : Held) (old now : TableId) (v asked given : View) (account : ℕ) → seen_as old v ≡ held
    → Has account held.parts → Tells v → asked ≡ asking v (slip account 0) → given ≡ asked_alone asked → now ≡ old
    → seen_as now given ≡ part_of held account
part_given held old now v asked given account same has told marked cut table =
    let there : Has account v.parts = part_inside (seen_as old v) held account same has in
    let one : count_of account v.parts ≡ 1 = omega (arith, told.parts.at_most_once account, there) in
    ap₂ seen_as table (cut ∙ ap asked_alone marked)
    ∙ ap (λ (ps : List Slip). seen_as old (record { books = []; parts = ps; asked = 0 })) (only-one account v.parts one)
    ∙ ap (λ (h : Held). part_of h account) same

-- and leaves the rest
pub part_left : (held : Held) (old now : TableId) (v asked left : View) (account : ℕ) → seen_as old v ≡ held
    → asked ≡ asking v (slip account 0) → left ≡ without_asked asked → now ≡ old
    → seen_as now left ≡ without_part held account
part_left held old now v asked left account same marked cut table =
    ap₂ seen_as table (cut ∙ ap without_asked marked) ∙ ap (λ (h : Held). without_part h account) same

-- `set` sets both
pub amount_set : (held : Held) (old now : TableId) (v w : View) (account amount : ℕ) → seen_as old v ≡ held
    → w ≡ set_part (set_book v (slip account amount)) (slip account amount) → now ≡ old
    → seen_as now w ≡ with_amount held account amount
amount_set held old now v w account amount same set table =
    ap₂ seen_as table set ∙ ap (λ (h : Held). with_amount h account amount) same
