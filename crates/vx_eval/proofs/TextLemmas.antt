-- What rows with texts give, and that two short texts make one.
use Rattle.std.proofs.Common.{◌≡◌, ◌∙◌, ℕ, ◌+◌, ◌≤◌, Bool, true, false, List, [], ◌++◌, length, refl, ap, arith, length-append, ◌<◌, ◌∷◌, inl, inr}
use Rattle.std.proofs.Math.ListN.{get_or-append}
use Rattle.std.proofs.Math.Seq.{get_or-append_seam}
use Rattle.std.proofs.lemmas.Bool.{cases_eq}
use Rattle.std.specs.Prelude.{if◌then◌else◌, nat_eq, nat_le}
use Rattle.vx_value.specs.declared.value.Value.{Value}
use Rattle.vx_value.specs.declared.value.Kind.TheVariants as kind
use Rattle.vx_value.specs.declared.value.Value.TheVariants.{Null, Bool as Truth, Int, Text}
use Rattle.vx_vector.specs.Column.{FitsKind}
use Rattle.vx_vector.specs.Store.{text_in}
use Rattle.vx_vector.specs.Lane.{TextRow, text_row, text_at, lane_of_text}
use Rattle.vx_expr.specs.declared.outcome.Fault.TheVariants.{TooLong}
use Rattle.vx_expr.specs.declared.outcome.Got.TheVariants as got
use Rattle.vx_expr.specs.Eval.{binary, concatenation, of_texts, choice, first_given}
use Rattle.vx_eval.specs.Got.{got_of, got_under, strictest, marked}
use Rattle.vx_eval.specs.TextRows.{blank_row, joined, joined_row, chosen_row, given_row}
use Rattle.vx_eval.proofs.MarkLemmas.{by_mark, not_fine, not_null, below_two, strict_two}

-- ---- what the rows give
same_under : (m : ℕ) (v w : Value) → nat_eq m 0 ≡ false → got_under m v ≡ got_under m w
same_under m v w e = rw e refl

marked_row : (s : ℕ) (j : TextRow) → got_of (lane_of_text (if nat_eq s 0 then j else blank_row s)) ≡ got_under (marked s j.mark) (Text j.text)
marked_row s j =
    elim (nat_eq s 0) as (λ t. nat_eq s 0 ≡ t → got_of (lane_of_text (if t then j else blank_row s)) ≡ got_under (if t then j.mark else s) (Text j.text)) [
      | true ↦ λ _. refl
      | false ↦ λ e. same_under s (Text []) (Text j.text) e
    ] refl

pub joined_got : (a b : TextRow) → got_of (lane_of_text (joined_row a b)) ≡ binary (of_texts concatenation) (got_of (lane_of_text a)) (got_of (lane_of_text b))
joined_got a b =
    let s : ℕ = strictest a.mark b.mark in
    let j : TextRow = joined a b in
    marked_row s j ∙ strict_two (of_texts concatenation) (Text a.text) (Text b.text) (Text j.text) j.mark a.mark b.mark refl refl refl
    (elim (nat_le (length a.text + length b.text) 65535) as (λ t. got_of (lane_of_text (if t then text_row 0 (a.text ++ b.text) else blank_row 4)) ≡ (if t then got.Value (Text (a.text ++ b.text)) else got.Fault TooLong)) [ true ↦ refl | false ↦ refl ])

pub chosen_got : (c : Bool) (m : ℕ) (a b : TextRow) → got_of (lane_of_text (chosen_row c m a b)) ≡ choice (got_under m (Truth c)) (got_of (lane_of_text a)) (got_of (lane_of_text b))
chosen_got true m a b = by_mark (λ (m : ℕ). got_of (lane_of_text (chosen_row true m a b)) ≡ choice (got_under m (Truth true)) (got_of (lane_of_text a)) (got_of (lane_of_text b))) refl refl (λ (n : ℕ) (h : 2 ≤ n). rw (not_fine n h, below_two n h, not_fine n h, not_null n h) refl) m
chosen_got false m a b = by_mark (λ (m : ℕ). got_of (lane_of_text (chosen_row false m a b)) ≡ choice (got_under m (Truth false)) (got_of (lane_of_text a)) (got_of (lane_of_text b))) refl refl (λ (n : ℕ) (h : 2 ≤ n). rw (below_two n h, not_fine n h, not_null n h) refl) m

pub given_got : (a b : TextRow) → got_of (lane_of_text (given_row a b)) ≡ first_given (got_of (lane_of_text a)) (got_of (lane_of_text b))
given_got a b = by_mark (λ (m : ℕ). got_of (lane_of_text (given_row (record a { mark = m }) b)) ≡ first_given (got_under m (Text a.text)) (got_of (lane_of_text b))) refl refl (λ (n : ℕ) (h : 2 ≤ n). rw (not_null n h, not_fine n h, not_null n h) refl) a.mark

-- the same at a row of a list, where that row has been made so
pub joined_at : (r a b : TextRow) → r ≡ joined_row a b → got_of (lane_of_text r) ≡ binary (of_texts concatenation) (got_of (lane_of_text a)) (got_of (lane_of_text b))
joined_at r a b e = ap (λ t. got_of (lane_of_text t)) e ∙ joined_got a b

-- the same where the row is wanted
pub joined_where : (wanted : Bool) (r a b : TextRow) → r ≡ (if wanted then joined_row a b else blank_row 1) → wanted ≡ true → got_of (lane_of_text r) ≡ binary (of_texts concatenation) (got_of (lane_of_text a)) (got_of (lane_of_text b))
joined_where true r a b e w = joined_at r a b e
joined_where false r a b e w = absurd (cc)

pub chosen_at : (c : Bool) (m : ℕ) (r a b : TextRow) → r ≡ chosen_row c m a b → got_of (lane_of_text r) ≡ choice (got_under m (Truth c)) (got_of (lane_of_text a)) (got_of (lane_of_text b))
chosen_at c m r a b e = ap (λ t. got_of (lane_of_text t)) e ∙ chosen_got c m a b

pub given_at : (r a b : TextRow) → r ≡ given_row a b → got_of (lane_of_text r) ≡ first_given (got_of (lane_of_text a)) (got_of (lane_of_text b))
given_at r a b e = ap (λ t. got_of (lane_of_text t)) e ∙ given_got a b

pub ruleset text_rows = (joined_at, chosen_at, given_at)

-- ---- rows that are copied where they are wanted

text_in_got : (v : Value) → FitsKind kind.Text v → got_of (lane_of_text (text_in v)) ≡ got.Value v
text_in_got Null fits = refl
text_in_got (Truth b) fits = absurd (cc)
text_in_got (Int n) fits = absurd (cc)
text_in_got (Text t) fits = refl

pub wanted_got : (wanted : Bool) (r : TextRow) (v : Value) → r ≡ (if wanted then text_in v else blank_row 1) → wanted ≡ true → FitsKind kind.Text v → got_of (lane_of_text r) ≡ got.Value v
wanted_got true r v e w fits = ap (λ t. got_of (lane_of_text t)) e ∙ text_in_got v fits
wanted_got false r v e w fits = absurd (cc)

pub text_got : (wanted : Bool) (r : TextRow) (t : List ℕ) → r ≡ (if wanted then text_row 0 t else blank_row 1) → wanted ≡ true → got_of (lane_of_text r) ≡ got.Value (Text t)
text_got true r t e w = ap (λ row. got_of (lane_of_text row)) e
text_got false r t e w = absurd (cc)

pub blank_got : (r : TextRow) → r ≡ blank_row 1 → got_of (lane_of_text r) ≡ got.Value Null
blank_got r e = ap (λ row. got_of (lane_of_text row)) e

-- one more row at the end
pub length_more : (xs ys : List TextRow) (r : TextRow) (row : ℕ) → ys ≡ xs ++ r ∷ [] → length xs ≡ row → length ys ≡ row + 1
length_more xs ys r row is len = omega (arith, ap length is, length-append xs (r ∷ []))

pub row_more : (xs ys : List TextRow) (r : TextRow) (row : ℕ) (f : ℕ → TextRow) → ys ≡ xs ++ r ∷ [] → length xs ≡ row → ((k : ℕ) → k < row → text_at xs k ≡ f k) → r ≡ f row → (k : ℕ) → k < row + 1 → text_at ys k ≡ f k
row_more xs ys r row f is len before here k h =
    elim (cases_eq k row) as (λ _. text_at ys k ≡ f k) [
      | inl same ↦
          let at : k ≡ length xs = omega arith in
          rw (is, at, get_or-append_seam xs r [] (text_row 1 []), here, len) refl
      | inr other ↦
          let inside : k < length xs = omega arith in
          rw (is, get_or-append xs (r ∷ []) (text_row 1 []) k inside) (before k (omega arith))
    ]
