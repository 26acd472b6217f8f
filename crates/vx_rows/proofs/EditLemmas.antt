-- A field of a record that is written where it lies: two writes, or one where nothing is stored.
use Rattle.std.proofs.Common.{◌≡◌, ℕ, ◌+◌, false, Option, Some, None, List, [], ◌++◌, take, drop, set, unwrap_or, sym, ap, ◌∙◌, arith}
use Rattle.std.proofs.lemmas.List.{append-nil, get_or-set_same, set-get_or, set-set, take-append-drop}
use Rattle.vx_raw.specs.Region.{written}
use Rattle.vx_records.specs.Record.{IsLive, Record, RecordsModel, record_at, with_record}
use Rattle.vx_records.proofs.Changes.{live_below}

abbrev with_body : RecordsModel → ℕ → List ℕ → Record
with_body m n body = record (record_at m n) { body = body }

abbrev with_rows : RecordsModel → List (Option Record) → RecordsModel
with_rows m rows = record { len = m.len; records = rows }

-- no bytes written change nothing
written_none : (body : List ℕ) (at : ℕ) → written body at [] ≡ body
written_none body at =
    let same : at + 0 ≡ at = omega arith in
    ap (λ (k : ℕ). take at body ++ [] ++ drop k body) same ∙ (ap (λ (l : List ℕ). l ++ drop at body) (append-nil (take at body)) ∙ take-append-drop at body)

pub same_record : (m : RecordsModel) (n at : ℕ) → IsLive m n → m ≡ with_record m n (with_body m n (written (record_at m n).body at []))
same_record m n at there =
    let same : set m.records n (Some (record_at m n)) ≡ m.records = ap (set m.records n) (sym there) ∙ set-get_or m.records n None in
    sym (ap (λ (b : List ℕ). with_record m n (with_body m n b)) (written_none (record_at m n).body at) ∙ ap (with_rows m) same)

module _ (m mid : RecordsModel) (n : ℕ) (one : List ℕ) (there : IsLive m n) (first : mid ≡ with_record m n (with_body m n one)) where
  mid_at : record_at mid n ≡ with_body m n one
  mid_at =
      ap (λ (x : RecordsModel). record_at x n) first
      ∙ ap (λ (o : Option Record). unwrap_or o (record { next = None; matched = false; body = [] })) (get_or-set_same m.records n (Some (with_body m n one)) None (live_below m n there))

  -- bytes over bytes
  pub written_twice : (after : RecordsModel) (at : ℕ) (bytes : List ℕ) → after ≡ with_record mid n (with_body mid n (written (record_at mid n).body at bytes)) → after ≡ with_record m n (with_body m n (written one at bytes))
  written_twice after at bytes second =
      second
      ∙ (ap (λ (r : Record). with_record mid n (record r { body = written r.body at bytes })) mid_at
      ∙ (ap (λ (x : RecordsModel). with_record x n (with_body m n (written one at bytes))) first
      ∙ ap (with_rows m) (set-set m.records n (Some (with_body m n one)) (Some (with_body m n (written one at bytes))))))
