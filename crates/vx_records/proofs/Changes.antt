-- What each change of one record leaves of all, for owners of records.
use Rattle.std.proofs.Common.{◌≡◌, ◌≢◌, ℕ, ◌<◌, Option, Some, None, length, refl, sym, ap, ◌∙◌, subst, inl, inr}
use Rattle.std.proofs.lemmas.Bool.{cases_eq, cases_lt}
use Rattle.std.proofs.lemmas.Option.{none-some}
use Rattle.std.proofs.lemmas.List.{get_or-set_same, get_or-set_other, get_or_past}
use Rattle.vx_records.specs.Record.{Record, RecordsModel, record_in, record_at, IsLive, with_record, without_record, AddsRecord}

pub record_found : (m : RecordsModel) (n : ℕ) (r : Record) → record_in m n ≡ Some r → record_at m n ≡ r
record_found m n r is = rw is refl

pub live_found : (m : RecordsModel) (n : ℕ) (r : Record) → record_in m n ≡ Some r → IsLive m n
live_found m n r is = is ∙ ap (λ (x : Record). let o : Option Record = Some x in o) (sym (record_found m n r is))

-- a live number is below the count of numbers
pub live_below : (m : RecordsModel) (n : ℕ) → IsLive m n → n < length m.records
live_below m n live = elim (cases_lt n (length m.records)) as (λ _. n < length m.records) [
  | inl lt ↦ lt
  | inr le ↦ absurd (none-some (record_at m n) (sym (get_or_past m.records n None le) ∙ live))
]

pub with_same : (m : RecordsModel) (n : ℕ) (r : Record) → IsLive m n → record_in (with_record m n r) n ≡ Some r
with_same m n r live = get_or-set_same m.records n (Some r) None (live_below m n live)

pub with_other : (m : RecordsModel) (n k : ℕ) (r : Record) → k ≢ n → record_in (with_record m n r) k ≡ record_in m k
with_other m n k r ne = get_or-set_other m.records n k (Some r) None ne

pub without_same : (m : RecordsModel) (n : ℕ) → IsLive m n → record_in (without_record m n) n ≡ None
without_same m n live = get_or-set_same m.records n None None (live_below m n live)

pub without_other : (m : RecordsModel) (n k : ℕ) → k ≢ n → record_in (without_record m n) k ≡ record_in m k
without_other m n k ne = get_or-set_other m.records n k None None ne

-- an added record's number is no other's
pub added_live : (before after : RecordsModel) (n : ℕ) (r : Record) → AddsRecord before after n r → IsLive after n
added_live before after n r adds = live_found after n r adds.there

pub added_new : (before after : RecordsModel) (n k : ℕ) (r : Record) → AddsRecord before after n r → IsLive before k → k ≢ n
added_new before after n k r adds live = λ e. none-some (record_at before k) (sym adds.free ∙ (sym (ap (λ (x : ℕ). record_in before x) e) ∙ live))

pub added_keeps : (before after : RecordsModel) (n k : ℕ) (r : Record) → AddsRecord before after n r → IsLive before k → record_in after k ≡ record_in before k
added_keeps before after n k r adds live = adds.others k (added_new before after n k r adds live)

-- what is live stays so, but for what is erased
pub with_live : (m : RecordsModel) (n k : ℕ) (r : Record) → IsLive m n → IsLive m k → IsLive (with_record m n r) k
with_live m n k r live other = elim (cases_eq k n) as (λ _. IsLive (with_record m n r) k) [
  | inl e ↦ subst (λ (x : ℕ). IsLive (with_record m n r) x) (sym e) (live_found (with_record m n r) n r (with_same m n r live))
  | inr ne ↦ live_found (with_record m n r) k (record_at m k) (with_other m n k r ne ∙ other)
]

pub without_live : (m : RecordsModel) (n k : ℕ) → k ≢ n → IsLive m k → IsLive (without_record m n) k
without_live m n k ne live = live_found (without_record m n) k (record_at m k) (without_other m n k ne ∙ live)

pub added_still : (before after : RecordsModel) (n k : ℕ) (r : Record) → AddsRecord before after n r → IsLive before k → IsLive after k
added_still before after n k r adds live = live_found after k (record_at before k) (added_keeps before after n k r adds live ∙ live)
