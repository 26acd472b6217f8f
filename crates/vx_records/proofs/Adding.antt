-- What adding a record does.
use Rattle.std.proofs.Common.{inl, inr, ◌≡◌, ◌≢◌, ℕ, ◌+◌, ◌-◌, ◌^◌, ◌<◌, ◌≤◌, Option, Some, None, IsSome, List, [], ◌∷◌, ◌++◌, length, set, map, refl, sym, ap, ◌∙◌, subst, arith}
use Rattle.std.proofs.lemmas.Bool.{cases_eq, cases_lt}
use Rattle.std.proofs.lemmas.Option.{none-some}
use Rattle.std.proofs.lemmas.List.{get_or-set_same, get_or-set_other, get_or_append_left, get_or_push, get_or_past, length-set, length_push, map_push}
use Rattle.vx_records.specs.Record.{Record, RecordsModel, record_in, with_record, and_record, HasNoFree, AddsRecord}
use Rattle.vx_records.specs.Frame.{FramesModel, frame_at, with_frame, and_frame}
use Rattle.vx_records.specs.Head.{link_in, record_of, records_of, IsIn, IsListed}
use Rattle.vx_records.proofs.Listing.{in_frames, length-records, IsFree, free_in, linked_kept, changed, other, same_length, same_at, long_kept, few_kept, seen_changed, Starts, starts, no_free}

-- a record was added to the frames
pub record Adds (now : RecordsModel) (n : ℕ) (r : Record) (after : FramesModel) (free : ℕ) : Type 0 where
  pub listed : IsListed after free
  pub adds : AddsRecord now (records_of after) n r

-- a number that was free is used again
again : (now : RecordsModel) (n : ℕ) (r : Record) → n < length now.records → n < 2 ^ 31 → record_in now n ≡ None → AddsRecord now (with_record now n r) n r
again now n r lt low none =
    let same : length (with_record now n r).records ≡ length now.records = length-set now.records n (Some r) in
    record {
      len = refl;
      free = none;
      there = get_or-set_same now.records n (Some r) None lt;
      others = λ k ne. get_or-set_other now.records n k (Some r) None ne;
      near = omega (arith, lt);
      again = λ _. refl;
      next = λ is. absurd (omega (arith, lt, is));
      needed = λ is. absurd (omega (arith, lt, is));
      count = omega (arith, same);
      low = low;
      fits = omega (arith, low);
    }

-- the next number is used
beyond : (now : RecordsModel) (n : ℕ) (r : Record) → n ≡ length now.records → n < 2 ^ 31 → HasNoFree now → AddsRecord now (and_record now r) n r
beyond now n r is low full =
    let more : length (and_record now r).records ≡ length now.records + 1 = length_push now.records (Some r) in
    let last : length now.records ≡ n = sym is in
    record {
      len = refl;
      free = get_or_past now.records n None (omega (arith, is));
      there = get_or_push now.records (Some r) None n last;
      others = λ k ne. elim (cases_lt k (length now.records)) as (λ _. record_in (and_record now r) k ≡ record_in now k) [
        | inl lt ↦ get_or_append_left now.records (Some r ∷ []) None k lt
        | inr le ↦
            get_or_past (and_record now r).records k None (omega (arith, more, le, ne, is))
            ∙ sym (get_or_past now.records k None le)
      ];
      near = omega (arith, is);
      again = λ lt. absurd (omega (arith, lt, is));
      next = λ _. refl;
      needed = λ _. full;
      count = omega (arith, more);
      low = low;
      fits = omega (arith, low);
    }

pub reuses : (m : FramesModel) (free : ℕ) (now : RecordsModel) (bytes : List ℕ) (r : Record) (after : FramesModel) → IsListed m free → records_of m ≡ now → free ≢ 0 → after ≡ with_frame m (free - 1) bytes → length bytes ≡ m.size → record_of bytes ≡ Some r → Adds now (free - 1) r after (link_in (frame_at m (free - 1)))
reuses m free now bytes r after listed seen ne is whole spells =
    let n : ℕ = free - 1 in
    let s : Starts m free = starts m free listed ne in
    let there : free - 1 < length m.frames = s.there in
    let same : length (with_frame m (free - 1) bytes).frames ≡ length m.frames = same_length m (free - 1) bytes s.there in
    let many : length (records_of m).records ≡ length m.frames = length-records m in
    let counted : length (records_of m).records ≡ length now.records = ap (λ (x : RecordsModel). length x.records) seen in
    let few : length m.frames ≤ 2 ^ 31 = listed.few in
    let next : ℕ = link_in (frame_at m (free - 1)) in
    let a : AddsRecord now (with_record now (free - 1) r) (free - 1) r = again now (free - 1) r (omega (arith, there, many, counted)) (omega (arith, there, few)) (sym (ap (λ (x : RecordsModel). record_in x (free - 1)) seen) ∙ (in_frames m (free - 1) s.there ∙ s.dead)) in
    let now_is : records_of (with_frame m (free - 1) bytes) ≡ with_record now (free - 1) r = seen_changed m (free - 1) bytes s.there now seen ∙ ap (λ (o : Option Record). let x : RecordsModel = record { len = now.len; records = set now.records (free - 1) o } in x) spells in
    let w : Adds now (free - 1) r (with_frame m (free - 1) bytes) (link_in (frame_at m (free - 1))) = record {
      listed = record {
        least = listed.least;
        most = listed.most;
        few = few_kept m (free - 1) bytes s.there listed.few;
        long = long_kept m (free - 1) bytes s.there whole listed.long;
        numbers = s.rest;
        linked = linked_kept m (with_frame m (free - 1) bytes) (link_in (frame_at m (free - 1))) s.rest (λ k among.
            let f : IsFree m k = free_in m (link_in (frame_at m (free - 1))) s.rest k s.linked among in
            same_at m (free - 1) bytes s.there k (λ e. s.alone (subst (λ (x : ℕ). IsIn s.rest x) e among)) f.there) s.linked;
        all = λ k lt none. elim (cases_eq k (free - 1)) as (λ _. IsIn s.rest k) [
          | inl e ↦ absurd (none-some r (sym none ∙ (ap (λ (x : ℕ). record_of (frame_at (with_frame m (free - 1) bytes) x)) e ∙ (ap record_of (changed m (free - 1) bytes s.there) ∙ spells))))
          | inr other_one ↦ s.all k (omega (arith, same, lt)) (sym (ap record_of (other m (free - 1) bytes s.there k other_one)) ∙ none) other_one
        ];
      };
      adds = subst (λ (x : RecordsModel). AddsRecord now x (free - 1) r) (sym now_is) a;
    } in
    subst (λ (x : FramesModel). Adds now (free - 1) r x (link_in (frame_at m (free - 1)))) (sym is) w

some_of : (o : Option Record) → (o ≡ None → ⊥) → IsSome o
some_of None ne = absurd (ne refl)
some_of (Some r) ne = refl

pub extends : (m : FramesModel) (free : ℕ) (now : RecordsModel) (bytes : List ℕ) (r : Record) (after : FramesModel) (n : ℕ) → IsListed m free → records_of m ≡ now → free ≡ 0 → n ≡ length m.frames → n < 2 ^ 31 → after ≡ and_frame m bytes → length bytes ≡ m.size → record_of bytes ≡ Some r → Adds now n r after free
unfolding records_of
extends m free now bytes r after n listed seen none last few is whole spells =
    let empty : IsListed m 0 = subst (IsListed m) none listed in
    let more : length (and_frame m bytes).frames ≡ length m.frames + 1 = length_push m.frames bytes in
    let many : length (records_of m).records ≡ length m.frames = length-records m in
    let counted : length (records_of m).records ≡ length now.records = ap (λ (x : RecordsModel). length x.records) seen in
    let front : (k : ℕ) → k < length m.frames → frame_at (and_frame m bytes) k ≡ frame_at m k = λ k lt. get_or_append_left m.frames (bytes ∷ []) [] k lt in
    let back : (k : ℕ) → length m.frames ≡ k → frame_at (and_frame m bytes) k ≡ bytes = λ k e. get_or_push m.frames bytes [] k e in
    let full : HasNoFree now = λ k lt. subst (λ (x : RecordsModel). IsSome (record_in x k)) seen (subst (λ (o : Option Record). IsSome o) (sym (in_frames m k (omega (arith, lt, many, counted)))) (some_of (record_of (frame_at m k)) (λ dead. no_free m empty k (omega (arith, lt, many, counted)) dead))) in
    let a : AddsRecord now (and_record now r) n r = beyond now n r (omega (arith, last, many, counted)) (omega (arith, few)) full in
    let now_is : records_of (and_frame m bytes) ≡ and_record now r =
    ap (λ (l : List (Option Record)). let x : RecordsModel = record { len = m.size - 8; records = l } in x) (map_push record_of m.frames bytes)
    ∙ (ap (λ (o : Option Record). let x : RecordsModel = record { len = m.size - 8; records = map record_of m.frames ++ o ∷ [] } in x) spells
    ∙ ap (λ (x : RecordsModel). and_record x r) seen) in
    let w : Adds now n r (and_frame m bytes) 0 = record {
      listed = record {
        least = listed.least;
        most = listed.most;
        few = omega (arith, more, last, few);
        long = λ k lt. elim (cases_lt k (length m.frames)) as (λ _. length (frame_at (and_frame m bytes) k) ≡ m.size) [
          | inl less ↦ ap length (front k less) ∙ listed.long k less
          | inr le ↦ ap length (back k (omega (arith, more, lt, le))) ∙ whole
        ];
        numbers = [];
        linked = refl;
        all = λ k lt dead. elim (cases_lt k (length m.frames)) as (λ _. ⊥) [
          | inl less ↦ no_free m empty k less (sym (ap record_of (front k less)) ∙ dead)
          | inr le ↦ none-some r (sym dead ∙ (ap record_of (back k (omega (arith, more, lt, le))) ∙ spells))
        ];
      };
      adds = subst (λ (x : RecordsModel). AddsRecord now x n r) (sym now_is) a;
    } in
    subst (λ (x : FramesModel). Adds now n r x free) (sym is) (subst (λ (f : ℕ). Adds now n r (and_frame m bytes) f) (sym none) w)
