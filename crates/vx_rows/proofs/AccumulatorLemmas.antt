-- What a container keeps, and shows, after an accumulator was changed: in the form of the answers.
use Rattle.std.proofs.Common.{◌≡◌, ℕ, ◌+◌, false, Option, Some, List, [], ◌∷◌, length, get_or, set, All, refl, sym, ap, ◌∙◌, subst, arith}
use Rattle.vx_raw.specs.Region.{written}
use Rattle.vx_arena.specs.Text.{ArenaModel, more}
use Rattle.vx_arena.proofs.Paying.{pays_then, pays_cost}
use Rattle.vx_records.specs.Record.{Record, RecordsModel, record_at, with_record}
use Rattle.vx_value.specs.declared.value.Kind.{Kind}
use Rattle.vx_value.specs.declared.value.Value.{Value}
use Rattle.vx_vector.specs.Column.{FitsKind}
use Rattle.vx_rows.specs.declared.fields.Extra.{Extra}
use Rattle.vx_rows.specs.declared.fields.Extra.TheVariants as extra
use Rattle.vx_rows.specs.Layout.{body_len, place_of}
use Rattle.vx_rows.specs.Body.{Stored, null, bool, int, short, long, raw, all_stored, stored_in, FitsField, IsOf}
use Rattle.vx_rows.specs.Texts.{Frees, Holds, IsKept, SameValue, Stores, blocks_in, blocks_of_value, text_cost, value_of}
use Rattle.vx_rows.specs.Container.{Changes, IsContainer, LiveRow, TakesValue, bytes, cell, blocks_of_held, held_at, held_of, is_bytes, rows_in, stored_of, with_held}
use Rattle.vx_rows.proofs.BodyLemmas.{raw_put, stored_at}
use Rattle.vx_rows.proofs.ChangeLemmas.{put_holds, put_rows, same_own}
use Rattle.vx_rows.proofs.FieldLemmas.{BytesField, SlotField, extra_at, kept_field}
use Rattle.vx_rows.proofs.Holding.{holds_tail}
use Rattle.vx_rows.proofs.RowLemmas.{LiveParts, held_blocks, kept_blocks, own_held}
use Rattle.vx_rows.proofs.Taking.{holds_plain}

-- ---- bytes

module _ (a : ArenaModel) (columns : ℕ) (fields : List Extra) (records now : RecordsModel) (empty scratch : List ℕ) (n : ℕ) (row : LiveRow) (which at : ℕ) (from : List ℕ) (keeps : IsContainer columns fields records a empty scratch) (parts : LiveParts a columns fields records n row) (f : BytesField columns fields which) (many : length from ≡ f.count) (at_is : at ≡ place_of fields (columns + which)) (whole : length (record_at records n).body ≡ body_len fields) (is : now ≡ with_record records n (record (record_at records n) { body = written (record_at records n).body at from })) where
  changed : Record
  changed = record (record_at records n) { body = written (record_at records n).body at from }

  put : all_stored fields changed.body ≡ set (all_stored fields parts.r.body) (columns + which) (raw from)
  unfolding changed
  put =
      ap (λ (p : ℕ). all_stored fields (written (record_at records n).body p from)) at_is
      ∙ (raw_put fields (record_at records n).body from (columns + which) f.count f.less whole f.is many
      ∙ ap (λ (r : Record). set (all_stored fields r.body) (columns + which) (raw from)) parts.at)

  head : (changed.next ≡ parts.r.next) × (changed.matched ≡ parts.r.matched)
  unfolding changed
  head = (ap (λ (r : Record). r.next) parts.at, ap (λ (r : Record). r.matched) parts.at)

  adds : (others : List Stored) → Holds a others → Holds a (raw from ∷ others)
  adds others h = holds_plain a (raw from) others tt tt h

  frees : (others : List Stored) → Holds a (get_or (all_stored fields parts.r.body) (columns + which) null ∷ others) → Holds a others
  frees others h = holds_tail a (get_or (all_stored fields parts.r.body) (columns + which) null) others h

  pub bytes_container : IsContainer columns fields now a empty scratch
  unfolding changed
  bytes_container = record {
    shape = keeps.shape;
    few = keeps.few;
    len = ap (λ (m : RecordsModel). m.len) is ∙ keeps.len;
    whole = keeps.whole;
    nothing = keeps.nothing;
    room = keeps.room;
    holds = subst (λ (m : RecordsModel). Holds a (stored_of fields m.records)) (sym is) (put_holds a a a columns fields records.records n parts.r changed which (raw from) parts.below parts.there keeps.holds f.less head put adds (λ others h k y less. refl) frees (λ others h k y less. refl));
  }

  pub bytes_seen : (rows : List (Option LiveRow)) → rows_in a columns fields records.records ≡ rows → rows_in a columns fields now.records ≡ set rows n (Some (with_held row which (bytes from)))
  unfolding changed
  bytes_seen rows same =
      ap (λ (m : RecordsModel). rows_in a columns fields m.records) is
      ∙ (put_rows a a a columns fields records.records n parts.r changed which (raw from) parts.below parts.there keeps.holds f.less head put adds (λ others h k y less. refl) frees (λ others h k y less. refl)
      ∙ (λ i. set (same i) n (Some (with_held (sym parts.is i) which (bytes from)))))

-- ---- a cell

pub fits_value : (a m : ArenaModel) (e : Extra) (v : Value) (s : Stored) → TakesValue e v → Stores a m v s → FitsField e s
fits_value a m (extra.Bytes count) v s takes one = absurd takes
fits_value a m (extra.Slot k) v s takes one = record { kind_is = one.kind_is k takes; value = one.spelled }

pub takes_slot : (e : Extra) (v : Value) → TakesValue e v → is_bytes e ≡ false
takes_slot (extra.Bytes count) v takes = absurd takes
takes_slot (extra.Slot k) v takes = refl

slot_held : (d : ArenaModel) (k : Kind) (s : Stored) → IsOf (extra.Slot k) s → held_of d s ≡ cell (value_of d s)
slot_held d k null of = refl
slot_held d k (bool b) of = refl
slot_held d k (int n) of = refl
slot_held d k (short t) of = refl
slot_held d k (long len front place) of = refl
slot_held d k (raw b) of = absurd of

-- the old cell is there still
pub old_kept : (a m : ArenaModel) (columns : ℕ) (fields : List Extra) (records : RecordsModel) (empty scratch : List ℕ) (n : ℕ) (row : LiveRow) (which : ℕ) (v : Value) (s old : Stored) (body : List ℕ) → IsContainer columns fields records a empty scratch → (parts : LiveParts a columns fields records n row) → SlotField columns fields which → Stores a m v s → body ≡ parts.r.body → old ≡ stored_in fields body (columns + which) → IsKept m old
old_kept a m columns fields records empty scratch n row which v s old body keeps parts f one same is =
    let own : Holds a (all_stored fields parts.r.body) = own_held a a columns fields records.records n parts.r parts.below parts.there keeps.holds in
    let with_new : Holds m (s ∷ all_stored fields parts.r.body) = one.adds.holds (all_stored fields parts.r.body) own in
    kept_field m fields parts.r.body (columns + which) old (holds_tail m s (all_stored fields parts.r.body) with_new) f.less (is ∙ ap (λ (b : List ℕ). stored_in fields b (columns + which)) same)

module _ (a m d : ArenaModel) (columns : ℕ) (fields : List Extra) (records now : RecordsModel) (empty scratch : List ℕ) (n : ℕ) (row : LiveRow) (which : ℕ) (v : Value) (s old : Stored) (body over : List ℕ) (keeps : IsContainer columns fields records a empty scratch) (parts : LiveParts a columns fields records n row) (f : SlotField columns fields which) (fits : FitsKind f.k v) (one : Stores a m v s) (freed : Frees m d (old ∷ [])) (same_body : body ≡ parts.r.body) (old_is : old ≡ stored_in fields body (columns + which)) (put : all_stored fields over ≡ set (all_stored fields body) (columns + which) s) (is : now ≡ with_record records n (record (record_at records n) { body = over })) where
  altered : Record
  altered = record (record_at records n) { body = over }

  put_is : all_stored fields altered.body ≡ set (all_stored fields parts.r.body) (columns + which) s
  unfolding altered
  put_is = put ∙ ap (λ (b : List ℕ). set (all_stored fields b) (columns + which) s) same_body

  head_is : (altered.next ≡ parts.r.next) × (altered.matched ≡ parts.r.matched)
  unfolding altered
  head_is = (ap (λ (r : Record). r.next) parts.at, ap (λ (r : Record). r.matched) parts.at)

  old_at : get_or (all_stored fields parts.r.body) (columns + which) null ≡ old
  old_at = stored_at fields parts.r.body (columns + which) f.less ∙ sym (old_is ∙ ap (λ (b : List ℕ). stored_in fields b (columns + which)) same_body)

  frees_old : (others : List Stored) → Holds m (get_or (all_stored fields parts.r.body) (columns + which) null ∷ others) → Holds d others
  frees_old others h = freed.holds others (subst (λ (x : Stored). Holds m (x ∷ others)) old_at h)

  frees_same : (others : List Stored) → Holds m (get_or (all_stored fields parts.r.body) (columns + which) null ∷ others) → All (SameValue m d) others
  frees_same others h = freed.values others (subst (λ (x : Stored). Holds m (x ∷ others)) old_at h)

  pub slot_container : IsContainer columns fields now d empty scratch
  unfolding altered
  slot_container = record {
    shape = keeps.shape;
    few = keeps.few;
    len = ap (λ (x : RecordsModel). x.len) is ∙ keeps.len;
    whole = keeps.whole;
    nothing = keeps.nothing;
    room = keeps.room;
    holds = subst (λ (x : RecordsModel). Holds d (stored_of fields x.records)) (sym is) (put_holds a m d columns fields records.records n parts.r altered which s parts.below parts.there keeps.holds f.less head_is put_is one.adds.holds one.adds.values frees_old frees_same);
  }

  new_cell : held_of d s ≡ cell v
  unfolding altered
  new_cell =
      let same : SameValue m d s = same_own a m d columns fields records.records n parts.r altered which s parts.below parts.there keeps.holds f.less head_is put_is one.adds.holds one.adds.values frees_old frees_same in
      slot_held d f.k s (one.kind_is f.k fits) ∙ ap cell (same ∙ one.is)

  pub slot_seen : (rows : List (Option LiveRow)) → rows_in a columns fields records.records ≡ rows → rows_in d columns fields now.records ≡ set rows n (Some (with_held row which (cell v)))
  unfolding altered
  slot_seen rows same =
      ap (λ (x : RecordsModel). rows_in d columns fields x.records) is
      ∙ (put_rows a m d columns fields records.records n parts.r altered which s parts.below parts.there keeps.holds f.less head_is put_is one.adds.holds one.adds.values frees_old frees_same
      ∙ (λ i. set (same i) n (Some (with_held (sym parts.is i) which (new_cell i)))))

  pub slot_changes : Changes a d (blocks_of_value v) (blocks_of_held (held_at row which)) (text_cost v)
  slot_changes =
      let own : Holds a (all_stored fields parts.r.body) = own_held a a columns fields records.records n parts.r parts.below parts.there keeps.holds in
      let kept : IsKept a (stored_in fields parts.r.body (columns + which)) = kept_field a fields parts.r.body (columns + which) (stored_in fields parts.r.body (columns + which)) own f.less refl in
      let old_held : blocks_of_held (held_at row which) ≡ blocks_in (stored_in fields parts.r.body (columns + which)) = ap (λ (w : LiveRow). blocks_of_held (held_at w which)) parts.is ∙ (ap blocks_of_held (extra_at a columns fields parts.r which f.less) ∙ held_blocks a (stored_in fields parts.r.body (columns + which)) kept) in
      let old_same : blocks_in old ≡ blocks_in (stored_in fields parts.r.body (columns + which)) = ap blocks_in (old_is ∙ ap (λ (b : List ℕ). stored_in fields b (columns + which)) same_body) in
      let new_blocks : blocks_of_value v ≡ blocks_in s = ap blocks_of_value (sym one.is) ∙ kept_blocks m s one.kept in
      let first : m.taken ≡ more a.taken (0 + blocks_in s) = one.adds.taken in
      let first_given : m.given ≡ a.given = one.adds.given in
      let second : d.taken ≡ m.taken = freed.taken in
      let second_given : d.given ≡ more m.given (0 + blocks_in old) = freed.given in
      record {
        taken = omega (arith, first, second, new_blocks);
        given = omega (arith, first_given, second_given, old_held, old_same);
        pays = pays_cost a.chunks d.chunks (text_cost v + 0) (text_cost v) (omega arith) (pays_then a.chunks m.chunks d.chunks (text_cost v) 0 one.adds.pays freed.pays);
      }
