-- What one field of a live row stores, as contracts see it.
use Rattle.std.proofs.Common.{◌≡◌, ℕ, ◌+◌, ◌<◌, ◌≤◌, ◌⊎◌, inl, inr, nat_le, Bool, true, false, cond, Option, Some, None, is_some, unwrap_or, List, [], ◌∷◌, ◌++◌, length, map, take, drop, get_or, refl, sym, ap, ◌∙◌, subst, arith, if◌then◌else◌}
use Rattle.std.specs.List.{filter, range_with_len}
use Rattle.std.proofs.lemmas.Bool.{cases_lt}
use Rattle.std.proofs.lemmas.List.Elements.{filter-append}
use Rattle.std.proofs.lemmas.List.FromFn.{map-range_with_len_more}
use Rattle.std.proofs.lemmas.List.{append-nil, get_or_default, get_or-drop, get_or-map, get_or-take, get_or_past, length-drop, length-map, length-take-le, map-append, take_more}
use Rattle.vx_arena.specs.Text.{ArenaModel}
use Rattle.vx_raw.specs.declared.place.Place.{Place}
use Rattle.vx_records.specs.Record.{Record, RecordsModel, record_in}
use Rattle.vx_value.specs.declared.value.Kind.{Kind}
use Rattle.vx_value.specs.declared.value.Kind.TheVariants as kind
use Rattle.vx_value.specs.declared.value.Value.{Value}
use Rattle.vx_value.specs.declared.value.Value.TheVariants as value
use Rattle.vx_value.specs.Row.{Row, value_at}
use Rattle.vx_rows.specs.declared.fields.Extra.{Extra}
use Rattle.vx_rows.specs.declared.fields.Extra.TheVariants as extra
use Rattle.vx_rows.specs.Layout.{field_at}
use Rattle.vx_rows.specs.Nulls.{is_null_in}
use Rattle.vx_rows.specs.Body.{Stored, null, short, long, all_stored, bytes_of, read_field, stored_in}
use Rattle.vx_rows.specs.Slot.{front_in, len_in, place_in_slot, short_in}
use Rattle.vx_rows.specs.Texts.{Holds, IsKept, value_of}
use Rattle.vx_rows.specs.Container.{bytes, cell, LiveRow, held_at, held_of, is_bytes, key_values, live_in, live_numbers, row_in, rows_in}
use Rattle.vx_rows.proofs.BodyLemmas.{stored_at, stored_many, stored_raw}
use Rattle.vx_rows.proofs.RowLemmas.{rows_at}

-- ---- any field

pub kept_field : (a : ArenaModel) (fields : List Extra) (body : List ℕ) (i : ℕ) (s : Stored) → Holds a (all_stored fields body) → i < length fields → s ≡ stored_in fields body i → IsKept a s
kept_field a fields body i s h less is =
    let many : length (all_stored fields body) ≡ length fields = stored_many fields body in
    subst (λ (x : Stored). IsKept a x) (stored_at fields body i less ∙ sym is) (h.each i null (omega (arith, less, many)))

-- ---- columns

pub cells_more : (a : ArenaModel) (fields : List Extra) (body : List ℕ) (i : ℕ) (s : Stored) (v : Value) (before after : List Value) → i < length fields → s ≡ stored_in fields body i → v ≡ value_of a s → before ≡ map (value_of a) (take i (all_stored fields body)) → after ≡ before ++ v ∷ [] → after ≡ map (value_of a) (take (i + 1) (all_stored fields body))
cells_more a fields body i s v before after less is v_is front all =
    let xs : List Stored = all_stored fields body in
    let many : length (all_stored fields body) ≡ length fields = stored_many fields body in
    let more : take (i + 1) (all_stored fields body) ≡ take i (all_stored fields body) ++ get_or (all_stored fields body) i null ∷ [] = take_more (all_stored fields body) i null (omega (arith, less, many)) in
    let split : map (value_of a) (take i (all_stored fields body) ++ get_or (all_stored fields body) i null ∷ []) ≡ map (value_of a) (take i (all_stored fields body)) ++ value_of a (get_or (all_stored fields body) i null) ∷ [] = map-append (value_of a) (take i (all_stored fields body)) (get_or (all_stored fields body) i null ∷ []) in
    let last : v ≡ value_of a (get_or (all_stored fields body) i null) = v_is ∙ ap (value_of a) (is ∙ sym (stored_at fields body i less)) in
    all ∙ ((λ k. front k ++ last k ∷ []) ∙ (sym split ∙ sym (ap (map (value_of a)) more)))

pub cell_at : (a : ArenaModel) (columns : ℕ) (fields : List Extra) (r : Record) (c : ℕ) → c < columns → columns ≤ length fields → get_or (row_in a columns fields r).cells c value.Null ≡ value_of a (stored_in fields r.body c)
cell_at a columns fields r c less few =
    let many : length (all_stored fields r.body) ≡ length fields = stored_many fields r.body in
    let long : length (take columns (all_stored fields r.body)) ≡ columns = length-take-le columns (all_stored fields r.body) (omega (arith, few, many)) in
    get_or-map (value_of a) (take columns (all_stored fields r.body)) c null value.Null (omega (arith, less, long))
    ∙ ap (value_of a) (get_or-take columns (all_stored fields r.body) c null less ∙ stored_at fields r.body c (omega (arith, less, few)))

-- ---- accumulators

pub extra_at : (a : ArenaModel) (columns : ℕ) (fields : List Extra) (r : Record) (which : ℕ) → columns + which < length fields → held_at (row_in a columns fields r) which ≡ held_of a (stored_in fields r.body (columns + which))
extra_at a columns fields r which less =
    let many : length (all_stored fields r.body) ≡ length fields = stored_many fields r.body in
    get_or-map (held_of a) (drop columns (all_stored fields r.body)) which null (cell value.Null) (omega (arith, less, many, length-drop columns (all_stored fields r.body)))
    ∙ ap (held_of a) (get_or-drop columns (all_stored fields r.body) which null ∙ stored_at fields r.body (columns + which) less)

-- an accumulator of bytes
pub record BytesField (columns : ℕ) (fields : List Extra) (which : ℕ) : Type 0 where
  pub count : ℕ
  pub is : field_at fields (columns + which) ≡ extra.Bytes count
  pub less : columns + which < length fields

-- a field is the same whatever stands past the end
field_same : (fields : List Extra) (i : ℕ) (d : Extra) → i < length fields → get_or fields i d ≡ field_at fields i
field_same fields i d less = get_or_default fields i d (extra.Bytes 0) less

pub bytes_field : (columns : ℕ) (fields : List Extra) (which : ℕ) → is_bytes (get_or (drop columns fields) which (extra.Slot kind.Bool)) ≡ true → BytesField columns fields which
bytes_field columns fields which is = by_place (cases_lt (columns + which) (length fields))
  where
    there : get_or (drop columns fields) which (extra.Slot kind.Bool) ≡ get_or fields (columns + which) (extra.Slot kind.Bool)
    there = get_or-drop columns fields which (extra.Slot kind.Bool)

    of_bytes : (e : Extra) → is_bytes e ≡ true → (count : ℕ) × (e ≡ extra.Bytes count)
    of_bytes (extra.Bytes count) so = (count, refl)
    of_bytes (extra.Slot k) so = absurd (cc)

    by_place : (columns + which < length fields) ⊎ (length fields ≤ columns + which) → BytesField columns fields which
    by_place (inl less) =
        let same : get_or (drop columns fields) which (extra.Slot kind.Bool) ≡ field_at fields (columns + which) = there ∙ field_same fields (columns + which) (extra.Slot kind.Bool) less in
        let found = of_bytes (get_or (drop columns fields) which (extra.Slot kind.Bool)) is in
        record { count = found.0; is = sym same ∙ found.1; less = less }
    by_place (inr past) =
        let none_there : get_or fields (columns + which) (extra.Slot kind.Bool) ≡ extra.Slot kind.Bool = get_or_past fields (columns + which) (extra.Slot kind.Bool) past in
        let so : false ≡ true = sym (ap is_bytes (there ∙ none_there)) ∙ is in
        absurd (cc)

-- of so many bytes
pub has_bytes : (columns : ℕ) (fields : List Extra) (which count : ℕ) → get_or (drop columns fields) which (extra.Slot kind.Bool) ≡ extra.Bytes count → BytesField columns fields which
has_bytes columns fields which count is =
    let less : columns + which < length fields = (bytes_field columns fields which (ap is_bytes is)).less in
    record {
      count = count;
      is = sym (get_or-drop columns fields which (extra.Slot kind.Bool) ∙ field_same fields (columns + which) (extra.Slot kind.Bool) less) ∙ is;
      less = less;
    }

pub has_count : (columns : ℕ) (fields : List Extra) (which count : ℕ) (is : get_or (drop columns fields) which (extra.Slot kind.Bool) ≡ extra.Bytes count) → count ≡ (has_bytes columns fields which count is).count
unfolding has_bytes
has_count columns fields which count is = refl

-- an accumulator that is a cell
pub record SlotField (columns : ℕ) (fields : List Extra) (which : ℕ) : Type 0 where
  pub k : Kind
  pub is : field_at fields (columns + which) ≡ extra.Slot k
  pub less : columns + which < length fields

pub slot_field : (columns : ℕ) (fields : List Extra) (which : ℕ) → is_bytes (get_or (drop columns fields) which (extra.Bytes 0)) ≡ false → SlotField columns fields which
slot_field columns fields which is = by_place (cases_lt (columns + which) (length fields))
  where
    there : get_or (drop columns fields) which (extra.Bytes 0) ≡ field_at fields (columns + which)
    there = get_or-drop columns fields which (extra.Bytes 0)

    of_slot : (e : Extra) → is_bytes e ≡ false → (k : Kind) × (e ≡ extra.Slot k)
    of_slot (extra.Bytes count) so = absurd (cc)
    of_slot (extra.Slot k) so = (k, refl)

    by_place : (columns + which < length fields) ⊎ (length fields ≤ columns + which) → SlotField columns fields which
    by_place (inl less) =
        let found = of_slot (get_or (drop columns fields) which (extra.Bytes 0)) is in
        record { k = found.0; is = sym there ∙ found.1; less = less }
    by_place (inr past) =
        let none_there : field_at fields (columns + which) ≡ extra.Bytes 0 = get_or_past fields (columns + which) (extra.Bytes 0) past in
        let so : true ≡ false = sym (ap is_bytes (there ∙ none_there)) ∙ is in
        absurd (cc)

-- a cell is one
text_cell : (a : ArenaModel) (b : Bool) (t front : List ℕ) (len : ℕ) (place : Place) → held_of a (if b then short t else long len front place) ≡ cell (value_of a (if b then short t else long len front place))
text_cell a true t front len place = refl
text_cell a false t front len place = refl

read_cell : (a : ArenaModel) (k : Kind) (b : Bool) (slot : List ℕ) → held_of a (read_field (extra.Slot k) b slot) ≡ cell (value_of a (read_field (extra.Slot k) b slot))
read_cell a k true slot = refl
read_cell a kind.Bool false slot = refl
read_cell a kind.Int false slot = refl
read_cell a kind.Text false slot = text_cell a (nat_le (len_in slot) 12) (short_in slot) (front_in slot) (len_in slot) (place_in_slot slot)

pub slot_cell : (a : ArenaModel) (columns : ℕ) (fields : List Extra) (r : Record) (which : ℕ) → SlotField columns fields which → held_at (row_in a columns fields r) which ≡ cell (value_of a (stored_in fields r.body (columns + which)))
unfolding stored_in
slot_cell a columns fields r which f =
    extra_at a columns fields r which f.less
    ∙ subst (λ (e : Extra). held_of a (read_field e (is_null_in r.body (columns + which)) (bytes_of fields r.body (columns + which))) ≡ cell (value_of a (read_field e (is_null_in r.body (columns + which)) (bytes_of fields r.body (columns + which))))) (sym f.is) (read_cell a f.k (is_null_in r.body (columns + which)) (bytes_of fields r.body (columns + which)))

-- bytes are what they are
pub bytes_held : (a : ArenaModel) (columns : ℕ) (fields : List Extra) (r : Record) (which : ℕ) (body from : List ℕ) → BytesField columns fields which → body ≡ r.body → from ≡ bytes_of fields body (columns + which) → held_at (row_in a columns fields r) which ≡ bytes from
bytes_held a columns fields r which body from f same is =
    extra_at a columns fields r which f.less
    ∙ (sym (ap (held_of a) (stored_raw fields r.body (columns + which) f.count (bytes_of fields r.body (columns + which)) f.is refl))
    ∙ sym (ap bytes (is ∙ ap (λ (b : List ℕ). bytes_of fields b (columns + which)) same)))

-- ---- keys

pub cell_of_live : (a : ArenaModel) (columns : ℕ) (fields : List Extra) (r : Record) (row : LiveRow) (c : ℕ) (s : Stored) (body : List ℕ) → row ≡ row_in a columns fields r → body ≡ r.body → c < columns → columns ≤ length fields → s ≡ stored_in fields body c → get_or row.cells c value.Null ≡ value_of a s
cell_of_live a columns fields r row c s body is same less few stored =
    ap (λ (w : LiveRow). get_or w.cells c value.Null) is ∙ (cell_at a columns fields r c less few ∙ ap (value_of a) (sym (stored ∙ ap (λ (b : List ℕ). stored_in fields b c) same)))

pub keys_more : (xs ys : List ℕ) (cells others : Row) (k : ℕ) → length xs ≡ length ys → k < length xs → key_values (take k xs) cells ≡ key_values (take k ys) others → get_or cells (get_or xs k 0) value.Null ≡ get_or others (get_or ys k 0) value.Null → key_values (take (k + 1) xs) cells ≡ key_values (take (k + 1) ys) others
keys_more xs ys cells others k many less front last =
    let one : take (k + 1) xs ≡ take k xs ++ get_or xs k 0 ∷ [] = take_more xs k 0 less in
    let two : take (k + 1) ys ≡ take k ys ++ get_or ys k 0 ∷ [] = take_more ys k 0 (omega (arith, many, less)) in
    let split : key_values (take k xs ++ get_or xs k 0 ∷ []) cells ≡ key_values (take k xs) cells ++ get_or cells (get_or xs k 0) value.Null ∷ [] = map-append (value_at cells) (take k xs) (get_or xs k 0 ∷ []) in
    let split_other : key_values (take k ys ++ get_or ys k 0 ∷ []) others ≡ key_values (take k ys) others ++ get_or others (get_or ys k 0) value.Null ∷ [] = map-append (value_at others) (take k ys) (get_or ys k 0 ∷ []) in
    ap (λ (l : List ℕ). key_values l cells) one ∙ (split ∙ ((λ i. front i ++ last i ∷ []) ∙ (sym split_other ∙ sym (ap (λ (l : List ℕ). key_values l others) two))))

pub key_at : (xs ys : List ℕ) (cells others : Row) (k : ℕ) → length xs ≡ length ys → k < length xs → key_values xs cells ≡ key_values ys others → get_or cells (get_or xs k 0) value.Null ≡ get_or others (get_or ys k 0) value.Null
key_at xs ys cells others k many less same =
    sym (get_or-map (value_at cells) xs k 0 value.Null less) ∙ (ap (λ (l : List Value). get_or l k value.Null) same ∙ get_or-map (value_at others) ys k 0 value.Null (omega (arith, many, less)))

-- ---- live numbers

map_itself : (xs : List ℕ) → map (λ n. n) xs ≡ xs
map_itself [] = refl
map_itself (x ∷ xs) = ap (λ (l : List ℕ). x ∷ l) (map_itself xs)

numbers_more : (n : ℕ) → range_with_len 0 (n + 1) ≡ range_with_len 0 n ++ n ∷ []
numbers_more n =
    sym (map_itself (range_with_len 0 (n + 1))) ∙ (map-range_with_len_more (λ k. k) 0 n n (omega arith) ∙ ap (λ (l : List ℕ). l ++ n ∷ []) (map_itself (range_with_len 0 n)))

passed : (p : ℕ → Bool) (n : ℕ) (b : Bool) → p n ≡ b → filter p (range_with_len 0 (n + 1)) ≡ filter p (range_with_len 0 n) ++ cond b (n ∷ []) []
passed p n b is = ap (filter p) (numbers_more n) ∙ (filter-append p (range_with_len 0 n) (n ∷ []) ∙ ap (λ (l : List ℕ). filter p (range_with_len 0 n) ++ l) (one b is))
  where
    one : (b : Bool) → p n ≡ b → filter p (n ∷ []) ≡ cond b (n ∷ []) []
    one true is = rw is refl
    one false is = rw is refl

pub number_live : (p : ℕ → Bool) (n : ℕ) (before now : List ℕ) → p n ≡ true → before ≡ filter p (range_with_len 0 n) → now ≡ before ++ n ∷ [] → now ≡ filter p (range_with_len 0 (n + 1))
number_live p n before now so front all = all ∙ (ap (λ (l : List ℕ). l ++ n ∷ []) front ∙ sym (passed p n true so))

pub number_free : (p : ℕ → Bool) (n : ℕ) (before now : List ℕ) → p n ≡ false → before ≡ filter p (range_with_len 0 n) → now ≡ before → now ≡ filter p (range_with_len 0 (n + 1))
number_free p n before now so front all = all ∙ (front ∙ (sym (append-nil (filter p (range_with_len 0 n))) ∙ sym (passed p n false so)))

-- rows are live where records are
live_same : (a : ArenaModel) (columns : ℕ) (fields : List Extra) (o : Option Record) → is_some (live_in a columns fields o) ≡ is_some o
live_same a columns fields None = refl
live_same a columns fields (Some r) = refl

pub live_test : (a : ArenaModel) (columns : ℕ) (fields : List Extra) (records : RecordsModel) (rows : List (Option LiveRow)) (n : ℕ) → rows_in a columns fields records.records ≡ rows → is_some (record_in records n) ≡ is_some (get_or rows n None)
live_test a columns fields records rows n same =
    sym (live_same a columns fields (record_in records n))
    ∙ (sym (ap is_some (rows_at a columns fields records.records n)) ∙ ap (λ (l : List (Option LiveRow)). is_some (get_or l n None)) same)

-- a row that is there is the one that is found
pub found : (o : Option LiveRow) (else_row : LiveRow) → is_some o ≡ true → o ≡ Some (unwrap_or o else_row)
found None else_row is = absurd (cc)
found (Some r) else_row is = refl

filter_as : (p q : ℕ → Bool) (xs : List ℕ) → ((n : ℕ) → p n ≡ q n) → filter p xs ≡ filter q xs
filter_as p q [] same = refl
filter_as p q (x ∷ xs) same =
    let test : p x ≡ q x = same x in
    let rest : filter p xs ≡ filter q xs = filter_as p q xs same in
    λ i. cond (test i) (x ∷ rest i) (rest i)

pub live_seen : (a : ArenaModel) (columns : ℕ) (fields : List Extra) (records : RecordsModel) (rows : List (Option LiveRow)) → rows_in a columns fields records.records ≡ rows → filter (λ n. is_some (record_in records n)) (range_with_len 0 (length records.records)) ≡ live_numbers rows
live_seen a columns fields records rows same =
    filter_as (λ n. is_some (record_in records n)) (λ n. is_some (get_or (rows_in a columns fields records.records) n None)) (range_with_len 0 (length records.records)) (λ n. sym (live_same a columns fields (record_in records n)) ∙ sym (ap is_some (rows_at a columns fields records.records n)))
    ∙ (ap (λ (k : ℕ). filter (λ n. is_some (get_or (rows_in a columns fields records.records) n None)) (range_with_len 0 k)) (sym (length-map records.records (live_in a columns fields))) ∙ ap live_numbers same)
