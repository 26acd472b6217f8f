-- What a body stores after a field was put into it.
use Rattle.std.proofs.Common.{◌≡◌, ℕ, zero, suc, inl, inr, ◌+◌, ◌-◌, ◌/◌, ◌%◌, ◌<◌, ◌≤◌, ◌⊎◌, replicate, Bool, true, false, cond, eqb, List, [], ◌∷◌, ◌++◌, length, take, drop, get_or, set, refl, sym, ap, ◌∙◌, arith}
use Rattle.std.specs.List.{sum_by}
use Rattle.std.specs.Int.{bit_at}
use Rattle.std.proofs.lemmas.Bool.{cases_order}
use Rattle.std.proofs.lemmas.List.{ext_get_or, take_all, take-replicate, drop-replicate, length-replicate, get_or-replicate, get_or_append_left, get_or-map, length-map, length-set, get_or-set_same, get_or-set_other}
use Rattle.std.proofs.Math.Seq.{drop-append-add}
use Rattle.std.proofs.lemmas.List.FromFn.{get_or-map-range_with_len, length-map-range_with_len}
use Rattle.std.proofs.lemmas.List.Sums.{sum_by_more, sum_by_more_le}
use Rattle.vx_raw.specs.Region.{written}
use Rattle.vx_value.specs.declared.value.Kind.{Kind}
use Rattle.vx_rows.specs.declared.fields.Extra.{Extra}
use Rattle.vx_rows.specs.declared.fields.Extra.TheVariants as extra
use Rattle.vx_rows.specs.Layout.{body_len, field_at, field_len, null_len, place_of}
use Rattle.vx_rows.specs.Nulls.{is_null_in}
use Rattle.vx_rows.specs.Body.{Stored, null, raw, all_stored, bytes_of, stored_in, read_field, read_slot, spelled, is_null, FitsField, Puts}
use Rattle.vx_rows.specs.Texts.{empty_of, zero_of}
use Rattle.vx_rows.proofs.WriteLemmas.{written-length, byte_before, byte_behind, byte_there, there, part_before, part_behind}
use Rattle.vx_rows.proofs.SlotLemmas.{read_back, many_spelled, few_spelled}

-- ---- places

-- a field ends where the body does, or before
pub field_inside : (fields : List Extra) (which : ℕ) → which < length fields → place_of fields which + field_len (field_at fields which) ≤ body_len fields
field_inside fields which less = omega (arith, sum_by_more_le field_len fields which (extra.Bytes 0) less)

plus_none : (i : ℕ) → i + 0 ≡ i
plus_none i = omega arith

rises_by : (fields : List Extra) (i k : ℕ) → i + k ≤ length fields → sum_by field_len (take i fields) ≤ sum_by field_len (take (i + k) fields)
rises_by fields i zero inside = omega (arith, ap (λ (k : ℕ). sum_by field_len (take k fields)) (plus_none i))
rises_by fields i (suc k) inside =
    let before : sum_by field_len (take i fields) ≤ sum_by field_len (take (i + k) fields) = rises_by fields i k (omega arith) in
    let more : sum_by field_len (take (i + k + 1) fields) ≡ sum_by field_len (take (i + k) fields) + field_len (field_at fields (i + k)) = sum_by_more field_len fields (i + k) (extra.Bytes 0) (omega arith) in
    let same : sum_by field_len (take (i + suc k) fields) ≡ sum_by field_len (take (i + k + 1) fields) = ap (λ (n : ℕ). sum_by field_len (take n fields)) (omega arith) in
    omega (arith, before, more, same)

-- of two fields the later one begins where the earlier one has ended
pub fields_apart : (fields : List Extra) (i j : ℕ) → i < j → j < length fields → place_of fields i + field_len (field_at fields i) ≤ place_of fields j
fields_apart fields i j less inside =
    let more : sum_by field_len (take (i + 1) fields) ≡ sum_by field_len (take i fields) + field_len (field_at fields i) = sum_by_more field_len fields i (extra.Bytes 0) (omega arith) in
    let bound : sum_by field_len (take (i + 1) fields) ≤ sum_by field_len (take (i + 1 + (j - (i + 1))) fields) = rises_by fields (i + 1) (j - (i + 1)) (omega arith) in
    let same : sum_by field_len (take (i + 1 + (j - (i + 1))) fields) ≡ sum_by field_len (take j fields) = ap (λ (k : ℕ). sum_by field_len (take k fields)) (omega arith) in
    omega (arith, more, bound, same)

-- null bits lie before the fields
pub null_inside : (fields : List Extra) (which : ℕ) → which < length fields → which / 8 < null_len (length fields)
null_inside fields which less = omega arith

three_ways : (a b : ℕ) → (a < b) ⊎ ((b < a) ⊎ (a ≡ b))
three_ways a b = ways (cases_order a b)
  where
    ways : (a ≡ b) ⊎ ((a < b) ⊎ (b < a)) → (a < b) ⊎ ((b < a) ⊎ (a ≡ b))
    ways (inl same) = inr (inr same)
    ways (inr (inl below)) = inl below
    ways (inr (inr above)) = inr (inl above)

one_or_zero : (b : Bool) → eqb (cond b 1 0) 1 ≡ b
one_or_zero true = refl
one_or_zero false = refl

-- ---- one field put

module _ (fields : List Extra) (before after : List ℕ) (which : ℕ) (s : Stored) (less : which < length fields) (whole : length before ≡ body_len fields) (fits : FitsField (field_at fields which) s) (p : Puts fields before after which s) where
  middle : List ℕ
  middle = written before (which / 8) (p.byte ∷ [])

  bit_near : which / 8 < null_len (length fields)
  bit_near = null_inside fields which less

  bit_inside : which / 8 + 1 ≤ length before
  bit_inside = omega (arith, bit_near, whole)

  middle_whole : length middle ≡ body_len fields
  unfolding middle
  middle_whole = written-length before (which / 8) (p.byte ∷ []) bit_inside ∙ whole

  few : length (spelled s) ≤ field_len (field_at fields which)
  few = few_spelled (field_at fields which) s fits

  inside : place_of fields which + length (spelled s) ≤ length middle
  inside = omega (arith, few, middle_whole, field_inside fields which less)

  pub same_length : length after ≡ length before
  unfolding middle
  same_length = ap length p.is ∙ (written-length middle (place_of fields which) (spelled s) inside ∙ (middle_whole ∙ sym whole))

  -- bytes of null bits are left by the field's bytes
  null_byte : (k : ℕ) → k < null_len (length fields) → get_or after k 0 ≡ get_or middle k 0
  unfolding middle
  null_byte k near = ap (λ (b : List ℕ). get_or b k 0) p.is ∙ byte_before middle (place_of fields which) (spelled s) k (omega (arith, near)) (omega (arith, inside))

  bit_is : is_null_in after which ≡ is_null s
  unfolding is_null_in middle
  bit_is =
      let byte : get_or after (which / 8) 0 ≡ p.byte = null_byte (which / 8) bit_near ∙ byte_there before (which / 8) p.byte (omega (arith, bit_inside)) in
      ap (λ (n : ℕ). eqb (bit_at n (which % 8)) 1) byte ∙ (ap (λ (n : ℕ). eqb n 1) p.bit.set ∙ one_or_zero (is_null s))

  -- another field's bit stands in another byte, or elsewhere in this one
  bit_elsewhere : (i : ℕ) → (i / 8 < which / 8) ⊎ (which / 8 < i / 8) → i < length fields → bit_at (get_or middle (i / 8) 0) (i % 8) ≡ bit_at (get_or before (i / 8) 0) (i % 8)
  unfolding middle
  bit_elsewhere i (inl below) near = ap (λ (n : ℕ). bit_at n (i % 8)) (byte_before before (which / 8) (p.byte ∷ []) (i / 8) below (omega (arith, bit_inside)))
  bit_elsewhere i (inr above) near = ap (λ (n : ℕ). bit_at n (i % 8)) (byte_behind before (which / 8) (p.byte ∷ []) (i / 8) (omega arith) bit_inside)

  bit_beside : (i : ℕ) → i / 8 ≡ which / 8 → (i % 8 ≡ which % 8 → ⊥) → i < length fields → bit_at (get_or middle (i / 8) 0) (i % 8) ≡ bit_at (get_or before (i / 8) 0) (i % 8)
  unfolding middle
  bit_beside i same apart near =
      let byte : get_or middle (i / 8) 0 ≡ p.byte = ap (λ (k : ℕ). get_or middle k 0) same ∙ byte_there before (which / 8) p.byte (omega (arith, bit_inside)) in
      let was : get_or before (which / 8) 0 ≡ get_or before (i / 8) 0 = ap (λ (k : ℕ). get_or before k 0) (sym same) in
      ap (λ (n : ℕ). bit_at n (i % 8)) byte ∙ (p.bit.others (i % 8) apart (omega arith) ∙ ap (λ (n : ℕ). bit_at n (i % 8)) was)

  bit_of_other : (i : ℕ) → (i < which) ⊎ (which < i) → i < length fields → (i / 8 < which / 8) ⊎ ((which / 8 < i / 8) ⊎ (i / 8 ≡ which / 8)) → bit_at (get_or middle (i / 8) 0) (i % 8) ≡ bit_at (get_or before (i / 8) 0) (i % 8)
  bit_of_other i apart near (inl below) = bit_elsewhere i (inl below) near
  bit_of_other i apart near (inr (inl above)) = bit_elsewhere i (inr above) near
  bit_of_other i apart near (inr (inr same)) = bit_beside i same (λ (bit : i % 8 ≡ which % 8). omega arith) near

  other_bit : (i : ℕ) → (i < which) ⊎ (which < i) → i < length fields → is_null_in after i ≡ is_null_in before i
  unfolding is_null_in
  other_bit i apart near =
      ap (λ (n : ℕ). eqb (bit_at n (i % 8)) 1) (null_byte (i / 8) (null_inside fields i near)) ∙ ap (λ (n : ℕ). eqb n 1) (bit_of_other i apart near (three_ways (i / 8) (which / 8)))

  own_bytes : is_null s ≡ false → bytes_of fields after which ≡ spelled s
  unfolding middle
  own_bytes some = ap (λ (b : List ℕ). bytes_of fields b which) p.is ∙ there middle (place_of fields which) (spelled s) (field_len (field_at fields which)) (sym (many_spelled (field_at fields which) s fits some)) (omega (arith, inside))

  other_middle : (i : ℕ) → i < length fields → bytes_of fields middle i ≡ bytes_of fields before i
  unfolding middle
  other_middle i near = part_behind before (which / 8) (p.byte ∷ []) (place_of fields i) (field_len (field_at fields i)) (omega (arith, bit_near)) bit_inside

  other_bytes : (i : ℕ) → (i < which) ⊎ (which < i) → i < length fields → bytes_of fields after i ≡ bytes_of fields middle i
  unfolding middle
  other_bytes i (inl below) near = ap (λ (b : List ℕ). bytes_of fields b i) p.is ∙ part_before middle (place_of fields which) (spelled s) (place_of fields i) (field_len (field_at fields i)) (fields_apart fields i which below less) (omega (arith, inside))
  other_bytes i (inr above) near = ap (λ (b : List ℕ). bytes_of fields b i) p.is ∙ part_behind middle (place_of fields which) (spelled s) (place_of fields i) (field_len (field_at fields i)) (omega (arith, few, fields_apart fields which i above near)) inside

  own : stored_in fields after which ≡ s
  unfolding stored_in
  own = read_back (field_at fields which) s (is_null_in after which) (bytes_of fields after which) fits bit_is own_bytes

  other : (i : ℕ) → (i < which) ⊎ (which < i) → i < length fields → stored_in fields after i ≡ stored_in fields before i
  unfolding stored_in
  other i apart near =
      let bytes : bytes_of fields after i ≡ bytes_of fields before i = other_bytes i apart near ∙ other_middle i near in
      let bit : is_null_in after i ≡ is_null_in before i = other_bit i apart near in
      λ k. read_field (field_at fields i) (bit k) (bytes k)

-- a list that is another but at one place
set_is : (a b : List Stored) (which : ℕ) (s : Stored) → length a ≡ length b → which < length b → get_or a which null ≡ s → ((i : ℕ) → (i < which) ⊎ (which < i) → i < length b → get_or a i null ≡ get_or b i null) → a ≡ set b which s
set_is a b which s many less is others = ext_get_or null a (set b which s) (many ∙ sym (length-set b which s)) (λ i near. at_each i (three_ways i which) (omega (arith, near, many)))
  where
    at_each : (i : ℕ) → (i < which) ⊎ ((which < i) ⊎ (i ≡ which)) → i < length b → get_or a i null ≡ get_or (set b which s) i null
    at_each i (inl below) near = others i (inl below) near ∙ sym (get_or-set_other b which i s null (λ (same : i ≡ which). omega arith))
    at_each i (inr (inl above)) near = others i (inr above) near ∙ sym (get_or-set_other b which i s null (λ (same : i ≡ which). omega arith))
    at_each i (inr (inr same)) near = ap (λ (k : ℕ). get_or a k null) same ∙ (is ∙ (sym (get_or-set_same b which s null less) ∙ ap (λ (k : ℕ). get_or (set b which s) k null) (sym same)))

pub stored_at : (fields : List Extra) (body : List ℕ) (i : ℕ) → i < length fields → get_or (all_stored fields body) i null ≡ stored_in fields body i
unfolding all_stored
stored_at fields body i less = get_or-map-range_with_len (stored_in fields body) 0 (length fields) i i null less (omega arith)

pub stored_many : (fields : List Extra) (body : List ℕ) → length (all_stored fields body) ≡ length fields
unfolding all_stored
stored_many fields body = length-map-range_with_len (stored_in fields body) 0 (length fields)

-- the body stores what was put, and all other fields store what they did
pub puts_one : (fields : List Extra) (before after : List ℕ) (which : ℕ) (s : Stored) → which < length fields → length before ≡ body_len fields → FitsField (field_at fields which) s → Puts fields before after which s → all_stored fields after ≡ set (all_stored fields before) which s
puts_one fields before after which s less whole fits p =
    let many : length (all_stored fields before) ≡ length fields = stored_many fields before in
    set_is (all_stored fields after) (all_stored fields before) which s (stored_many fields after ∙ sym many) (omega (arith, many)) (stored_at fields after which less ∙ own fields before after which s less whole fits p) (λ i apart near.
    let inside : i < length fields = omega (arith, many, near) in
    stored_at fields after i inside ∙ (other fields before after which s less whole fits p i apart inside ∙ sym (stored_at fields before i inside)))

-- ---- what a field is read as

pub stored_raw : (fields : List Extra) (body : List ℕ) (which count : ℕ) (bytes : List ℕ) → field_at fields which ≡ extra.Bytes count → bytes ≡ bytes_of fields body which → raw bytes ≡ stored_in fields body which
unfolding stored_in
stored_raw fields body which count bytes is same = ap raw same ∙ ap (λ (e : Extra). read_field e (is_null_in body which) (bytes_of fields body which)) (sym is)

pub stored_null : (fields : List Extra) (body : List ℕ) (which : ℕ) (k : Kind) → field_at fields which ≡ extra.Slot k → is_null_in body which ≡ true → null ≡ stored_in fields body which
unfolding stored_in
stored_null fields body which k is set =
    ap (λ (b : Bool). read_field (extra.Slot k) b (bytes_of fields body which)) (sym set) ∙ ap (λ (e : Extra). read_field e (is_null_in body which) (bytes_of fields body which)) (sym is)

pub stored_slot : (fields : List Extra) (body : List ℕ) (which : ℕ) (k : Kind) (bytes : List ℕ) → field_at fields which ≡ extra.Slot k → is_null_in body which ≡ false → bytes ≡ bytes_of fields body which → read_slot k bytes ≡ stored_in fields body which
unfolding stored_in
stored_slot fields body which k bytes is clear same =
    ap (λ (b : List ℕ). read_field (extra.Slot k) false b) same
    ∙ (ap (λ (b : Bool). read_field (extra.Slot k) b (bytes_of fields body which)) (sym clear)
    ∙ ap (λ (e : Extra). read_field e (is_null_in body which) (bytes_of fields body which)) (sym is))

-- there is room for what is written
pub room_in_body : (fields : List Extra) (which : ℕ) (s : Stored) → which < length fields → FitsField (field_at fields which) s → place_of fields which + length (spelled s) ≤ body_len fields
room_in_body fields which s less fits = omega (arith, few_spelled (field_at fields which) s fits, field_inside fields which less)

pub room_for_stored : (fields : List Extra) (body now : List ℕ) (which byte : ℕ) (s : Stored) → which < length fields → length body ≡ body_len fields → FitsField (field_at fields which) s → now ≡ written body (which / 8) (byte ∷ []) → place_of fields which + length (spelled s) ≤ length now
room_for_stored fields body now which byte s less whole fits is =
    let near : which / 8 < null_len (length fields) = null_inside fields which less in
    let many : length now ≡ length body = ap length is ∙ written-length body (which / 8) (byte ∷ []) (omega (arith, near, whole)) in
    omega (arith, many, whole, few_spelled (field_at fields which) s fits, field_inside fields which less)

-- ---- a body that stores nothing

bits_set : (k : ℕ) → k < 8 → eqb (bit_at 255 k) 1 ≡ true
bits_set zero less = refl
bits_set (suc zero) less = refl
bits_set (suc (suc zero)) less = refl
bits_set (suc (suc (suc zero))) less = refl
bits_set (suc (suc (suc (suc zero)))) less = refl
bits_set (suc (suc (suc (suc (suc zero))))) less = refl
bits_set (suc (suc (suc (suc (suc (suc zero)))))) less = refl
bits_set (suc (suc (suc (suc (suc (suc (suc zero))))))) less = refl
bits_set (suc (suc (suc (suc (suc (suc (suc (suc k)))))))) less = absurd (omega (arith, less))

module _ (fields : List Extra) (rest : ℕ) (whole : null_len (length fields) + rest ≡ body_len fields) where
  blank : List ℕ
  blank = replicate (null_len (length fields)) 255 ++ replicate rest 0

  front_long : length {A = ℕ} (replicate (null_len (length fields)) 255) ≡ null_len (length fields)
  front_long = length-replicate {A = ℕ} (null_len (length fields)) 255

  blank_null : (i : ℕ) → i < length fields → is_null_in blank i ≡ true
  unfolding is_null_in blank
  blank_null i less =
      let near : i / 8 < null_len (length fields) = null_inside fields i less in
      let byte : get_or (replicate (null_len (length fields)) 255 ++ replicate rest 0) (i / 8) 0 ≡ 255 =
      get_or_append_left (replicate (null_len (length fields)) 255) (replicate rest 0) 0 (i / 8) (omega (arith, near, front_long)) ∙ get_or-replicate (null_len (length fields)) (i / 8) 255 0 near in
      ap (λ (b : ℕ). eqb (bit_at b (i % 8)) 1) byte ∙ bits_set (i % 8) (omega arith)

  blank_bytes : (i : ℕ) → i < length fields → bytes_of fields blank i ≡ replicate (field_len (field_at fields i)) 0
  unfolding blank
  blank_bytes i less =
      let n : ℕ = sum_by field_len (take i fields) in
      let start : drop (place_of fields i) (replicate (null_len (length fields)) 255 ++ replicate rest 0) ≡ drop (sum_by field_len (take i fields)) (replicate rest 0) =
      ap (λ (k : ℕ). drop (k + sum_by field_len (take i fields)) (replicate (null_len (length fields)) 255 ++ replicate rest 0)) (sym front_long) ∙ drop-append-add (replicate (null_len (length fields)) 255) (replicate rest 0) (sum_by field_len (take i fields)) in
      let zeros : drop (sum_by field_len (take i fields)) (replicate rest 0) ≡ replicate (rest - sum_by field_len (take i fields)) 0 = drop-replicate (sum_by field_len (take i fields)) rest 0 in
      ap (take (field_len (field_at fields i))) (start ∙ zeros) ∙ take-replicate (field_len (field_at fields i)) (rest - sum_by field_len (take i fields)) 0 (omega (arith, field_inside fields i less, whole))

  blank_field : (i : ℕ) (e : Extra) → i < length fields → field_at fields i ≡ e → stored_in fields blank i ≡ zero_of e
  blank_field i (extra.Bytes count) less is = sym (stored_raw fields blank i count (bytes_of fields blank i) is refl) ∙ ap raw (blank_bytes i less ∙ ap (λ (e : Extra). replicate (field_len e) 0) is)
  blank_field i (extra.Slot k) less is = sym (stored_null fields blank i k is (blank_null i less))

  blank_stored : all_stored fields blank ≡ empty_of fields
  blank_stored =
      ext_get_or null (all_stored fields blank) (empty_of fields) (stored_many fields blank ∙ sym (length-map fields zero_of)) (λ i near.
      let less : i < length fields = omega (arith, near, stored_many fields blank) in
      stored_at fields blank i less ∙ (blank_field i (field_at fields i) less refl ∙ sym (get_or-map zero_of fields i (extra.Bytes 0) null less)))

  pub empty_stored : (body : List ℕ) → body ≡ replicate (null_len (length fields)) 255 ++ replicate rest 0 → all_stored fields body ≡ empty_of fields
  unfolding blank
  empty_stored body is = ap (all_stored fields) is ∙ blank_stored

-- a body of null bits is made longer by zeros
pub resized_stored : (fields : List Extra) (body front : List ℕ) (bytes len count : ℕ) → bytes ≡ body_len fields → len ≡ null_len (length fields) → count ≡ len → front ≡ replicate len 255 → body ≡ take bytes front ++ replicate (bytes - count) 0 → null_len (length fields) ≤ body_len fields → all_stored fields body ≡ empty_of fields
resized_stored fields body front bytes len count bytes_are len_is count_is front_is is near =
    let many : length front ≡ len = ap length front_is ∙ length-replicate {A = ℕ} len 255 in
    let all : take bytes front ≡ front = take_all bytes front (omega (arith, bytes_are, len_is, many, near)) in
    let front_at : front ≡ replicate (null_len (length fields)) 255 = front_is ∙ ap (λ (n : ℕ). replicate n 255) len_is in
    empty_stored fields (bytes - count) (omega (arith, bytes_are, len_is, count_is, near)) body (is ∙ ap (λ (l : List ℕ). l ++ replicate (bytes - count) 0) (all ∙ front_at))

-- ---- bytes of an accumulator written alone

module _ (fields : List Extra) (body from : List ℕ) (which count : ℕ) (less : which < length fields) (whole : length body ≡ body_len fields) (is_bytes : field_at fields which ≡ extra.Bytes count) (many : length from ≡ count) where
  long : length from ≡ field_len (field_at fields which)
  long = many ∙ sym (ap field_len is_bytes)

  over_inside : place_of fields which + length from ≤ length body
  over_inside = omega (arith, long, whole, field_inside fields which less)

  over : List ℕ
  over = written body (place_of fields which) from

  raw_other : (i : ℕ) → (i < which) ⊎ (which < i) → i < length fields → bytes_of fields over i ≡ bytes_of fields body i
  unfolding over
  raw_other i (inl below) near = part_before body (place_of fields which) from (place_of fields i) (field_len (field_at fields i)) (fields_apart fields i which below less) (omega (arith, over_inside))
  raw_other i (inr above) near = part_behind body (place_of fields which) from (place_of fields i) (field_len (field_at fields i)) (omega (arith, long, fields_apart fields which i above near)) over_inside

  raw_null : (i : ℕ) → i < length fields → is_null_in over i ≡ is_null_in body i
  unfolding is_null_in over
  raw_null i near = ap (λ (n : ℕ). eqb (bit_at n (i % 8)) 1) (byte_before body (place_of fields which) from (i / 8) (let bit : i / 8 < null_len (length fields) = null_inside fields i near in omega (arith, bit)) (omega (arith, over_inside)))

  raw_own : stored_in fields over which ≡ raw from
  unfolding over
  raw_own = sym (stored_raw fields (written body (place_of fields which) from) which count from is_bytes (sym (there body (place_of fields which) from (field_len (field_at fields which)) (sym long) (omega (arith, over_inside)))))

  raw_others : (i : ℕ) → (i < which) ⊎ (which < i) → i < length fields → stored_in fields over i ≡ stored_in fields body i
  unfolding stored_in
  raw_others i apart near =
      let b : bytes_of fields over i ≡ bytes_of fields body i = raw_other i apart near in
      let n : is_null_in over i ≡ is_null_in body i = raw_null i near in
      λ k. read_field (field_at fields i) (n k) (b k)

  pub raw_put : all_stored fields (written body (place_of fields which) from) ≡ set (all_stored fields body) which (raw from)
  unfolding over
  raw_put =
      let all : length (all_stored fields body) ≡ length fields = stored_many fields body in
      set_is (all_stored fields (written body (place_of fields which) from)) (all_stored fields body) which (raw from) (stored_many fields (written body (place_of fields which) from) ∙ sym all) (omega (arith, all, less)) (stored_at fields (written body (place_of fields which) from) which less ∙ raw_own) (λ i apart near.
      let near_field : i < length fields = omega (arith, all, near) in
      stored_at fields (written body (place_of fields which) from) i near_field ∙ (raw_others i apart near_field ∙ sym (stored_at fields body i near_field)))
