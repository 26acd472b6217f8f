-- The bytes of slots: what is written is read back.
use Rattle.std.proofs.Common.{◌≡◌, ℕ, ℤ, ◌-◌, ◌+◌, ◌^◌, ◌<◌, ◌≤◌, nat_le, Bool, true, false, List, [], ◌∷◌, ◌++◌, length, get_or, take, drop, replicate, refl, sym, ap, ◌∙◌, arith, w32, w64, FitsSigned}
use Rattle.std.specs.Int.{to_le_bytes, from_le_bytes, cast_signed, cast_unsigned}
use Rattle.std.proofs.lemmas.Int.{to_z-of_z}
use Rattle.std.proofs.Math.Facts.{Fits-of_z}
use Rattle.std.proofs.lemmas.List.{length-append, length-replicate, drop-replicate}
use Rattle.std.proofs.lemmas.Nat.{from_le_bytes-to_le_bytes_4, from_le_bytes-to_le_bytes_8}
use Rattle.std.proofs.Math.Seq.{take-append_seam, drop-append-add}
use Rattle.vx_raw.specs.Region.{written}
use Rattle.vx_raw.specs.declared.place.Place.{Place}
use Rattle.vx_value.specs.declared.value.Kind.{Kind}
use Rattle.vx_value.specs.declared.value.Kind.TheVariants as kind
use Rattle.vx_rows.specs.declared.fields.Extra.{Extra}
use Rattle.vx_rows.specs.declared.fields.Extra.TheVariants as extra
use Rattle.vx_rows.specs.Slot.{bool_in, front_in, int_in, len_in, place_in_slot, spelled_bool, spelled_int, spelled_long, spelled_short}
use Rattle.vx_rows.specs.Layout.{field_len}
use Rattle.vx_rows.specs.Body.{Stored, null, bool, int, short, long, raw, read_field, read_slot, spelled, is_null, FitsField, IsLong}

-- a list of four is its items
pub four : (xs rest : List ℕ) → length xs ≡ 4 → get_or xs 0 0 ∷ get_or xs 1 0 ∷ get_or xs 2 0 ∷ get_or xs 3 0 ∷ rest ≡ xs ++ rest
four [] rest many = absurd (omega (arith, many))
four (a ∷ []) rest many = absurd (omega (arith, many))
four (a ∷ b ∷ []) rest many = absurd (omega (arith, many))
four (a ∷ b ∷ c ∷ []) rest many = absurd (omega (arith, many))
four (a ∷ b ∷ c ∷ d ∷ []) rest many = refl
four (a ∷ b ∷ c ∷ d ∷ e ∷ more) rest many = absurd (omega (arith, many))

bool_back : (b : Bool) → bool_in (spelled_bool b) ≡ b
unfolding bool_in spelled_bool
bool_back true = refl
bool_back false = refl

int_back : (n : ℤ) → FitsSigned w64 n → int_in (spelled_int n) ≡ n
unfolding int_in spelled_int
int_back n fits = ap (cast_signed w64) (from_le_bytes-to_le_bytes_8 (cast_unsigned w64 n) (Fits-of_z {w = w64} fits).fits) ∙ to_z-of_z w64 n fits

short_len : (text : List ℕ) → length text ≤ 12 → len_in (spelled_short text) ≡ length text
unfolding len_in spelled_short
short_len text few = from_le_bytes-to_le_bytes_4 (length text) (omega arith)

short_bytes : (text : List ℕ) → take (length text) (drop 4 (spelled_short text)) ≡ text
unfolding spelled_short
short_bytes text = take-append_seam text (replicate (12 - length text) 0)

short_back : (text : List ℕ) → length text ≤ 12 → read_slot kind.Text (spelled_short text) ≡ short text
short_back text few =
    let len : len_in (spelled_short text) ≡ length text = short_len text few in
    let test : nat_le (length text) 12 ≡ true = grind arith in
    rw (len, test) (ap short (short_bytes text))

-- a slot of zeros with a length and a text written into it
pub short_written : (text : List ℕ) → length text ≤ 12 → written (written (replicate 16 0) 0 (to_le_bytes w32 (length text))) 4 text ≡ spelled_short text
unfolding spelled_short
short_written text few =
    let rest : drop (4 + length text) (to_le_bytes w32 (length text) ++ replicate 12 0) ≡ drop (length text) (replicate 12 0) = drop-append-add (to_le_bytes w32 (length text)) (replicate 12 0) (length text) in
    let zeros : drop (length text) (replicate 12 0) ≡ replicate (12 - length text) 0 = drop-replicate (length text) 12 0 in
    ap (λ (r : List ℕ). to_le_bytes w32 (length text) ++ text ++ r) (rest ∙ zeros)

-- of a longer text
long_len : (len : ℕ) (front : List ℕ) (place : Place) → len < 2 ^ 32 → len_in (spelled_long len front place) ≡ len
unfolding len_in spelled_long
long_len len front place fits = from_le_bytes-to_le_bytes_4 len fits

long_parts : (len a b c d : ℕ) (place : Place) → place.chunk < 2 ^ 32 → place.at < 2 ^ 32 → place_in_slot (spelled_long len (a ∷ b ∷ c ∷ d ∷ []) place) ≡ place
unfolding place_in_slot spelled_long
long_parts len a b c d place chunk near =
    let one : from_le_bytes w32 (to_le_bytes w32 place.chunk) ≡ place.chunk = from_le_bytes-to_le_bytes_4 place.chunk chunk in
    let two : from_le_bytes w32 (to_le_bytes w32 place.at) ≡ place.at = from_le_bytes-to_le_bytes_4 place.at near in
    λ i. record { chunk = one i; at = two i }

long_front : (len a b c d : ℕ) (place : Place) → front_in (spelled_long len (a ∷ b ∷ c ∷ d ∷ []) place) ≡ a ∷ b ∷ c ∷ d ∷ []
unfolding spelled_long
long_front len a b c d place = refl

long_four : (len a b c d : ℕ) (place : Place) → IsLong len (a ∷ b ∷ c ∷ d ∷ []) place → read_slot kind.Text (spelled_long len (a ∷ b ∷ c ∷ d ∷ []) place) ≡ long len (a ∷ b ∷ c ∷ d ∷ []) place
long_four len a b c d place is =
    let count : len_in (spelled_long len (a ∷ b ∷ c ∷ d ∷ []) place) ≡ len = long_len len (a ∷ b ∷ c ∷ d ∷ []) place is.most in
    let test : nat_le len 12 ≡ false = grind arith in
    let front : front_in (spelled_long len (a ∷ b ∷ c ∷ d ∷ []) place) ≡ a ∷ b ∷ c ∷ d ∷ [] = long_front len a b c d place in
    let at : place_in_slot (spelled_long len (a ∷ b ∷ c ∷ d ∷ []) place) ≡ place = long_parts len a b c d place is.chunk is.near in
    rw (count, test, front, at) refl

long_back : (len : ℕ) (front : List ℕ) (place : Place) → IsLong len front place → read_slot kind.Text (spelled_long len front place) ≡ long len front place
long_back len [] place is = absurd (omega (arith, is.four))
long_back len (a ∷ []) place is = absurd (omega (arith, is.four))
long_back len (a ∷ b ∷ []) place is = absurd (omega (arith, is.four))
long_back len (a ∷ b ∷ c ∷ []) place is = absurd (omega (arith, is.four))
long_back len (a ∷ b ∷ c ∷ d ∷ []) place is = long_four len a b c d place is
long_back len (a ∷ b ∷ c ∷ d ∷ e ∷ more) place is = absurd (omega (arith, is.four))

-- ---- how many bytes are written

short_many : (text : List ℕ) → length text ≤ 12 → length (spelled_short text) ≡ 16
unfolding spelled_short
short_many text few = omega (arith, length-append text (replicate (12 - length text) 0), length-replicate {A = ℕ} (12 - length text) 0)

long_many : (len : ℕ) (front : List ℕ) (place : Place) → length front ≡ 4 → length (spelled_long len front place) ≡ 16
unfolding spelled_long
long_many len front place many = omega (arith, many, length-append (front ++ to_le_bytes w32 place.chunk) (to_le_bytes w32 place.at), length-append front (to_le_bytes w32 place.chunk))

bool_many : (b : Bool) → length (spelled_bool b) ≡ 8
unfolding spelled_bool
bool_many b = refl

int_many : (n : ℤ) → length (spelled_int n) ≡ 8
unfolding spelled_int
int_many n = refl

-- as many as the field has, where it isn't null
pub many_spelled : (e : Extra) (s : Stored) → FitsField e s → is_null s ≡ false → length (spelled s) ≡ field_len e
many_spelled (extra.Bytes count) null fits some = absurd fits.kind_is
many_spelled (extra.Bytes count) (bool b) fits some = absurd fits.kind_is
many_spelled (extra.Bytes count) (int n) fits some = absurd fits.kind_is
many_spelled (extra.Bytes count) (short text) fits some = absurd fits.kind_is
many_spelled (extra.Bytes count) (long len front place) fits some = absurd fits.kind_is
many_spelled (extra.Bytes count) (raw bytes) fits some = fits.kind_is
many_spelled (extra.Slot k) null fits some = absurd (cc)
many_spelled (extra.Slot k) (bool b) fits some = bool_many b ∙ sym (ap (λ (k : Kind). field_len (extra.Slot k)) fits.kind_is)
many_spelled (extra.Slot k) (int n) fits some = int_many n ∙ sym (ap (λ (k : Kind). field_len (extra.Slot k)) fits.kind_is)
many_spelled (extra.Slot k) (short text) fits some = short_many text fits.value ∙ sym (ap (λ (k : Kind). field_len (extra.Slot k)) fits.kind_is)
many_spelled (extra.Slot k) (long len front place) fits some = long_many len front place fits.value.four ∙ sym (ap (λ (k : Kind). field_len (extra.Slot k)) fits.kind_is)
many_spelled (extra.Slot k) (raw bytes) fits some = absurd fits.kind_is

-- at most as many as the field has
pub few_spelled : (e : Extra) (s : Stored) → FitsField e s → length (spelled s) ≤ field_len e
few_spelled e null fits = omega arith
few_spelled e (bool b) fits = omega (arith, many_spelled e (bool b) fits refl)
few_spelled e (int n) fits = omega (arith, many_spelled e (int n) fits refl)
few_spelled e (short text) fits = omega (arith, many_spelled e (short text) fits refl)
few_spelled e (long len front place) fits = omega (arith, many_spelled e (long len front place) fits refl)
few_spelled e (raw bytes) fits = omega (arith, many_spelled e (raw bytes) fits refl)

-- ---- read back

slot_back : (k : Kind) (s : Stored) (want : Kind) (bytes : List ℕ) → k ≡ want → read_slot want bytes ≡ s → read_slot k bytes ≡ s
slot_back k s want bytes same is = ap (λ (k : Kind). read_slot k bytes) same ∙ is

-- a field stores what was written into it
pub read_back : (e : Extra) (s : Stored) (bit : Bool) (bytes : List ℕ) → FitsField e s → bit ≡ is_null s → (is_null s ≡ false → bytes ≡ spelled s) → read_field e bit bytes ≡ s
read_back (extra.Bytes count) null bit bytes fits same is = absurd fits.kind_is
read_back (extra.Bytes count) (bool b) bit bytes fits same is = absurd fits.kind_is
read_back (extra.Bytes count) (int n) bit bytes fits same is = absurd fits.kind_is
read_back (extra.Bytes count) (short text) bit bytes fits same is = absurd fits.kind_is
read_back (extra.Bytes count) (long len front place) bit bytes fits same is = absurd fits.kind_is
read_back (extra.Bytes count) (raw from) bit bytes fits same is = ap raw (is refl)
read_back (extra.Slot k) null bit bytes fits same is = rw same refl
read_back (extra.Slot k) (bool b) bit bytes fits same is = rw (same, is refl) (slot_back k (bool b) kind.Bool (spelled_bool b) fits.kind_is (ap bool (bool_back b)))
read_back (extra.Slot k) (int n) bit bytes fits same is = rw (same, is refl) (slot_back k (int n) kind.Int (spelled_int n) fits.kind_is (ap int (int_back n fits.value)))
read_back (extra.Slot k) (short text) bit bytes fits same is = rw (same, is refl) (slot_back k (short text) kind.Text (spelled_short text) fits.kind_is (short_back text fits.value))
read_back (extra.Slot k) (long len front place) bit bytes fits same is = rw (same, is refl) (slot_back k (long len front place) kind.Text (spelled_long len front place) fits.kind_is (long_back len front place fits.value))
read_back (extra.Slot k) (raw from) bit bytes fits same is = absurd fits.kind_is
