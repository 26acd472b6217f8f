-- A layout while its fields are added one after another.
use Rattle.std.proofs.Common.{◌≡◌, ℕ, ◌+◌, ◌<◌, ◌≤◌, List, [], ◌∷◌, ◌++◌, get_or, length, map, take, refl, ◌∙◌, arith, ap, subst, sym}
use Rattle.std.specs.List.{sum_by}
use Rattle.std.proofs.lemmas.List.{take_more, length-append, get_or-map, get_or_append_left, get_or-append-add, take_all, length-map}
use Rattle.std.proofs.lemmas.List.Sums.{sum_by-take-le, sum_by_push}
use Rattle.vx_value.specs.declared.value.Kind.{Kind}
use Rattle.vx_rows.specs.declared.fields.Extra.{Extra}
use Rattle.vx_rows.specs.declared.fields.Extra.TheVariants as extra
use Rattle.vx_rows.specs.Layout.{Shape, field_len, fields_of, null_len, end_of, row_len, shape_of}

-- the first so many fields stand
pub record HasFirst (shape : Shape) (fields : List Extra) (count : ℕ) : Type 0 where
  pub is : shape ≡ record { start = null_len (length fields); fields = take count fields }

-- there is room for one more
pub room_for : (shape : Shape) (fields : List Extra) (count len : ℕ) (next : Extra) → HasFirst shape fields count → count < length fields → get_or fields count (extra.Bytes 0) ≡ next → field_len next ≡ len → row_len fields ≤ 4096 → end_of shape + len ≤ 4088
room_for shape fields count len next has less is long fits =
    let more : take (count + 1) fields ≡ take count fields ++ get_or fields count (extra.Bytes 0) ∷ [] = take_more fields count (extra.Bytes 0) less in
    let bound : sum_by field_len (take (count + 1) fields) ≤ sum_by field_len fields = sum_by-take-le field_len fields (count + 1) in
    let pushed : sum_by field_len (take count fields ++ get_or fields count (extra.Bytes 0) ∷ []) ≡ sum_by field_len (take count fields) + field_len (get_or fields count (extra.Bytes 0)) = sum_by_push field_len (take count fields) (get_or fields count (extra.Bytes 0)) in
    let last : field_len (get_or fields count (extra.Bytes 0)) ≡ len = ap field_len is ∙ long in
    let whole : sum_by field_len (take (count + 1) fields) ≡ sum_by field_len (take count fields) + field_len (get_or fields count (extra.Bytes 0)) = ap (sum_by field_len) more ∙ pushed in
    let end : end_of shape ≡ null_len (length fields) + sum_by field_len (take count fields) = ap end_of has.is in
    omega (arith, bound, whole, last, end, fits)

-- one more field stands
pub one_more : (before after : Shape) (fields : List Extra) (count : ℕ) (next : Extra) → HasFirst before fields count → count < length fields → get_or fields count (extra.Bytes 0) ≡ next → after ≡ record { start = before.start; fields = before.fields ++ next ∷ [] } → HasFirst after fields (count + 1)
one_more before after fields count next has less is added =
    let start : before.start ≡ null_len (length fields) = ap (λ s. s.start) has.is in
    let front : before.fields ≡ take count fields = ap (λ s. s.fields) has.is in
    let more : take (count + 1) fields ≡ take count fields ++ get_or fields count (extra.Bytes 0) ∷ [] = take_more fields count (extra.Bytes 0) less in
    let fields : before.fields ++ next ∷ [] ≡ take (count + 1) fields = rw (more, is, front) refl in
    record { is = added ∙ (λ i. record { start = start i; fields = fields i }) }

pub field_of_kind : (kinds : List Kind) (extras : List Extra) (i : ℕ) (k : Kind) → i < length kinds → get_or (fields_of kinds extras) i (extra.Bytes 0) ≡ extra.Slot (get_or kinds i k)
field_of_kind kinds extras i k less =
    let long : i < length (map (λ k. extra.Slot k) kinds) = rw (length-map kinds (λ k. extra.Slot k)) less in
    get_or_append_left (map (λ k. extra.Slot k) kinds) extras (extra.Bytes 0) i long ∙ get_or-map (λ k. extra.Slot k) kinds i k (extra.Bytes 0) less

pub field_of_extra : (kinds : List Kind) (extras : List Extra) (i : ℕ) → get_or (fields_of kinds extras) (length kinds + i) (extra.Bytes 0) ≡ get_or extras i (extra.Bytes 0)
field_of_extra kinds extras i =
    let many : length (map (λ k. extra.Slot k) kinds) ≡ length kinds = length-map kinds (λ k. extra.Slot k) in
    ap (λ n. get_or (fields_of kinds extras) (n + i) (extra.Bytes 0)) (sym many) ∙ get_or-append-add (map (λ k. extra.Slot k) kinds) extras i (extra.Bytes 0)

pub how_many : (kinds : List Kind) (extras : List Extra) → length (fields_of kinds extras) ≡ length kinds + length extras
how_many kinds extras = length-append (map (λ k. extra.Slot k) kinds) extras ∙ ap (λ n. n + length extras) (length-map kinds (λ k. extra.Slot k))

pub first_none : (shape : Shape) (kinds : List Kind) (extras : List Extra) (n : ℕ) → shape ≡ record { start = n; fields = [] } → n ≡ null_len (length kinds + length extras) → HasFirst shape (fields_of kinds extras) 0
first_none shape kinds extras n is bits =
    let start : n ≡ null_len (length (fields_of kinds extras)) = bits ∙ sym (ap null_len (how_many kinds extras)) in
    record { is = is ∙ (λ i. record { start = start i; fields = [] }) }

pub at_count : (shape : Shape) (fields : List Extra) (a b : ℕ) → a ≡ b → HasFirst shape fields a → HasFirst shape fields b
at_count shape fields a b same has = subst (λ n. HasFirst shape fields n) same has

pub all_stand : (shape : Shape) (fields : List Extra) (count : ℕ) → HasFirst shape fields count → length fields ≤ count → shape ≡ shape_of fields
all_stand shape fields count has enough =
    let all : take count fields ≡ fields = take_all count fields enough in
    has.is ∙ (λ i. record { start = null_len (length fields); fields = all i })

-- few fields stand in a row
pub few_fields : (kinds : List Kind) (extras : List Extra) → row_len (fields_of kinds extras) ≤ 4096 → length kinds + length extras ≤ 65536
few_fields kinds extras fits = omega (arith, how_many kinds extras, fits)
