-- A field that is read is the field that was written, and what was written is read again.
use Rattle.std.proofs.Common.{◌≡◌, ℕ, suc, ◌^◌, ◌<◌, ◌≤◌, ℤ, Bool, true, false, cond, eqb, ltb, List, [], ◌∷◌, ◌++◌, length, take, drop, Result, Ok, Err, refl, sym, ap, subst, ◌∙◌, append_assoc, arith, to_z-of_z, SFits, of_z, to_z}
use Rattle.std.specs.Int.{Width, w16, w64, w128, byte_len, from_be_bytes, to_be_bytes, bytes_high_first}
use Rattle.std.specs.Str.{is_utf8}
use Rattle.std.proofs.lemmas.Bool.{ltb-false, le-ltb, eqb-true}
use Rattle.std.proofs.lemmas.Int.{of_z-to_z}
use mir.Facts.{sfits_to_z, Fits-of_z}
use mir.Val.{bits}
use Rattle.std.proofs.lemmas.List.{take_at, drop_at, take-append-drop, length-append, length-take}
use Rattle.std.proofs.lemmas.Str.{IsUtf8-from_is_utf8, is_utf8-from_IsUtf8}
use Rattle.vx_value.specs.declared.value.Kind.{Kind}
use Rattle.vx_value.specs.declared.value.Kind.TheVariants as kind
use Rattle.vx_value.specs.declared.value.Value.{Value}
use Rattle.vx_value.specs.declared.value.Value.TheVariants as value
use Rattle.vx_value.specs.Value.{IsLawful, IsText}
use Rattle.vx_value.specs.KeyBytes.{value_bytes}
use Rattle.vx_page.specs.declared.cell.Slot.{Slot}
use Rattle.vx_page.specs.declared.cell.Slot.TheVariants as slot
use Rattle.vx_page.specs.declared.cell.Cell.{Cell}
use Rattle.vx_page.specs.declared.cell.Cell.TheVariants as cell
use Rattle.vx_page.specs.Page.{cell_bytes, IsOfKind, FitsSlot, IsLawfulCell}
use Rattle.vx_page.specs.Reading.{Read, ◌>>=◌, place, part_at, number_at, bool_at, text_at, content_at, tag_of, value_at, wide_at, cell_at}
use Rattle.std.proofs.lemmas.List.Elements.{All-tail, All-drop, All-take}
use Rattle.vx_page.proofs.Turns.{IsByte, AreBytes, step_ok, got_is, got, TakesOff, both_taken}
use Rattle.vx_page.proofs.Numbers.{Reversible, reversible_16, reversible_64, reversible_128}

-- tests that did not fail
pub guard_ok : {A : Type 0} (b : Bool) (at : ℕ) (x y : Result A ℕ) (z : A) → x ≡ Err at → cond b x y ≡ Ok z → (b ≡ false) × (y ≡ Ok z)
guard_ok true at x y z fails e = absurd cc
guard_ok false at x y z fails e = (refl, e)

pub unless_ok : {A : Type 0} (b : Bool) (at : ℕ) (x y : Result A ℕ) (z : A) → y ≡ Err at → cond b x y ≡ Ok z → (b ≡ true) × (x ≡ Ok z)
unless_ok true at x y z fails e = (refl, e)
unless_ok false at x y z fails e = absurd cc

-- ---- parts and numbers

pub part_takes : (whole count : ℕ) (bytes part rest : List ℕ) → AreBytes bytes → part_at whole count bytes ≡ Ok (part, rest) → TakesOff bytes part rest × (length part ≡ count) × AreBytes part
part_takes whole count bytes part rest fits e =
    let g = guard_ok (ltb (length bytes) count) whole (Err whole) (Ok (take count bytes, drop count bytes)) (part, rest) refl e in
    let long : count ≤ length bytes = ltb-false _ _ g.0 in
    let made : List ℕ × List ℕ = (take count bytes, drop count bytes) in
    subst (λ (y : List ℕ × List ℕ). TakesOff bytes y.0 y.1 × (length y.0 ≡ count) × AreBytes y.0) (got_is made (part, rest) g.1)
    (record { parts = sym (take-append-drop count bytes); left_fits = All-drop IsByte count bytes fits }, omega (arith, length-take count bytes), All-take IsByte count bytes fits)

pub part_again : (whole : ℕ) (part rest : List ℕ) → part_at whole (length part) (part ++ rest) ≡ Ok (part, rest)
part_again whole part rest =
    let long : ltb (length (part ++ rest)) (length part) ≡ false = le-ltb _ _ (omega (arith, length-append part rest)) in
    rw (long, take_at part rest (length part) refl, drop_at part rest (length part) refl) refl

pub number_takes : (w : Width) (limit : ℕ) (wide : Reversible w limit) (whole : ℕ) (bytes : List ℕ) (n : ℕ) (rest : List ℕ) → AreBytes bytes → number_at w whole bytes ≡ Ok (n, rest) → TakesOff bytes (to_be_bytes w n) rest × (n < limit)
number_takes w limit wide whole bytes n rest fits e =
    let a = step_ok (part_at whole (byte_len w) bytes) (λ part. Ok (from_be_bytes w part.0, part.1)) (n, rest) e in
    let t = part_takes whole (byte_len w) bytes a.0.0 a.0.1 fits a.1 in
    let read = wide.of_bytes a.0.0 t.2 t.1 in
    let made : ℕ × List ℕ = (from_be_bytes w a.0.0, a.0.1) in
    subst (λ (y : ℕ × List ℕ). TakesOff bytes (to_be_bytes w y.0) y.1 × (y.0 < limit)) (got_is made (n, rest) a.2)
    (subst (λ (text : List ℕ). TakesOff bytes text a.0.1) (sym read.1) t.0, read.0)

pub number_again : (w : Width) (limit : ℕ) (wide : Reversible w limit) (whole n : ℕ) (rest : List ℕ) → n < limit → number_at w whole (to_be_bytes w n ++ rest) ≡ Ok (n, rest)
number_again w limit wide whole n rest lt =
    let part : part_at whole (byte_len w) (to_be_bytes w n ++ rest) ≡ Ok (to_be_bytes w n, rest) = ap (λ (k : ℕ). part_at whole k (to_be_bytes w n ++ rest)) (sym (wide.size n)) ∙ part_again whole (to_be_bytes w n) rest in
    let made : ℕ → Result (ℕ × List ℕ) ℕ = λ k. Ok (k, rest) in
    ap (λ (r : Read (List ℕ)). r >>= λ part. Ok (from_be_bytes w part.0, part.1)) part ∙ ap made (wide.of_number n lt)

-- ---- bools

pub bool_takes : (whole at : ℕ) (bytes : List ℕ) (b : Bool) (rest : List ℕ) → AreBytes bytes → bool_at whole at bytes ≡ Ok (b, rest) → TakesOff bytes (cond b 1 0 ∷ []) rest
unfolding bool_at
bool_takes whole at [] b rest fits e = absurd cc
bool_takes whole at (d ∷ bytes) b rest fits e =
    by (eqb d 0) (eqb d 1) refl refl e
  where
    by : (p q : Bool) → eqb d 0 ≡ p → eqb d 1 ≡ q → cond p (got {A = Bool × List ℕ} (false, bytes)) (cond q (got {A = Bool × List ℕ} (true, bytes)) (Err at)) ≡ got {A = Bool × List ℕ} (b, rest) → TakesOff (d ∷ bytes) (cond b 1 0 ∷ []) rest
    by true q is0 is1 e =
        subst (λ (y : Bool × List ℕ). TakesOff (d ∷ bytes) (cond y.0 1 0 ∷ []) y.1) (got_is (false, bytes) (b, rest) e) (record { parts = ap (λ (k : ℕ). k ∷ bytes) (eqb-true _ _ is0); left_fits = All-tail IsByte d bytes fits })
    by false true is0 is1 e =
        subst (λ (y : Bool × List ℕ). TakesOff (d ∷ bytes) (cond y.0 1 0 ∷ []) y.1) (got_is (true, bytes) (b, rest) e) (record { parts = ap (λ (k : ℕ). k ∷ bytes) (eqb-true _ _ is1); left_fits = All-tail IsByte d bytes fits })
    by false false is0 is1 e = absurd cc

pub bool_again : (whole at : ℕ) (b : Bool) (rest : List ℕ) → bool_at whole at ((cond b 1 0 ∷ []) ++ rest) ≡ Ok (b, rest)
unfolding bool_at
bool_again whole at true rest = refl
bool_again whole at false rest = refl

-- ---- texts

abbrev text_bytes : List ℕ → List ℕ
text_bytes text = bytes_high_first 2 (length text) ++ text

pub text_takes : (whole at : ℕ) (bytes text rest : List ℕ) → AreBytes bytes → text_at whole at bytes ≡ Ok (text, rest) → TakesOff bytes (text_bytes text) rest × IsText text
unfolding text_at
text_takes whole at bytes text rest fits e =
    let a = step_ok (number_at w16 whole bytes) (λ count. part_at whole count.0 count.1 >>= λ t. cond (is_utf8 t.0) (Ok t) (Err at)) (text, rest) e in
    let b = step_ok (part_at whole a.0.0 a.0.1) (λ t. cond (is_utf8 t.0) (Ok t) (Err at)) (text, rest) a.2 in
    let g = unless_ok (is_utf8 b.0.0) at (Ok b.0) (Err at) (text, rest) refl b.2 in
    let first = number_takes w16 (2 ^ 16) reversible_16 whole bytes a.0.0 a.0.1 fits a.1 in
    let second = part_takes whole a.0.0 a.0.1 b.0.0 b.0.1 first.0.left_fits b.1 in
    let both = both_taken bytes (to_be_bytes w16 a.0.0) a.0.1 b.0.0 b.0.1 first.0 second.0 in
    let sized : TakesOff bytes (to_be_bytes w16 (length b.0.0) ++ b.0.0) b.0.1 = subst (λ (k : ℕ). TakesOff bytes (to_be_bytes w16 k ++ b.0.0) b.0.1) (sym second.1) both in
    subst (λ (y : List ℕ × List ℕ). TakesOff bytes (text_bytes y.0) y.1 × IsText y.0) (got_is b.0 (text, rest) g.1)
    (sized, record { utf8 = IsUtf8-from_is_utf8 b.0.0 g.0; short = omega (arith, second.1, first.1) })

pub text_again : (whole at : ℕ) (text rest : List ℕ) → IsText text → text_at whole at (text_bytes text ++ rest) ≡ Ok (text, rest)
unfolding text_at
text_again whole at text rest lawful =
    let regrouped : (bytes_high_first 2 (length text) ++ text) ++ rest ≡ to_be_bytes w16 (length text) ++ (text ++ rest) = append_assoc (to_be_bytes w16 (length text)) text rest in
    let short : length text < 2 ^ 16 = omega (arith, lawful.short) in
    ap (λ (bytes : List ℕ). number_at w16 whole bytes >>= λ count. part_at whole count.0 count.1 >>= λ t. cond (is_utf8 t.0) (Ok t) (Err at)) regrouped
    ∙ rw (number_again w16 (2 ^ 16) reversible_16 whole (length text) (text ++ rest) short, part_again whole text rest, is_utf8-from_IsUtf8 text lawful.utf8) refl

-- ---- values

of_z_fits : (w : Width) (z : ℤ) → SFits w z → of_z w z < 2 ^ bits w
of_z_fits w z fits = (Fits-of_z {w = w} {z = z} fits).fits

tag_taken : (tag : ℕ) (bytes text rest : List ℕ) → TakesOff bytes text rest → TakesOff (tag ∷ bytes) (tag ∷ text) rest
tag_taken tag bytes text rest t = record { parts = ap (λ (all : List ℕ). tag ∷ all) t.parts; left_fits = t.left_fits }

-- what a value that is read is
abbrev Reads : Kind → List ℕ → Value × List ℕ → Type 0
Reads kind bytes y = TakesOff bytes (value_bytes y.0) y.1 × IsLawful y.0 × IsOfKind kind y.0

int_takes : (whole : ℕ) (bytes : List ℕ) (n : ℕ) (rest : List ℕ) → AreBytes bytes → number_at w64 whole bytes ≡ Ok (n, rest) → Reads kind.Int (2 ∷ bytes) (value.Int (to_z w64 n), rest)
int_takes whole bytes n rest fits e =
    let t = number_takes w64 (2 ^ 64) reversible_64 whole bytes n rest fits e in
    let bits : of_z w64 (to_z w64 n) ≡ n = of_z-to_z w64 n t.1 in
    (tag_taken 2 bytes (bytes_high_first 8 (of_z w64 (to_z w64 n))) rest (subst (λ (k : ℕ). TakesOff bytes (bytes_high_first 8 k) rest) (sym bits) t.0), sfits_to_z {w = w64} record { fits = t.1 }, refl)

content_takes : (kind : Kind) (whole at : ℕ) (bytes : List ℕ) (y : Value × List ℕ) → AreBytes bytes → content_at kind whole at bytes ≡ Ok y → Reads kind (tag_of kind ∷ bytes) y
unfolding content_at
content_takes kind.Bool whole at bytes y fits e =
    let a = step_ok (bool_at whole at bytes) (λ b. Ok (value.Bool b.0, b.1)) y e in
    let made : Value × List ℕ = (value.Bool a.0.0, a.0.1) in
    subst (Reads kind.Bool (1 ∷ bytes)) (got_is made y a.2) (tag_taken 1 bytes (cond a.0.0 1 0 ∷ []) a.0.1 (bool_takes whole at bytes a.0.0 a.0.1 fits a.1), tt, refl)
content_takes kind.Int whole at bytes y fits e =
    let a = step_ok (number_at w64 whole bytes) (λ n. Ok (value.Int (to_z w64 n.0), n.1)) y e in
    let made : Value × List ℕ = (value.Int (to_z w64 a.0.0), a.0.1) in
    subst (Reads kind.Int (2 ∷ bytes)) (got_is made y a.2) (int_takes whole bytes a.0.0 a.0.1 fits a.1)
content_takes kind.Text whole at bytes y fits e =
    let a = step_ok (text_at whole at bytes) (λ text. Ok (value.Text text.0, text.1)) y e in
    let made : Value × List ℕ = (value.Text a.0.0, a.0.1) in
    let t = text_takes whole at bytes a.0.0 a.0.1 fits a.1 in
    subst (Reads kind.Text (3 ∷ bytes)) (got_is made y a.2) (tag_taken 3 bytes (bytes_high_first 2 (length a.0.0) ++ a.0.0) a.0.1 t.0, t.1, refl)

value_takes : (kind : Kind) (whole : ℕ) (bytes : List ℕ) (y : Value × List ℕ) → AreBytes bytes → value_at kind whole bytes ≡ Ok y → Reads kind bytes y
unfolding value_at
value_takes kind whole [] y fits e = absurd cc
value_takes kind whole (tag ∷ bytes) y fits e =
    by (eqb tag 0) (eqb tag (tag_of kind)) refl refl e
  where
    by : (p q : Bool) → eqb tag 0 ≡ p → eqb tag (tag_of kind) ≡ q → cond p (got (value.Null, bytes)) (cond q (content_at kind whole (place whole (tag ∷ bytes)) bytes) (Err (place whole (tag ∷ bytes)))) ≡ Ok y → Reads kind (tag ∷ bytes) y
    by true q is_null is_tag e =
        let made : Value × List ℕ = (value.Null, bytes) in
        subst (Reads kind (tag ∷ bytes)) (got_is made y e) (record { parts = ap (λ (k : ℕ). k ∷ bytes) (eqb-true _ _ is_null); left_fits = All-tail IsByte tag bytes fits }, tt, tt)
    by false true is_null is_tag e =
        subst (λ (t : ℕ). Reads kind (t ∷ bytes) y) (sym (eqb-true _ _ is_tag)) (content_takes kind whole (place whole (tag ∷ bytes)) bytes y (All-tail IsByte tag bytes fits) e)
    by false false is_null is_tag e = absurd cc

int_again : (whole : ℕ) (n : ℤ) (rest : List ℕ) → SFits w64 n → content_at kind.Int whole (place whole (2 ∷ bytes_high_first 8 (of_z w64 n) ++ rest)) (bytes_high_first 8 (of_z w64 n) ++ rest) ≡ Ok (value.Int n, rest)
unfolding content_at
int_again whole n rest fits =
    let made : ℤ → Result (Value × List ℕ) ℕ = λ z. Ok (value.Int z, rest) in
    ap (λ (r : Read ℕ). r >>= λ n. Ok (value.Int (to_z w64 n.0), n.1)) (number_again w64 (2 ^ 64) reversible_64 whole (of_z w64 n) rest (of_z_fits w64 n fits)) ∙ ap made (to_z-of_z fits)

value_again : (kind : Kind) (whole : ℕ) (v : Value) (rest : List ℕ) → IsLawful v → IsOfKind kind v → value_at kind whole (value_bytes v ++ rest) ≡ Ok (v, rest)
unfolding value_at content_at
value_again kind whole value.Null rest lawful is = refl
value_again kind.Bool whole (value.Bool b) rest lawful is =
    ap (λ (r : Read Bool). r >>= λ b. Ok (value.Bool b.0, b.1)) (bool_again whole (place whole (1 ∷ cond b 1 0 ∷ rest)) b rest)
value_again kind.Int whole (value.Bool b) rest lawful is = absurd cc
value_again kind.Text whole (value.Bool b) rest lawful is = absurd cc
value_again kind.Bool whole (value.Int n) rest lawful is = absurd cc
value_again kind.Int whole (value.Int n) rest lawful is = int_again whole n rest lawful
value_again kind.Text whole (value.Int n) rest lawful is = absurd cc
value_again kind.Bool whole (value.Text t) rest lawful is = absurd cc
value_again kind.Int whole (value.Text t) rest lawful is = absurd cc
value_again kind.Text whole (value.Text t) rest lawful is =
    ap (λ (r : Read (List ℕ)). r >>= λ text. Ok (value.Text text.0, text.1)) (text_again whole (place whole (3 ∷ text_bytes t ++ rest)) t rest lawful)

-- ---- cells

-- what a cell that is read is
abbrev pub IsCellOf : Slot → Cell → Type 0
IsCellOf slot c = FitsSlot slot c × IsLawfulCell c

wide_takes : (whole : ℕ) (bytes : List ℕ) (y : ℤ × List ℕ) → AreBytes bytes → wide_at whole bytes ≡ Ok y → TakesOff bytes (cell_bytes (cell.Wide y.0)) y.1 × SFits w128 y.0
unfolding wide_at
wide_takes whole [] y fits e = absurd cc
wide_takes whole (b ∷ bytes) y fits e =
    let g = unless_ok (eqb b 4) (place whole (b ∷ bytes)) (number_at w128 whole bytes >>= λ n. Ok (to_z w128 n.0, n.1)) (Err (place whole (b ∷ bytes))) y refl e in
    let tag : b ≡ 4 = eqb-true _ _ g.0 in
    let a = step_ok (number_at w128 whole bytes) (λ n. Ok (to_z w128 n.0, n.1)) y g.1 in
    let t = number_takes w128 (2 ^ 128) reversible_128 whole bytes a.0.0 a.0.1 (All-tail IsByte b bytes fits) a.1 in
    let bits : of_z w128 (to_z w128 a.0.0) ≡ a.0.0 = of_z-to_z w128 a.0.0 t.1 in
    let made : ℤ × List ℕ = (to_z w128 a.0.0, a.0.1) in
    let read : TakesOff (4 ∷ bytes) (cell_bytes (cell.Wide (to_z w128 a.0.0))) a.0.1 =
    tag_taken 4 bytes (bytes_high_first 16 (of_z w128 (to_z w128 a.0.0))) a.0.1 (subst (λ (k : ℕ). TakesOff bytes (bytes_high_first 16 k) a.0.1) (sym bits) t.0) in
    subst (λ (y : ℤ × List ℕ). TakesOff (b ∷ bytes) (cell_bytes (cell.Wide y.0)) y.1 × SFits w128 y.0) (got_is made y a.2)
    (subst (λ (first : ℕ). TakesOff (first ∷ bytes) (cell_bytes (cell.Wide (to_z w128 a.0.0))) a.0.1) (sym tag) read, sfits_to_z {w = w128} record { fits = t.1 })

wide_again : (whole : ℕ) (n : ℤ) (rest : List ℕ) → SFits w128 n → wide_at whole (cell_bytes (cell.Wide n) ++ rest) ≡ Ok (n, rest)
unfolding wide_at
wide_again whole n rest fits =
    let made : ℤ → Result (ℤ × List ℕ) ℕ = λ z. Ok (z, rest) in
    ap (λ (r : Read ℕ). r >>= λ n. Ok (to_z w128 n.0, n.1)) (number_again w128 (2 ^ 128) reversible_128 whole (of_z w128 n) rest (of_z_fits w128 n fits)) ∙ ap made (to_z-of_z fits)

pub cell_takes : (slot : Slot) (whole : ℕ) (bytes : List ℕ) (y : Cell × List ℕ) → AreBytes bytes → cell_at slot whole bytes ≡ Ok y → TakesOff bytes (cell_bytes y.0) y.1 × IsCellOf slot y.0
unfolding cell_at
cell_takes slot.Flag whole bytes y fits e =
    let a = step_ok (bool_at whole (place whole bytes) bytes) (λ b. Ok (cell.Flag b.0, b.1)) y e in
    let made : Cell × List ℕ = (cell.Flag a.0.0, a.0.1) in
    subst (λ (y : Cell × List ℕ). TakesOff bytes (cell_bytes y.0) y.1 × IsCellOf slot.Flag y.0) (got_is made y a.2) (bool_takes whole (place whole bytes) bytes a.0.0 a.0.1 fits a.1, (tt, tt))
cell_takes (slot.Value kind) whole bytes y fits e =
    let a = step_ok (value_at kind whole bytes) (λ v. Ok (cell.Value v.0, v.1)) y e in
    let made : Cell × List ℕ = (cell.Value a.0.0, a.0.1) in
    let t = value_takes kind whole bytes a.0 fits a.1 in
    subst (λ (y : Cell × List ℕ). TakesOff bytes (cell_bytes y.0) y.1 × IsCellOf (slot.Value kind) y.0) (got_is made y a.2) (t.0, (t.2, t.1))
cell_takes slot.Wide whole bytes y fits e =
    let a = step_ok (wide_at whole bytes) (λ n. Ok (cell.Wide n.0, n.1)) y e in
    let made : Cell × List ℕ = (cell.Wide a.0.0, a.0.1) in
    let t = wide_takes whole bytes a.0 fits a.1 in
    subst (λ (y : Cell × List ℕ). TakesOff bytes (cell_bytes y.0) y.1 × IsCellOf slot.Wide y.0) (got_is made y a.2) (t.0, (tt, t.1))

pub cell_again : (slot : Slot) (whole : ℕ) (c : Cell) (rest : List ℕ) → IsCellOf slot c → cell_at slot whole (cell_bytes c ++ rest) ≡ Ok (c, rest)
unfolding cell_at
cell_again slot.Flag whole (cell.Flag b) rest is = ap (λ (r : Read Bool). r >>= λ b. Ok (cell.Flag b.0, b.1)) (bool_again whole (place whole (cond b 1 0 ∷ rest)) b rest)
cell_again slot.Flag whole (cell.Value v) rest is = absurd is.0
cell_again slot.Flag whole (cell.Wide n) rest is = absurd is.0
cell_again (slot.Value kind) whole (cell.Flag b) rest is = absurd is.0
cell_again (slot.Value kind) whole (cell.Value v) rest is = ap (λ (r : Read Value). r >>= λ v. Ok (cell.Value v.0, v.1)) (value_again kind whole v rest is.1 is.0)
cell_again (slot.Value kind) whole (cell.Wide n) rest is = absurd is.0
cell_again slot.Wide whole (cell.Flag b) rest is = absurd is.0
cell_again slot.Wide whole (cell.Value v) rest is = absurd is.0
cell_again slot.Wide whole (cell.Wide n) rest is = ap (λ (r : Read ℤ). r >>= λ n. Ok (cell.Wide n.0, n.1)) (wide_again whole n rest is.1)
