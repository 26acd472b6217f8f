-- Key bytes tell values apart.
use Rattle.std.proofs.Common.{◌≡◌, ℕ, suc, ◌<◌, ◌≤◌, ◌^◌, ℤ, pos, negsuc, true, false, List, [], ◌∷◌, ◌++◌, length, refl, sym, ap, ap₂, ◌∙◌, arith, w64, SFits, of_z, to_z, to_z-of_z, append_assoc}
use Rattle.std.specs.Int.{w16, bytes_high_first, from_be_bytes}
use Rattle.std.proofs.lemmas.Nat.{from_be_bytes-to_be_bytes_2, from_be_bytes-to_be_bytes_8}
use Rattle.vx_value.specs.declared.value.Value.{Value}
use Rattle.vx_value.specs.declared.value.Value.TheVariants as value
use Rattle.vx_value.specs.Value.{IsLawful}
use Rattle.vx_value.specs.Row.{Row, value_at}
use Rattle.vx_value.specs.KeyBytes.{value_bytes, key_bytes, key_values, AreLawful}

-- lists that begin with as many elements, and are equal, begin and end alike
same_parts : (a b r s : List ℕ) → length a ≡ length b → a ++ r ≡ b ++ s → (a ≡ b) × (r ≡ s)
same_parts [] [] r s len h = (refl, h)
same_parts [] (y ∷ b) r s len h = absurd (omega arith)
same_parts (x ∷ a) [] r s len h = absurd (omega arith)
same_parts (x ∷ a) (y ∷ b) r s len h =
    let e : x ≡ y = cc in
    let rest : a ++ r ≡ b ++ s = cc in
    let both = same_parts a b r s (omega arith) rest in
    (ap₂ ◌∷◌ e both.0, both.1)

-- the bits of an int give it back
same_int : (m n : ℤ) → SFits w64 m → SFits w64 n → bytes_high_first 8 (of_z w64 m) ≡ bytes_high_first 8 (of_z w64 n) → m ≡ n
same_int m n p q h =
    let bits : of_z w64 m ≡ of_z w64 n =
    sym (from_be_bytes-to_be_bytes_8 (of_z w64 m) (bits_fit m p)) ∙ ap (from_be_bytes w64) h ∙ from_be_bytes-to_be_bytes_8 (of_z w64 n) (bits_fit n q) in
    sym (to_z-of_z p) ∙ ap (to_z w64) bits ∙ to_z-of_z q
  where
    bits_fit : (z : ℤ) → SFits w64 z → of_z w64 z < 2 ^ 64
    bits_fit (pos k) f = omega (arith, f.sfits)
    bits_fit (negsuc k) f = omega (arith, f.sfits)

same_text : (s t r q : List ℕ) → length s ≤ 65535 → length t ≤ 65535
    → (bytes_high_first 2 (length s) ++ s) ++ r ≡ (bytes_high_first 2 (length t) ++ t) ++ q → (s ≡ t) × (r ≡ q)
same_text s t r q short small h =
    let parts = same_parts (bytes_high_first 2 (length s)) (bytes_high_first 2 (length t)) (s ++ r) (t ++ q) refl
    (sym (append_assoc (bytes_high_first 2 (length s)) s r) ∙ h ∙ append_assoc (bytes_high_first 2 (length t)) t q) in
    let len : length s ≡ length t =
    sym (from_be_bytes-to_be_bytes_2 (length s) (omega arith)) ∙ ap (from_be_bytes w16) parts.0 ∙ from_be_bytes-to_be_bytes_2 (length t) (omega arith) in
    same_parts s t r q len parts.1

-- no value's bytes begin those of another
pub value_bytes-front : (v w : Value) (r s : List ℕ) → IsLawful v → IsLawful w → value_bytes v ++ r ≡ value_bytes w ++ s → (v ≡ w) × (r ≡ s)
value_bytes-front value.Null value.Null r s p q h = (refl, cc)
value_bytes-front value.Null (value.Bool c) r s p q h = absurd (cc)
value_bytes-front value.Null (value.Int n) r s p q h = absurd (cc)
value_bytes-front value.Null (value.Text t) r s p q h = absurd (cc)
value_bytes-front (value.Bool b) value.Null r s p q h = absurd (cc)
value_bytes-front (value.Bool false) (value.Bool false) r s p q h = (refl, cc)
value_bytes-front (value.Bool false) (value.Bool true) r s p q h = absurd (cc)
value_bytes-front (value.Bool true) (value.Bool false) r s p q h = absurd (cc)
value_bytes-front (value.Bool true) (value.Bool true) r s p q h = (refl, cc)
value_bytes-front (value.Bool b) (value.Int n) r s p q h = absurd (cc)
value_bytes-front (value.Bool b) (value.Text t) r s p q h = absurd (cc)
value_bytes-front (value.Int m) value.Null r s p q h = absurd (cc)
value_bytes-front (value.Int m) (value.Bool c) r s p q h = absurd (cc)
value_bytes-front (value.Int m) (value.Int n) r s p q h =
    let rest : bytes_high_first 8 (of_z w64 m) ++ r ≡ bytes_high_first 8 (of_z w64 n) ++ s = cc in
    let parts = same_parts (bytes_high_first 8 (of_z w64 m)) (bytes_high_first 8 (of_z w64 n)) r s refl rest in
    (ap value.Int (same_int m n p q parts.0), parts.1)
value_bytes-front (value.Int m) (value.Text t) r s p q h = absurd (cc)
value_bytes-front (value.Text t) value.Null r s p q h = absurd (cc)
value_bytes-front (value.Text t) (value.Bool c) r s p q h = absurd (cc)
value_bytes-front (value.Text t) (value.Int n) r s p q h = absurd (cc)
value_bytes-front (value.Text t) (value.Text u) r s p q h =
    let rest : (bytes_high_first 2 (length t) ++ t) ++ r ≡ (bytes_high_first 2 (length u) ++ u) ++ s = cc in
    let parts = same_text t u r s p.short q.short rest in
    (ap value.Text parts.0, parts.1)

-- values with equal bytes are one value
pub value_bytes-same : (v w : Value) → IsLawful v → IsLawful w → value_bytes v ≡ value_bytes w → v ≡ w
value_bytes-same v w p q h = (value_bytes-front v w [] [] p q (ap (λ bytes. bytes ++ []) h)).0

-- rows with equal key bytes have equal values in the columns
pub key_bytes-same : (columns : List ℕ) (a b : Row) → AreLawful columns a → AreLawful columns b → key_bytes columns a ≡ key_bytes columns b
    → key_values columns a ≡ key_values columns b
key_bytes-same [] a b p q h = refl
key_bytes-same (column ∷ columns) a b p q h =
    let parts = value_bytes-front (value_at a column) (value_at b column) (key_bytes columns a) (key_bytes columns b)
    (p 0 0 (omega arith)) (q 0 0 (omega arith)) h in
    ap₂ ◌∷◌ parts.0 (key_bytes-same columns a b (λ k d within. p (suc k) d (omega arith)) (λ k d within. q (suc k) d (omega arith)) parts.1)
