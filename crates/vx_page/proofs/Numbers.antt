-- Numbers of whole bytes and back.
use Rattle.std.proofs.Common.{◌≡◌, ℕ, ◌+◌, ◌*◌, ◌/◌, ◌%◌, ◌^◌, ◌<◌, List, [], ◌∷◌, ◌++◌, length, take, drop, refl, sym, ap, ap₂, ◌∙◌, arith, take-append-drop, length-take, length-drop, get_or, get_or-take, get_or-drop, inl, inr}
use Rattle.std.specs.Int.{Width, w16, w32, w64, w128, byte_len, from_be_bytes, to_be_bytes}
use Rattle.std.proofs.lemmas.Nat.{be_bytes_2, be_bytes_4, be_bytes_8, from_be_bytes-to_be_bytes_2, from_be_bytes-to_be_bytes_4, from_be_bytes-to_be_bytes_8}
use Rattle.std.proofs.lemmas.List.Elements.{All-get_or, All-from_get_or, All-take, All-drop}
use Rattle.vx_page.proofs.Turns.{IsByte, AreBytes}
use Rattle.std.proofs.lemmas.Bool.{cases_lt}
use Rattle.std.proofs.lemmas.List.{take_at, drop_at, get_or_past}
use native.Mathlib.Nat as nat

-- what stands at a place is a byte, also behind the end, where zeros are read
pub byte_at : (bytes : List ℕ) → AreBytes bytes → (i : ℕ) → get_or bytes i 0 < 256
byte_at bytes fits i = elim (cases_lt i (length bytes)) as (λ _. get_or bytes i 0 < 256) [
  | inl inside ↦ All-get_or IsByte bytes i 0 inside fits
  | inr past ↦ rw (get_or_past bytes i 0 past) (omega arith)
]

pub bytes_from : (bytes : List ℕ) → ((i : ℕ) → get_or bytes i 0 < 256) → AreBytes bytes
bytes_from bytes at = All-from_get_or IsByte bytes 0 (λ i inside. at i)

-- numbers below the limit and as many bytes as the width has name each other
pub record Reversible (w : Width) (limit : ℕ) : Type 0 where
  pub size : (n : ℕ) → length (to_be_bytes w n) ≡ byte_len w
  pub of_number : (n : ℕ) → n < limit → from_be_bytes w (to_be_bytes w n) ≡ n
  pub of_bytes : (bytes : List ℕ) → AreBytes bytes → length bytes ≡ byte_len w → (from_be_bytes w bytes < limit) × (to_be_bytes w (from_be_bytes w bytes) ≡ bytes)

pub reversible_16 : Reversible w16 (2 ^ 16)
reversible_16 = record {
  size = λ n. refl;
  of_number = from_be_bytes-to_be_bytes_2;
  of_bytes = λ bytes fits long. let at = byte_at bytes fits in (omega (arith, at 0, at 1), be_bytes_2 bytes (from_be_bytes w16 bytes) long at refl);
}

pub reversible_32 : Reversible w32 (2 ^ 32)
reversible_32 = record {
  size = λ n. refl;
  of_number = from_be_bytes-to_be_bytes_4;
  of_bytes = λ bytes fits long. let at = byte_at bytes fits in (omega (arith, at 0, at 1, at 2, at 3), be_bytes_4 bytes (from_be_bytes w32 bytes) long at refl);
}

pub reversible_64 : Reversible w64 (2 ^ 64)
reversible_64 = record {
  size = λ n. refl;
  of_number = from_be_bytes-to_be_bytes_8;
  of_bytes = λ bytes fits long. let at = byte_at bytes fits in (
    omega (arith, at 0, at 1, at 2, at 3, at 4, at 5, at 6, at 7),
    be_bytes_8 bytes (from_be_bytes w64 bytes) long at refl,
  );
}

-- ---- 16 bytes are two times eight

-- the number of 16 bytes, of which the first eight and the others make these
joined : (bytes : List ℕ) → from_be_bytes w128 bytes ≡ from_be_bytes w64 (take 8 bytes) * 2 ^ 64 + from_be_bytes w64 (drop 8 bytes)
joined bytes = omega (arith, get_or-take 8 bytes 0 0 (omega arith), get_or-take 8 bytes 1 0 (omega arith), get_or-take 8 bytes 2 0 (omega arith), get_or-take 8 bytes 3 0 (omega arith), get_or-take 8 bytes 4 0 (omega arith), get_or-take 8 bytes 5 0 (omega arith), get_or-take 8 bytes 6 0 (omega arith), get_or-take 8 bytes 7 0 (omega arith), get_or-drop 8 bytes 0 0, get_or-drop 8 bytes 1 0, get_or-drop 8 bytes 2 0, get_or-drop 8 bytes 3 0, get_or-drop 8 bytes 4 0, get_or-drop 8 bytes 5 0, get_or-drop 8 bytes 6 0, get_or-drop 8 bytes 7 0)

-- a byte of the high part
high_byte : (high low p : ℕ) → low < 2 ^ 64 → (high * 2 ^ 64 + low) / (2 ^ 64 * p) ≡ high / p
high_byte high low p lt =
    let part : (high * 2 ^ 64 + low) / 2 ^ 64 ≡ high = omega arith in
    sym (nat.div-div-eq-div-mul (high * 2 ^ 64 + low) (2 ^ 64) p) ∙ ap (λ (n : ℕ). n / p) part

-- a number of 16 bytes by its high part and its low part
halves : (high low : ℕ) → low < 2 ^ 64 → to_be_bytes w128 (high * 2 ^ 64 + low) ≡ to_be_bytes w64 high ++ to_be_bytes w64 low
halves high low p =
    let h7 : (high * 2 ^ 64 + low) / 1329227995784915872903807060280344576 % 256 ≡ high / 72057594037927936 % 256 = ap (λ (n : ℕ). n % 256) (high_byte high low 72057594037927936 p) in
    let h6 : (high * 2 ^ 64 + low) / 5192296858534827628530496329220096 % 256 ≡ high / 281474976710656 % 256 = ap (λ (n : ℕ). n % 256) (high_byte high low 281474976710656 p) in
    let h5 : (high * 2 ^ 64 + low) / 20282409603651670423947251286016 % 256 ≡ high / 1099511627776 % 256 = ap (λ (n : ℕ). n % 256) (high_byte high low 1099511627776 p) in
    let h4 : (high * 2 ^ 64 + low) / 79228162514264337593543950336 % 256 ≡ high / 4294967296 % 256 = ap (λ (n : ℕ). n % 256) (high_byte high low 4294967296 p) in
    let h3 : (high * 2 ^ 64 + low) / 309485009821345068724781056 % 256 ≡ high / 16777216 % 256 = ap (λ (n : ℕ). n % 256) (high_byte high low 16777216 p) in
    let h2 : (high * 2 ^ 64 + low) / 1208925819614629174706176 % 256 ≡ high / 65536 % 256 = ap (λ (n : ℕ). n % 256) (high_byte high low 65536 p) in
    let h1 : (high * 2 ^ 64 + low) / 4722366482869645213696 % 256 ≡ high / 256 % 256 = ap (λ (n : ℕ). n % 256) (high_byte high low 256 p) in
    let h0 : (high * 2 ^ 64 + low) / 18446744073709551616 % 256 ≡ high % 256 = ap (λ (n : ℕ). n % 256) (omega arith) in
    let l7 : (high * 2 ^ 64 + low) / 72057594037927936 % 256 ≡ low / 72057594037927936 % 256 = omega arith in
    let l6 : (high * 2 ^ 64 + low) / 281474976710656 % 256 ≡ low / 281474976710656 % 256 = omega arith in
    let l5 : (high * 2 ^ 64 + low) / 1099511627776 % 256 ≡ low / 1099511627776 % 256 = omega arith in
    let l4 : (high * 2 ^ 64 + low) / 4294967296 % 256 ≡ low / 4294967296 % 256 = omega arith in
    let l3 : (high * 2 ^ 64 + low) / 16777216 % 256 ≡ low / 16777216 % 256 = omega arith in
    let l2 : (high * 2 ^ 64 + low) / 65536 % 256 ≡ low / 65536 % 256 = omega arith in
    let l1 : (high * 2 ^ 64 + low) / 256 % 256 ≡ low / 256 % 256 = omega arith in
    let l0 : (high * 2 ^ 64 + low) % 256 ≡ low % 256 = omega arith in
    λ i. h7 i ∷ h6 i ∷ h5 i ∷ h4 i ∷ h3 i ∷ h2 i ∷ h1 i ∷ h0 i ∷ l7 i ∷ l6 i ∷ l5 i ∷ l4 i ∷ l3 i ∷ l2 i ∷ l1 i ∷ l0 i ∷ []

both128 : (bytes : List ℕ) → AreBytes bytes → length bytes ≡ 16 → (from_be_bytes w128 bytes < 2 ^ 128) × (to_be_bytes w128 (from_be_bytes w128 bytes) ≡ bytes)
both128 bytes fits long =
    let high = take 8 bytes in
    let low = drop 8 bytes in
    let front = reversible_64.of_bytes high (All-take IsByte 8 bytes fits) (omega (arith, length-take 8 bytes, long)) in
    let rest = reversible_64.of_bytes low (All-drop IsByte 8 bytes fits) (omega (arith, length-drop 8 bytes, long)) in (
      omega (arith, joined bytes, front.0, rest.0),
      ap (to_be_bytes w128) (joined bytes) ∙ halves (from_be_bytes w64 high) (from_be_bytes w64 low) rest.0 ∙ ap₂ (λ (a b : List ℕ). a ++ b) front.1 rest.1 ∙ take-append-drop 8 bytes,
    )

again128 : (n : ℕ) → n < 2 ^ 128 → from_be_bytes w128 (to_be_bytes w128 n) ≡ n
again128 n lt =
    let high = n / 2 ^ 64 in
    let low = n % 2 ^ 64 in
    let split : n ≡ high * 2 ^ 64 + low = omega arith in
    let below : low < 2 ^ 64 = omega arith in
    let above : high < 2 ^ 64 = omega arith in
    let parts : to_be_bytes w128 n ≡ to_be_bytes w64 high ++ to_be_bytes w64 low = ap (to_be_bytes w128) split ∙ halves high low below in
    let front : take 8 (to_be_bytes w64 high ++ to_be_bytes w64 low) ≡ to_be_bytes w64 high = take_at (to_be_bytes w64 high) (to_be_bytes w64 low) 8 refl in
    let rest : drop 8 (to_be_bytes w64 high ++ to_be_bytes w64 low) ≡ to_be_bytes w64 low = drop_at (to_be_bytes w64 high) (to_be_bytes w64 low) 8 refl in
    ap (from_be_bytes w128) parts ∙ joined (to_be_bytes w64 high ++ to_be_bytes w64 low)
    ∙ ap₂ (λ (a b : ℕ). a * 2 ^ 64 + b) (ap (from_be_bytes w64) front ∙ reversible_64.of_number high above) (ap (from_be_bytes w64) rest ∙ reversible_64.of_number low below)
    ∙ sym split

pub reversible_128 : Reversible w128 (2 ^ 128)
reversible_128 = record { size = λ n. refl; of_number = again128; of_bytes = both128 }
