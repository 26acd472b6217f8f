-- A buffer that grows keeps what its places stand for.
use Rattle.std.proofs.Common.{◌≡◌, ◌∙◌, ℕ, ◌+◌, ◌≤◌, ◌<◌, ◌-◌, List, [], ◌∷◌, ◌++◌, map, length, take, drop, All, refl, ap, ap₂, arith, slice_range}
use Rattle.std.proofs.Math.Seq.{drop-append_seam, take-length}
use Rattle.vx_value.specs.Value.{IsText}
use Rattle.std.proofs.lemmas.List.{drop-append-le, take-append-le, length-drop, length-append, map_push, append_assoc}
use Rattle.std.proofs.lemmas.Str.{IsUtf8-append}
use Rattle.std.proofs.lemmas.List.Elements.{All-head, All-tail, All-weaker, All-map, All-push}
use Rattle.std.specs.Prelude.{◌||◌}
use Rattle.std.specs.List.{list_any}
use Rattle.vx_vector.specs.Marks.{is_fault}
use Rattle.vx_vector.specs.Lane.{TextRow, text_row, settled_row}
use Rattle.vx_vector.specs.declared.texts.Place.{Place}
use Rattle.vx_vector.specs.Place.{row_of, place_from, IsPlaced, settled_place}

-- a text that lies in a buffer is the same in a longer one
same_text : (bytes more : List ℕ) (p : Place) → IsPlaced bytes p → slice_range (bytes ++ more) p.start p.end ≡ slice_range bytes p.start p.end
same_text bytes more p placed =
    let rest : drop p.start (bytes ++ more) ≡ drop p.start bytes ++ more = drop-append-le p.start bytes more (omega (arith, placed.up, placed.within)) in
    let long : p.end - p.start ≤ length (drop p.start bytes) = omega (arith, placed.within, length-drop p.start bytes) in
    ap (take (p.end - p.start)) rest ∙ take-append-le (p.end - p.start) (drop p.start bytes) more long

same_row : (bytes more : List ℕ) (p : Place) → IsPlaced bytes p → row_of (bytes ++ more) p ≡ row_of bytes p
same_row bytes more p placed = ap (text_row p.mark) (same_text bytes more p placed)

-- the rows before stay
pub lanes_kept : (bytes more : List ℕ) (places : List Place) → All (IsPlaced bytes) places → map (row_of (bytes ++ more)) places ≡ map (row_of bytes) places
lanes_kept bytes more [] placed = refl
lanes_kept bytes more (p ∷ places) placed =
    ap₂ ◌∷◌ (same_row bytes more p (All-head (IsPlaced bytes) p places placed)) (lanes_kept bytes more places (All-tail (IsPlaced bytes) p places placed))

placed_longer : (bytes more : List ℕ) (p : Place) → IsPlaced bytes p → IsPlaced (bytes ++ more) p
placed_longer bytes more p placed = record {
  up = placed.up;
  within = omega (arith, length-append bytes more, placed.within);
  text = rw (same_text bytes more p placed) placed.text;
}

places_kept : (bytes more : List ℕ) (places : List Place) → All (IsPlaced bytes) places → All (IsPlaced (bytes ++ more)) places
places_kept bytes more = All-weaker _ _ (placed_longer bytes more)

-- bytes that were put behind a buffer are the text at their place
text_behind : (bytes more : List ℕ) → slice_range (bytes ++ more) (length bytes) (length bytes + length more) ≡ more
text_behind bytes more =
    let long : (length bytes + length more) - length bytes ≡ length more = omega arith in
    rw (long, drop-append_seam bytes more) (take-length more)

row_behind : (bytes more : List ℕ) (mark : ℕ) → row_of (bytes ++ more) (place_from (length bytes) (length more) mark) ≡ text_row mark more
row_behind bytes more mark = ap (text_row mark) (text_behind bytes more)

placed_behind : (bytes more : List ℕ) (mark : ℕ) → IsText more → IsPlaced (bytes ++ more) (place_from (length bytes) (length more) mark)
placed_behind bytes more mark lawful = record {
  up = omega arith;
  within = omega (arith, length-append bytes more);
  text = rw (text_behind bytes more) lawful;
}

-- one more row, whose text was put behind the buffer
pub row_more : (bytes more longer : List ℕ) (places : List Place) (place : Place) (mark : ℕ) → All (IsPlaced bytes) places → longer ≡ bytes ++ more → place ≡ place_from (length bytes) (length more) mark
    → map (row_of longer) (places ++ place ∷ []) ≡ map (row_of bytes) places ++ text_row mark more ∷ []
row_more bytes more longer places place mark placed longer_is place_is =
    rw (longer_is, place_is, map_push, lanes_kept bytes more places placed, row_behind bytes more mark) refl

pub placed_more : (bytes more longer : List ℕ) (places : List Place) (place : Place) (mark : ℕ) → All (IsPlaced bytes) places → IsText more → longer ≡ bytes ++ more → place ≡ place_from (length bytes) (length more) mark
    → All (IsPlaced longer) (places ++ place ∷ [])
placed_more bytes more longer places place mark placed lawful longer_is place_is =
    rw (longer_is, place_is)
    (All-push (IsPlaced (bytes ++ more)) places _ (places_kept bytes more places placed) (placed_behind bytes more mark lawful))

-- two pieces that were put behind a buffer, one after the other
pub both_behind : (bytes a b once twice : List ℕ) → once ≡ bytes ++ a → twice ≡ once ++ b → twice ≡ bytes ++ (a ++ b)
both_behind bytes a b once twice first second = second ∙ ap (λ l. l ++ b) first ∙ append_assoc bytes a b

pub joined_is_text : (a b : List ℕ) → IsText a → IsText b → length a + length b ≤ 65535 → IsText (a ++ b)
joined_is_text a b of_a of_b short = record {
  utf8 = IsUtf8-append a b of_a.utf8 of_b.utf8;
  short = omega (arith, length-append a b);
}

-- settled marks change no text and no place
pub settled_rows : (bytes : List ℕ) (places : List Place) → map (row_of bytes) (map settled_place places) ≡ map settled_row (map (row_of bytes) places)
settled_rows bytes [] = refl
settled_rows bytes (p ∷ places) = ap (λ l. settled_row (row_of bytes p) ∷ l) (settled_rows bytes places)

settled_placed : (bytes : List ℕ) (p : Place) → IsPlaced bytes p → IsPlaced bytes (settled_place p)
settled_placed bytes p placed = record { up = placed.up; within = placed.within; text = placed.text }

pub settled_all_placed : (bytes : List ℕ) (places : List Place) → All (IsPlaced bytes) places → All (IsPlaced bytes) (map settled_place places)
settled_all_placed bytes places placed =
    All-map (IsPlaced bytes) settled_place places (λ (k : ℕ) (d : Place) (h : k < length places). settled_placed bytes _ (placed k d h))

-- a test of the rows' marks needs their places alone
pub any_placed : (bytes : List ℕ) (places : List Place) → list_any (λ (r : TextRow). is_fault r.mark) (map (row_of bytes) places) ≡ list_any (λ (p : Place). is_fault p.mark) places
any_placed bytes [] = refl
any_placed bytes (p ∷ places) = ap (λ b. is_fault p.mark || b) (any_placed bytes places)
