-- What a frame's bytes spell after a write.
use Rattle.std.proofs.Common.{◌≡◌, ℕ, ◌+◌, ◌-◌, ◌/◌, ◌%◌, ◌^◌, ◌<◌, ◌≤◌, true, cond, eqb, Option, Some, None, List, [], ◌∷◌, ◌++◌, length, take, drop, refl, sym, ap, ◌∙◌, arith, w32}
use Rattle.std.specs.Int.{to_le_bytes, from_le_bytes}
use Rattle.std.proofs.lemmas.Nat.{from_le_bytes-to_le_bytes_4}
use Rattle.std.proofs.lemmas.List.{append-nil, drop_all, length-drop, get_or-set_same, set-set, set_at}
use Rattle.std.proofs.lemmas.Option.{cond_some}
use Rattle.vx_raw.specs.Region.{written}
use Rattle.vx_records.specs.Record.{Record, fresh}
use Rattle.vx_records.specs.Frame.{FramesModel, frame_at, with_bytes, with_frame, and_frame, AddsFrame}
use Rattle.vx_records.specs.Head.{link_in, flags_in, head_of, number_of, record_of}
use Rattle.vx_records.proofs.Overwriting.{part_before, drop_written}

-- the record of a link, flags and a body
reading : ℕ → ℕ → List ℕ → Option Record
reading link flags body = cond (eqb (flags % 2) 1) (Some (record { next = number_of link; matched = eqb (flags / 2 % 2) 1; body = body })) None

record_is : (bytes : List ℕ) → record_of bytes ≡ reading (link_in bytes) (flags_in bytes) (drop 8 bytes)
unfolding record_of reading
record_is bytes = refl

-- what is known of bytes that spell a record
pub record Spells (bytes : List ℕ) (r : Record) : Type 0 where
  pub live : eqb (flags_in bytes % 2) 1 ≡ true
  pub is : r ≡ record { next = number_of (link_in bytes); matched = eqb (flags_in bytes / 2 % 2) 1; body = drop 8 bytes }

pub spells : (bytes : List ℕ) (r : Record) → record_of bytes ≡ Some r → Spells bytes r
unfolding record_of
spells bytes r is =
    let parts : (eqb (flags_in bytes % 2) 1 ≡ true) × (◌≡◌ {A = Record} (record { next = number_of (link_in bytes); matched = eqb (flags_in bytes / 2 % 2) 1; body = drop 8 bytes }) r) = cond_some (eqb (flags_in bytes % 2) 1) (record { next = number_of (link_in bytes); matched = eqb (flags_in bytes / 2 % 2) 1; body = drop 8 bytes }) r is in
    record { live = parts.0; is = sym parts.1 }

reads_with : (bytes : List ℕ) (link flags : ℕ) (body : List ℕ) → link_in bytes ≡ link → flags_in bytes ≡ flags → drop 8 bytes ≡ body → record_of bytes ≡ reading link flags body
reads_with bytes link flags body one two three = record_is bytes ∙ rw one (rw two (rw three refl))

-- the first 8 bytes, and the rest
record Whole (bytes : List ℕ) : Type 0 where
  a : ℕ
  b : ℕ
  c : ℕ
  d : ℕ
  e : ℕ
  f : ℕ
  g : ℕ
  h : ℕ
  body : List ℕ
  is : bytes ≡ a ∷ b ∷ c ∷ d ∷ e ∷ f ∷ g ∷ h ∷ body

whole : (bytes : List ℕ) → 8 ≤ length bytes → Whole bytes
whole [] long = absurd (omega (arith, long))
whole (a ∷ []) long = absurd (omega (arith, long))
whole (a ∷ b ∷ []) long = absurd (omega (arith, long))
whole (a ∷ b ∷ c ∷ []) long = absurd (omega (arith, long))
whole (a ∷ b ∷ c ∷ d ∷ []) long = absurd (omega (arith, long))
whole (a ∷ b ∷ c ∷ d ∷ e ∷ []) long = absurd (omega (arith, long))
whole (a ∷ b ∷ c ∷ d ∷ e ∷ f ∷ []) long = absurd (omega (arith, long))
whole (a ∷ b ∷ c ∷ d ∷ e ∷ f ∷ g ∷ []) long = absurd (omega (arith, long))
whole (a ∷ b ∷ c ∷ d ∷ e ∷ f ∷ g ∷ h ∷ body) long = record { a = a; b = b; c = c; d = d; e = e; f = f; g = g; h = h; body = body; is = refl }

-- a link over that of a frame
module _ (bytes : List ℕ) (link : ℕ) (long : 8 ≤ length bytes) (fits : link < 2 ^ 32) where
  linked_link : link_in (written bytes 0 (to_le_bytes w32 link)) ≡ link
  unfolding link_in
  linked_link =
      let w : Whole bytes = whole bytes long in
      ap (λ (x : List ℕ). from_le_bytes w32 (take 4 (written x 0 (to_le_bytes w32 link)))) w.is ∙ from_le_bytes-to_le_bytes_4 link fits

  linked_flags : flags_in (written bytes 0 (to_le_bytes w32 link)) ≡ flags_in bytes
  unfolding flags_in
  linked_flags =
      let w : Whole bytes = whole bytes long in
      ap (λ (x : List ℕ). from_le_bytes w32 (take 4 (drop 4 (written x 0 (to_le_bytes w32 link))))) w.is ∙ ap (λ (x : List ℕ). from_le_bytes w32 (take 4 (drop 4 x))) (sym w.is)

  linked_body : drop 8 (written bytes 0 (to_le_bytes w32 link)) ≡ drop 8 bytes
  linked_body =
      let w : Whole bytes = whole bytes long in
      ap (λ (x : List ℕ). drop 8 (written x 0 (to_le_bytes w32 link))) w.is ∙ ap (λ (x : List ℕ). drop 8 x) (sym w.is)

  pub next_set : (r : Record) → record_of bytes ≡ Some r → record_of (written bytes 0 (to_le_bytes w32 link)) ≡ Some (record { next = number_of link; matched = r.matched; body = r.body })
  unfolding reading
  next_set r is =
      let s : Spells bytes r = spells bytes r is in
      reads_with (written bytes 0 (to_le_bytes w32 link)) link (flags_in bytes) (drop 8 bytes) linked_link linked_flags linked_body
      ∙ rw s.live (ap (λ (x : Record). let o : Option Record = Some (record { next = number_of link; matched = x.matched; body = x.body }) in o) (sym s.is))

-- flags over those of a frame
module _ (bytes : List ℕ) (flags : ℕ) (long : 8 ≤ length bytes) (fits : flags < 2 ^ 32) where
  flagged_link : link_in (written bytes 4 (to_le_bytes w32 flags)) ≡ link_in bytes
  unfolding link_in
  flagged_link =
      let w : Whole bytes = whole bytes long in
      ap (λ (x : List ℕ). from_le_bytes w32 (take 4 (written x 4 (to_le_bytes w32 flags)))) w.is ∙ ap (λ (x : List ℕ). from_le_bytes w32 (take 4 x)) (sym w.is)

  flagged_flags : flags_in (written bytes 4 (to_le_bytes w32 flags)) ≡ flags
  unfolding flags_in
  flagged_flags =
      let w : Whole bytes = whole bytes long in
      ap (λ (x : List ℕ). from_le_bytes w32 (take 4 (drop 4 (written x 4 (to_le_bytes w32 flags))))) w.is ∙ from_le_bytes-to_le_bytes_4 flags fits

  flagged_body : drop 8 (written bytes 4 (to_le_bytes w32 flags)) ≡ drop 8 bytes
  flagged_body =
      let w : Whole bytes = whole bytes long in
      ap (λ (x : List ℕ). drop 8 (written x 4 (to_le_bytes w32 flags))) w.is ∙ ap (λ (x : List ℕ). drop 8 x) (sym w.is)

pub matched_set : (bytes : List ℕ) (r : Record) → 8 ≤ length bytes → record_of bytes ≡ Some r → record_of (written bytes 4 (to_le_bytes w32 3)) ≡ Some (record { next = r.next; matched = true; body = r.body })
unfolding reading
matched_set bytes r long is =
    let s : Spells bytes r = spells bytes r is in
    let small : 3 < 2 ^ 32 = omega arith in
    reads_with (written bytes 4 (to_le_bytes w32 3)) (link_in bytes) 3 (drop 8 bytes) (flagged_link bytes 3 long small) (flagged_flags bytes 3 long small) (flagged_body bytes 3 long small)
    ∙ ap (λ (x : Record). let o : Option Record = Some (record { next = x.next; matched = true; body = x.body }) in o) (sym s.is)

-- bytes over those of a body
pub body_set : (bytes : List ℕ) (at : ℕ) (from : List ℕ) (r : Record) → 8 + at + length from ≤ length bytes → record_of bytes ≡ Some r → record_of (written bytes (8 + at) from) ≡ Some (record { next = r.next; matched = r.matched; body = written r.body at from })
unfolding reading link_in flags_in
body_set bytes at from r inside is =
    let s : Spells bytes r = spells bytes r is in
    let one : link_in (written bytes (8 + at) from) ≡ link_in bytes = ap (from_le_bytes w32) (part_before bytes from (8 + at) 0 4 (omega arith) inside) in
    let two : flags_in (written bytes (8 + at) from) ≡ flags_in bytes = ap (from_le_bytes w32) (part_before bytes from (8 + at) 4 4 (omega arith) inside) in
    reads_with (written bytes (8 + at) from) (link_in bytes) (flags_in bytes) (written (drop 8 bytes) at from) one two (drop_written bytes from 8 at (omega (arith, inside)))
    ∙ rw s.live (ap (λ (x : Record). let o : Option Record = Some (record { next = x.next; matched = x.matched; body = written x.body at from }) in o) (sym s.is))

-- a head over that of a frame
pub free_link : (bytes : List ℕ) (link flags : ℕ) → 8 ≤ length bytes → link < 2 ^ 32 → link_in (written bytes 0 (head_of link flags)) ≡ link
unfolding link_in head_of
free_link bytes link flags long fits =
    let w : Whole bytes = whole bytes long in
    ap (λ (x : List ℕ). from_le_bytes w32 (take 4 (written x 0 (to_le_bytes w32 link ++ to_le_bytes w32 flags)))) w.is ∙ from_le_bytes-to_le_bytes_4 link fits

free_flags : (bytes : List ℕ) (link flags : ℕ) → 8 ≤ length bytes → flags < 2 ^ 32 → flags_in (written bytes 0 (head_of link flags)) ≡ flags
unfolding flags_in head_of
free_flags bytes link flags long fits =
    let w : Whole bytes = whole bytes long in
    ap (λ (x : List ℕ). from_le_bytes w32 (take 4 (drop 4 (written x 0 (to_le_bytes w32 link ++ to_le_bytes w32 flags))))) w.is ∙ from_le_bytes-to_le_bytes_4 flags fits

pub freed : (bytes : List ℕ) (link : ℕ) → 8 ≤ length bytes → record_of (written bytes 0 (head_of link 0)) ≡ None
unfolding record_of
freed bytes link long = rw (free_flags bytes link 0 long (omega arith)) refl

pub length-head_of : (link flags : ℕ) → length (head_of link flags) ≡ 8
unfolding head_of
length-head_of link flags = refl

-- a new record
pub new_record : (body : List ℕ) → record_of (head_of 0 1 ++ body) ≡ Some (fresh body)
unfolding record_of link_in flags_in head_of
new_record body = refl

-- a head and a body over a whole frame
filled : (bytes body : List ℕ) → length bytes ≡ 8 + length body → written (written bytes 0 (head_of 0 1)) 8 body ≡ head_of 0 1 ++ body
unfolding head_of
filled bytes body long =
    let short : length (drop 8 bytes) ≡ length bytes - 8 = length-drop 8 bytes in
    let none : drop (8 + length body) (head_of 0 1 ++ drop 8 bytes) ≡ [] = drop_all (8 + length body) (head_of 0 1 ++ drop 8 bytes) (omega (arith, long, short)) in
    ap (λ (x : List ℕ). head_of 0 1 ++ (body ++ x)) none ∙ ap (λ (x : List ℕ). head_of 0 1 ++ x) (append-nil body)

pub fills : (m half after : FramesModel) (number : ℕ) (head body : List ℕ) → number < length m.frames → length (frame_at m number) ≡ m.size → 8 + length body ≡ m.size → head ≡ head_of 0 1 → half ≡ with_bytes m number 0 head → after ≡ with_bytes half number 8 body → after ≡ with_frame m number (head_of 0 1 ++ body)
fills m half after number head body there long all head_is one two =
    let first : half ≡ with_bytes m number 0 (head_of 0 1) = one ∙ ap (with_bytes m number 0) head_is in
    let there_now : frame_at (with_bytes m number 0 (head_of 0 1)) number ≡ written (frame_at m number) 0 (head_of 0 1) = get_or-set_same m.frames number (written (frame_at m number) 0 (head_of 0 1)) [] there in
    let bytes : written (frame_at (with_bytes m number 0 (head_of 0 1)) number) 8 body ≡ head_of 0 1 ++ body = ap (λ (x : List ℕ). written x 8 body) there_now ∙ filled (frame_at m number) body (omega (arith, long, all)) in
    two
    ∙ (ap (λ (h : FramesModel). with_bytes h number 8 body) first
    ∙ (ap (with_frame (with_bytes m number 0 (head_of 0 1)) number) bytes
    ∙ ap (λ (l : List (List ℕ)). let n : FramesModel = record { size = m.size; frames = l } in n) (set-set m.frames number (written (frame_at m number) 0 (head_of 0 1)) (head_of 0 1 ++ body))))

pub pushes : (m added after : FramesModel) (number : ℕ) (bytes : List ℕ) → AddsFrame m added → number ≡ length m.frames → after ≡ with_frame added number bytes → after ≡ and_frame m bytes
pushes m added after number bytes adds last wrote =
    wrote
    ∙ (ap (λ (h : FramesModel). with_frame h number bytes) adds.is
    ∙ ap (λ (l : List (List ℕ)). let n : FramesModel = record { size = m.size; frames = l } in n) (set_at m.frames adds.bytes [] bytes number (sym last)))
