-- What a write and a new chunk do to the frames of a region.
use Rattle.std.proofs.Common.{inl, inr, ◌≡◌, ◌≢◌, ◌⊎◌, ℕ, ◌+◌, ◌-◌, ◌*◌, ◌/◌, ◌%◌, ◌^◌, ◌<◌, ◌≤◌, List, [], length, get_or, set, take, drop, sym, ap, ◌∙◌, subst, arith}
use Rattle.std.specs.Int.{div_ceil}
use Rattle.std.proofs.lemmas.Bool.{cases_eq, cases_lt}
use Rattle.std.proofs.lemmas.List.{ext_get_or, get_or-set_same, get_or-set_other, length-set, length-drop, length-take-le, drop-take, take-take, drop-drop}
use Rattle.std.proofs.lemmas.List.FromFn.{length-map-range_with_len, get_or-map-range_with_len}
use Rattle.std.proofs.lemmas.List.Sums.{sum_by-set}
use Rattle.vx_raw.specs.Region.{RegionModel, chunk_at, bytes_held, written, after_write, IsInside}
use Rattle.vx_raw.specs.declared.place.Place.{Place}
use Rattle.vx_records.specs.Frame.{FramesModel, frame_at, per_chunk, place_of, frame_in, frames_of, seen_in, AreFrames, with_bytes}
use Rattle.vx_records.proofs.Counting.{per_some, frame_fits, chunk_there, apart, other_place}
use Rattle.vx_records.proofs.Overwriting.{length-written, part_before, part_behind, part_of}

pub length-frames_of : (size : ℕ) (region : RegionModel) (count : ℕ) → length (frames_of size region count) ≡ count
unfolding frames_of
length-frames_of size region count = length-map-range_with_len (frame_in size region) 0 count

pub frames_at : (size : ℕ) (region : RegionModel) (count number : ℕ) → number < count → get_or (frames_of size region count) number [] ≡ frame_in size region number
unfolding frames_of
frames_at size region count number lt = get_or-map-range_with_len (frame_in size region) 0 count number number [] lt (omega arith)

pub placed : (size per number rest wide : ℕ) → per ≡ per_chunk size → rest ≡ number % per → wide ≡ size → ◌≡◌ {A = Place} (record { chunk = number / per; at = rest * wide }) (place_of size number)
unfolding place_of
placed size per number rest wide is left same = rw same (rw left (ap (λ (p : ℕ). record { chunk = number / p; at = (number % p) * size }) is))

-- where a frame of a region stands
pub record Stands (size : ℕ) (region : RegionModel) (number : ℕ) : Type 0 where
  pub chunk : (place_of size number).chunk < length region
  pub fits : (place_of size number).at + size ≤ 4096
  pub whole : length (chunk_at region (place_of size number).chunk) ≡ 4096

pub stands : (size per : ℕ) (region : RegionModel) (count number : ℕ) → AreFrames size per region count → number < count → Stands size region number
unfolding place_of
stands size per region count number are lt =
    let some : 0 < per_chunk size = per_some size are.least are.most in
    let there : number / per_chunk size < length region = chunk_there count (per_chunk size) (length region) number some (are.chunks ∙ ap (div_ceil count) are.per_is) lt in
    record { chunk = there; fits = frame_fits size number are.least are.most; whole = are.whole (number / per_chunk size) there }

pub seen_size : (size : ℕ) (region : RegionModel) (count : ℕ) (now : FramesModel) → seen_in size region count ≡ now → size ≡ now.size
seen_size size region count now seen = ap (λ (m : FramesModel). m.size) seen

pub seen_count : (size : ℕ) (region : RegionModel) (count : ℕ) (now : FramesModel) → seen_in size region count ≡ now → count ≡ length now.frames
seen_count size region count now seen = sym (length-frames_of size region count) ∙ ap (λ (m : FramesModel). length m.frames) seen

pub seen_below : (size : ℕ) (region : RegionModel) (count : ℕ) (now : FramesModel) (number : ℕ) → seen_in size region count ≡ now → number < length now.frames → number < count
seen_below size region count now number seen lt = omega (arith, seen_count size region count now seen, lt)

pub per_positive : (size per : ℕ) (region : RegionModel) (count : ℕ) → AreFrames size per region count → 0 < per
per_positive size per region count are = subst (λ (n : ℕ). 0 < n) (sym are.per_is) (per_some size are.least are.most)

pub inside : (size per : ℕ) (region : RegionModel) (count number at len : ℕ) (p : Place) → AreFrames size per region count → number < count → p ≡ place_of size number → at + len ≤ size → IsInside region (record { chunk = p.chunk; at = p.at + at }) len
inside size per region count number at len p are lt is within =
    let s : Stands size region number = stands size per region count number are lt in
    let fits : (place_of size number).at + size ≤ 4096 = s.fits in
    let whole : length (chunk_at region (place_of size number).chunk) ≡ 4096 = s.whole in
    subst (λ (q : Place). IsInside region (record { chunk = q.chunk; at = q.at + at }) len) (sym is) (record { chunk = s.chunk; end = omega (arith, fits, whole, within) })

pub at_fits : (size per : ℕ) (region : RegionModel) (count number at : ℕ) (p : Place) → AreFrames size per region count → number < count → p ≡ place_of size number → at ≤ size → p.at + at ≤ 4096
at_fits size per region count number at p are lt is within =
    let fits : (place_of size number).at + size ≤ 4096 = (stands size per region count number are lt).fits in
    subst (λ (q : Place). q.at + at ≤ 4096) (sym is) (omega (arith, fits, within))

-- reading inside a frame
pub read : (size per : ℕ) (region : RegionModel) (count number at len : ℕ) (p : Place) → AreFrames size per region count → number < count → p ≡ place_of size number → at + len ≤ size → take len (drop (p.at + at) (chunk_at region p.chunk)) ≡ take len (drop at (get_or (frames_of size region count) number []))
unfolding frame_in
read size per region count number at len p are lt is within =
    let bytes : List ℕ = drop (place_of size number).at (chunk_at region (place_of size number).chunk) in
    let more : size ≡ at + (size - at) = omega (arith, within) in
    let parts : take len (drop at (take size bytes)) ≡ take len (drop at bytes) =
    ap (λ (n : ℕ). take len (drop at (take n bytes))) more
    ∙ (ap (λ (x : List ℕ). take len x) (drop-take at (size - at) bytes)
    ∙ take-take len (size - at) (drop at bytes) (omega (arith, within))) in
    ap (λ (q : Place). take len (drop (q.at + at) (chunk_at region q.chunk))) is
    ∙ (ap (λ (x : List ℕ). take len x) (sym (drop-drop at (place_of size number).at (chunk_at region (place_of size number).chunk)))
    ∙ (sym parts ∙ ap (λ (x : List ℕ). take len (drop at x)) (sym (frames_at size region count number lt))))

-- a write inside a frame changes that frame
frame_written : (size per : ℕ) (region : RegionModel) (count number at : ℕ) (from : List ℕ) → AreFrames size per region count → number < count → at + length from ≤ size → frame_in size (after_write region (record { chunk = (place_of size number).chunk; at = (place_of size number).at + at }) from) number ≡ written (frame_in size region number) at from
unfolding frame_in
frame_written size per region count number at from are lt within =
    let s : Stands size region number = stands size per region count number are lt in
    let fits : (place_of size number).at + size ≤ 4096 = s.fits in
    let whole : length (chunk_at region (place_of size number).chunk) ≡ 4096 = s.whole in
    ap (λ (c : List ℕ). take size (drop (place_of size number).at c)) (get_or-set_same region (place_of size number).chunk (written (chunk_at region (place_of size number).chunk) ((place_of size number).at + at) from) [] s.chunk)
    ∙ part_of (chunk_at region (place_of size number).chunk) from (place_of size number).at size at within (omega (arith, fits, whole))

-- two frames of one chunk lie apart, the one before or behind the other
place_apart : (size per a b : ℕ) (region : RegionModel) (count : ℕ) → AreFrames size per region count → a ≢ b → (place_of size a).chunk ≡ (place_of size b).chunk → ((place_of size a).at + size ≤ (place_of size b).at) ⊎ ((place_of size b).at + size ≤ (place_of size a).at)
unfolding place_of
place_apart size per a b region count are ne same =
    let p : ℕ = per_chunk size in
    let other : a % per_chunk size ≢ b % per_chunk size = other_place (per_chunk size) a b ne same in
    elim (cases_lt (a % per_chunk size) (b % per_chunk size)) as (λ _. ((a % per_chunk size) * size + size ≤ (b % per_chunk size) * size) ⊎ ((b % per_chunk size) * size + size ≤ (a % per_chunk size) * size)) [
      | inl less ↦ inl (apart size (per_chunk size) a b less)
      | inr le ↦ inr (apart size (per_chunk size) b a (omega (arith, le, other)))
    ]

-- and no other
frame_kept : (size per : ℕ) (region : RegionModel) (count number at : ℕ) (from : List ℕ) (k : ℕ) → AreFrames size per region count → number < count → at + length from ≤ size → k < count → k ≢ number → frame_in size (after_write region (record { chunk = (place_of size number).chunk; at = (place_of size number).at + at }) from) k ≡ frame_in size region k
unfolding frame_in
frame_kept size per region count number at from k are lt within there ne =
    let s : Stands size region number = stands size per region count number are lt in
    let fits : (place_of size number).at + size ≤ 4096 = s.fits in
    let whole : length (chunk_at region (place_of size number).chunk) ≡ 4096 = s.whole in
    let c : List ℕ = chunk_at region (place_of size number).chunk in
    let q : ℕ = (place_of size number).at + at in
    let end : (place_of size number).at + at + length from ≤ length (chunk_at region (place_of size number).chunk) = omega (arith, fits, whole, within) in
    elim (cases_eq (place_of size k).chunk (place_of size number).chunk) as (λ _. take size (drop (place_of size k).at (chunk_at (set region (place_of size number).chunk (written c q from)) (place_of size k).chunk)) ≡ take size (drop (place_of size k).at (chunk_at region (place_of size k).chunk))) [
      | inl same ↦
          let here : chunk_at (set region (place_of size number).chunk (written c q from)) (place_of size k).chunk ≡ written c q from =
          ap (λ (n : ℕ). chunk_at (set region (place_of size number).chunk (written c q from)) n) same ∙ get_or-set_same region (place_of size number).chunk (written c q from) [] s.chunk in
          let one : take size (drop (place_of size k).at (written c q from)) ≡ take size (drop (place_of size k).at c) =
          elim (place_apart size per k number region count are ne same) as (λ _. take size (drop (place_of size k).at (written c q from)) ≡ take size (drop (place_of size k).at c)) [
            | inl before ↦ part_before c from q (place_of size k).at size (omega (arith, before)) end
            | inr behind ↦ ap (λ (x : List ℕ). take size x) (part_behind c from q (place_of size k).at (omega (arith, behind, within)) end)
          ] in
          ap (λ (x : List ℕ). take size (drop (place_of size k).at x)) here ∙ (one ∙ ap (λ (n : ℕ). take size (drop (place_of size k).at (chunk_at region n))) (sym same))
      | inr other ↦ ap (λ (x : List ℕ). take size (drop (place_of size k).at x)) (get_or-set_other region (place_of size number).chunk (place_of size k).chunk (written c q from) [] other)
    ]

-- a region after a write inside a frame
pub record Wrote (size per : ℕ) (region : RegionModel) (count number at : ℕ) (from : List ℕ) (after : RegionModel) : Type 0 where
  pub are : AreFrames size per after count
  pub frames : frames_of size after count ≡ set (frames_of size region count) number (written (get_or (frames_of size region count) number []) at from)

written_frames : (size per : ℕ) (region : RegionModel) (count number at : ℕ) (from : List ℕ) → AreFrames size per region count → number < count → at + length from ≤ size → frames_of size (after_write region (record { chunk = (place_of size number).chunk; at = (place_of size number).at + at }) from) count ≡ set (frames_of size region count) number (written (get_or (frames_of size region count) number []) at from)
written_frames size per region count number at from are lt within =
    let after : RegionModel = after_write region (record { chunk = (place_of size number).chunk; at = (place_of size number).at + at }) from in
    let old : List (List ℕ) = frames_of size region count in
    let new : List ℕ = written (get_or (frames_of size region count) number []) at from in
    let long : length old ≡ count = length-frames_of size region count in
    let longer : length (frames_of size after count) ≡ count = length-frames_of size after count in
    ext_get_or [] (frames_of size after count) (set old number new) (longer ∙ (sym long ∙ sym (length-set old number new))) (λ k less.
    let there : k < count = omega (arith, less, longer) in
    frames_at size after count k there ∙ elim (cases_eq k number) as (λ _. frame_in size after k ≡ get_or (set old number new) k []) [
      | inl e ↦
          let here : number < length old = omega (arith, long, lt) in
          ap (frame_in size after) e
          ∙ (frame_written size per region count number at from are lt within
          ∙ (ap (λ (x : List ℕ). written x at from) (sym (frames_at size region count number lt))
          ∙ (sym (get_or-set_same old number new [] here)
          ∙ ap (λ (n : ℕ). get_or (set old number new) n []) (sym e))))
      | inr ne ↦
          frame_kept size per region count number at from k are lt within there ne
          ∙ (sym (frames_at size region count k there)
          ∙ sym (get_or-set_other old number k new [] ne))
    ])

whole_set : (region : RegionModel) (number : ℕ) (bytes : List ℕ) → ((k : ℕ) → k < length region → length (chunk_at region k) ≡ 4096) → number < length region → length bytes ≡ 4096 → (k : ℕ) → k < length (set region number bytes) → length (chunk_at (set region number bytes) k) ≡ 4096
whole_set region number bytes whole lt long k less = elim (cases_eq k number) as (λ _. length (chunk_at (set region number bytes) k) ≡ 4096) [
  | inl e ↦ rw e (rw (get_or-set_same region number bytes [] lt) long)
  | inr ne ↦ rw (get_or-set_other region number k bytes [] ne) (whole k (let same : length (set region number bytes) ≡ length region = length-set region number bytes in omega (arith, same, less)))
]

pub wrote : (size per : ℕ) (region : RegionModel) (count number at : ℕ) (from : List ℕ) (p : Place) (after : RegionModel) → AreFrames size per region count → number < count → p ≡ place_of size number → at + length from ≤ size → after ≡ after_write region (record { chunk = p.chunk; at = p.at + at }) from → Wrote size per region count number at from after
wrote size per region count number at from p after are lt is within put =
    let s : Stands size region number = stands size per region count number are lt in
    let fits : (place_of size number).at + size ≤ 4096 = s.fits in
    let whole : length (chunk_at region (place_of size number).chunk) ≡ 4096 = s.whole in
    let q : ℕ = (place_of size number).at + at in
    let bytes : List ℕ = written (chunk_at region (place_of size number).chunk) q from in
    let now : RegionModel = set region (place_of size number).chunk bytes in
    let long : length bytes ≡ 4096 = length-written (chunk_at region (place_of size number).chunk) q from (omega (arith, fits, whole, within)) ∙ whole in
    let same : length now ≡ length region = length-set region (place_of size number).chunk bytes in
    let sums : bytes_held now + length (chunk_at region (place_of size number).chunk) ≡ bytes_held region + length bytes = sum_by-set length region (place_of size number).chunk bytes [] s.chunk in
    let held : bytes_held region ≡ 4096 * length region = are.held in
    let few : length region ≤ 2 ^ 22 = are.few in
    let w : Wrote size per region count number at from now = record {
      are = record {
        least = are.least;
        most = are.most;
        per_is = are.per_is;
        whole = whole_set region (place_of size number).chunk bytes are.whole s.chunk long;
        held = omega (arith, sums, held, whole, long, same);
        few = omega (arith, few, same);
        chunks = same ∙ are.chunks;
      };
      frames = written_frames size per region count number at from are lt within;
    } in
    subst (Wrote size per region count number at from) (sym (put ∙ ap (λ (x : Place). after_write region (record { chunk = x.chunk; at = x.at + at }) from) is)) w

-- what a frame's owner sees of a write
pub wrote_seen : (size per : ℕ) (region : RegionModel) (count number at : ℕ) (from : List ℕ) (p : Place) (after : RegionModel) (now : FramesModel) → AreFrames size per region count → seen_in size region count ≡ now → number < length now.frames → p ≡ place_of size number → at + length from ≤ now.size → after ≡ after_write region (record { chunk = p.chunk; at = p.at + at }) from → (AreFrames size per after count) × (seen_in size after count ≡ with_bytes now number at from)
wrote_seen size per region count number at from p after now are seen lt is within put =
    let there : number < count = seen_below size region count now number seen lt in
    let narrow : at + length from ≤ size = omega (arith, within, seen_size size region count now seen) in
    let w : Wrote size per region count number at from after = wrote size per region count number at from p after are there is narrow put in
    (w.are, ap (λ (l : List (List ℕ)). let m : FramesModel = record { size = size; frames = l } in m) w.frames ∙ ap (λ (m : FramesModel). with_bytes m number at from) seen)

-- and of a read
pub read_seen : (size per : ℕ) (region : RegionModel) (count number at len : ℕ) (p : Place) (now : FramesModel) → AreFrames size per region count → seen_in size region count ≡ now → number < length now.frames → p ≡ place_of size number → at + len ≤ now.size → take len (drop (p.at + at) (chunk_at region p.chunk)) ≡ take len (drop at (frame_at now number))
read_seen size per region count number at len p now are seen lt is within =
    let there : number < count = seen_below size region count now number seen lt in
    let narrow : at + len ≤ size = omega (arith, within, seen_size size region count now seen) in
    read size per region count number at len p are there is narrow ∙ ap (λ (m : FramesModel). take len (drop at (frame_at m number))) seen

pub read_long : (size per : ℕ) (region : RegionModel) (count number at len : ℕ) (p : Place) (now : FramesModel) → AreFrames size per region count → seen_in size region count ≡ now → number < length now.frames → p ≡ place_of size number → at + len ≤ now.size → length (take len (drop (p.at + at) (chunk_at region p.chunk))) ≡ len
read_long size per region count number at len p now are seen lt is within =
    let there : number < count = seen_below size region count now number seen lt in
    let narrow : at + len ≤ size = omega (arith, within, seen_size size region count now seen) in
    let i : IsInside region (record { chunk = p.chunk; at = p.at + at }) len = inside size per region count number at len p are there is narrow in
    let end : p.at + at + len ≤ length (chunk_at region p.chunk) = i.end in
    let rest : length (drop (p.at + at) (chunk_at region p.chunk)) ≡ length (chunk_at region p.chunk) - (p.at + at) = length-drop (p.at + at) (chunk_at region p.chunk) in
    length-take-le len (drop (p.at + at) (chunk_at region p.chunk)) (omega (arith, rest, end))
