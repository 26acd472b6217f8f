-- A frame more, and the chunk that it may need.
use Rattle.std.proofs.Common.{inl, inr, ◌≡◌, ◌≢◌, ℕ, ◌+◌, ◌-◌, ◌*◌, ◌/◌, ◌^◌, ◌<◌, ◌≤◌, Bool, true, false, cond, eqb, List, [], ◌∷◌, ◌++◌, length, take, drop, replicate, refl, sym, ap, ◌∙◌, subst, arith}
use Rattle.std.specs.Int.{div_ceil}
use Rattle.std.proofs.lemmas.Bool.{cases_eq, cases_lt, eq-eqb, ne_eqb}
use Rattle.std.proofs.lemmas.List.{ext_get_or, length-replicate, length-drop, length-take-le, get_or_append_left, get_or_push, length_push}
use Rattle.std.proofs.lemmas.List.FromFn.{map-range_with_len_more}
use Rattle.std.proofs.lemmas.List.Sums.{sum_by_push}
use Rattle.vx_raw.specs.Region.{RegionModel, chunk_at, bytes_held, after_grow}
use Rattle.vx_records.specs.Frame.{FramesModel, per_chunk, place_of, frame_in, frames_of, seen_in, AreFrames, AddsFrame}
use Rattle.vx_records.proofs.Counting.{per_some, needed, grown, roomy, count_few}
use Rattle.vx_records.proofs.Placing.{length-frames_of, frames_at, Stands, stands, per_positive, seen_size, seen_count}

-- no frames
pub none_seen : (size : ℕ) → seen_in size [] 0 ≡ record { size = size; frames = [] }
unfolding frames_of
none_seen size = refl

pub none_are : (size per : ℕ) → 8 ≤ size → size ≤ 4096 → per ≡ per_chunk size → AreFrames size per [] 0
none_are size per least most is = record {
  least = least;
  most = most;
  per_is = is;
  whole = λ k lt. absurd (omega (arith, lt));
  held = refl;
  few = omega arith;
  chunks = subst (λ (p : ℕ). 0 ≡ div_ceil 0 p) (sym is) (let some : 0 < per_chunk size = per_some size least most in needed 0 (per_chunk size) 0 some (record { enough = omega arith; tight = omega (arith, some) }));
}

-- how many frames there can be
pub few_frames : (size per : ℕ) (region : RegionModel) (count : ℕ) → AreFrames size per region count → count ≤ 2 ^ 31
few_frames size per region count are = count_few size count (length region) are.least are.most are.few (are.chunks ∙ ap (div_ceil count) are.per_is)

-- how many bytes the chunks have
pub held_seen : (size per : ℕ) (region : RegionModel) (count : ℕ) (now : FramesModel) → AreFrames size per region count → seen_in size region count ≡ now → bytes_held region ≡ 4096 * div_ceil (length now.frames) (per_chunk now.size)
held_seen size per region count now are seen =
    let chunks : length region ≡ div_ceil count per = are.chunks in
    let same : div_ceil count per ≡ div_ceil (length now.frames) (per_chunk now.size) =
    ap (div_ceil count) (are.per_is ∙ ap per_chunk (seen_size size region count now seen))
    ∙ ap (λ (n : ℕ). div_ceil n (per_chunk now.size)) (seen_count size region count now seen) in
    are.held ∙ ap (λ (n : ℕ). 4096 * n) (chunks ∙ same)

-- what a chunk more is to the frames that are there
same_frames : (size per : ℕ) (region : RegionModel) (count : ℕ) → AreFrames size per region count → frames_of size (after_grow region 4096) count ≡ frames_of size region count
unfolding frame_in
same_frames size per region count are =
    let after : RegionModel = after_grow region 4096 in
    let long : length (frames_of size after count) ≡ count = length-frames_of size after count in
    ext_get_or [] (frames_of size after count) (frames_of size region count) (long ∙ sym (length-frames_of size region count)) (λ k less.
    let there : k < count = omega (arith, less, long) in
    let s : Stands size region k = stands size per region count k are there in
    frames_at size after count k there
    ∙ (ap (λ (c : List ℕ). take size (drop (place_of size k).at c)) (get_or_append_left region (replicate 4096 0 ∷ []) [] (place_of size k).chunk s.chunk)
    ∙ sym (frames_at size region count k there)))

zeros_long : length {A = ℕ} (replicate 4096 0) ≡ 4096
zeros_long = let zero_byte : ℕ = 0 in length-replicate 4096 zero_byte

grown_whole : (region : RegionModel) → ((k : ℕ) → k < length region → length (chunk_at region k) ≡ 4096) → (k : ℕ) → k < length (after_grow region 4096) → length (chunk_at (after_grow region 4096) k) ≡ 4096
grown_whole region whole k less =
    let long : length (after_grow region 4096) ≡ length region + 1 = length_push region (replicate 4096 0) in
    elim (cases_lt k (length region)) as (λ _. length (chunk_at (after_grow region 4096) k) ≡ 4096) [
      | inl lt ↦ ap length (get_or_append_left region (replicate 4096 0 ∷ []) [] k lt) ∙ whole k lt
      | inr le ↦
          let last : length region ≡ k = omega (arith, long, less, le) in
          ap length (get_or_push region (replicate 4096 0) [] k last) ∙ zeros_long
    ]

-- room for a frame more, and all frames as they were
pub record HasRoom (size per : ℕ) (region : RegionModel) (count : ℕ) (after : RegionModel) : Type 0 where
  pub are : AreFrames size per after (count + 1)
  pub same : frames_of size after count ≡ frames_of size region count

grown_room : (size per : ℕ) (region : RegionModel) (count : ℕ) → AreFrames size per region count → count / per ≡ length region → length (after_grow region 4096) ≤ 2 ^ 22 → HasRoom size per region count (after_grow region 4096)
grown_room size per region count are full few =
    let long : length (after_grow region 4096) ≡ length region + 1 = length_push region (replicate 4096 0) in
    let sums : bytes_held (after_grow region 4096) ≡ bytes_held region + length {A = ℕ} (replicate 4096 0) = sum_by_push length region (replicate 4096 0) in
    let chunk : length {A = ℕ} (replicate 4096 0) ≡ 4096 = zeros_long in
    let held : bytes_held region ≡ 4096 * length region = are.held in
    record {
      are = record {
        least = are.least;
        most = are.most;
        per_is = are.per_is;
        whole = grown_whole region are.whole;
        held = omega (arith, long, sums, chunk, held);
        few = few;
        chunks = long ∙ grown count per (length region) (per_positive size per region count are) are.chunks full;
      };
      same = same_frames size per region count are;
    }

kept_room : (size per : ℕ) (region : RegionModel) (count : ℕ) → AreFrames size per region count → count / per ≢ length region → HasRoom size per region count region
kept_room size per region count are ne = record {
  are = record {
    least = are.least;
    most = are.most;
    per_is = are.per_is;
    whole = are.whole;
    held = are.held;
    few = are.few;
    chunks = roomy count per (length region) (per_positive size per region count are) are.chunks ne;
  };
  same = refl;
}

not_full : (q held chunks : ℕ) → held ≡ 4096 * chunks → q ≢ chunks → eqb (q * 4096) held ≡ false
not_full q held chunks is ne = ne_eqb (q * 4096) held (λ e. ne (omega (arith, is, e)))

-- the test that the code makes
module _ (size per : ℕ) (region : RegionModel) (count q w h : ℕ) (after : RegionModel) (are : AreFrames size per region count) (q_is : q ≡ count / per) (w_is : w ≡ 4096) (h_is : h ≡ bytes_held region) (is : after ≡ cond (eqb (q * w) h) (after_grow region 4096) region) (few : length after ≤ 2 ^ 22) where
  test_is : eqb (q * w) h ≡ eqb (count / per * 4096) (bytes_held region)
  test_is = rw q_is (rw w_is (rw h_is refl))

  pub has_room : HasRoom size per region count after
  has_room =
      let held : bytes_held region ≡ 4096 * length region = are.held in
      elim (cases_eq (count / per) (length region)) as (λ _. HasRoom size per region count after) [
        | inl e ↦
            let full : eqb (q * w) h ≡ true = test_is ∙ eq-eqb (count / per * 4096) (bytes_held region) (omega (arith, held, e)) in
            let now : after ≡ after_grow region 4096 = is ∙ ap (λ (b : Bool). cond b (after_grow region 4096) region) full in
            subst (HasRoom size per region count) (sym now) (grown_room size per region count are e (subst (λ (r : RegionModel). length r ≤ 2 ^ 22) now few))
        | inr ne ↦
            let roomy_test : eqb (q * w) h ≡ false = test_is ∙ not_full (count / per) (bytes_held region) (length region) held ne in
            let now : after ≡ region = is ∙ ap (λ (b : Bool). cond b (after_grow region 4096) region) roomy_test in
            subst (HasRoom size per region count) (sym now) (kept_room size per region count are ne)
      ]

-- the frames with the next one
pub adds_frame : (size per : ℕ) (region : RegionModel) (count : ℕ) (after : RegionModel) (now : FramesModel) → seen_in size region count ≡ now → HasRoom size per region count after → AddsFrame now (seen_in size after (count + 1))
unfolding frames_of frame_in
adds_frame size per region count after now seen room =
    let new : List ℕ = frame_in size after count in
    let s : Stands size after count = stands size per after (count + 1) count room.are (omega arith) in
    let fits : (place_of size count).at + size ≤ 4096 = s.fits in
    let whole : length (chunk_at after (place_of size count).chunk) ≡ 4096 = s.whole in
    let rest : length (drop (place_of size count).at (chunk_at after (place_of size count).chunk)) ≡ length (chunk_at after (place_of size count).chunk) - (place_of size count).at = length-drop (place_of size count).at (chunk_at after (place_of size count).chunk) in
    let more : frames_of size after (count + 1) ≡ frames_of size region count ++ new ∷ [] =
    map-range_with_len_more (frame_in size after) 0 count count (omega arith) ∙ ap (λ (l : List (List ℕ)). l ++ new ∷ []) room.same in
    record {
      bytes = new;
      long = length-take-le size (drop (place_of size count).at (chunk_at after (place_of size count).chunk)) (omega (arith, rest, fits, whole)) ∙ seen_size size region count now seen;
      is = ap (λ (l : List (List ℕ)). let m : FramesModel = record { size = size; frames = l } in m) more ∙ ap (λ (m : FramesModel). let n : FramesModel = record { size = m.size; frames = m.frames ++ new ∷ [] } in n) seen;
    }

pub per_is : (size : ℕ) → 4096 / size ≡ per_chunk size
unfolding per_chunk
per_is size = refl

pub cleared_seen : (size : ℕ) (region : RegionModel) (count : ℕ) (now : FramesModel) (after : RegionModel) → seen_in size region count ≡ now → after ≡ [] → seen_in size after 0 ≡ record { size = now.size; frames = [] }
cleared_seen size region count now after seen is =
    ap (λ (r : RegionModel). seen_in size r 0) is ∙ (none_seen size ∙ ap (λ (n : ℕ). let m : FramesModel = record { size = n; frames = [] } in m) (seen_size size region count now seen))
