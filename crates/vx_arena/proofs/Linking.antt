-- What the writes of links change.
use Rattle.std.proofs.Common.{◌≡◌, ◌≢◌, ℕ, ◌+◌, ◌^◌, ◌<◌, ◌≤◌, Some, None, List, [], ◌∷◌, ◌++◌, length, get_or, take, drop, refl, sym, ap, ◌∙◌, arith, w64}
use Rattle.std.specs.Int.{to_le_bytes, from_le_bytes}
use Rattle.std.proofs.lemmas.Nat.{from_le_bytes-to_le_bytes_8}
use Rattle.std.proofs.lemmas.List.{append_assoc, drop_at, get_or_append_left, get_or-take, length-take-le}
use Rattle.vx_raw.specs.Region.{written}
use Rattle.vx_raw.specs.declared.place.Place.{Place}
use Rattle.vx_arena.specs.Block.{Block}
use Rattle.vx_arena.specs.Chunks.{Chunks, block_at, with_blocks}
use Rattle.vx_arena.specs.Names.{place_of, none, block_of, named, IsNamed, one_if, lives, Changes}
use Rattle.vx_arena.specs.Free.{next_in, before_in, with_links, with_before, SetsBefore}
use Rattle.vx_arena.proofs.Heads.{length-written}
use Rattle.vx_arena.proofs.Naming.{named_is, changes_at}

-- the same block, as it is found and as it is named
pub found_named : (chunks : Chunks) (name : ℕ) (b : Block) → block_of chunks name ≡ Some b → named chunks name ≡ b
unfolding block_of named
found_named chunks name b is = rw is refl

pub named_from : (chunks : Chunks) (name : ℕ) (b : Block) → block_of chunks name ≡ Some b → IsNamed chunks name
named_from chunks name b is = is ∙ ap (λ (x : Block). Some x) (sym (found_named chunks name b is))

pub not_found : (chunks : Chunks) (name : ℕ) (b : Block) → block_of chunks name ≡ None → block_of chunks name ≡ Some b → ⊥
not_found chunks name b gone is = cc

pub bytes_fit : (chunks : Chunks) (name to n : ℕ) (p : Place) (from : List ℕ) → p ≡ place_of name → length from ≡ n → to + n ≤ length (named chunks name).payload → to + length from ≤ length (block_at chunks p).payload
bytes_fit chunks name to n p from is count inside =
    let same : length (block_at chunks p).payload ≡ length (named chunks name).payload = ap (λ (b : Block). length b.payload) (named_is chunks name p is) in
    omega (arith, same, count, inside)

pub length-with_links : (payload : List ℕ) (next before : ℕ) → 16 ≤ length payload → length (with_links payload next before) ≡ length payload
unfolding with_links
length-with_links payload next before long = length-written payload 0 (to_le_bytes w64 next ++ to_le_bytes w64 before) (omega (arith, long))

pub length-with_before : (payload : List ℕ) (before : ℕ) → 16 ≤ length payload → length (with_before payload before) ≡ length payload
unfolding with_before
length-with_before payload before long = length-written payload 8 (to_le_bytes w64 before) (omega (arith, long))

pub links : (chunks after : Chunks) (name next before : ℕ) (p : Place) (from : List ℕ) → p ≡ place_of name → IsNamed chunks name → 16 ≤ length (named chunks name).payload → from ≡ to_le_bytes w64 next ++ to_le_bytes w64 before → after ≡ with_blocks chunks p (record { live = (block_at chunks p).live; payload = written (block_at chunks p).payload 0 from } ∷ []) → Changes chunks after name (record { live = (named chunks name).live; payload = with_links (named chunks name).payload next before })
unfolding with_links
links chunks after name next before p from is there long bytes set =
    let same : length (with_links (named chunks name).payload next before) ≡ length (named chunks name).payload = length-with_links (named chunks name).payload next before long in
    changes_at (λ (b : Block). record { live = b.live; payload = written b.payload 0 (to_le_bytes w64 next ++ to_le_bytes w64 before) }) chunks after name p is there (omega (arith, same))
    (set ∙ ap (λ (f : List ℕ). with_blocks chunks p (record { live = (block_at chunks p).live; payload = written (block_at chunks p).payload 0 f } ∷ [])) bytes)

pub wrote_bytes : (chunks after : Chunks) (name to : ℕ) (p : Place) (from : List ℕ) → p ≡ place_of name → IsNamed chunks name → to + length from ≤ length (named chunks name).payload → after ≡ with_blocks chunks p (record { live = (block_at chunks p).live; payload = written (block_at chunks p).payload to from } ∷ []) → Changes chunks after name (record { live = (named chunks name).live; payload = written (named chunks name).payload to from })
wrote_bytes chunks after name to p from is there inside set =
    let same : length (written (named chunks name).payload to from) ≡ length (named chunks name).payload = length-written (named chunks name).payload to from inside in
    changes_at (λ (b : Block). record { live = b.live; payload = written b.payload to from }) chunks after name p is there (omega (arith, same)) set

pub sets_before : (chunks after : Chunks) (name before : ℕ) (p : Place) (from : List ℕ) → p ≡ place_of name → name ≢ none → IsNamed chunks name → 16 ≤ length (named chunks name).payload → from ≡ to_le_bytes w64 before → after ≡ with_blocks chunks p (record { live = (block_at chunks p).live; payload = written (block_at chunks p).payload 8 from } ∷ []) → SetsBefore chunks after name before
unfolding with_before
sets_before chunks after name before p from is ne there long bytes set =
    let c : Block = record { live = (named chunks name).live; payload = with_before (named chunks name).payload before } in
    let same : length (with_before (named chunks name).payload before) ≡ length (named chunks name).payload = length-with_before (named chunks name).payload before long in
    let d : Changes chunks after name c =
    changes_at (λ (b : Block). record { live = b.live; payload = written b.payload 8 (to_le_bytes w64 before) }) chunks after name p is there (omega (arith, same))
    (set ∙ ap (λ (f : List ℕ). with_blocks chunks p (record { live = (block_at chunks p).live; payload = written (block_at chunks p).payload 8 f } ∷ [])) bytes) in
    let count : lives after + one_if (named chunks name).live ≡ lives chunks + one_if (named chunks name).live = d.count in
    record {
      there = λ b at. d.there ∙ ap (λ (x : Block). Some (record { live = x.live; payload = with_before x.payload before })) (found_named chunks name b at);
      gone = λ e. absurd (not_found chunks name (named chunks name) e there);
      others = d.others;
      none_is = d.others none (λ e. ne (sym e));
      count = omega (arith, count);
      held = d.held;
      many = d.many;
    }

pub sets_none : (chunks : Chunks) (before : ℕ) (name : ℕ) → name ≡ none → block_of chunks none ≡ None → SetsBefore chunks chunks name before
sets_none chunks before name is gone =
    let none_here : block_of chunks name ≡ None = ap (block_of chunks) is ∙ gone in
    record {
      there = λ b at. absurd (not_found chunks name b none_here at);
      gone = λ e. e;
      others = λ n ne. refl;
      none_is = refl;
      count = refl;
      held = refl;
      many = refl;
    }

-- eight bytes are read as they stand
eight : (xs ys : List ℕ) → ((i : ℕ) → i < 8 → get_or xs i 0 ≡ get_or ys i 0) → from_le_bytes w64 xs ≡ from_le_bytes w64 ys
eight xs ys same =
    let s0 : get_or xs 0 0 ≡ get_or ys 0 0 = same 0 (omega arith) in
    let s1 : get_or xs 1 0 ≡ get_or ys 1 0 = same 1 (omega arith) in
    let s2 : get_or xs 2 0 ≡ get_or ys 2 0 = same 2 (omega arith) in
    let s3 : get_or xs 3 0 ≡ get_or ys 3 0 = same 3 (omega arith) in
    let s4 : get_or xs 4 0 ≡ get_or ys 4 0 = same 4 (omega arith) in
    let s5 : get_or xs 5 0 ≡ get_or ys 5 0 = same 5 (omega arith) in
    let s6 : get_or xs 6 0 ≡ get_or ys 6 0 = same 6 (omega arith) in
    let s7 : get_or xs 7 0 ≡ get_or ys 7 0 = same 7 (omega arith) in
    cc

front_eight : (payload rest : List ℕ) → 8 ≤ length payload → from_le_bytes w64 (take 8 payload ++ rest) ≡ from_le_bytes w64 payload
front_eight payload rest long = eight (take 8 payload ++ rest) payload (λ i lt.
    let count : length (take 8 payload) ≡ 8 = length-take-le 8 payload long in
    get_or_append_left (take 8 payload) rest 0 i (omega (arith, count, lt)) ∙ get_or-take 8 payload i 0 lt)

pub next_of_links : (payload : List ℕ) (next before : ℕ) → next < 2 ^ 64 → next_in (with_links payload next before) ≡ next
unfolding next_in with_links
next_of_links payload next before fits = from_le_bytes-to_le_bytes_8 next fits

pub before_of_links : (payload : List ℕ) (next before : ℕ) → before < 2 ^ 64 → before_in (with_links payload next before) ≡ before
unfolding before_in with_links
before_of_links payload next before fits = from_le_bytes-to_le_bytes_8 before fits

pub next_kept : (payload : List ℕ) (before : ℕ) → 16 ≤ length payload → next_in (with_before payload before) ≡ next_in payload
unfolding next_in with_before
next_kept payload before long =
    ap (from_le_bytes w64) (append_assoc (take 8 payload) (to_le_bytes w64 before) (drop 16 payload))
    ∙ front_eight payload (to_le_bytes w64 before ++ drop 16 payload) (omega (arith, long))

pub before_of_before : (payload : List ℕ) (before : ℕ) → 16 ≤ length payload → before < 2 ^ 64 → before_in (with_before payload before) ≡ before
unfolding before_in with_before
before_of_before payload before long fits =
    let count : length (take 8 payload) ≡ 8 = length-take-le 8 payload (omega (arith, long)) in
    ap (λ (t : List ℕ). from_le_bytes w64 (drop 8 t)) (append_assoc (take 8 payload) (to_le_bytes w64 before) (drop 16 payload))
    ∙ (ap (from_le_bytes w64) (drop_at (take 8 payload) (to_le_bytes w64 before ++ drop 16 payload) 8 count) ∙ from_le_bytes-to_le_bytes_8 before fits)
