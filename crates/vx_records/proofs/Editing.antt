-- What each write to a record's frame does, as the calls make it.
use Rattle.std.proofs.Common.{◌≡◌, ◌≢◌, ℕ, ◌+◌, ◌-◌, ◌*◌, ◌/◌, ◌%◌, ◌^◌, ◌<◌, ◌≤◌, Bool, true, false, cond, eqb, Option, Some, None, IfSome, is_some, Result, Ok, Err, IfOk, OnErr, List, [], ◌++◌, length, take, drop, refl, sym, ap, ◌∙◌, subst, arith, w32}
use Rattle.std.specs.declared.alloc.AllocError.{AllocError}
use Rattle.std.specs.Int.{div_ceil, to_le_bytes}
use Rattle.std.proofs.lemmas.List.{length-append, length-drop, take_all}
use Rattle.vx_raw.specs.Region.{written}
use Rattle.vx_records.specs.Record.{Record, RecordsModel, record_in, record_at, IsLive, with_record, fresh, AddsRecord, chunk_bytes}
use Rattle.vx_records.specs.Frame.{FramesModel, frame_at, with_bytes, with_frame, and_frame, per_chunk}
use Rattle.vx_records.specs.Head.{link_in, flags_in, head_of, number_of, link_of, record_of, records_of, IsListed}
use Rattle.vx_records.proofs.Overwriting.{length-written}
use Rattle.vx_records.proofs.Heading.{Spells, spells, next_set, matched_set, body_set, freed, free_link, length-head_of, new_record}
use Rattle.vx_records.proofs.Listing.{Lives, lives, in_frames, past_frames, length-records, Rewrites, rewrites, Releases, releases, free_small}
use Rattle.vx_records.proofs.Adding.{Adds, reuses, extends}
use Rattle.vx_records.proofs.Changes.{added_live, with_live}

number_of-link_of : (o : Option ℕ) → number_of (link_of o) ≡ o
number_of-link_of None = refl
number_of-link_of (Some n) = one_more n
  where
    one_more : (n : ℕ) → number_of (n + 1) ≡ Some n
    one_more n = grind arith

module _ (m : FramesModel) (free : ℕ) (now : RecordsModel) (n : ℕ) (listed : IsListed m free) (seen : records_of m ≡ now) (live : IsLive now n) where
  here : Lives m n (record_at now n)
  here = lives m now n seen live

  pub there : n < length m.frames
  there = here.there

  whole : length (frame_at m n) ≡ m.size
  whole = listed.long n there

  long : 8 ≤ length (frame_at m n)
  long = let w : length (frame_at m n) ≡ m.size = whole in let l : 8 ≤ m.size = listed.least in omega (arith, w, l)

  pub sets_next : (next : Option ℕ) (from : List ℕ) (after : FramesModel) → link_of next < 2 ^ 32 → from ≡ to_le_bytes w32 (link_of next) → after ≡ with_bytes m n 0 from → Rewrites m free now n (record { next = next; matched = (record_at now n).matched; body = (record_at now n).body }) after
  sets_next next from after fits bytes is =
      let r : Record = record_at now n in
      let l : 8 ≤ length (frame_at m n) = long in
      let spelled : record_of (written (frame_at m n) 0 (to_le_bytes w32 (link_of next))) ≡ Some (record { next = next; matched = r.matched; body = r.body }) =
      next_set (frame_at m n) (link_of next) long fits r here.spells
      ∙ ap (λ (o : Option ℕ). let x : Record = record { next = o; matched = r.matched; body = r.body } in Some x) (number_of-link_of next) in
      rewrites m free now n (record { next = next; matched = r.matched; body = r.body }) (written (frame_at m n) 0 (to_le_bytes w32 (link_of next))) after listed seen live
      (is ∙ ap (with_bytes m n 0) bytes)
      (length-written (frame_at m n) 0 (to_le_bytes w32 (link_of next)) (omega (arith, l)) ∙ whole)
      spelled

  pub sets_matched : (after : FramesModel) → after ≡ with_bytes m n 4 (to_le_bytes w32 3) → Rewrites m free now n (record { next = (record_at now n).next; matched = true; body = (record_at now n).body }) after
  sets_matched after is =
      let r : Record = record_at now n in
      let l : 8 ≤ length (frame_at m n) = long in
      rewrites m free now n (record { next = r.next; matched = true; body = r.body }) (written (frame_at m n) 4 (to_le_bytes w32 3)) after listed seen live is
      (length-written (frame_at m n) 4 (to_le_bytes w32 3) (omega (arith, l)) ∙ whole)
      (matched_set (frame_at m n) r long here.spells)

  len_is : m.size ≡ 8 + now.len
  unfolding records_of
  len_is =
      let same : m.size - 8 ≡ now.len = ap (λ (x : RecordsModel). x.len) seen in
      let least : 8 ≤ m.size = listed.least in
      omega (arith, same, least)

  pub body_fits : (at len : ℕ) → at + len ≤ now.len → 8 + at + len ≤ m.size
  body_fits at len within = let same : m.size ≡ 8 + now.len = len_is in omega (arith, same, within)

  pub at_fits : (at len : ℕ) → at + len ≤ now.len → 8 + at < 2 ^ 32
  at_fits at len within =
      let fits : 8 + at + len ≤ m.size = body_fits at len within in
      let most : m.size ≤ 4096 = listed.most in
      omega (arith, fits, most)

  pub writes : (at : ℕ) (from : List ℕ) (after : FramesModel) → at + length from ≤ now.len → after ≡ with_bytes m n (8 + at) from → Rewrites m free now n (record { next = (record_at now n).next; matched = (record_at now n).matched; body = written (record_at now n).body at from }) after
  writes at from after within is =
      let r : Record = record_at now n in
      let w : length (frame_at m n) ≡ m.size = whole in
      let fits : 8 + at + length from ≤ m.size = body_fits at (length from) within in
      let inside : 8 + at + length from ≤ length (frame_at m n) = omega (arith, w, fits) in
      rewrites m free now n (record { next = r.next; matched = r.matched; body = written r.body at from }) (written (frame_at m n) (8 + at) from) after listed seen live is
      (length-written (frame_at m n) (8 + at) from inside ∙ whole)
      (body_set (frame_at m n) at from r inside here.spells)

  pub erases : (after : FramesModel) → after ≡ with_bytes m n 0 (head_of free 0) → Releases m now n after
  erases after is =
      let l : 8 ≤ length (frame_at m n) = long in
      let small : free ≤ 2 ^ 31 = free_small m free listed in
      let head : length (head_of free 0) ≡ 8 = length-head_of free 0 in
      releases m free now n (written (frame_at m n) 0 (head_of free 0)) after listed seen live is
      (length-written (frame_at m n) 0 (head_of free 0) (omega (arith, l, head)) ∙ whole)
      (freed (frame_at m n) free long)
      (free_link (frame_at m n) free 0 long (omega (arith, small)))

  spelled : Spells (frame_at m n) (record_at now n)
  spelled = spells (frame_at m n) (record_at now n) here.spells

  pub next_read : number_of (link_in (frame_at m n)) ≡ (record_at now n).next
  next_read = sym (ap (λ (r : Record). r.next) spelled.is)

  pub matched_read : eqb (flags_in (frame_at m n) / 2 % 2) 1 ≡ (record_at now n).matched
  matched_read = sym (ap (λ (r : Record). r.matched) spelled.is)

  pub body_within : 8 + (m.size - 8) ≤ m.size
  body_within = let least : 8 ≤ m.size = listed.least in omega (arith, least)

  pub body_len : m.size - 8 ≡ now.len
  body_len = let same : m.size ≡ 8 + now.len = len_is in omega (arith, same)

  body_long : length (drop 8 (frame_at m n)) ≡ m.size - 8
  body_long = length-drop 8 (frame_at m n) ∙ ap (λ (k : ℕ). k - 8) whole

  pub body_read : take (m.size - 8) (drop 8 (frame_at m n)) ≡ (record_at now n).body
  body_read = take_all (m.size - 8) (drop 8 (frame_at m n)) (let b : length (drop 8 (frame_at m n)) ≡ m.size - 8 = body_long in omega (arith, b)) ∙ sym (ap (λ (r : Record). r.body) spelled.is)

pub live_read : (m : FramesModel) (now : RecordsModel) (n : ℕ) → records_of m ≡ now → n < length m.frames → eqb (flags_in (frame_at m n) % 2) 1 ≡ is_some (record_in now n)
unfolding record_of
live_read m now n seen lt =
    sym (some_cond (eqb (flags_in (frame_at m n) % 2) 1) (record { next = number_of (link_in (frame_at m n)); matched = eqb (flags_in (frame_at m n) / 2 % 2) 1; body = drop 8 (frame_at m n) }))
    ∙ (ap (λ (o : Option Record). is_some o) (sym (in_frames m n lt)) ∙ ap (λ (x : RecordsModel). is_some (record_in x n)) seen)
  where
    some_cond : (b : Bool) (r : Record) → is_some (cond b (Some r) None) ≡ b
    some_cond true r = refl
    some_cond false r = refl

pub none_live : (m : FramesModel) (now : RecordsModel) (n : ℕ) → records_of m ≡ now → length m.frames ≤ n → false ≡ is_some (record_in now n)
none_live m now n seen le = sym (ap (λ (o : Option Record). is_some o) (past_frames m n le)) ∙ ap (λ (x : RecordsModel). is_some (record_in x n)) seen

pub count_seen : (m : FramesModel) (now : RecordsModel) → records_of m ≡ now → length m.frames ≡ length now.records
count_seen m now seen = sym (length-records m) ∙ ap (λ (x : RecordsModel). length x.records) seen

pub len_seen : (m : FramesModel) (free : ℕ) (now : RecordsModel) → IsListed m free → records_of m ≡ now → m.size ≡ 8 + now.len
unfolding records_of
len_seen m free now listed seen =
    let same : m.size - 8 ≡ now.len = ap (λ (x : RecordsModel). x.len) seen in
    let least : 8 ≤ m.size = listed.least in
    omega (arith, same, least)

pub body_all : (m : FramesModel) (free : ℕ) (now : RecordsModel) (body : List ℕ) → IsListed m free → records_of m ≡ now → length body ≡ now.len → 8 + length body ≡ m.size
body_all m free now body listed seen all = let size : m.size ≡ 8 + now.len = len_seen m free now listed seen in omega (arith, size, all)

pub held_records : (m : FramesModel) (free : ℕ) (now : RecordsModel) → IsListed m free → records_of m ≡ now → 4096 * div_ceil (length m.frames) (per_chunk m.size) ≡ chunk_bytes now.len (length now.records)
unfolding per_chunk
held_records m free now listed seen = rw (len_seen m free now listed seen) (rw (count_seen m now seen) refl)

-- a new record's frame
new_long : (m : FramesModel) (free : ℕ) (now : RecordsModel) (body : List ℕ) → IsListed m free → records_of m ≡ now → length body ≡ now.len → length (head_of 0 1 ++ body) ≡ m.size
new_long m free now body listed seen all =
    let head : length (head_of 0 1) ≡ 8 = length-head_of 0 1 in
    let size : m.size ≡ 8 + now.len = len_seen m free now listed seen in
    length-append (head_of 0 1) body ∙ omega (arith, head, size, all)

pub uses_again : (m : FramesModel) (free : ℕ) (now : RecordsModel) (body : List ℕ) (after : FramesModel) → IsListed m free → records_of m ≡ now → length body ≡ now.len → free ≢ 0 → after ≡ with_frame m (free - 1) (head_of 0 1 ++ body) → Adds now (free - 1) (fresh body) after (link_in (frame_at m (free - 1)))
uses_again m free now body after listed seen all ne is = reuses m free now (head_of 0 1 ++ body) (fresh body) after listed seen ne is (new_long m free now body listed seen all) (new_record body)

pub uses_next : (m : FramesModel) (free : ℕ) (now : RecordsModel) (body : List ℕ) (after : FramesModel) (n : ℕ) → IsListed m free → records_of m ≡ now → length body ≡ now.len → free ≡ 0 → n ≡ length m.frames → n < 2 ^ 31 → after ≡ and_frame m (head_of 0 1 ++ body) → Adds now n (fresh body) after free
uses_next m free now body after n listed seen all none last few is = extends m free now (head_of 0 1 ++ body) (fresh body) after n listed seen none last few is (new_long m free now body listed seen all) (new_record body)

pub record Pushed (now : RecordsModel) (free : ℕ) (body : List ℕ) (after : FramesModel) (result : Result ℕ AllocError) : Type 0 where
  pub listed : IsListed after free
  pub adds : IfOk result (λ n. AddsRecord now (records_of after) n (fresh body))
  pub live : IfOk result (λ n. IsLive (records_of after) n)

pub pushed : (m : FramesModel) (free : ℕ) (now : RecordsModel) (body : List ℕ) (after : FramesModel) (result : Result ℕ AllocError) → IsListed m free → records_of m ≡ now → length body ≡ now.len → free ≡ 0 → IfOk result (λ n. n ≡ length m.frames) → IfOk result (λ n. n < 2 ^ 31) → IfOk result (λ _. after ≡ and_frame m (head_of 0 1 ++ body)) → OnErr result (after ≡ m) → Pushed now free body after result
pushed m free now body after (Ok n) listed seen all none last few is err =
    let a : Adds now n (fresh body) after free = uses_next m free now body after n listed seen all none last few is in
    record { listed = a.listed; adds = a.adds; live = added_live now (records_of after) n (fresh body) a.adds }
pushed m free now body after (Err e) listed seen all none last few is err = record { listed = subst (λ (x : FramesModel). IsListed x free) (sym err) listed; adds = tt; live = tt }

-- no records
pub no_records : (size : ℕ) → 8 ≤ size → size ≤ 4096 → IsListed (record { size = size; frames = [] }) 0
no_records size least most = record {
  least = least;
  most = most;
  few = omega arith;
  long = λ k lt. absurd (omega (arith, lt));
  numbers = [];
  linked = refl;
  all = λ k lt none. absurd (omega (arith, lt));
}

pub none_spelled : (size : ℕ) → records_of (record { size = size; frames = [] }) ≡ record { len = size - 8; records = [] }
unfolding records_of
none_spelled size = refl

pub cleared : (m : FramesModel) (now : RecordsModel) (after : FramesModel) → records_of m ≡ now → after ≡ record { size = m.size; frames = [] } → records_of after ≡ record { len = now.len; records = [] }
unfolding records_of
cleared m now after seen is = ap records_of is ∙ ap (λ (x : RecordsModel). let y : RecordsModel = record { len = x.len; records = [] } in y) seen

pub link_fits : (next : Option ℕ) → IfSome next (λ n. n + 1 < 2 ^ 32) → link_of next < 2 ^ 32
link_fits None fits = omega arith
link_fits (Some n) fits = fits

-- a record that was rewritten is still live
pub still_live : (now after : RecordsModel) (n : ℕ) (r : Record) → IsLive now n → after ≡ with_record now n r → IsLive after n
still_live now after n r live is = subst (λ (m : RecordsModel). IsLive m n) (sym is) (with_live now n n r live live)
