-- What a change of one frame does to the records and to the list of free numbers.
use Rattle.std.proofs.Common.{inl, inr, ◌≡◌, ◌≢◌, ◌⊎◌, ℕ, ◌+◌, ◌-◌, ◌^◌, ◌<◌, ◌≤◌, Option, Some, None, List, [], ◌∷◌, length, set, map, refl, sym, ap, ◌∙◌, subst, arith}
use Rattle.std.proofs.lemmas.Bool.{cases_eq, cases_lt}
use Rattle.std.proofs.lemmas.Option.{none-some}
use Rattle.std.proofs.lemmas.List.{get_or-map, get_or_past, get_or-set_same, get_or-set_other, length-set, length-map, map-set}
use Rattle.vx_records.specs.Record.{Record, RecordsModel, record_in, record_at, IsLive, with_record, without_record}
use Rattle.vx_records.specs.Frame.{FramesModel, frame_at, with_frame}
use Rattle.vx_records.specs.Head.{link_in, record_of, records_of, IsIn, IsLinked, IsListed}

-- the record of a number is what its frame spells
pub in_frames : (m : FramesModel) (n : ℕ) → n < length m.frames → record_in (records_of m) n ≡ record_of (frame_at m n)
unfolding records_of
in_frames m n lt = get_or-map record_of m.frames n [] None lt

pub past_frames : (m : FramesModel) (n : ℕ) → length m.frames ≤ n → record_in (records_of m) n ≡ None
unfolding records_of
past_frames m n le = get_or_past (map record_of m.frames) n None (let same : length (map record_of m.frames) ≡ length m.frames = length-map m.frames record_of in omega (arith, same, le))

pub length-records : (m : FramesModel) → length (records_of m).records ≡ length m.frames
unfolding records_of
length-records m = length-map m.frames record_of

-- where a live number's frame stands
pub record Lives (m : FramesModel) (n : ℕ) (r : Record) : Type 0 where
  pub there : n < length m.frames
  pub spells : record_of (frame_at m n) ≡ Some r

pub lives : (m : FramesModel) (now : RecordsModel) (n : ℕ) → records_of m ≡ now → IsLive now n → Lives m n (record_at now n)
lives m now n seen live =
    let here : record_in (records_of m) n ≡ Some (record_at now n) = ap (λ (x : RecordsModel). record_in x n) seen ∙ live in
    elim (cases_lt n (length m.frames)) as (λ _. Lives m n (record_at now n)) [
      | inl lt ↦ record { there = lt; spells = sym (in_frames m n lt) ∙ here }
      | inr le ↦ absurd (none-some (record_at now n) (sym (past_frames m n le) ∙ here))
    ]

-- the numbers of a list are free
pub record IsFree (m : FramesModel) (n : ℕ) : Type 0 where
  pub there : n < length m.frames
  pub free : record_of (frame_at m n) ≡ None

pub free_in : (m : FramesModel) (link : ℕ) (list : List ℕ) (k : ℕ) → IsLinked m link list → IsIn list k → IsFree m k
free_in m link [] k linked among = absurd among
free_in m link (n ∷ rest) k linked (inl e) = record { there = subst (λ (x : ℕ). x < length m.frames) (sym e) linked.1; free = subst (λ (x : ℕ). record_of (frame_at m x) ≡ None) (sym e) linked.2 }
free_in m link (n ∷ rest) k linked (inr later) = free_in m (link_in (frame_at m n)) rest k linked.4 later

-- a list stays where the frames of its numbers do
pub record IsSame (m after : FramesModel) (k : ℕ) : Type 0 where
  pub there : k < length after.frames
  pub same : frame_at after k ≡ frame_at m k

pub linked_kept : (m after : FramesModel) (link : ℕ) (list : List ℕ) → ((k : ℕ) → IsIn list k → IsSame m after k) → IsLinked m link list → IsLinked after link list
linked_kept m after link [] same linked = linked
linked_kept m after link (n ∷ rest) same linked =
    let s : IsSame m after n = same n (inl refl) in (
      linked.0,
      s.there,
      ap record_of s.same ∙ linked.2,
      linked.3,
      subst (λ (f : List ℕ). IsLinked after (link_in f) rest) (sym s.same) (linked_kept m after (link_in (frame_at m n)) rest (λ k later. same k (inr later)) linked.4),
    )

not_both : (m : FramesModel) (n k : ℕ) (r : Record) → record_of (frame_at m n) ≡ Some r → record_of (frame_at m k) ≡ None → k ≢ n
not_both m n k r live free = λ e. none-some r (sym free ∙ (ap (λ (x : ℕ). record_of (frame_at m x)) e ∙ live))

-- other bytes in one frame
module _ (m : FramesModel) (n : ℕ) (bytes : List ℕ) (there : n < length m.frames) where
  pub changed : frame_at (with_frame m n bytes) n ≡ bytes
  changed = get_or-set_same m.frames n bytes [] there

  pub other : (k : ℕ) → k ≢ n → frame_at (with_frame m n bytes) k ≡ frame_at m k
  other k ne = get_or-set_other m.frames n k bytes [] ne

  pub same_length : length (with_frame m n bytes).frames ≡ length m.frames
  same_length = length-set m.frames n bytes

  pub same_at : (k : ℕ) → k ≢ n → k < length m.frames → IsSame m (with_frame m n bytes) k
  same_at k ne lt = record { there = (let same : length (with_frame m n bytes).frames ≡ length m.frames = same_length in omega (arith, same, lt)); same = other k ne }

  pub long_kept : length bytes ≡ m.size → ((k : ℕ) → k < length m.frames → length (frame_at m k) ≡ m.size) → (k : ℕ) → k < length (with_frame m n bytes).frames → length (frame_at (with_frame m n bytes) k) ≡ m.size
  long_kept whole long k lt =
      let same : length (with_frame m n bytes).frames ≡ length m.frames = same_length in
      elim (cases_eq k n) as (λ _. length (frame_at (with_frame m n bytes) k) ≡ m.size) [
        | inl e ↦ ap (λ (x : ℕ). length (frame_at (with_frame m n bytes) x)) e ∙ (ap length changed ∙ whole)
        | inr ne ↦ ap length (other k ne) ∙ long k (omega (arith, same, lt))
      ]

  pub few_kept : length m.frames ≤ 2 ^ 31 → length (with_frame m n bytes).frames ≤ 2 ^ 31
  few_kept few = let same : length (with_frame m n bytes).frames ≡ length m.frames = same_length in omega (arith, same, few)

  pub seen_changed : (now : RecordsModel) → records_of m ≡ now → records_of (with_frame m n bytes) ≡ record { len = now.len; records = set now.records n (record_of bytes) }
  unfolding records_of
  seen_changed now seen =
      ap (λ (l : List (Option Record)). let x : RecordsModel = record { len = m.size - 8; records = l } in x) (map-set record_of m.frames n bytes)
      ∙ ap (λ (x : RecordsModel). let y : RecordsModel = record { len = x.len; records = set x.records n (record_of bytes) } in y) seen

-- a record was rewritten
pub record Rewrites (m : FramesModel) (free : ℕ) (now : RecordsModel) (n : ℕ) (r : Record) (after : FramesModel) : Type 0 where
  pub listed : IsListed after free
  pub seen : records_of after ≡ with_record now n r

pub rewrites : (m : FramesModel) (free : ℕ) (now : RecordsModel) (n : ℕ) (r : Record) (bytes : List ℕ) (after : FramesModel) → IsListed m free → records_of m ≡ now → IsLive now n → after ≡ with_frame m n bytes → length bytes ≡ m.size → record_of bytes ≡ Some r → Rewrites m free now n r after
rewrites m free now n r bytes after listed seen live is whole spells =
    let l : Lives m n (record_at now n) = lives m now n seen live in
    let w : Rewrites m free now n r (with_frame m n bytes) = record {
      listed = record {
        least = listed.least;
        most = listed.most;
        few = few_kept m n bytes l.there listed.few;
        long = long_kept m n bytes l.there whole listed.long;
        numbers = listed.numbers;
        linked = linked_kept m (with_frame m n bytes) free listed.numbers (λ k among.
            let f : IsFree m k = free_in m free listed.numbers k listed.linked among in
            same_at m n bytes l.there k (not_both m n k (record_at now n) l.spells f.free) f.there) listed.linked;
        all = λ k lt none. elim (cases_eq k n) as (λ _. IsIn listed.numbers k) [
          | inl e ↦ absurd (none-some r (sym none ∙ (ap (λ (x : ℕ). record_of (frame_at (with_frame m n bytes) x)) e ∙ (ap record_of (changed m n bytes l.there) ∙ spells))))
          | inr ne ↦ listed.all k (let same : length (with_frame m n bytes).frames ≡ length m.frames = same_length m n bytes l.there in omega (arith, same, lt)) (sym (ap record_of (other m n bytes l.there k ne)) ∙ none)
        ];
      };
      seen = seen_changed m n bytes l.there now seen ∙ ap (λ (o : Option Record). let x : RecordsModel = record { len = now.len; records = set now.records n o } in x) spells;
    } in
    subst (Rewrites m free now n r) (sym is) w

-- a number was freed
pub record Releases (m : FramesModel) (now : RecordsModel) (n : ℕ) (after : FramesModel) : Type 0 where
  pub listed : IsListed after (n + 1)
  pub seen : records_of after ≡ without_record now n

pub releases : (m : FramesModel) (free : ℕ) (now : RecordsModel) (n : ℕ) (bytes : List ℕ) (after : FramesModel) → IsListed m free → records_of m ≡ now → IsLive now n → after ≡ with_frame m n bytes → length bytes ≡ m.size → record_of bytes ≡ None → link_in bytes ≡ free → Releases m now n after
releases m free now n bytes after listed seen live is whole spells link =
    let l : Lives m n (record_at now n) = lives m now n seen live in
    let rest : IsLinked (with_frame m n bytes) free listed.numbers = linked_kept m (with_frame m n bytes) free listed.numbers (λ k among.
    let f : IsFree m k = free_in m free listed.numbers k listed.linked among in
    same_at m n bytes l.there k (not_both m n k (record_at now n) l.spells f.free) f.there) listed.linked in
    let here : frame_at (with_frame m n bytes) n ≡ bytes = changed m n bytes l.there in
    let same : length (with_frame m n bytes).frames ≡ length m.frames = same_length m n bytes l.there in
    let w : Releases m now n (with_frame m n bytes) = record {
      listed = record {
        least = listed.least;
        most = listed.most;
        few = few_kept m n bytes l.there listed.few;
        long = long_kept m n bytes l.there whole listed.long;
        numbers = n ∷ listed.numbers;
        linked = (
          refl,
          let lt : n < length m.frames = l.there in omega (arith, same, lt),
          ap record_of here ∙ spells,
          λ among. not_both m n n (record_at now n) l.spells (free_in m free listed.numbers n listed.linked among).free refl,
          subst (λ (x : ℕ). IsLinked (with_frame m n bytes) x listed.numbers) (sym (ap link_in here ∙ link)) rest,
        );
        all = λ k lt none. elim (cases_eq k n) as (λ _. (k ≡ n) ⊎ IsIn listed.numbers k) [
          | inl e ↦ inl e
          | inr ne ↦ inr (listed.all k (omega (arith, same, lt)) (sym (ap record_of (other m n bytes l.there k ne)) ∙ none))
        ];
      };
      seen = seen_changed m n bytes l.there now seen ∙ ap (λ (o : Option Record). let x : RecordsModel = record { len = now.len; records = set now.records n o } in x) spells;
    } in
    subst (Releases m now n) (sym is) w

-- what the first of the list is
pub free_small : (m : FramesModel) (free : ℕ) → IsListed m free → free ≤ 2 ^ 31
free_small m free listed = small m free listed.numbers listed.few listed.linked
  where
    small : (m : FramesModel) (free : ℕ) (list : List ℕ) → length m.frames ≤ 2 ^ 31 → IsLinked m free list → free ≤ 2 ^ 31
    small m free [] few linked = let none : free ≡ 0 = linked in omega (arith, none)
    small m free (n ∷ rest) few linked =
        let is : free ≡ n + 1 = linked.0 in
        let there : n < length m.frames = linked.1 in
        omega (arith, is, there, few)

pub record Starts (m : FramesModel) (free : ℕ) : Type 0 where
  pub there : free - 1 < length m.frames
  pub dead : record_of (frame_at m (free - 1)) ≡ None
  pub rest : List ℕ
  pub alone : IsIn rest (free - 1) → ⊥
  pub linked : IsLinked m (link_in (frame_at m (free - 1))) rest
  pub all : (n : ℕ) → n < length m.frames → record_of (frame_at m n) ≡ None → n ≢ free - 1 → IsIn rest n

pub starts : (m : FramesModel) (free : ℕ) → IsListed m free → free ≢ 0 → Starts m free
starts m free listed ne = first m free listed.numbers listed.linked listed.all ne
  where
    first : (m : FramesModel) (free : ℕ) (list : List ℕ) → IsLinked m free list → ((n : ℕ) → n < length m.frames → record_of (frame_at m n) ≡ None → IsIn list n) → free ≢ 0 → Starts m free
    first m free [] linked all ne = absurd (ne linked)
    first m free (n ∷ rest) linked all ne =
        let is : free ≡ n + 1 = linked.0 in
        let here : n ≡ free - 1 = omega (arith, is) in
        record {
          there = subst (λ (x : ℕ). x < length m.frames) here linked.1;
          dead = subst (λ (x : ℕ). record_of (frame_at m x) ≡ None) here linked.2;
          rest = rest;
          alone = subst (λ (x : ℕ). IsIn rest x → ⊥) here linked.3;
          linked = subst (λ (x : ℕ). IsLinked m (link_in (frame_at m x)) rest) here linked.4;
          all = λ k lt none other. elim (all k lt none) as (λ _. IsIn rest k) [
            | inl e ↦ absurd (other (e ∙ here))
            | inr later ↦ later
          ];
        }

pub no_free : (m : FramesModel) → IsListed m 0 → (n : ℕ) → n < length m.frames → record_of (frame_at m n) ≡ None → ⊥
no_free m listed n lt none = empty m listed.numbers listed.linked n (listed.all n lt none)
  where
    empty : (m : FramesModel) (list : List ℕ) → IsLinked m 0 list → (n : ℕ) → IsIn list n → ⊥
    empty m [] linked n among = among
    empty m (k ∷ rest) linked n among = let is : 0 ≡ k + 1 = linked.0 in omega (arith, is)
