-- The rows that records stand for, and what they store, when one record changes.
use Rattle.std.proofs.Common.{◌≡◌, ℕ, zero, suc, ◌+◌, ◌<◌, ◌≤◌, nat_le, true, false, Option, Some, None, unwrap_or, IsSome, is_some, List, [], ◌∷◌, ◌++◌, length, map, take, drop, get_or, set, All, refl, sym, ap, ◌∙◌, subst, arith, append_assoc, ◌⊎◌, inl, inr}
use Rattle.std.specs.List.{sum_by}
use Rattle.std.specs.List.Sorted.{IsPermutation}
use Rattle.std.proofs.lemmas.Bool.{cases_lt}
use Rattle.std.proofs.lemmas.Option.{none-some}
use Rattle.std.proofs.lemmas.List.{set-get_or, append-nil, length-map, map-set, length-take-le, get_or_past, get_or-set_same, map-append}
use Rattle.std.proofs.lemmas.List.Elements.{All-cons, All-head, All-tail, All-take, All-drop}
use Rattle.std.proofs.lemmas.List.Sums.{sum_by-cons, sum_by-take-drop}
use Rattle.std.proofs.lemmas.List.Sorted.{IsPermutation-refl, IsPermutation-sym, IsPermutation-trans, IsPermutation-append_left, IsPermutation-append_right, IsPermutation-append_comm}
use Rattle.std.proofs.lemmas.Grind.{flat_map-append}
use Rattle.vx_arena.specs.Text.{ArenaModel, more}
use Rattle.vx_records.specs.Record.{Record, RecordsModel, AddsRecord, fresh, record_at, record_in}
use Rattle.vx_records.proofs.Changes.{record_found, live_found, live_below}
use Rattle.vx_value.specs.declared.value.Value.{Value}
use Rattle.vx_rows.specs.declared.fields.Extra.{Extra}
use Rattle.vx_rows.specs.declared.fields.Extra.TheVariants as extra
use Rattle.vx_value.specs.declared.value.Kind.{Kind}
use Rattle.vx_value.specs.declared.value.Kind.TheVariants as kind
use Rattle.vx_rows.specs.Layout.{field_at, fields_of}
use Rattle.vx_rows.specs.Body.{Stored, null, bool, int, short, long, raw, all_stored}
use Rattle.vx_rows.specs.Texts.{Fills, Frees, HasColumns, Holds, IsKept, SameValue, text_cost, blocks_in, blocks_of_value, empty_of, value_of, zero_of}
use Rattle.vx_rows.specs.Container.{AddsRow, Gives, Takes, extras_in, kind_in, kinds_in, cell, LiveRow, blocks_of_held, blocks_of_row, held_of, live_in, new_row, row_in, rows_in, stored_by, stored_of, zero_held}
use Rattle.vx_rows.proofs.LayoutLemmas.{field_of_kind}
use Rattle.vx_rows.proofs.Holding.{all_behind, holds_none, holds_permuted, holds_behind}

-- ---- what is stored, in another order

block_swap : (xs ys zs : List Stored) → IsPermutation (xs ++ (ys ++ zs)) (ys ++ (xs ++ zs))
block_swap xs ys zs =
    let both : IsPermutation ((xs ++ ys) ++ zs) ((ys ++ xs) ++ zs) = IsPermutation-append_left zs (xs ++ ys) (ys ++ xs) (IsPermutation-append_comm xs ys) in
    subst (λ (l : List Stored). IsPermutation (xs ++ (ys ++ zs)) l) (append_assoc ys xs zs) (subst (λ (l : List Stored). IsPermutation l ((ys ++ xs) ++ zs)) (append_assoc xs ys zs) both)

-- one record's fields go to the front
pub set_stored : (fields : List Extra) (records : List (Option Record)) (n : ℕ) (o : Option Record) → n < length records → IsPermutation (stored_of fields (set records n o)) (stored_by fields o ++ stored_of fields (set records n None))
set_stored fields [] n o less = absurd (omega (arith, less))
set_stored fields (x ∷ xs) zero o less = IsPermutation-refl (stored_by fields o ++ stored_of fields xs)
set_stored fields (x ∷ xs) (suc n) o less =
    IsPermutation-trans (stored_by fields x ++ stored_of fields (set xs n o)) (stored_by fields x ++ (stored_by fields o ++ stored_of fields (set xs n None))) (stored_by fields o ++ (stored_by fields x ++ stored_of fields (set xs n None)))
    (IsPermutation-append_right (stored_by fields x) (stored_of fields (set xs n o)) (stored_by fields o ++ stored_of fields (set xs n None)) (set_stored fields xs n o (omega (arith, less))))
    (block_swap (stored_by fields x) (stored_by fields o) (stored_of fields (set xs n None)))

set_same : (records : List (Option Record)) (n : ℕ) (o : Option Record) → get_or records n None ≡ o → set records n o ≡ records
set_same records n o is = ap (λ (x : Option Record). set records n x) (sym is) ∙ set-get_or records n None

pub live_stored : (fields : List Extra) (records : List (Option Record)) (n : ℕ) (o : Option Record) → n < length records → get_or records n None ≡ o → IsPermutation (stored_of fields records) (stored_by fields o ++ stored_of fields (set records n None))
live_stored fields records n o less is = subst (λ (l : List (Option Record)). IsPermutation (stored_of fields l) (stored_by fields o ++ stored_of fields (set records n None))) (set_same records n o is) (set_stored fields records n o less)

pub push_stored : (fields : List Extra) (records : List (Option Record)) (r : Record) → IsPermutation (stored_of fields (records ++ Some r ∷ [])) (all_stored fields r.body ++ stored_of fields records)
push_stored fields records r =
    let last : stored_of fields (Some r ∷ []) ≡ all_stored fields r.body = append-nil (all_stored fields r.body) in
    let whole : stored_of fields (records ++ Some r ∷ []) ≡ stored_of fields records ++ all_stored fields r.body = flat_map-append (stored_by fields) records (Some r ∷ []) ∙ ap (λ (l : List Stored). stored_of fields records ++ l) last in
    subst (λ (l : List Stored). IsPermutation l (all_stored fields r.body ++ stored_of fields records)) (sym whole) (IsPermutation-append_comm (stored_of fields records) (all_stored fields r.body))

-- what stands before others is held too
pub holds_before : (a : ArenaModel) (xs ys : List Stored) → Holds a (xs ++ ys) → Holds a xs
holds_before a xs ys h = holds_behind a ys xs (holds_permuted a (xs ++ ys) (ys ++ xs) (IsPermutation-append_comm xs ys) h)

-- ---- rows

pub rows_at : (a : ArenaModel) (columns : ℕ) (fields : List Extra) (records : List (Option Record)) (n : ℕ) → get_or (rows_in a columns fields records) n None ≡ live_in a columns fields (get_or records n None)
rows_at a columns fields [] n = refl
rows_at a columns fields (x ∷ xs) zero = refl
rows_at a columns fields (x ∷ xs) (suc n) = rows_at a columns fields xs n

map_same : {X Y : Type 0} (f g : X → Y) (xs : List X) → All (λ x. f x ≡ g x) xs → map f xs ≡ map g xs
map_same f g [] same = refl
map_same f g (x ∷ xs) same =
    let head : f x ≡ g x = All-head (λ x. f x ≡ g x) x xs same in
    let tail : map f xs ≡ map g xs = map_same f g xs (All-tail (λ x. f x ≡ g x) x xs same) in
    λ k. head k ∷ tail k

pub held_same : (a d : ArenaModel) (s : Stored) → SameValue a d s → held_of d s ≡ held_of a s
held_same a d null same = refl
held_same a d (bool b) same = refl
held_same a d (int n) same = refl
held_same a d (short t) same = refl
held_same a d (long len front place) same = ap cell same
held_same a d (raw b) same = refl

pub cells_same : (a d : ArenaModel) (xs : List Stored) → All (SameValue a d) xs → map (value_of d) xs ≡ map (value_of a) xs
cells_same a d xs same = map_same (value_of d) (value_of a) xs same

pub helds_same : (a d : ArenaModel) (xs : List Stored) → All (SameValue a d) xs → map (held_of d) xs ≡ map (held_of a) xs
helds_same a d xs same = map_same (held_of d) (held_of a) xs (λ k s less. held_same a d (get_or xs k s) (same k s less))

pub row_same : (a d : ArenaModel) (columns : ℕ) (fields : List Extra) (r : Record) → All (SameValue a d) (all_stored fields r.body) → row_in d columns fields r ≡ row_in a columns fields r
row_same a d columns fields r same =
    let xs : List Stored = all_stored fields r.body in
    let cells : map (value_of d) (take columns (all_stored fields r.body)) ≡ map (value_of a) (take columns (all_stored fields r.body)) = cells_same a d (take columns (all_stored fields r.body)) (All-take (SameValue a d) columns (all_stored fields r.body) same) in
    let helds : map (held_of d) (drop columns (all_stored fields r.body)) ≡ map (held_of a) (drop columns (all_stored fields r.body)) = helds_same a d (drop columns (all_stored fields r.body)) (All-drop (SameValue a d) columns (all_stored fields r.body) same) in
    λ k. record { next = r.next; matched = r.matched; cells = cells k; extras = helds k }

pub all_before : (P : Stored → Type 0) (xs ys : List Stored) → All P (xs ++ ys) → All P xs
all_before P [] ys all = λ k d less. absurd (omega (arith, less))
all_before P (x ∷ xs) ys all = All-cons P x xs (All-head P x (xs ++ ys) all) (all_before P xs ys (All-tail P x (xs ++ ys) all))

pub rows_same : (a d : ArenaModel) (columns : ℕ) (fields : List Extra) (records : List (Option Record)) → All (SameValue a d) (stored_of fields records) → rows_in d columns fields records ≡ rows_in a columns fields records
rows_same a d columns fields [] same = refl
rows_same a d columns fields (None ∷ xs) same = ap (λ (l : List (Option LiveRow)). None ∷ l) (rows_same a d columns fields xs same)
rows_same a d columns fields (Some r ∷ xs) same =
    let head : row_in d columns fields r ≡ row_in a columns fields r = row_same a d columns fields r (all_before (SameValue a d) (all_stored fields r.body) (stored_of fields xs) same) in
    let tail : rows_in d columns fields xs ≡ rows_in a columns fields xs = rows_same a d columns fields xs (all_behind (SameValue a d) (all_stored fields r.body) (stored_of fields xs) same) in
    λ k. Some (head k) ∷ tail k

-- ---- a new row

zero_held_is : (d : ArenaModel) (e : Extra) → held_of d (zero_of e) ≡ zero_held e
zero_held_is d (extra.Bytes count) = refl
zero_held_is d (extra.Slot k) = refl

zeros_all : (d : ArenaModel) (fields : List Extra) → map (held_of d) (map zero_of fields) ≡ map zero_held fields
zeros_all d [] = refl
zeros_all d (e ∷ es) =
    let head : held_of d (zero_of e) ≡ zero_held e = zero_held_is d e in
    let tail : map (held_of d) (map zero_of es) ≡ map zero_held es = zeros_all d es in
    λ k. head k ∷ tail k

zeros_held : (d : ArenaModel) (fields : List Extra) (n : ℕ) → map (held_of d) (drop n (map zero_of fields)) ≡ map zero_held (drop n fields)
zeros_held d [] zero = refl
zeros_held d [] (suc n) = refl
zeros_held d (e ∷ es) zero = zeros_all d (e ∷ es)
zeros_held d (e ∷ es) (suc n) = zeros_held d es n

pub new_row_is : (a d : ArenaModel) (columns : ℕ) (fields : List Extra) (body : List ℕ) (cells : List Value) → length cells ≡ columns → Fills a d (empty_of fields) (all_stored fields body) cells → row_in d columns fields (fresh body) ≡ new_row (drop columns fields) cells
new_row_is a d columns fields body cells many f =
    let front : map (value_of d) (take columns (all_stored fields body)) ≡ cells = ap (λ (n : ℕ). map (value_of d) (take n (all_stored fields body))) (sym many) ∙ f.is in
    let rest : drop columns (all_stored fields body) ≡ drop columns (empty_of fields) = ap (λ (n : ℕ). drop n (all_stored fields body)) (sym many) ∙ (f.rest ∙ ap (λ (n : ℕ). drop n (empty_of fields)) many) in
    let zeros : map (held_of d) (drop columns (empty_of fields)) ≡ map zero_held (drop columns fields) = zeros_held d fields columns in
    let back : map (held_of d) (drop columns (all_stored fields body)) ≡ map zero_held (drop columns fields) = ap (map (held_of d)) rest ∙ zeros in
    λ k. record { next = None; matched = false; cells = front k; extras = back k }

some_seen : (a : ArenaModel) (columns : ℕ) (fields : List Extra) (o : Option Record) → IsSome o → is_some (live_in a columns fields o) ≡ true
some_seen a columns fields None some = absurd (cc)
some_seen a columns fields (Some r) some = refl

-- ---- a record added

module _ (a d : ArenaModel) (columns : ℕ) (fields : List Extra) (before after : RecordsModel) (number : ℕ) (body : List ℕ) (cells : List Value) (held : Holds a (stored_of fields before.records)) (f : Fills a d (empty_of fields) (all_stored fields body) cells) (adds : AddsRecord before after number (fresh body)) where
  kept : Holds d (all_stored fields body ++ stored_of fields before.records)
  kept = f.adds.holds (stored_of fields before.records) held

  again : number < length before.records → Holds d (stored_of fields after.records)
  again less =
      let same : set before.records number None ≡ before.records = set_same before.records number None adds.free in
      let moved : IsPermutation (stored_of fields (set before.records number (Some (fresh body)))) (all_stored fields body ++ stored_of fields (set before.records number None)) = set_stored fields before.records number (Some (fresh body)) less in
      let moved_on : IsPermutation (stored_of fields (set before.records number (Some (fresh body)))) (all_stored fields body ++ stored_of fields before.records) = subst (λ (l : List (Option Record)). IsPermutation (stored_of fields (set before.records number (Some (fresh body)))) (all_stored fields body ++ stored_of fields l)) same moved in
      let is : after.records ≡ set before.records number (Some (fresh body)) = ap (λ (m : RecordsModel). m.records) (adds.again less) in
      subst (λ (l : List (Option Record)). Holds d (stored_of fields l)) (sym is) (holds_permuted d (all_stored fields body ++ stored_of fields before.records) (stored_of fields (set before.records number (Some (fresh body)))) (IsPermutation-sym (stored_of fields (set before.records number (Some (fresh body)))) (all_stored fields body ++ stored_of fields before.records) moved_on) kept)

  next : number ≡ length before.records → Holds d (stored_of fields after.records)
  next last =
      let is : after.records ≡ before.records ++ Some (fresh body) ∷ [] = ap (λ (m : RecordsModel). m.records) (adds.next last) in
      subst (λ (l : List (Option Record)). Holds d (stored_of fields l)) (sym is) (holds_permuted d (all_stored fields body ++ stored_of fields before.records) (stored_of fields (before.records ++ Some (fresh body) ∷ [])) (IsPermutation-sym (stored_of fields (before.records ++ Some (fresh body) ∷ [])) (all_stored fields body ++ stored_of fields before.records) (push_stored fields before.records (fresh body))) kept)

  pub added_holds : Holds d (stored_of fields after.records)
  added_holds = by_place (cases_lt number (length before.records))
    where
      by_place : (number < length before.records) ⊎ (length before.records ≤ number) → Holds d (stored_of fields after.records)
      by_place (inl less) = again less
      by_place (inr enough) = next (let near : number ≤ length before.records = adds.near in omega (arith, near, enough))

  unchanged : rows_in d columns fields before.records ≡ rows_in a columns fields before.records
  unchanged = rows_same a d columns fields before.records (f.adds.values (stored_of fields before.records) held)

  new_is : length cells ≡ columns → row_in d columns fields (fresh body) ≡ new_row (drop columns fields) cells
  new_is many = new_row_is a d columns fields body cells many f

  pub added_row : length cells ≡ columns → AddsRow (rows_in a columns fields before.records) (rows_in d columns fields after.records) number (new_row (drop columns fields) cells)
  added_row many = record {
    free = rows_at a columns fields before.records number ∙ ap (live_in a columns fields) adds.free;
    there = rows_at d columns fields after.records number ∙ (ap (live_in d columns fields) adds.there ∙ ap (λ (r : LiveRow). let o : Option LiveRow = Some r in o) (new_row_is a d columns fields body cells many f));
    others = λ n apart.
        let same : rows_in d columns fields before.records ≡ rows_in a columns fields before.records = rows_same a d columns fields before.records (f.adds.values (stored_of fields before.records) held) in
        rows_at d columns fields after.records n ∙ (ap (live_in d columns fields) (adds.others n apart) ∙ (sym (rows_at d columns fields before.records n) ∙ ap (λ (l : List (Option LiveRow)). get_or l n None) same));
    near = let near : number ≤ length before.records = adds.near in omega (arith, near, length-map before.records (live_in a columns fields));
    again = λ less.
        let below : number < length before.records = omega (arith, less, length-map before.records (live_in a columns fields)) in
        ap (λ (m : RecordsModel). rows_in d columns fields m.records) (adds.again below)
        ∙ (map-set (live_in d columns fields) before.records number (Some (fresh body)) ∙ (λ i. set (unchanged i) number (Some (new_is many i))));
    next = λ last.
        let end : number ≡ length before.records = omega (arith, last, length-map before.records (live_in a columns fields)) in
        ap (λ (m : RecordsModel). rows_in d columns fields m.records) (adds.next end)
        ∙ (map-append (live_in d columns fields) before.records (Some (fresh body) ∷ []) ∙ (λ i. unchanged i ++ Some (new_is many i) ∷ []));
    needed = λ last n less.
        let end : number ≡ length before.records = omega (arith, last, length-map before.records (live_in a columns fields)) in
        let below : n < length before.records = omega (arith, less, length-map before.records (live_in a columns fields)) in
        ap is_some (rows_at a columns fields before.records n) ∙ some_seen a columns fields (record_in before n) (adds.needed end n below);
    count = let few : length after.records ≤ length before.records + 1 = adds.count in omega (arith, few, length-map before.records (live_in a columns fields), length-map after.records (live_in d columns fields));
    low = adds.low;
    fits = adds.fits;
  }

-- ---- blocks of a row

pub kept_blocks : (d : ArenaModel) (s : Stored) → IsKept d s → blocks_of_value (value_of d s) ≡ blocks_in s
kept_blocks d null kept = refl
kept_blocks d (bool b) kept = refl
kept_blocks d (int n) kept = refl
kept_blocks d (short t) kept =
    let few : length t ≤ 12 = kept.few in
    let test : nat_le (length t) 12 ≡ true = grind arith in
    rw test refl
kept_blocks d (long len front place) kept =
    let least : 12 < len = kept.least in
    let test : nat_le len 12 ≡ false = grind arith in
    rw (kept.whole, test) refl
kept_blocks d (raw b) kept = refl

pub held_blocks : (d : ArenaModel) (s : Stored) → IsKept d s → blocks_of_held (held_of d s) ≡ blocks_in s
held_blocks d null kept = refl
held_blocks d (bool b) kept = refl
held_blocks d (int n) kept = refl
held_blocks d (short t) kept = kept_blocks d (short t) kept
held_blocks d (long len front place) kept = kept_blocks d (long len front place) kept
held_blocks d (raw b) kept = refl

cells_blocks : (d : ArenaModel) (xs : List Stored) → All (IsKept d) xs → sum_by blocks_of_value (map (value_of d) xs) ≡ sum_by blocks_in xs
cells_blocks d [] kept = refl
cells_blocks d (x ∷ xs) kept =
    let head : blocks_of_value (value_of d x) ≡ blocks_in x = kept_blocks d x (All-head (IsKept d) x xs kept) in
    let tail : sum_by blocks_of_value (map (value_of d) xs) ≡ sum_by blocks_in xs = cells_blocks d xs (All-tail (IsKept d) x xs kept) in
    omega (arith, head, tail, sum_by-cons blocks_in x xs, sum_by-cons blocks_of_value (value_of d x) (map (value_of d) xs))

helds_blocks : (d : ArenaModel) (xs : List Stored) → All (IsKept d) xs → sum_by blocks_of_held (map (held_of d) xs) ≡ sum_by blocks_in xs
helds_blocks d [] kept = refl
helds_blocks d (x ∷ xs) kept =
    let head : blocks_of_held (held_of d x) ≡ blocks_in x = held_blocks d x (All-head (IsKept d) x xs kept) in
    let tail : sum_by blocks_of_held (map (held_of d) xs) ≡ sum_by blocks_in xs = helds_blocks d xs (All-tail (IsKept d) x xs kept) in
    omega (arith, head, tail, sum_by-cons blocks_in x xs, sum_by-cons blocks_of_held (held_of d x) (map (held_of d) xs))

-- a row has as many blocks as its fields
pub row_blocks : (d : ArenaModel) (columns : ℕ) (fields : List Extra) (r : Record) → All (IsKept d) (all_stored fields r.body) → blocks_of_row (row_in d columns fields r) ≡ sum_by blocks_in (all_stored fields r.body)
row_blocks d columns fields r kept =
    let front : sum_by blocks_of_value (map (value_of d) (take columns (all_stored fields r.body))) ≡ sum_by blocks_in (take columns (all_stored fields r.body)) = cells_blocks d (take columns (all_stored fields r.body)) (All-take (IsKept d) columns (all_stored fields r.body) kept) in
    let back : sum_by blocks_of_held (map (held_of d) (drop columns (all_stored fields r.body))) ≡ sum_by blocks_in (drop columns (all_stored fields r.body)) = helds_blocks d (drop columns (all_stored fields r.body)) (All-drop (IsKept d) columns (all_stored fields r.body) kept) in
    omega (arith, front, back, sum_by-take-drop blocks_in (all_stored fields r.body) columns)

-- what adding it took
pub added_takes : (a d : ArenaModel) (columns : ℕ) (fields : List Extra) (body : List ℕ) (cells : List Value) → length cells ≡ columns → Fills a d (empty_of fields) (all_stored fields body) cells → Takes a d (blocks_of_row (new_row (drop columns fields) cells)) (sum_by text_cost cells)
added_takes a d columns fields body cells many f =
    let kept : Holds d (all_stored fields body) = holds_before d (all_stored fields body) [] (f.adds.holds [] (holds_none a)) in
    let blocks : blocks_of_row (row_in d columns fields (fresh body)) ≡ sum_by blocks_in (all_stored fields body) = row_blocks d columns fields (fresh body) kept.each in
    let is : blocks_of_row (row_in d columns fields (fresh body)) ≡ blocks_of_row (new_row (drop columns fields) cells) = ap blocks_of_row (new_row_is a d columns fields body cells many f) in
    record {
      taken = f.adds.taken ∙ ap (λ (n : ℕ). more a.taken n) (sym blocks ∙ is);
      given = f.adds.given;
      pays = f.adds.pays;
    }

-- ---- a live row's record

pub record LiveParts (a : ArenaModel) (columns : ℕ) (fields : List Extra) (records : RecordsModel) (n : ℕ) (row : LiveRow) : Type 0 where
  pub r : Record
  pub there : record_in records n ≡ Some r
  pub at : record_at records n ≡ r
  pub is : row ≡ row_in a columns fields r
  pub below : n < length records.records

some_row : (a : ArenaModel) (columns : ℕ) (fields : List Extra) (records : RecordsModel) (n : ℕ) (row : LiveRow) (o : Option Record) → record_in records n ≡ o → live_in a columns fields o ≡ Some row → LiveParts a columns fields records n row
some_row a columns fields records n row None is same = absurd (cc)
some_row a columns fields records n row (Some r) is same = record {
  r = r;
  there = is;
  at = record_found records n r is;
  is = let e : row_in a columns fields r ≡ row = cc in sym e;
  below = live_below records n (live_found records n r is);
}

pub live_parts : (a : ArenaModel) (columns : ℕ) (fields : List Extra) (records : RecordsModel) (rows : List (Option LiveRow)) (n : ℕ) (row : LiveRow) → rows_in a columns fields records.records ≡ rows → get_or rows n None ≡ Some row → LiveParts a columns fields records n row
live_parts a columns fields records rows n row same is =
    some_row a columns fields records n row (record_in records n) refl (sym (rows_at a columns fields records.records n) ∙ (ap (λ (l : List (Option LiveRow)). get_or l n None) same ∙ is))

-- ---- a record changed, or erased

module _ (a d : ArenaModel) (columns : ℕ) (fields : List Extra) (records : List (Option Record)) (n : ℕ) (r : Record) (less : n < length records) (there : get_or records n None ≡ Some r) (held : Holds a (stored_of fields records)) where
  -- its fields in front
  pub front : Holds a (all_stored fields r.body ++ stored_of fields (set records n None))
  front = holds_permuted a (stored_of fields records) (all_stored fields r.body ++ stored_of fields (set records n None)) (live_stored fields records n (Some r) less there) held

  pub own_held : Holds a (all_stored fields r.body)
  own_held = holds_before a (all_stored fields r.body) (stored_of fields (set records n None)) front

  pub erased_holds : Frees a d (all_stored fields r.body) → Holds d (stored_of fields (set records n None))
  erased_holds freed = freed.holds (stored_of fields (set records n None)) front

  pub erased_rows : Frees a d (all_stored fields r.body) → rows_in d columns fields (set records n None) ≡ set (rows_in a columns fields records) n None
  erased_rows freed = rows_same a d columns fields (set records n None) (freed.values (stored_of fields (set records n None)) front) ∙ map-set (live_in a columns fields) records n None

  pub erased_gives : Frees a d (all_stored fields r.body) → Gives a d (blocks_of_row (row_in a columns fields r))
  erased_gives freed = record {
    taken = freed.taken;
    given = freed.given ∙ ap (λ (k : ℕ). more a.given k) (sym (row_blocks a columns fields r own_held.each));
    pays = freed.pays;
  }

  -- another head, and the same body
  pub changed_holds : (now : Record) → now.body ≡ r.body → Holds a (stored_of fields (set records n (Some now)))
  changed_holds now same =
      let moved : IsPermutation (stored_of fields (set records n (Some now))) (all_stored fields now.body ++ stored_of fields (set records n None)) = set_stored fields records n (Some now) less in
      let before : Holds a (all_stored fields now.body ++ stored_of fields (set records n None)) = subst (λ (b : List ℕ). Holds a (all_stored fields b ++ stored_of fields (set records n None))) (sym same) front in
      holds_permuted a (all_stored fields now.body ++ stored_of fields (set records n None)) (stored_of fields (set records n (Some now))) (IsPermutation-sym (stored_of fields (set records n (Some now))) (all_stored fields now.body ++ stored_of fields (set records n None)) moved) before

pub changed_rows : (a : ArenaModel) (columns : ℕ) (fields : List Extra) (records : List (Option Record)) (n : ℕ) (now : Record) → rows_in a columns fields (set records n (Some now)) ≡ set (rows_in a columns fields records) n (Some (row_in a columns fields now))
changed_rows a columns fields records n now = map-set (live_in a columns fields) records n (Some now)

-- ---- columns and accumulators

pub kinds_back : (kinds : List Kind) (extras : List Extra) → kinds_in (length kinds) (fields_of kinds extras) ≡ kinds
kinds_back [] extras = refl
kinds_back (k ∷ kinds) extras = ap (λ (l : List Kind). k ∷ l) (kinds_back kinds extras)

pub extras_back : (kinds : List Kind) (extras : List Extra) → extras_in (length kinds) (fields_of kinds extras) ≡ extras
extras_back [] extras = refl
extras_back (k ∷ kinds) extras = extras_back kinds extras

pub many_columns : (columns : ℕ) (fields : List Extra) → columns ≤ length fields → length (kinds_in columns fields) ≡ columns
many_columns columns fields few = length-map (take columns fields) kind_in ∙ length-take-le columns fields few

pub has_columns : (columns : ℕ) (fields : List Extra) (kinds : List Kind) → fields ≡ fields_of (kinds_in columns fields) (extras_in columns fields) → columns ≤ length fields → kinds ≡ kinds_in columns fields → HasColumns fields kinds
has_columns columns fields kinds shape few same = record {
  few = let many : length (kinds_in columns fields) ≡ columns = many_columns columns fields few in omega (arith, many, ap length same, few);
  each = λ i less. ap (λ (l : List Extra). field_at l i) (shape ∙ ap (λ (l : List Kind). fields_of l (extras_in columns fields)) (sym same)) ∙ field_of_kind kinds (extras_in columns fields) i kind.Bool less;
}

-- ---- a row found is live

abbrev pub IsThere : List (Option LiveRow) → ℕ → Type 0
IsThere rows n = get_or rows n None ≡ Some (unwrap_or (get_or rows n None) (record { next = None; matched = false; cells = []; extras = [] }))

pub found_there : (rows : List (Option LiveRow)) (n : ℕ) (row : LiveRow) → get_or rows n None ≡ Some row → IsThere rows n
found_there rows n row is = rw is refl

pub set_there : (rows now : List (Option LiveRow)) (n : ℕ) (was row : LiveRow) → get_or rows n None ≡ Some was → now ≡ set rows n (Some row) → IsThere now n
set_there rows now n was row is same = found_there now n row (ap (λ (l : List (Option LiveRow)). get_or l n None) same ∙ get_or-set_same rows n (Some row) None (below (cases_lt n (length rows))))
  where
    below : (n < length rows) ⊎ (length rows ≤ n) → n < length rows
    below (inl less) = less
    below (inr past) = absurd (none-some was (sym (get_or_past rows n None past) ∙ is))
