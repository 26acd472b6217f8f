-- An accumulator of a live row changed: what is held, and what rows are seen.
use Rattle.std.proofs.Common.{◌≡◌, ◌≢◌, ℕ, ◌+◌, ◌<◌, ◌≤◌, ◌⊎◌, inl, inr, Option, Some, None, List, ◌∷◌, ◌++◌, length, map, take, drop, get_or, set, All, sym, ap, ◌∙◌, subst, arith}
use Rattle.std.proofs.lemmas.Bool.{cases_eq}
use Rattle.std.proofs.lemmas.List.{drop-set-add, ext_get_or, get_or-drop, get_or-map, get_or-set_other, get_or-set_same, get_or-take, length-drop, length-map, length-set, length-take, map-set, set-set, take-set-le}
use Rattle.std.proofs.lemmas.List.Elements.{All-from_get_or}
use Rattle.std.proofs.lemmas.List.Sorted.{IsPermutation-sym}
use Rattle.vx_arena.specs.Text.{ArenaModel}
use Rattle.vx_records.specs.Record.{Record}
use Rattle.vx_value.specs.declared.value.Value.TheVariants as value
use Rattle.vx_rows.specs.declared.fields.Extra.{Extra}
use Rattle.vx_rows.specs.Body.{Stored, null, all_stored}
use Rattle.vx_rows.specs.Texts.{Holds, SameValue, value_of}
use Rattle.vx_rows.specs.Container.{cell, held_of, live_in, row_in, rows_in, stored_of, with_held}
use Rattle.vx_rows.proofs.BodyLemmas.{stored_many}
use Rattle.vx_rows.proofs.Holding.{all_behind, holds_permuted}
use Rattle.vx_rows.proofs.RowLemmas.{all_before, cells_same, front, held_same, rows_same, set_stored}
use Rattle.vx_rows.proofs.Taking.{same_then, set_front}

module _ (a m d : ArenaModel) (columns : ℕ) (fields : List Extra) (records : List (Option Record)) (n : ℕ) (r now : Record) (which : ℕ) (s : Stored) (there_less : n < length records) (there : get_or records n None ≡ Some r) (held : Holds a (stored_of fields records)) (inside : columns + which < length fields) (head : (now.next ≡ r.next) × (now.matched ≡ r.matched)) (put : all_stored fields now.body ≡ set (all_stored fields r.body) (columns + which) s) (adds : (others : List Stored) → Holds a others → Holds m (s ∷ others)) (adds_same : (others : List Stored) → Holds a others → All (SameValue a m) others) (frees : (others : List Stored) → Holds m (get_or (all_stored fields r.body) (columns + which) null ∷ others) → Holds d others) (frees_same : (others : List Stored) → Holds m (get_or (all_stored fields r.body) (columns + which) null ∷ others) → All (SameValue m d) others) where
  xs : List Stored
  xs = all_stored fields r.body

  rest : List Stored
  rest = stored_of fields (set records n None)

  many : length (all_stored fields r.body) ≡ length fields
  many = stored_many fields r.body

  before : Holds a (all_stored fields r.body ++ stored_of fields (set records n None))
  before = front a a columns fields records n r there_less there held

  moved : Holds m (get_or (all_stored fields r.body) (columns + which) null ∷ (set (all_stored fields r.body) (columns + which) s ++ stored_of fields (set records n None)))
  moved = holds_permuted m (s ∷ (all_stored fields r.body ++ stored_of fields (set records n None))) (get_or (all_stored fields r.body) (columns + which) null ∷ (set (all_stored fields r.body) (columns + which) s ++ stored_of fields (set records n None)))
      (set_front (all_stored fields r.body) (columns + which) s (stored_of fields (set records n None)) (omega (arith, inside, many)))
      (adds (all_stored fields r.body ++ stored_of fields (set records n None)) before)

  pub put_holds : Holds d (stored_of fields (set records n (Some now)))
  put_holds =
      let after : Holds d (set (all_stored fields r.body) (columns + which) s ++ stored_of fields (set records n None)) = frees (set (all_stored fields r.body) (columns + which) s ++ stored_of fields (set records n None)) moved in
      let own : Holds d (all_stored fields now.body ++ stored_of fields (set records n None)) = subst (λ (l : List Stored). Holds d (l ++ stored_of fields (set records n None))) (sym put) after in
      holds_permuted d (all_stored fields now.body ++ stored_of fields (set records n None)) (stored_of fields (set records n (Some now)))
      (IsPermutation-sym (stored_of fields (set records n (Some now))) (all_stored fields now.body ++ stored_of fields (set records n None)) (set_stored fields records n (Some now) there_less)) own

  same_first : All (SameValue a m) (all_stored fields r.body ++ stored_of fields (set records n None))
  same_first = adds_same (all_stored fields r.body ++ stored_of fields (set records n None)) before

  same_second : All (SameValue m d) (set (all_stored fields r.body) (columns + which) s ++ stored_of fields (set records n None))
  same_second = frees_same (set (all_stored fields r.body) (columns + which) s ++ stored_of fields (set records n None)) moved

  same_rest : All (SameValue a d) (stored_of fields (set records n None))
  same_rest = same_then a m d (stored_of fields (set records n None)) (all_behind (SameValue a m) (all_stored fields r.body) (stored_of fields (set records n None)) same_first) (all_behind (SameValue m d) (set (all_stored fields r.body) (columns + which) s) (stored_of fields (set records n None)) same_second)

  pub same_own : SameValue m d s
  same_own =
      let two : SameValue m d (get_or (set (all_stored fields r.body) (columns + which) s) (columns + which) null) = all_before (SameValue m d) (set (all_stored fields r.body) (columns + which) s) (stored_of fields (set records n None)) same_second (columns + which) null (omega (arith, inside, many, length-set (all_stored fields r.body) (columns + which) s)) in
      subst (λ (x : Stored). SameValue m d x) (get_or-set_same (all_stored fields r.body) (columns + which) s null (omega (arith, inside, many))) two

  -- each other field of the row means what it did
  same_beside : (k : ℕ) → k < length fields → k ≢ columns + which → SameValue a d (get_or (all_stored fields r.body) k null)
  same_beside k less apart =
      let one : SameValue a m (get_or (all_stored fields r.body) k null) = all_before (SameValue a m) (all_stored fields r.body) (stored_of fields (set records n None)) same_first k null (omega (arith, less, many)) in
      let two : SameValue m d (get_or (set (all_stored fields r.body) (columns + which) s) k null) = all_before (SameValue m d) (set (all_stored fields r.body) (columns + which) s) (stored_of fields (set records n None)) same_second k null (omega (arith, less, many, length-set (all_stored fields r.body) (columns + which) s)) in
      subst (λ (x : Stored). SameValue m d x) (get_or-set_other (all_stored fields r.body) (columns + which) k s null apart) two ∙ one

  put_cells : map (value_of d) (take columns (all_stored fields now.body)) ≡ map (value_of a) (take columns (all_stored fields r.body))
  put_cells =
      let front_is : take columns (all_stored fields now.body) ≡ take columns (all_stored fields r.body) = ap (take columns) put ∙ take-set-le columns (all_stored fields r.body) (columns + which) s (omega arith) in
      let same : All (SameValue a d) (take columns (all_stored fields r.body)) = All-from_get_or (SameValue a d) (take columns (all_stored fields r.body)) null (λ k less.
      let below : length (take columns (all_stored fields r.body)) ≤ columns = omega (arith, length-take columns (all_stored fields r.body)) in
      subst (λ (x : Stored). SameValue a d x) (sym (get_or-take columns (all_stored fields r.body) k null (omega (arith, less, below)))) (same_beside k (omega (arith, less, below, inside)) (λ (e : k ≡ columns + which). omega (arith, e, less, below)))) in
      ap (map (value_of d)) front_is ∙ cells_same a d (take columns (all_stored fields r.body)) same

  put_extras : map (held_of d) (drop columns (all_stored fields now.body)) ≡ set (map (held_of a) (drop columns (all_stored fields r.body))) which (held_of d s)
  put_extras =
      let behind_is : drop columns (all_stored fields now.body) ≡ set (drop columns (all_stored fields r.body)) which s = ap (drop columns) put ∙ drop-set-add columns (all_stored fields r.body) which s in
      let there_is : map (held_of d) (drop columns (all_stored fields now.body)) ≡ set (map (held_of d) (drop columns (all_stored fields r.body))) which (held_of d s) = ap (map (held_of d)) behind_is ∙ map-set (held_of d) (drop columns (all_stored fields r.body)) which s in
      there_is ∙ ext_get_or (cell value.Null) (set (map (held_of d) (drop columns (all_stored fields r.body))) which (held_of d s)) (set (map (held_of a) (drop columns (all_stored fields r.body))) which (held_of d s)) lengths (λ k less. each k less (cases_eq k which))
    where
      long_d : length (map (held_of d) (drop columns (all_stored fields r.body))) ≡ length (drop columns (all_stored fields r.body))
      long_d = length-map (drop columns (all_stored fields r.body)) (held_of d)

      long_a : length (map (held_of a) (drop columns (all_stored fields r.body))) ≡ length (drop columns (all_stored fields r.body))
      long_a = length-map (drop columns (all_stored fields r.body)) (held_of a)

      lengths : length (set (map (held_of d) (drop columns (all_stored fields r.body))) which (held_of d s)) ≡ length (set (map (held_of a) (drop columns (all_stored fields r.body))) which (held_of d s))
      lengths = length-set (map (held_of d) (drop columns (all_stored fields r.body))) which (held_of d s) ∙ (long_d ∙ (sym long_a ∙ sym (length-set (map (held_of a) (drop columns (all_stored fields r.body))) which (held_of d s))))

      each : (k : ℕ) → k < length (set (map (held_of d) (drop columns (all_stored fields r.body))) which (held_of d s)) → (k ≡ which) ⊎ (k ≢ which) → get_or (set (map (held_of d) (drop columns (all_stored fields r.body))) which (held_of d s)) k (cell value.Null) ≡ get_or (set (map (held_of a) (drop columns (all_stored fields r.body))) which (held_of d s)) k (cell value.Null)
      each k less (inl e) =
          let at : k < length (drop columns (all_stored fields r.body)) = omega (arith, less, long_d, length-set (map (held_of d) (drop columns (all_stored fields r.body))) which (held_of d s)) in
          ap (λ (x : ℕ). get_or (set (map (held_of d) (drop columns (all_stored fields r.body))) which (held_of d s)) x (cell value.Null)) e
          ∙ (get_or-set_same (map (held_of d) (drop columns (all_stored fields r.body))) which (held_of d s) (cell value.Null) (omega (arith, at, e, long_d))
          ∙ (sym (get_or-set_same (map (held_of a) (drop columns (all_stored fields r.body))) which (held_of d s) (cell value.Null) (omega (arith, at, e, long_a)))
          ∙ sym (ap (λ (x : ℕ). get_or (set (map (held_of a) (drop columns (all_stored fields r.body))) which (held_of d s)) x (cell value.Null)) e)))
      each k less (inr apart) =
          let at : k < length (drop columns (all_stored fields r.body)) = omega (arith, less, long_d, length-set (map (held_of d) (drop columns (all_stored fields r.body))) which (held_of d s)) in
          let same : SameValue a d (get_or (all_stored fields r.body) (columns + k) null) = same_beside (columns + k) (omega (arith, at, many, length-drop columns (all_stored fields r.body))) (λ (e : columns + k ≡ columns + which). apart (omega (arith, e))) in
          let same_there : SameValue a d (get_or (drop columns (all_stored fields r.body)) k null) = subst (λ (x : Stored). SameValue a d x) (sym (get_or-drop columns (all_stored fields r.body) k null)) same in
          get_or-set_other (map (held_of d) (drop columns (all_stored fields r.body))) which k (held_of d s) (cell value.Null) apart
          ∙ (get_or-map (held_of d) (drop columns (all_stored fields r.body)) k null (cell value.Null) at
          ∙ (held_same a d (get_or (drop columns (all_stored fields r.body)) k null) same_there
          ∙ (sym (get_or-map (held_of a) (drop columns (all_stored fields r.body)) k null (cell value.Null) at)
          ∙ sym (get_or-set_other (map (held_of a) (drop columns (all_stored fields r.body))) which k (held_of d s) (cell value.Null) apart))))

  put_row : row_in d columns fields now ≡ with_held (row_in a columns fields r) which (held_of d s)
  put_row =
      let next : now.next ≡ r.next = head.0 in
      let matched : now.matched ≡ r.matched = head.1 in
      λ i. record { next = next i; matched = matched i; cells = put_cells i; extras = put_extras i }

  pub put_rows : rows_in d columns fields (set records n (Some now)) ≡ set (rows_in a columns fields records) n (Some (with_held (row_in a columns fields r) which (held_of d s)))
  put_rows =
      let twice : set records n (Some now) ≡ set (set records n None) n (Some now) = sym (set-set records n None (Some now)) in
      let others : rows_in d columns fields (set records n None) ≡ set (rows_in a columns fields records) n None = rows_same a d columns fields (set records n None) same_rest ∙ map-set (live_in a columns fields) records n None in
      ap (rows_in d columns fields) twice
      ∙ (map-set (live_in d columns fields) (set records n None) n (Some now)
      ∙ ((λ i. set (others i) n (Some (put_row i)))
      ∙ set-set (rows_in a columns fields records) n None (Some (with_held (row_in a columns fields r) which (held_of d s)))))
