-- Rows added one after another, and erased again: where they stand, and what they take of the arena.
use Rattle.std.proofs.Common.{◌≡◌, ◌≢◌, ℕ, ◌+◌, ◌^◌, ◌<◌, ◌≤◌, zero, suc, false, Some, None, Option, List, [], ◌∷◌, ◌++◌, length, take, All, get_or, set, unwrap_or, refl, sym, ap, ◌∙◌, subst, arith, below_more, get_or-set_same, get_or-set_other}
use Rattle.std.specs.List.{range_with_len, sum_by}
use Rattle.std.proofs.Math.Seq.{get_or-append_seam}
use Rattle.std.proofs.lemmas.List.{get_or_append_left, get_or-take, length-append, length-set, length-take-le, take_all}
use Rattle.std.proofs.lemmas.List.FromFn.{get_or-range_with_len, length-range_with_len}
use Rattle.std.proofs.lemmas.List.Sums.{sum_by-cons, sum_by_more, sum_by_more_le}
use Rattle.vx_arena.specs.Text.{ArenaModel, more}
use Rattle.vx_arena.proofs.Paying.{pays_kept, pays_then, pays_for_more}
use Rattle.vx_vector.specs.Column.{Column}
use Rattle.vx_vector.specs.Batch.{row_of}
use Rattle.vx_rows.specs.Batches.{AddsRows, Erases, blocks_of_rows, cost_of_rows}
use Rattle.vx_rows.specs.Container.{AddsRow, ContainerModel, Gives, IsLive, LiveRow, Takes, TakesBack, blocks_of_row, live, new_row, row_at}
use Rattle.vx_rows.specs.declared.fields.Extra.{Extra}
use Rattle.vx_rows.specs.Texts.{text_cost}
use Rattle.vx_rows.specs.Need.{texts_cost}
use Rattle.vx_rows.proofs.CountLemmas.{Counted, counted_more, counted_none}
use Rattle.vx_rows.proofs.NeedLaw.{cost_by_rows}
use Rattle.vx_rows.proofs.Taking.{more_more}

-- ---- the arena

pub takes_none : (a : ArenaModel) → a.taken < 2 ^ 64 → Takes a a 0 0
takes_none a fits = record { taken = omega (arith, fits); given = refl; pays = pays_kept a.chunks a.chunks refl (λ n l spare. spare) }

pub gives_none : (a : ArenaModel) → a.given < 2 ^ 64 → Gives a a 0
gives_none a fits = record { taken = refl; given = omega (arith, fits); pays = pays_kept a.chunks a.chunks refl (λ n l spare. spare) }

pub takes_then : (a m d : ArenaModel) (x y c e : ℕ) → Takes a m x c → Takes m d y e → Takes a d (x + y) (c + e)
takes_then a m d x y c e one two = record {
  taken = two.taken ∙ (ap (λ (n : ℕ). more n y) one.taken ∙ more_more a.taken x y);
  given = two.given ∙ one.given;
  pays = pays_then a.chunks m.chunks d.chunks c e one.pays two.pays;
}

pub gives_then : (a m d : ArenaModel) (x y : ℕ) → Gives a m x → Gives m d y → Gives a d (x + y)
gives_then a m d x y one two = record {
  taken = two.taken ∙ one.taken;
  given = two.given ∙ (ap (λ (n : ℕ). more n y) one.given ∙ more_more a.given x y);
  pays = pays_then a.chunks m.chunks d.chunks 0 0 one.pays two.pays;
}

-- nothing was taken
pub back_none : (a : ArenaModel) (cost : ℕ) → a.taken < 2 ^ 64 → a.given < 2 ^ 64 → TakesBack a a cost
back_none a cost taken_fits given_fits = record {
  blocks = 0;
  taken = omega (arith, taken_fits);
  given = omega (arith, given_fits);
  pays = pays_for_more a.chunks a.chunks 0 cost (omega arith) (pays_kept a.chunks a.chunks refl (λ n l spare. spare));
}

other_way : (count a b : ℕ) → more (more count a) b ≡ more count (b + a)
other_way count a b = more_more count a b ∙ ap (more count) (omega arith)

-- blocks were taken, some were taken and given back, and those that were taken first were given back
pub back_all : (a m d e : ArenaModel) (x c y most : ℕ) → Takes a m x c → TakesBack m d y → Gives d e x → c + y ≤ most → TakesBack a e most
back_all a m d e x c y most one two three within = record {
  blocks = x + two.blocks;
  taken = three.taken ∙ (two.taken ∙ (ap (λ (n : ℕ). more n two.blocks) one.taken ∙ more_more a.taken x two.blocks));
  given = three.given ∙ (ap (λ (n : ℕ). more n x) (two.given ∙ ap (λ (n : ℕ). more n two.blocks) one.given) ∙ other_way a.given two.blocks x);
  pays = pays_for_more a.chunks e.chunks (c + y + 0) most (omega (arith, within)) (pays_then a.chunks d.chunks e.chunks (c + y) 0 (pays_then a.chunks m.chunks d.chunks c y one.pays two.pays) three.pays);
}

-- ---- sums over the rows so far

at_row : (rows i : ℕ) → i < rows → get_or (range_with_len 0 rows) i 0 ≡ i
at_row rows i less = get_or-range_with_len 0 rows i 0 less ∙ omega arith

pub row_more : (f : ℕ → ℕ) (rows i : ℕ) → i < rows → sum_by f (take (i + 1) (range_with_len 0 rows)) ≡ sum_by f (take i (range_with_len 0 rows)) + f i
row_more f rows i less =
    let many : length (range_with_len 0 rows) ≡ rows = length-range_with_len 0 rows in
    sum_by_more f (range_with_len 0 rows) i 0 (omega (arith, less, many)) ∙ ap (λ (n : ℕ). sum_by f (take i (range_with_len 0 rows)) + f n) (at_row rows i less)

pub row_within : (f : ℕ → ℕ) (rows i : ℕ) → i < rows → sum_by f (take i (range_with_len 0 rows)) + f i ≤ sum_by f (range_with_len 0 rows)
row_within f rows i less =
    let many : length (range_with_len 0 rows) ≡ rows = length-range_with_len 0 rows in
    let whole : sum_by f (take i (range_with_len 0 rows)) + f (get_or (range_with_len 0 rows) i 0) ≤ sum_by f (range_with_len 0 rows) = sum_by_more_le f (range_with_len 0 rows) i 0 (omega (arith, less, many)) in
    subst (λ (n : ℕ). sum_by f (take i (range_with_len 0 rows)) + f n ≤ sum_by f (range_with_len 0 rows)) (at_row rows i less) whole

pub all_rows : (f : ℕ → ℕ) (rows i : ℕ) → rows ≤ i → sum_by f (take i (range_with_len 0 rows)) ≡ sum_by f (range_with_len 0 rows)
all_rows f rows i past =
    let many : length (range_with_len 0 rows) ≡ rows = length-range_with_len 0 rows in
    ap (sum_by f) (take_all i (range_with_len 0 rows) (omega (arith, past, many)))

-- ---- one row more

pub adds_none : (columns : List Column) (c : ContainerModel) (numbers : List ℕ) → numbers ≡ [] → AddsRows columns 0 c c numbers
adds_none columns c numbers none = record {
  many = ap length none;
  free = λ k less. absurd (omega (arith, less));
  there = λ k less. absurd (omega (arith, less));
  apart = λ j k before less. absurd (omega (arith, less));
  others = λ n apart. refl;
  low = λ k less. absurd (omega (arith, less));
  rows = (counted_none c.rows).rows;
  all = (counted_none c.rows).all;
}

module _ (columns : List Column) (i number : ℕ) (before now after : ContainerModel) (numbers all : List ℕ) (adds : AddsRows columns i before now numbers) (one : AddsRow now.rows after.rows number (new_row now.extras (row_of columns i))) (extras : now.extras ≡ before.extras) (pushed : all ≡ numbers ++ number ∷ []) where
  old_at : (k : ℕ) → k < i → get_or all k 0 ≡ get_or numbers k 0
  old_at k less = ap (λ (l : List ℕ). get_or l k 0) pushed ∙ get_or_append_left numbers (number ∷ []) 0 k (let many : length numbers ≡ i = adds.many in omega (arith, less, many))

  new_at : get_or all i 0 ≡ number
  new_at = ap (λ (l : List ℕ). get_or l i 0) pushed ∙ (ap (λ (k : ℕ). get_or (numbers ++ number ∷ []) k 0) (sym adds.many) ∙ get_or-append_seam numbers number [] 0)

  -- the number was free, so no row so far stands there
  fresh : (k : ℕ) → k < i → get_or numbers k 0 ≢ number
  fresh k less e =
      let is : row_at now (get_or numbers k 0) ≡ Some (new_row before.extras (row_of columns k)) = adds.there k less in
      let none : row_at now (get_or numbers k 0) ≡ None = ap (row_at now) e ∙ one.free in
      let no : ⊥ = cc in no

  free_before : row_at before number ≡ None
  free_before = sym (adds.others number (λ k less e. fresh k less (sym e))) ∙ one.free

  counted : Counted before.rows after.rows (i + 1)
  counted = counted_more before.rows now.rows after.rows i number (new_row now.extras (row_of columns i)) (record { rows = adds.rows; all = adds.all }) one

  pub adds_more : AddsRows columns (i + 1) before after all
  adds_more = record {
    many = let was : length numbers ≡ i = adds.many in let now_is : length all ≡ length (numbers ++ number ∷ []) = ap length pushed in let sum : length (numbers ++ number ∷ []) ≡ length numbers + 1 = length-append numbers (number ∷ []) in omega (arith, was, now_is, sum);
    free = below_more _ _ (λ k less. ap (row_at before) (old_at k less) ∙ adds.free k less) (ap (row_at before) new_at ∙ free_before);
    there = below_more _ _
        (λ k less. ap (row_at after) (old_at k less) ∙ (one.others (get_or numbers k 0) (fresh k less) ∙ adds.there k less))
        (ap (row_at after) new_at ∙ (one.there ∙ ap (λ (e : List Extra). Some (new_row e (row_of columns i))) extras));
    apart = λ j k less lt. below_more (λ (q : ℕ). j < q → get_or all j 0 ≢ get_or all q 0) i
        (λ q lt low e. adds.apart j q low lt (sym (old_at j (omega (arith, low, lt))) ∙ (e ∙ old_at q lt)))
        (λ low e. fresh j low (sym (old_at j low) ∙ (e ∙ new_at))) k lt less;
    others = λ n not_there. one.others n (λ e. not_there i (omega arith) (e ∙ sym new_at)) ∙ adds.others n (λ k less e. not_there k (omega (arith, less)) (e ∙ sym (old_at k less)));
    low = below_more _ _ (λ k less. subst (λ (n : ℕ). n < 2 ^ 31) (sym (old_at k less)) (adds.low k less)) (subst (λ (n : ℕ). n < 2 ^ 31) (sym new_at) one.low);
    rows = counted.rows;
    all = counted.all;
  }

-- ---- one row less

pub erases_none : (numbers : List ℕ) (c : ContainerModel) → Erases numbers 0 c c
erases_none numbers c = record { gone = λ k less. absurd (omega (arith, less)); others = λ n apart. refl; many = refl }

abbrev no_row : LiveRow
no_row = record { next = None; matched = false; cells = []; extras = [] }

there_below : (rows : List (Option LiveRow)) (n : ℕ) (r : LiveRow) → get_or rows n None ≡ Some r → n < length rows
there_below [] n r is = absurd (cc)
there_below (x ∷ rows) zero r is = omega arith
there_below (x ∷ rows) (suc n) r is = let below : n < length rows = there_below rows n r is in omega (arith, below)

module _ (i : ℕ) (before now after : ContainerModel) (numbers : List ℕ) (lives : (k : ℕ) → k < length numbers → IsLive before (get_or numbers k 0)) (apart : (j k : ℕ) → j < k → k < length numbers → get_or numbers j 0 ≢ get_or numbers k 0) (less : i < length numbers) (erases : Erases numbers i before now) where
  -- the next one has the row that it had
  pub left_at : row_at now (get_or numbers i 0) ≡ row_at before (get_or numbers i 0)
  left_at = erases.others (get_or numbers i 0) (λ k lt e. apart k i lt less (sym e))

  pub left_live : live now (get_or numbers i 0) ≡ live before (get_or numbers i 0)
  left_live = ap (λ (o : Option LiveRow). unwrap_or o no_row) left_at

  pub left_there : IsLive now (get_or numbers i 0)
  left_there = left_at ∙ (lives i less ∙ ap (λ (r : LiveRow). Some r) (sym left_live))

  pub erases_more : after.rows ≡ set now.rows (get_or numbers i 0) None → Erases numbers (i + 1) before after
  erases_more is = record {
    gone = below_more _ _
        (λ k lt. ap (λ (l : List (Option LiveRow)). get_or l (get_or numbers k 0) None) is ∙ (get_or-set_other now.rows (get_or numbers i 0) (get_or numbers k 0) None None (apart k i lt less) ∙ erases.gone k lt))
        (ap (λ (l : List (Option LiveRow)). get_or l (get_or numbers i 0) None) is ∙ get_or-set_same now.rows (get_or numbers i 0) None None (there_below now.rows (get_or numbers i 0) (live now (get_or numbers i 0)) left_there));
    others = λ n not_there. ap (λ (l : List (Option LiveRow)). get_or l n None) is ∙ (get_or-set_other now.rows (get_or numbers i 0) n None None (not_there i (omega arith)) ∙ erases.others n (λ k lt. not_there k (omega (arith, lt))));
    many = ap length is ∙ (length-set now.rows (get_or numbers i 0) None ∙ erases.many);
  }

  blocks_more : sum_by (λ n. blocks_of_row (live before n)) (take (i + 1) numbers) ≡ sum_by (λ n. blocks_of_row (live before n)) (take i numbers) + blocks_of_row (live now (get_or numbers i 0))
  blocks_more = sum_by_more (λ n. blocks_of_row (live before n)) numbers i 0 less ∙ ap (λ (r : LiveRow). sum_by (λ n. blocks_of_row (live before n)) (take i numbers) + blocks_of_row r) (sym left_live)

  pub gives_more : Gives before.arena now.arena (sum_by (λ n. blocks_of_row (live before n)) (take i numbers)) → Gives now.arena after.arena (blocks_of_row (live now (get_or numbers i 0))) → Gives before.arena after.arena (sum_by (λ n. blocks_of_row (live before n)) (take (i + 1) numbers))
  gives_more one two = subst (λ (n : ℕ). Gives before.arena after.arena n) (sym blocks_more) (gives_then before.arena now.arena after.arena (sum_by (λ n. blocks_of_row (live before n)) (take i numbers)) (blocks_of_row (live now (get_or numbers i 0))) one two)

-- ---- what a front of a batch takes

module _ (extras : List Extra) (columns : List Column) (rows i : ℕ) where
  -- blocks and their bytes, of one row and of the rows before it
  abbrev blocks_at : ℕ → ℕ
  blocks_at at = blocks_of_row (new_row extras (row_of columns at))

  abbrev cost_at : ℕ → ℕ
  cost_at at = sum_by text_cost (row_of columns at)

  pub takes_more : (own : List Extra) (a m d : ArenaModel) → i < rows → own ≡ extras → Takes a m (blocks_of_rows extras columns (take i (range_with_len 0 rows))) (cost_of_rows columns (take i (range_with_len 0 rows))) → Takes m d (blocks_of_row (new_row own (row_of columns i))) (sum_by text_cost (row_of columns i)) → Takes a d (blocks_of_rows extras columns (take (i + 1) (range_with_len 0 rows))) (cost_of_rows columns (take (i + 1) (range_with_len 0 rows)))
  takes_more own a m d less same one two =
      let next : Takes m d (blocks_of_row (new_row extras (row_of columns i))) (sum_by text_cost (row_of columns i)) = subst (λ (e : List Extra). Takes m d (blocks_of_row (new_row e (row_of columns i))) (sum_by text_cost (row_of columns i))) same two in
      let both : Takes a d (blocks_of_rows extras columns (take i (range_with_len 0 rows)) + blocks_of_row (new_row extras (row_of columns i))) (cost_of_rows columns (take i (range_with_len 0 rows)) + sum_by text_cost (row_of columns i)) =
      takes_then a m d (blocks_of_rows extras columns (take i (range_with_len 0 rows))) (blocks_of_row (new_row extras (row_of columns i))) (cost_of_rows columns (take i (range_with_len 0 rows))) (sum_by text_cost (row_of columns i)) one next in
      subst (λ (n : ℕ). Takes a d n (cost_of_rows columns (take (i + 1) (range_with_len 0 rows)))) (sym (row_more blocks_at rows i less))
      (subst (λ (n : ℕ). Takes a d (blocks_of_rows extras columns (take i (range_with_len 0 rows)) + blocks_of_row (new_row extras (row_of columns i))) n) (sym (row_more cost_at rows i less)) both)

  -- all of them
  pub takes_all : (a d : ArenaModel) → rows ≤ i → All (λ c. length c.values ≡ rows) columns → Takes a d (blocks_of_rows extras columns (take i (range_with_len 0 rows))) (cost_of_rows columns (take i (range_with_len 0 rows))) → Takes a d (blocks_of_rows extras columns (range_with_len 0 rows)) (texts_cost columns)
  takes_all a d past even one =
      subst (λ (n : ℕ). Takes a d n (texts_cost columns)) (all_rows blocks_at rows i past)
      (subst (λ (n : ℕ). Takes a d (blocks_of_rows extras columns (take i (range_with_len 0 rows))) n) (all_rows cost_at rows i past ∙ cost_by_rows columns rows even) one)

  pub cost_within : i < rows → All (λ c. length c.values ≡ rows) columns → cost_of_rows columns (take i (range_with_len 0 rows)) + sum_by text_cost (row_of columns i) ≤ texts_cost columns
  cost_within less even =
      subst (λ (n : ℕ). cost_of_rows columns (take i (range_with_len 0 rows)) + sum_by text_cost (row_of columns i) ≤ n) (cost_by_rows columns rows even) (row_within cost_at rows i less)

-- ---- what rows have that are erased

same_sums : (f g : ℕ → ℕ) (xs ys : List ℕ) → length xs ≡ length ys → ((k : ℕ) → k < length xs → f (get_or xs k 0) ≡ g (get_or ys k 0)) → sum_by f xs ≡ sum_by g ys
same_sums f g [] [] even same = refl
same_sums f g [] (y ∷ ys) even same = absurd (omega (arith, even))
same_sums f g (x ∷ xs) [] even same = absurd (omega (arith, even))
same_sums f g (x ∷ xs) (y ∷ ys) even same =
    let first : f x ≡ g y = same 0 (omega arith) in
    let rest : sum_by f xs ≡ sum_by g ys = same_sums f g xs ys (omega (arith, even)) (λ k less. same (suc k) (omega (arith, less))) in
    let left : sum_by f (x ∷ xs) ≡ f x + sum_by f xs = sum_by-cons f x xs in
    let right : sum_by g (y ∷ ys) ≡ g y + sum_by g ys = sum_by-cons g y ys in
    omega (arith, first, rest, left, right)

-- the rows that were added have the blocks that were taken for them
pub added_blocks : (columns : List Column) (rows i : ℕ) (before now after : ContainerModel) (numbers : List ℕ) → i ≤ rows → AddsRows columns i before now numbers → after.rows ≡ now.rows → sum_by (λ n. blocks_of_row (live after n)) numbers ≡ blocks_of_rows before.extras columns (take i (range_with_len 0 rows))
added_blocks columns rows i before now after numbers less adds unchanged =
    let many : length numbers ≡ i = adds.many in
    let all : length (range_with_len 0 rows) ≡ rows = length-range_with_len 0 rows in
    let front : length (take i (range_with_len 0 rows)) ≡ i = length-take-le i (range_with_len 0 rows) (omega (arith, less, all)) in
    same_sums (λ n. blocks_of_row (live after n)) (λ at. blocks_of_row (new_row before.extras (row_of columns at))) numbers (take i (range_with_len 0 rows)) (omega (arith, many, front)) (λ k lt.
    let own : k < i = omega (arith, lt, many) in
    let at : get_or (take i (range_with_len 0 rows)) k 0 ≡ k = get_or-take i (range_with_len 0 rows) k 0 own ∙ at_row rows k (omega (arith, own, less)) in
    let is : live after (get_or numbers k 0) ≡ new_row before.extras (row_of columns k) = ap (λ (l : List (Option LiveRow)). unwrap_or (get_or l (get_or numbers k 0) None) no_row) unchanged ∙ ap (λ (o : Option LiveRow). unwrap_or o no_row) (adds.there k own) in
    ap blocks_of_row is ∙ ap (λ (n : ℕ). blocks_of_row (new_row before.extras (row_of columns n))) (sym at))
