-- Lists made from a function of the row, and what a wrap, a copy and a selection make of them.
use Rattle.std.proofs.Common.{◌≡◌, ◌∙◌, ℕ, zero, suc, ◌<◌, Bool, true, false, if◌then◌else◌, List, [], ◌∷◌, map, length, get_or, All, Option, None, Some, Ok, Err, refl, ap, sym, subst, arith, replicate}
use Rattle.std.specs.Prelude.{Result, IfOk}
use Rattle.std.specs.List.{range_with_len}
use Rattle.std.proofs.lemmas.List.Elements.{All-map}
use Rattle.std.proofs.lemmas.List.{get_or-map, length-map, get_or-replicate, length-replicate, get_or_default}
use Rattle.std.proofs.lemmas.List.FromFn.{get_or-map-range_with_len, length-map-range_with_len, length-range_with_len, fill_by_all}
use Rattle.vx_value.specs.declared.value.Value.{Value}
use Rattle.vx_value.specs.declared.value.Value.TheVariants.{Null}
use Rattle.vx_value.specs.Row.{value_at}
use Rattle.vx_vector.specs.Lane.{Lane, value_of, absent}
use Rattle.vx_vector.specs.Lanes.{kind_of, rows_of, lane_at, lane_or_null, AreLanes}
use Rattle.vx_vector.specs.Index.{IsIn, unless, through}
use Rattle.vx_vector.specs.Column.{wrapped, value_or_null}
use Rattle.vx_vector.specs.declared.lanes.Lanes.{Lanes}
use Rattle.vx_vector.proofs.SelectionLemmas.{own_place}

-- ---- lists made from a function of the row

pub range_same : {X : Type 0} (f g : ℕ → X) (m n : ℕ) (d : X) → m ≡ n → ((k : ℕ) → k < n → f k ≡ g k) → map f (range_with_len 0 m) ≡ map g (range_with_len 0 n)
range_same f g m n d e same =
    fill_by_all g (map f (range_with_len 0 m)) n d (length-map-range_with_len f 0 m ∙ e)
    (λ (k : ℕ) (h : k < n). get_or-map-range_with_len f 0 m k k d (omega arith) (omega arith) ∙ same k h)

pub range_is : {X : Type 0} (f : ℕ → X) (xs : List X) (n : ℕ) (d : X) → n ≡ length xs → ((k : ℕ) → k < length xs → f k ≡ get_or xs k d) → map f (range_with_len 0 n) ≡ xs
range_is f xs n d e same = sym (fill_by_all f xs n d (sym e) (λ (k : ℕ) (h : k < n). sym (same k (omega arith))))

pub value_at_range : (f : ℕ → Value) (n k : ℕ) → k < n → value_at (map f (range_with_len 0 n)) k ≡ f k
value_at_range f n k h = get_or-map-range_with_len f 0 n k k Null h (omega arith)

-- ---- wraps

length_wrapped : (values : List Value) (indices : List ℕ) (nulls : List Bool) → length nulls ≡ length indices → length (wrapped values indices nulls) ≡ length indices
length_wrapped values [] [] e = refl
length_wrapped values [] (n ∷ nulls) e = refl
length_wrapped values (i ∷ indices) [] e = absurd (omega arith)
length_wrapped values (i ∷ indices) (n ∷ nulls) e = ap suc (length_wrapped values indices nulls (omega arith))

wrapped_at : (values : List Value) (indices : List ℕ) (nulls : List Bool) (k : ℕ) → length nulls ≡ length indices → k < length indices → get_or (wrapped values indices nulls) k Null ≡ (if get_or nulls k true then Null else value_at values (get_or indices k 0))
wrapped_at values [] nulls k e h = absurd (omega arith)
wrapped_at values (i ∷ indices) [] k e h = absurd (omega arith)
wrapped_at values (i ∷ indices) (n ∷ nulls) zero e h = refl
wrapped_at values (i ∷ indices) (n ∷ nulls) (suc k) e h = wrapped_at values indices nulls k (omega arith) (omega arith)

-- what a wrap of the rows f gives, row by row, is the wrapped list
pub wrapped_rows : (f g : ℕ → Value) (n m : ℕ) (indices : List ℕ) (nulls : List Bool) → m ≡ length indices → length nulls ≡ length indices → All (λ p. p < n) indices → ((k : ℕ) → k < length indices → g k ≡ (if get_or nulls k true then Null else f (get_or indices k 0))) → map g (range_with_len 0 m) ≡ wrapped (map f (range_with_len 0 n)) indices nulls
wrapped_rows f g n m indices nulls is_m even places each =
    let values : List Value = map f (range_with_len 0 n) in
    range_is g (wrapped values indices nulls) m Null (is_m ∙ sym (length_wrapped values indices nulls even))
    (λ (k : ℕ) (h : k < length (wrapped values indices nulls)).
    let inside : k < length indices = omega (arith, length_wrapped values indices nulls even) in
    each k inside
    ∙ ap (λ (v : Value). if get_or nulls k true then Null else v) (sym (value_at_range f n (get_or indices k 0) (places k 0 inside)))
    ∙ sym (wrapped_at values indices nulls k even inside))

-- a place or none, as a value
pub unless_value : (l : Lanes) (null : Bool) (at : ℕ) → value_of (lane_or_null l (unless null at)) ≡ (if null then Null else value_of (lane_at l at))
unless_value l true at = refl
unless_value l false at = refl

pub through_value : (l : Lanes) (index : List (Option ℕ)) (null : Bool) (at : ℕ) → value_of (lane_or_null l (through index null at)) ≡ (if null then Null else value_of (lane_or_null l (get_or index at None)))
through_value l index true at = refl
through_value l index false at = refl

unless_in : (n : ℕ) (null : Bool) (at : ℕ) → at < n → IsIn n (unless null at)
unless_in n true at h = tt
unless_in n false at h = h

through_in : (n : ℕ) (index : List (Option ℕ)) (null : Bool) (at : ℕ) → at < length index → All (IsIn n) index → IsIn n (through index null at)
through_in n index true at h places = tt
through_in n index false at h places = places at None h

-- the new places lie where the old ones did
pub unless_within : (n : ℕ) (indices : List ℕ) (nulls : List Bool) (index : List (Option ℕ)) → length index ≡ length indices → All (λ p. p < n) indices → ((k : ℕ) → k < length indices → get_or index k None ≡ unless (get_or nulls k true) (get_or indices k 0)) → All (IsIn n) index
unless_within n indices nulls index even places each =
    λ (k : ℕ) (d : Option ℕ) (h : k < length index).
    let inside : k < length indices = omega arith in
    subst (IsIn n) (sym (get_or_default index k d None h ∙ each k inside)) (unless_in n (get_or nulls k true) (get_or indices k 0) (places k 0 inside))

pub through_within : (n : ℕ) (old : List (Option ℕ)) (indices : List ℕ) (nulls : List Bool) (index : List (Option ℕ)) → length index ≡ length indices → All (λ p. p < length old) indices → All (IsIn n) old → ((k : ℕ) → k < length indices → get_or index k None ≡ through old (get_or nulls k true) (get_or indices k 0)) → All (IsIn n) index
through_within n old indices nulls index even places within each =
    λ (k : ℕ) (d : Option ℕ) (h : k < length index).
    let inside : k < length indices = omega arith in
    subst (IsIn n) (sym (get_or_default index k d None h ∙ each k inside)) (through_in n old (get_or nulls k true) (get_or indices k 0) (places k 0 inside) within)

-- a wrap of rows that are stored
pub wrapped_flat : (base : Lanes) (indices : List ℕ) (nulls : List Bool) (index : List (Option ℕ)) → length index ≡ length indices → length nulls ≡ length indices → All (λ p. p < rows_of base) indices → ((k : ℕ) → k < length indices → get_or index k None ≡ unless (get_or nulls k true) (get_or indices k 0)) → map (λ (k : ℕ). value_of (lane_or_null base (get_or index k None))) (range_with_len 0 (length index)) ≡ wrapped (map (λ (k : ℕ). value_of (lane_at base k)) (range_with_len 0 (rows_of base))) indices nulls
wrapped_flat base indices nulls index rows even places each =
    wrapped_rows (λ (k : ℕ). value_of (lane_at base k)) (λ (k : ℕ). value_of (lane_or_null base (get_or index k None))) (rows_of base) (length index) indices nulls rows even places
    (λ (k : ℕ) (h : k < length indices). ap (λ (o : Option ℕ). value_of (lane_or_null base o)) (each k h) ∙ unless_value base (get_or nulls k true) (get_or indices k 0))

-- a wrap of places
pub wrapped_dictionary : (base : Lanes) (old : List (Option ℕ)) (indices : List ℕ) (nulls : List Bool) (index : List (Option ℕ)) → length index ≡ length indices → length nulls ≡ length indices → All (λ p. p < length old) indices → ((k : ℕ) → k < length indices → get_or index k None ≡ through old (get_or nulls k true) (get_or indices k 0)) → map (λ (k : ℕ). value_of (lane_or_null base (get_or index k None))) (range_with_len 0 (length index)) ≡ wrapped (map (λ (k : ℕ). value_of (lane_or_null base (get_or old k None))) (range_with_len 0 (length old))) indices nulls
wrapped_dictionary base old indices nulls index rows even places each =
    wrapped_rows (λ (k : ℕ). value_of (lane_or_null base (get_or old k None))) (λ (k : ℕ). value_of (lane_or_null base (get_or index k None))) (length old) (length index) indices nulls rows even places
    (λ (k : ℕ) (h : k < length indices). ap (λ (o : Option ℕ). value_of (lane_or_null base o)) (each k h) ∙ through_value base old (get_or nulls k true) (get_or indices k 0))

zero_at : (first : List ℕ) (count k d : ℕ) → first ≡ replicate count 0 → k < count → get_or first k d ≡ 0
zero_at first count k d e h = ap (λ (xs : List ℕ). get_or xs k d) e ∙ get_or-replicate count k 0 d h

count_of : (first : List ℕ) (count : ℕ) → first ≡ replicate count 0 → length first ≡ count
count_of first count e = ap length e ∙ length-replicate count 0

-- zeros are places in one row
pub zeros_within : (n count : ℕ) (first : List ℕ) → first ≡ replicate count 0 → n ≡ 1 → All (λ p. p < n) first
zeros_within n count first e one =
    λ (k : ℕ) (d : ℕ) (h : k < length first).
    let zero_there : get_or first k d ≡ 0 = zero_at first count k d e (omega (arith, count_of first count e)) in
    omega arith

-- a wrap of one value
pub wrapped_constant : (base : Lanes) (n : ℕ) (indices first : List ℕ) (nulls : List Bool) (index : List (Option ℕ)) → first ≡ replicate (length indices) 0 → length index ≡ length first → length nulls ≡ length indices → All (λ p. p < n) indices → ((k : ℕ) → k < length first → get_or index k None ≡ unless (get_or nulls k true) (get_or first k 0)) → map (λ (k : ℕ). value_of (lane_or_null base (get_or index k None))) (range_with_len 0 (length index)) ≡ wrapped (map (λ (k : ℕ). value_of (lane_at base 0)) (range_with_len 0 n)) indices nulls
wrapped_constant base n indices first nulls index e rows even places each =
    let count : length first ≡ length indices = count_of first (length indices) e in
    wrapped_rows (λ (k : ℕ). value_of (lane_at base 0)) (λ (k : ℕ). value_of (lane_or_null base (get_or index k None))) n (length index) indices nulls (rows ∙ count) even places
    (λ (k : ℕ) (h : k < length indices).
    ap (λ (o : Option ℕ). value_of (lane_or_null base o)) (each k (omega arith) ∙ ap (unless (get_or nulls k true)) (zero_at first (length indices) k 0 e h))
    ∙ unless_value base (get_or nulls k true) 0)

-- the places that an index has at rows lie where all of its places do
pub picked_within : (n : ℕ) (index : List (Option ℕ)) (places : List ℕ) (picked : List (Option ℕ)) → picked ≡ map (λ (p : ℕ). get_or index p None) places → All (λ p. p < length index) places → All (IsIn n) index → All (IsIn n) picked
picked_within n index places picked e inside within =
    subst (All (IsIn n)) (sym e) (All-map (IsIn n) (λ (p : ℕ). get_or index p None) places (λ (k : ℕ) (d : ℕ) (h : k < length places). within (get_or places k d) None (inside k d h)))

-- ---- copies

pub lane_or_null_same : (l copy : Lanes) → AreLanes (kind_of l) (rows_of l) (lane_at l) copy → (o : Option ℕ) → IsIn (rows_of l) o → lane_or_null copy o ≡ lane_or_null l o
lane_or_null_same l copy are None h = ap absent are.kind
lane_or_null_same l copy are (Some p) h = are.at p h

pub copied_dictionary : (l copy : Lanes) (index now : List (Option ℕ)) → AreLanes (kind_of l) (rows_of l) (lane_at l) copy → now ≡ index → All (IsIn (rows_of l)) index → map (λ k. value_of (lane_or_null copy (get_or now k None))) (range_with_len 0 (length now)) ≡ map (λ k. value_of (lane_or_null l (get_or index k None))) (range_with_len 0 (length index))
copied_dictionary l copy index now are same within =
    range_same _ _ (length now) (length index) Null (ap length same)
    (λ (k : ℕ) (h : k < length index). ap (λ (xs : List (Option ℕ)). value_of (lane_or_null copy (get_or xs k None))) same ∙ ap value_of (lane_or_null_same l copy are (get_or index k None) (within k None h)))

-- ---- selections

-- the rows at these places, of rows made from a function
pub rows_at : (f : ℕ → Value) (g : ℕ → Lane) (n : ℕ) (places : List ℕ) (l : Lanes) → ((k : ℕ) → value_of (g k) ≡ f (get_or places k 0)) → rows_of l ≡ length places → ((k : ℕ) → k < length places → lane_at l k ≡ g k) → map (λ k. value_of (lane_at l k)) (range_with_len 0 (rows_of l)) ≡ map f places
rows_at f g n places l values rows each =
    range_is _ (map f places) (rows_of l) Null (rows ∙ sym (length-map places f))
    (λ (k : ℕ) (h : k < length (map f places)).
    let inside : k < length places = omega (arith, length-map places f) in
    ap value_of (each k inside) ∙ values k ∙ sym (get_or-map f places k 0 Null inside))

-- a list of as many, all of one value
pub constant_rows : (v : Value) (f : ℕ → Value) (places : List ℕ) → ((p : ℕ) → f p ≡ v) → map (λ (k : ℕ). v) (range_with_len 0 (length places)) ≡ map f places
constant_rows v f places same =
    range_is (λ (k : ℕ). v) (map f places) (length places) Null (sym (length-map places f))
    (λ (k : ℕ) (h : k < length (map f places)).
    let inside : k < length places = omega (arith, length-map places f) in
    sym (get_or-map f places k 0 Null inside ∙ same (get_or places k 0)))

pub selected_constant : (l copy : Lanes) (places : List ℕ) → AreLanes (kind_of l) (rows_of l) (lane_at l) copy → rows_of l ≡ 1 → map (λ (k : ℕ). value_of (lane_at copy 0)) (range_with_len 0 (length places)) ≡ map (λ (p : ℕ). value_of (lane_at l 0)) places
selected_constant l copy places are one =
    constant_rows (value_of (lane_at copy 0)) (λ (p : ℕ). value_of (lane_at l 0)) places (λ (p : ℕ). sym (ap value_of (are.at 0 (omega arith))))

-- values at places by the list that a function makes
pub map_value_at : (f : ℕ → Value) (n : ℕ) (places : List ℕ) → All (λ p. p < n) places → map f places ≡ map (value_at (map f (range_with_len 0 n))) places
map_value_at f n [] within = refl
map_value_at f n (p ∷ places) within =
    let first : p < n = within 0 0 (omega arith) in
    let later : All (λ q. q < n) places = λ (k : ℕ) (d : ℕ) (h : k < length places). within (suc k) d (omega arith) in
    ap (λ (v : Value). v ∷ map f places) (sym (value_at_range f n p first))
    ∙ ap (λ (vs : List Value). value_at (map f (range_with_len 0 n)) p ∷ vs) (map_value_at f n places later)

-- ---- decoding

lent : (base : Lanes) (o : Option ℕ) → IsIn (rows_of base) o → value_of (lane_or_null base o) ≡ value_or_null (map (λ k. value_of (lane_at base k)) (range_with_len 0 (rows_of base))) o
lent base None h = refl
lent base (Some p) h = sym (value_at_range (λ k. value_of (lane_at base k)) (rows_of base) p h)

pub decoded_values : (f : ℕ → Value) (n : ℕ) (base : Lanes) (index : List (Option ℕ)) → length index ≡ n → All (IsIn (rows_of base)) index → ((k : ℕ) → k < n → value_of (lane_or_null base (get_or index k None)) ≡ f k) → map f (range_with_len 0 n) ≡ map (value_or_null (map (λ k. value_of (lane_at base k)) (range_with_len 0 (rows_of base)))) index
decoded_values f n base index even within each =
    let of_base : List Value = map (λ k. value_of (lane_at base k)) (range_with_len 0 (rows_of base)) in
    range_is f (map (value_or_null of_base) index) n Null (sym even ∙ sym (length-map index (value_or_null of_base)))
    (λ (k : ℕ) (h : k < length (map (value_or_null of_base) index)).
    let inside : k < length index = omega (arith, length-map index (value_or_null of_base)) in
    sym (each k (omega arith)) ∙ lent base (get_or index k None) (within k None inside) ∙ sym (get_or-map (value_or_null of_base) index k None Null inside))

-- all rows, copied one after another
all_rows : (lanes l : Lanes) (places : List ℕ) → places ≡ range_with_len 0 (rows_of lanes) → AreLanes (kind_of lanes) (rows_of lanes) (lane_at lanes) l → AreLanes (kind_of lanes) (length places) (λ (k : ℕ). lane_at lanes (get_or places k 0)) l
all_rows lanes l places all are =
    let long : length places ≡ rows_of lanes = ap length all ∙ length-range_with_len 0 (rows_of lanes) in
    record {
      kind = are.kind;
      rows = are.rows ∙ sym long;
      at = λ (k : ℕ) (h : k < length places).
          let own : get_or places k 0 ≡ k = own_place places (rows_of lanes) all k h in
          rw own (are.at k (omega (arith, long)));
    }

pub all_rows_of : {E : Type 0} (lanes : Lanes) (r : Result Lanes E) (places : List ℕ) → places ≡ range_with_len 0 (rows_of lanes) → IfOk r (AreLanes (kind_of lanes) (rows_of lanes) (lane_at lanes)) → IfOk r (AreLanes (kind_of lanes) (length places) (λ (k : ℕ). lane_at lanes (get_or places k 0)))
all_rows_of lanes (Ok l) places all are = all_rows lanes l places all are
all_rows_of lanes (Err e) places all are = tt
