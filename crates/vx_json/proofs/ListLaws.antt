-- Laws of lists that are read, and of readers one after another.
use Rattle.std.proofs.Common.{◌≡◌, ℕ, zero, suc, arith, ◌+◌, ◌<◌, ◌≤◌, List, [], ◌∷◌, ◌++◌, length, map, drop, get_or, true, false, Some, None, Vec, BTreeMap, String, Global, Result, Ok, Err, refl, ap, sym, ◌∙◌}
use Rattle.std.proofs.lemmas.List.{at_drop_more, at_drop_all, append_assoc, append-nil, length-map}
use Rattle.serde_json.specs.Data.{Data}
use Rattle.serde_json.specs.View.{view, items_of}
use Rattle.serde_json.proofs.Views.{view-Array, view-Object, members_len-members_view}
use Rattle.serde_json.specs.declared.value.Value.{Value, Array, Object}
use Rattle.vx_json.specs.declared.lists.Count.{Count}
use Rattle.vx_json.specs.declared.lists.Count.TheVariants.{Any}
use Rattle.vx_json.specs.Place.{Said, at_item, misfit, and_then}
use Rattle.vx_json.specs.Fields.{field_count}
use Rattle.vx_json.specs.Lists.{is_lawful, list_of, as_list, item_of, items_at, each_from, list_at}

list_of-items_of : (ds : List Data) → list_of (items_of ds) ≡ ds
list_of-items_of [] = refl
list_of-items_of (d ∷ ds) = ap (λ rest. d ∷ rest) (list_of-items_of ds)

-- an array is the list of what its values are
pub as_list-Array : (values : Vec Value Global) → as_list (view (Array values)) ≡ Some (map view values.items)
as_list-Array values = rw (view-Array values) (ap Some (list_of-items_of (map view values.items)))

-- a list of a lawful length
pub items_at-lawful : (count : Count) (path : List ℕ) (d : Data) (values : List Value) → Some (map view values) ≡ as_list d → is_lawful count (length values) ≡ true
    → items_at count path d ≡ Ok (map view values)
items_at-lawful count path d values is lawful = rw (← is, length-map values view, lawful)

-- one of another length
pub items_at-unlawful : (count : Count) (path : List ℕ) (d : Data) (values : List Value) → Some (map view values) ≡ as_list d → is_lawful count (length values) ≡ false
    → items_at count path d ≡ misfit path
items_at-unlawful count path d values is unlawful = rw (← is, length-map values view, unlawful)

-- what is no list
pub items_at-none : (count : Count) (path : List ℕ) (d : Data) → None ≡ as_list d → items_at count path d ≡ misfit path
items_at-none count path d is = rw (← is)

-- of items seen in another way
pub each_from-map : {A B T : Type 0} (reads : ℕ → List ℕ → B → Result T Said) (g : A → B) (path : List ℕ) (i : ℕ) (xs : List A)
    → each_from reads path i (map g xs) ≡ each_from (λ k p x. reads k p (g x)) path i xs
each_from-map reads g path i [] = refl
each_from-map reads g path i (x ∷ xs) = rw (each_from-map reads g path (i + 1) xs)

-- a list is read item by item
pub list_at-items : {T : Type 0} (count : Count) (reads : ℕ → List ℕ → Data → Result T Said) (path : List ℕ) (d : Data) (values : List Value) → items_at count path d ≡ Ok (map view values)
    → list_at count reads path d ≡ each_from (λ i p value. reads i p (view value)) path 0 values
list_at-items count reads path d values is = ap (λ read. and_then read (each_from reads path 0)) is ∙ each_from-map reads view path 0 values

-- what was refused stays so
pub list_at-refused : {T : Type 0} (count : Count) (reads : ℕ → List ℕ → Data → Result T Said) (path : List ℕ) (d : Data) (said : Said) → items_at count path d ≡ Err said
    → list_at count reads path d ≡ Err said
list_at-refused count reads path d said is = ap (λ read. and_then read (each_from reads path 0)) is

-- ---- a loop that collects what is read

-- what has been collected, and then what is read of the rest
abbrev pub joined : {T : Type 0} → List T → Result (List T) Said → Result (List T) Said
joined front rest = and_then rest (λ back. Ok (front ++ back))

joined-nil : {T : Type 0} (rest : Result (List T) Said) → joined [] rest ≡ rest
joined-nil (Ok back) = refl
joined-nil (Err said) = refl

-- before the first item nothing has been collected
pub each-first : {A T : Type 0} (reads : ℕ → List ℕ → A → Result T Said) (path : List ℕ) (i : ℕ) (xs : List A)
    → joined [] (each_from reads path i xs) ≡ each_from reads path i xs
each-first reads path i xs = joined-nil (each_from reads path i xs)

joined-push : {T : Type 0} (front : List T) (y : T) (rest : Result (List T) Said) → joined (front ++ y ∷ []) rest ≡ joined front (and_then rest (λ ys. Ok (y ∷ ys)))
joined-push front y (Err said) = refl
joined-push front y (Ok back) = ap Ok (append_assoc front (y ∷ []) back)

each-drop : {A T : Type 0} (reads : ℕ → List ℕ → A → Result T Said) (path : List ℕ) (i : ℕ) (xs : List A) (x : A) → i < length xs → x ≡ get_or xs i x
    → each_from reads path i (drop i xs) ≡ each_from reads path i (x ∷ drop (i + 1) xs)
each-drop reads path i xs x within is = at_drop_more (each_from reads path i) xs i x within ∙ ap (λ y. each_from reads path i (y ∷ drop (i + 1) xs)) (sym is)

-- the item at i gives y: it joins what has been collected
pub each-more : {A T : Type 0} (reads : ℕ → List ℕ → A → Result T Said) (path : List ℕ) (xs : List A) (i : ℕ) (x : A) (y : T) (front : List T) → i < length xs → x ≡ get_or xs i x → reads i (at_item path i) x ≡ Ok y
    → joined (front ++ y ∷ []) (each_from reads path (i + 1) (drop (i + 1) xs)) ≡ joined front (each_from reads path i (drop i xs))
each-more reads path xs i x y front within is gives =
    joined-push front y _ ∙ ap (joined front) (sym (each-drop reads path i xs x within is ∙ ap (λ read. and_then read (λ y. and_then (each_from reads path (i + 1) (drop (i + 1) xs)) (λ ys. Ok (y ∷ ys)))) gives))

-- the item at i is refused: so is the list
pub each-stop : {A T : Type 0} (reads : ℕ → List ℕ → A → Result T Said) (path : List ℕ) (xs : List A) (i : ℕ) (x : A) (said : Said) (front : List T) → i < length xs → x ≡ get_or xs i x → reads i (at_item path i) x ≡ Err said
    → joined front (each_from reads path i (drop i xs)) ≡ Err said
each-stop reads path xs i x said front within is gives =
    ap (joined front) (each-drop reads path i xs x within is ∙ ap (λ read. and_then read (λ y. and_then (each_from reads path (i + 1) (drop (i + 1) xs)) (λ ys. Ok (y ∷ ys)))) gives)

-- past the last item all is collected
pub each-done : {A T : Type 0} (reads : ℕ → List ℕ → A → Result T Said) (path : List ℕ) (xs : List A) (i : ℕ) (front : List T) → length xs ≤ i → joined front (each_from reads path i (drop i xs)) ≡ Ok front
each-done reads path xs i front past = ap (joined front) (at_drop_all (each_from reads path i) xs i past) ∙ ap Ok (append-nil front)

-- ---- the same over the rest of a list

pub rest-more : {A T : Type 0} (reads : ℕ → List ℕ → A → Result T Said) (path : List ℕ) (i : ℕ) (rest later : List A) (x : A) (y : T) (front : List T) → rest ≡ x ∷ later → reads i (at_item path i) x ≡ Ok y
    → joined (front ++ y ∷ []) (each_from reads path (i + 1) later) ≡ joined front (each_from reads path i rest)
rest-more reads path i rest later x y front is gives =
    joined-push front y _ ∙ ap (joined front) (sym (ap (each_from reads path i) is ∙ ap (λ read. and_then read (λ z. and_then (each_from reads path (i + 1) later) (λ ys. Ok (z ∷ ys)))) gives))

pub rest-stop : {A T : Type 0} (reads : ℕ → List ℕ → A → Result T Said) (path : List ℕ) (i : ℕ) (rest later : List A) (x : A) (said : Said) (front : List T) → rest ≡ x ∷ later → reads i (at_item path i) x ≡ Err said
    → joined front (each_from reads path i rest) ≡ Err said
rest-stop reads path i rest later x said front is gives =
    ap (joined front) (ap (each_from reads path i) is ∙ ap (λ read. and_then read (λ z. and_then (each_from reads path (i + 1) later) (λ ys. Ok (z ∷ ys)))) gives)

pub rest-done : {A T : Type 0} (reads : ℕ → List ℕ → A → Result T Said) (path : List ℕ) (i : ℕ) (rest : List A) (front : List T) → rest ≡ [] → joined front (each_from reads path i rest) ≡ Ok front
rest-done reads path i rest front is = ap (λ xs. joined front (each_from reads path i xs)) is ∙ ap Ok (append-nil front)

-- a list of any length that is an array
pub list_at-Array : {T : Type 0} (reads : ℕ → List ℕ → Data → Result T Said) (path : List ℕ) (values : Vec Value Global)
    → list_at Any reads path (view (Array values)) ≡ each_from (λ i p value. reads i p (view value)) path 0 values.items
list_at-Array reads path values = list_at-items Any reads path (view (Array values)) values.items (items_at-lawful Any path (view (Array values)) values.items (sym (as_list-Array values)) refl)

-- an item of JSON values
pub item_of-view : (values : List Value) (i : ℕ) (x : Value) → i < length values → x ≡ get_or values i x → item_of (map view values) i ≡ view x
item_of-view [] i x within is = absurd (omega arith)
item_of-view (v ∷ vs) zero x within is = ap view (sym is)
item_of-view (v ∷ vs) (suc i) x within is = item_of-view vs i x (omega arith) is

pub ruleset items = (item_of-view)

-- an object has as many fields as entries
pub field_count-Object : (fields : BTreeMap (String Global) Value) → field_count (view (Object fields)) ≡ length fields.entries
field_count-Object fields = rw (view-Object fields, members_len-members_view fields.entries)

pub ruleset objects = (field_count-Object, view-Object)

pub ruleset arrays = (list_at-Array, view-Object)

pub ruleset lists = (as_list-Array, items_at-lawful, items_at-unlawful, items_at-none, list_at-items, list_at-refused)

pub ruleset loops = (each-first, each-more, each-stop, each-done)
