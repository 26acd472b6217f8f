-- Laws of `traverse`: a loop that collects what a function gives of each item.
use Rattle.std.proofs.Common.{◌≡◌, ℕ, suc, ◌+◌, ◌<◌, ◌≤◌, List, [], ◌∷◌, ◌++◌, length, map, drop, get_or, Option, Some, None, option_map, option_and_then, refl, sym, ap, ◌∙◌}
use Rattle.std.proofs.lemmas.List.{at_drop_more, at_drop_all, append_assoc, append-nil}
use Rattle.vx_base.specs.Traverse.{traverse}

-- what has been collected, and then what is given of the rest
abbrev pub joined : {B : Type 0} → List B → Option (List B) → Option (List B)
joined front rest = option_map (λ back. front ++ back) rest

-- before the first item nothing has been collected
pub joined-nil : {B : Type 0} (rest : Option (List B)) → joined [] rest ≡ rest
joined-nil None = refl
joined-nil (Some back) = refl

-- a next thing is the last of what has been collected, or the first of the rest
pub joined-push : {B : Type 0} (front : List B) (y : B) (rest : Option (List B)) → joined (front ++ y ∷ []) rest ≡ joined front (option_map (λ ys. y ∷ ys) rest)
joined-push front y None = refl
joined-push front y (Some back) = ap Some (append_assoc front (y ∷ []) back)

-- an item that gives y, and the items after it
pub traverse-cons : {A B : Type 0} (f : A → Option B) (x : A) (y : B) (xs : List A) → f x ≡ Some y → traverse f (x ∷ xs) ≡ option_map (λ ys. y ∷ ys) (traverse f xs)
traverse-cons f x y xs gives = rw gives

-- the list from the item at i on
traverse-drop : {A B : Type 0} (f : A → Option B) (items : List A) (i : ℕ) (x : A) → i < length items → x ≡ get_or items i x → traverse f (drop i items) ≡ traverse f (x ∷ drop (i + 1) items)
traverse-drop f items i x within is = at_drop_more (traverse f) items i x within ∙ ap (λ y. traverse f (y ∷ drop (i + 1) items)) (sym is)

-- the item at i gives y: it joins what has been collected
pub traverse-more : {A B : Type 0} (f : A → Option B) (items : List A) (i : ℕ) (x : A) (y : B) (front : List B) → i < length items → x ≡ get_or items i x → f x ≡ Some y
    → joined (front ++ y ∷ []) (traverse f (drop (i + 1) items)) ≡ joined front (traverse f (drop i items))
traverse-more f items i x y front within is gives =
    joined-push front y _ ∙ ap (joined front) (sym (traverse-drop f items i x within is ∙ traverse-cons f x y _ gives))

-- the item at i gives nothing: nor does the list
pub traverse-none : {A B : Type 0} (f : A → Option B) (items : List A) (i : ℕ) (x : A) (front : List B) → i < length items → x ≡ get_or items i x → f x ≡ None
    → joined front (traverse f (drop i items)) ≡ None
traverse-none f items i x front within is gives = ap (joined front) (traverse-drop f items i x within is) ∙ rw gives

-- the same of a rest that is used up from its front
pub traverse-next : {A B : Type 0} (f : A → Option B) (x : A) (y : B) (before after : List A) (front : List B) → before ≡ x ∷ after → f x ≡ Some y
    → joined (front ++ y ∷ []) (traverse f after) ≡ joined front (traverse f before)
traverse-next f x y before after front is gives = joined-push front y _ ∙ sym (ap (joined front) (ap (traverse f) is ∙ traverse-cons f x y after gives))

pub traverse-stop : {A B : Type 0} (f : A → Option B) (x : A) (before after : List A) (front : List B) → before ≡ x ∷ after → f x ≡ None
    → joined front (traverse f before) ≡ None
traverse-stop f x before after front is gives = rw (is, gives)

pub traverse-end : {A B : Type 0} (f : A → Option B) (rest : List A) (front : List B) → rest ≡ [] → joined front (traverse f rest) ≡ Some front
traverse-end f rest front is = ap (joined front) (ap (traverse f) is) ∙ ap Some (append-nil front)

-- past the last item all is collected
pub traverse-done : {A B : Type 0} (f : A → Option B) (items : List A) (i : ℕ) (front : List B) → length items ≤ i → joined front (traverse f (drop i items)) ≡ Some front
traverse-done f items i front past = ap (joined front) (at_drop_all (traverse f) items i past) ∙ ap Some (append-nil front)

-- of the items seen in another way
pub traverse-map : {A B C : Type 0} (f : B → Option C) (g : A → B) (items : List A) → traverse f (map g items) ≡ traverse (λ x. f (g x)) items
traverse-map f g [] = refl
traverse-map f g (x ∷ xs) = rw (traverse-map f g xs)

counted : {B : Type 0} (n : ℕ) (y : Option B) (rest : Option (List B)) (ys : List B) → ((zs : List B) → rest ≡ Some zs → length zs ≡ n)
    → option_and_then (λ z. option_map (λ zs. z ∷ zs) rest) y ≡ Some ys → length ys ≡ suc n
counted n None rest ys counts is = absurd (cc)
counted n (Some y) None ys counts is = absurd (cc)
counted n (Some y) (Some zs) ys counts is =
    let whole : y ∷ zs ≡ ys = cc in
    sym (ap length whole) ∙ ap suc (counts zs refl)

-- as many things as items
pub length-traverse : {A B : Type 0} (f : A → Option B) (items : List A) (ys : List B) → traverse f items ≡ Some ys → length ys ≡ length items
length-traverse f [] ys is =
    let none : [] ≡ ys = cc in
    sym (ap length none)
length-traverse f (x ∷ xs) ys is = counted (length xs) (f x) (traverse f xs) ys (λ zs each. length-traverse f xs zs each) is
