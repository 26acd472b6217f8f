-- The laws of joins: the order of rows doesn't matter, and a join of parts between which nothing matches is the parts'
-- joins put together.
use Rattle.std.proofs.Common.{◌<◌, ◌+◌, ◌≡◌, ◌≢◌, ℕ, Bool, true, false, not, ◌&&◌, ◌||◌, cond, List, [], ◌∷◌, ◌++◌, map, length, get_or, All, refl, sym, ap, ap₂, ◌∙◌, subst, arith, append_assoc, true≢false}
use Rattle.std.specs.Prelude.{filter, flat_map}
use Rattle.std.specs.List.{list_any}
use Rattle.std.specs.List.Sorted.{IsPermutation}
use Rattle.std.specs.Ordering.{eq_by_cmp}
use Rattle.std.proofs.lemmas.List.{append-nil, map-append}
use Rattle.std.proofs.lemmas.List.Concat.{flat_map-append}
use Rattle.std.proofs.lemmas.List.Elements.{filter-append, All-append}
use Rattle.std.proofs.lemmas.List.Folds.{list_any-append}
use Rattle.std.proofs.lemmas.List.Sorted.{IsPermutation-refl, IsPermutation-trans, IsPermutation-map, IsPermutation-append, IsPermutation-append_left, IsPermutation-append_right, IsPermutation-append_comm, list_any-IsPermutation, length_permutation}
use Rattle.vx_value.specs.Value.{is_null}
use Rattle.vx_value.specs.Row.{Row}
use Rattle.vx_value.specs.KeyBytes.{key_values}
use Rattle.vx_plan.specs.declared.node.JoinKind.{JoinKind}
use Rattle.vx_plan.specs.declared.node.JoinKind.TheVariants.{Inner, Left, Right, Full, Semi, Anti}
use Rattle.vx_meaning.specs.Groups.{key_cmp}
use Rattle.vx_meaning.specs.Joins.{On, Build, matches, nulls, partners, pairs, if_none, given, probed, is_alone, alone, unmatched, joined}
use Rattle.vx_meaning.specs.Parts.{Part, all_probe, all_build, joined_in_parts, Apart, AreApart, LiesIn, AreDealtFrom}
use Rattle.vx_meaning.proofs.RowLemmas.{All-cons}
use Rattle.vx_meaning.proofs.Shuffles.{shuffled, filter-shuffled}
use Rattle.vx_meaning.proofs.Keyed.{equal_of}
use Rattle.vx_meaning.proofs.GroupLemmas.{key_tied}

first-is : {X : Type 0} (P : X → Type 0) (x : X) (xs : List X) → All P (x ∷ xs) → P x
first-is P x xs h = h 0 x (omega arith)

later-are : {X : Type 0} (P : X → Type 0) (x : X) (xs : List X) → All P (x ∷ xs) → All P xs
later-are P x xs h k d within = h (Prim.Native.Nat.suc k) d (omega arith)

-- the middle two of four lists change places
four : {X : Type 0} (a b c d : List X) → IsPermutation ((a ++ b) ++ (c ++ d)) ((a ++ c) ++ (b ++ d))
four a b c d =
    subst (λ l. IsPermutation ((a ++ b) ++ (c ++ d)) l) (sym (append_assoc a c (b ++ d)))
    (subst (λ l. IsPermutation l (a ++ (c ++ (b ++ d)))) (sym (append_assoc a b (c ++ d)))
    (IsPermutation-append_right a (b ++ (c ++ d)) (c ++ (b ++ d)) (subst (λ l. IsPermutation (b ++ (c ++ d)) l) (append_assoc c b d) (subst (λ l. IsPermutation l ((c ++ b) ++ d)) (append_assoc b c d) (IsPermutation-append_left d (b ++ c) (c ++ b) (IsPermutation-append_comm b c))))))

-- ---- the order of rows doesn't matter

flat_map-turn : {X Y : Type 0} (f : X → List Y) (x y : X) (rest : List Y) → IsPermutation (f x ++ (f y ++ rest)) (f y ++ (f x ++ rest))
flat_map-turn f x y rest =
    subst (λ l. IsPermutation l (f y ++ (f x ++ rest))) (append_assoc (f x) (f y) rest)
    (subst (λ l. IsPermutation ((f x ++ f y) ++ rest) l) (append_assoc (f y) (f x) rest) (IsPermutation-append_left rest (f x ++ f y) (f y ++ f x) (IsPermutation-append_comm (f x) (f y))))

pub flat_map-shuffled : {X Y : Type 0} (f : X → List Y) (xs ys : List X) → IsPermutation xs ys → IsPermutation (flat_map f xs) (flat_map f ys)
flat_map-shuffled f = shuffled (λ xs ys. IsPermutation (flat_map f xs) (flat_map f ys)) (λ xs. IsPermutation-refl (flat_map f xs))
    (λ x xs ys h. IsPermutation-append_right (f x) (flat_map f xs) (flat_map f ys) h)
    (λ x y xs. flat_map-turn f x y (flat_map f xs))
    (λ xs ys zs p q. IsPermutation-trans (flat_map f xs) (flat_map f ys) (flat_map f zs) p q)

flat_map-each : {X Y : Type 0} (f g : X → List Y) (xs : List X) → ((x : X) → IsPermutation (f x) (g x)) → IsPermutation (flat_map f xs) (flat_map g xs)
flat_map-each f g [] h = IsPermutation-refl []
flat_map-each f g (x ∷ xs) h = IsPermutation-append (f x) (g x) (flat_map f xs) (flat_map g xs) (h x) (flat_map-each f g xs h)

filter-same : {X : Type 0} (p q : X → Bool) (xs : List X) → ((x : X) → p x ≡ q x) → filter p xs ≡ filter q xs
filter-same p q [] h = refl
filter-same p q (x ∷ xs) h = λ i. cond (h x i) (x ∷ filter-same p q xs h i) (filter-same p q xs h i)

if_none-shuffled : (us vs none some other : List Row) → length us ≡ length vs → IsPermutation some other → IsPermutation (if_none us none some) (if_none vs none other)
if_none-shuffled [] [] none some other e h = IsPermutation-refl none
if_none-shuffled [] (v ∷ vs) none some other e h = absurd (omega arith)
if_none-shuffled (u ∷ us) [] none some other e h = absurd (omega arith)
if_none-shuffled (u ∷ us) (v ∷ vs) none some other e h = h

pairs-shuffled : (left : Row) (us vs : List Row) → IsPermutation us vs → IsPermutation (pairs left us) (pairs left vs)
pairs-shuffled left us vs h = IsPermutation-map (λ right. left ++ right) us vs h

given-shuffled : (kind : JoinKind) (on : On) (left : Row) (us vs : List Row) → length us ≡ length vs → IsPermutation us vs → IsPermutation (given kind on left us) (given kind on left vs)
given-shuffled Inner on left us vs e h = pairs-shuffled left us vs h
given-shuffled Right on left us vs e h = pairs-shuffled left us vs h
given-shuffled Left on left us vs e h = if_none-shuffled us vs ((left ++ nulls on.right_columns) ∷ []) (pairs left us) (pairs left vs) e (pairs-shuffled left us vs h)
given-shuffled Full on left us vs e h = if_none-shuffled us vs ((left ++ nulls on.right_columns) ∷ []) (pairs left us) (pairs left vs) e (pairs-shuffled left us vs h)
given-shuffled Semi on left us vs e h = if_none-shuffled us vs [] (left ∷ []) (left ∷ []) e (IsPermutation-refl (left ∷ []))
given-shuffled Anti on left us vs e h = if_none-shuffled us vs (left ∷ []) [] [] e (IsPermutation-refl [])

probed-shuffled : (kind : JoinKind) (on : On) (p q : List Row) (b c : List Build) → IsPermutation p q → IsPermutation b c → IsPermutation (probed kind on p b) (probed kind on q c)
probed-shuffled kind on p q b c left right =
    let rows = IsPermutation-map (λ (x : Build). x.row) b c right in
    IsPermutation-trans (probed kind on p b) (probed kind on q b) (probed kind on q c) (flat_map-shuffled (λ l. given kind on l (partners on b l)) p q left)
    (flat_map-each (λ l. given kind on l (partners on b l)) (λ l. given kind on l (partners on c l)) q (λ l.
    let same = filter-shuffled (matches on l) (map (λ (x : Build). x.row) b) (map (λ (x : Build). x.row) c) rows in
    given-shuffled kind on l (partners on b l) (partners on c l) (sym (length_permutation (partners on b l) (partners on c l) same)) same))

alone-shuffled : (on : On) (p q : List Row) (b c : List Build) → IsPermutation p q → IsPermutation b c → IsPermutation (alone on p b) (alone on q c)
alone-shuffled on p q b c left right =
    let pad = λ (x : Build). nulls on.left_columns ++ x.row in
    let same : filter (is_alone on p) c ≡ filter (is_alone on q) c = filter-same (is_alone on p) (is_alone on q) c (λ x. ap (λ any. not (x.matched || any)) (list_any-IsPermutation (λ l. matches on l x.row) p q left)) in
    subst (λ rows. IsPermutation (alone on p b) (map pad rows)) same (IsPermutation-map pad (filter (is_alone on p) b) (filter (is_alone on p) c) (filter-shuffled (is_alone on p) b c right))

unmatched-shuffled : (kind : JoinKind) (on : On) (p q : List Row) (b c : List Build) → IsPermutation p q → IsPermutation b c → IsPermutation (unmatched kind on p b) (unmatched kind on q c)
unmatched-shuffled Right on p q b c left right = alone-shuffled on p q b c left right
unmatched-shuffled Full on p q b c left right = alone-shuffled on p q b c left right
unmatched-shuffled Inner on p q b c left right = IsPermutation-refl []
unmatched-shuffled Left on p q b c left right = IsPermutation-refl []
unmatched-shuffled Semi on p q b c left right = IsPermutation-refl []
unmatched-shuffled Anti on p q b c left right = IsPermutation-refl []

pub joined-shuffled : (kind : JoinKind) (on : On) (p q : List Row) (b c : List Build) → IsPermutation p q → IsPermutation b c → IsPermutation (joined kind on p b) (joined kind on q c)
joined-shuffled kind on p q b c left right =
    IsPermutation-append (probed kind on p b) (probed kind on q c) (unmatched kind on p b) (unmatched kind on q c) (probed-shuffled kind on p q b c left right) (unmatched-shuffled kind on p q b c left right)

-- ---- parts between which nothing matches

no-partners : (on : On) (left : Row) (b : List Build) → All (λ (x : Build). matches on left x.row ≡ false) b → partners on b left ≡ []
no-partners on left [] h = refl
no-partners on left (x ∷ b) h =
    ap (λ t. cond t (x.row ∷ partners on b left) (partners on b left)) (first-is (λ (x : Build). matches on left x.row ≡ false) x b h)
    ∙ no-partners on left b (later-are (λ (x : Build). matches on left x.row ≡ false) x b h)

partners-append : (on : On) (left : Row) (b c : List Build) → partners on (b ++ c) left ≡ partners on b left ++ partners on c left
partners-append on left b c = ap (filter (matches on left)) (map-append (λ (x : Build). x.row) b c) ∙ filter-append (matches on left) (map (λ (x : Build). x.row) b) (map (λ (x : Build). x.row) c)

-- right rows that match nothing, in front or behind, change nothing
probed-behind : (kind : JoinKind) (on : On) (p : List Row) (b c : List Build) → Apart on p c → probed kind on p (b ++ c) ≡ probed kind on p b
probed-behind kind on [] b c h = refl
probed-behind kind on (l ∷ p) b c h =
    ap₂ ◌++◌ (ap (given kind on l) (partners-append on l b c ∙ ap (λ rs. partners on b l ++ rs) (no-partners on l c (first-is (λ l. All (λ (x : Build). matches on l x.row ≡ false) c) l p h)) ∙ append-nil (partners on b l)))
    (probed-behind kind on p b c (later-are (λ l. All (λ (x : Build). matches on l x.row ≡ false) c) l p h))

probed-before : (kind : JoinKind) (on : On) (p : List Row) (b c : List Build) → Apart on p b → probed kind on p (b ++ c) ≡ probed kind on p c
probed-before kind on [] b c h = refl
probed-before kind on (l ∷ p) b c h =
    ap₂ ◌++◌ (ap (given kind on l) (partners-append on l b c ∙ ap (λ rs. rs ++ partners on c l) (no-partners on l b (first-is (λ l. All (λ (x : Build). matches on l x.row ≡ false) b) l p h))))
    (probed-before kind on p b c (later-are (λ l. All (λ (x : Build). matches on l x.row ≡ false) b) l p h))

-- left rows that match none of these right rows
no-left : (on : On) (p : List Row) (x : Build) → All (λ left. matches on left x.row ≡ false) p → list_any (λ left. matches on left x.row) p ≡ false
no-left on [] x h = refl
no-left on (l ∷ p) x h = ap (λ t. t || list_any (λ left. matches on left x.row) p) (first-is (λ left. matches on left x.row ≡ false) l p h) ∙ no-left on p x (later-are (λ left. matches on left x.row ≡ false) l p h)

or-none : (b : Bool) → (b || false) ≡ b
or-none true = refl
or-none false = refl

alone-more : (on : On) (p q : List Row) (x : Build) → All (λ left. matches on left x.row ≡ false) q → is_alone on (p ++ q) x ≡ is_alone on p x
alone-more on p q x h = ap (λ any. not (x.matched || any)) (list_any-append (λ left. matches on left x.row) p q ∙ ap (λ any. list_any (λ left. matches on left x.row) p || any) (no-left on q x h) ∙ or-none (list_any (λ left. matches on left x.row) p))

alone-more_before : (on : On) (p q : List Row) (x : Build) → All (λ left. matches on left x.row ≡ false) p → is_alone on (p ++ q) x ≡ is_alone on q x
alone-more_before on p q x h = ap (λ any. not (x.matched || any)) (list_any-append (λ left. matches on left x.row) p q ∙ ap (λ any. any || list_any (λ left. matches on left x.row) q) (no-left on p x h))

turned-apart : (on : On) (p : List Row) (x : Build) (b : List Build) → Apart on p (x ∷ b) → All (λ left. matches on left x.row ≡ false) p
turned-apart on p x b h k d within = first-is (λ (y : Build). matches on (get_or p k d) y.row ≡ false) x b (h k d within)

rest-apart : (on : On) (p : List Row) (x : Build) (b : List Build) → Apart on p (x ∷ b) → Apart on p b
rest-apart on p x b h k d within = later-are (λ (y : Build). matches on (get_or p k d) y.row ≡ false) x b (h k d within)

filter-alone_behind : (on : On) (p q : List Row) (b : List Build) → Apart on q b → filter (is_alone on (p ++ q)) b ≡ filter (is_alone on p) b
filter-alone_behind on p q [] h = refl
filter-alone_behind on p q (x ∷ b) h =
    let same = alone-more on p q x (turned-apart on q x b h) in
    let rest = filter-alone_behind on p q b (rest-apart on q x b h) in
    λ i. cond (same i) (x ∷ rest i) (rest i)

filter-alone_before : (on : On) (p q : List Row) (b : List Build) → Apart on p b → filter (is_alone on (p ++ q)) b ≡ filter (is_alone on q) b
filter-alone_before on p q [] h = refl
filter-alone_before on p q (x ∷ b) h =
    let same = alone-more_before on p q x (turned-apart on p x b h) in
    let rest = filter-alone_before on p q b (rest-apart on p x b h) in
    λ i. cond (same i) (x ∷ rest i) (rest i)

alone-parts : (on : On) (p q : List Row) (b c : List Build) → Apart on p c → Apart on q b → alone on (p ++ q) (b ++ c) ≡ alone on p b ++ alone on q c
alone-parts on p q b c pc qb =
    let pad = λ (x : Build). nulls on.left_columns ++ x.row in
    ap (map pad) (filter-append (is_alone on (p ++ q)) b c ∙ ap₂ ◌++◌ (filter-alone_behind on p q b qb) (filter-alone_before on p q c pc))
    ∙ map-append pad (filter (is_alone on p) b) (filter (is_alone on q) c)

unmatched-parts : (kind : JoinKind) (on : On) (p q : List Row) (b c : List Build) → Apart on p c → Apart on q b → unmatched kind on (p ++ q) (b ++ c) ≡ unmatched kind on p b ++ unmatched kind on q c
unmatched-parts Right on p q b c pc qb = alone-parts on p q b c pc qb
unmatched-parts Full on p q b c pc qb = alone-parts on p q b c pc qb
unmatched-parts Inner on p q b c pc qb = refl
unmatched-parts Left on p q b c pc qb = refl
unmatched-parts Semi on p q b c pc qb = refl
unmatched-parts Anti on p q b c pc qb = refl

probed-parts : (kind : JoinKind) (on : On) (p q : List Row) (b c : List Build) → Apart on p c → Apart on q b → probed kind on (p ++ q) (b ++ c) ≡ probed kind on p b ++ probed kind on q c
probed-parts kind on p q b c pc qb =
    flat_map-append (λ l. given kind on l (partners on (b ++ c) l)) p q ∙ ap₂ ◌++◌ (probed-behind kind on p b c pc) (probed-before kind on q b c qb)

-- two parts between which nothing matches
pub joined-parts : (kind : JoinKind) (on : On) (p q : List Row) (b c : List Build) → Apart on p c → Apart on q b → IsPermutation (joined kind on (p ++ q) (b ++ c)) (joined kind on p b ++ joined kind on q c)
joined-parts kind on p q b c pc qb =
    subst (λ l. IsPermutation l (joined kind on p b ++ joined kind on q c)) (sym (ap₂ ◌++◌ (probed-parts kind on p q b c pc qb) (unmatched-parts kind on p q b c pc qb)))
    (four (probed kind on p b) (probed kind on q c) (unmatched kind on p b) (unmatched kind on q c))

-- ---- dealt by a function of the key

both-true : (a b : Bool) → (not a && b) ≡ true → (a ≡ false) × (b ≡ true)
both-true true b h = absurd (true≢false (sym h))
both-true false b h = (refl, h)

by_case : (b : Bool) → (b ≡ true → ⊥) → b ≡ false
by_case true h = absurd (h refl)
by_case false h = refl

eq-Equal : (k l : Row) → eq_by_cmp key_cmp k l ≡ true → k ≡ l
eq-Equal k l h = key_tied k l (equal_of (key_cmp k l) h)

-- rows in different parts don't match; rows with a null in their key match nothing, wherever they lie
no-match : (deal : Row → ℕ) (on : On) (x y : ℕ) → x ≢ y → (left right : Row) → LiesIn deal on.left_keys x left → LiesIn deal on.right_keys y right → matches on left right ≡ false
no-match deal on x y apart left right here there = by_case (matches on left right) (λ h.
    let parts = both-true (list_any is_null (key_values on.left_keys left)) (eq_by_cmp key_cmp (key_values on.left_keys left) (key_values on.right_keys right)) h in
    let same : key_values on.left_keys left ≡ key_values on.right_keys right = eq-Equal (key_values on.left_keys left) (key_values on.right_keys right) parts.1 in
    apart (sym (here parts.0) ∙ ap deal same ∙ there (subst (λ key. list_any is_null key ≡ false) same parts.0)))

-- rows of two different parts
pub Apart-by_key : (deal : Row → ℕ) (on : On) (x y : ℕ) → x ≢ y → (probe : List Row) (build : List Build) → All (LiesIn deal on.left_keys x) probe → All (λ (b : Build). LiesIn deal on.right_keys y b.row) build
    → Apart on probe build
Apart-by_key deal on x y apart probe build left right k d within j e inside =
    no-match deal on x y apart (get_or probe k d) (get_or build j e).row (left k d within) (right j e inside)

-- ---- any number of parts

Apart-append_build : (on : On) (probe : List Row) (b c : List Build) → Apart on probe b → Apart on probe c → Apart on probe (b ++ c)
Apart-append_build on probe b c left right k d within = All-append (λ (x : Build). matches on (get_or probe k d) x.row ≡ false) b c (left k d within) (right k d within)

Apart-append_probe : (on : On) (p q : List Row) (build : List Build) → Apart on p build → Apart on q build → Apart on (p ++ q) build
Apart-append_probe on p q build left right = All-append (λ left. All (λ (b : Build). matches on left b.row ≡ false) build) p q left right

Apart-nothing : (on : On) (probe : List Row) → Apart on probe []
Apart-nothing on probe k d within j e inside = absurd (omega arith)

-- a part that is apart from each of some parts is apart from all their rows
Apart-all : (on : On) (part : Part) (parts : List Part) → All (λ other. Apart on part.probe other.build × Apart on other.probe part.build) parts → Apart on part.probe (all_build parts) × Apart on (all_probe parts) part.build
Apart-all on part [] h = (Apart-nothing on part.probe, λ k d within. absurd (omega arith))
Apart-all on part (other ∷ parts) h =
    let here = first-is (λ other. Apart on part.probe other.build × Apart on other.probe part.build) other parts h in
    let rest = Apart-all on part parts (later-are (λ other. Apart on part.probe other.build × Apart on other.probe part.build) other parts h) in
    (Apart-append_build on part.probe other.build (all_build parts) here.0 rest.0, Apart-append_probe on other.probe (all_probe parts) part.build here.1 rest.1)

joined-nothing : (kind : JoinKind) (on : On) → joined kind on [] [] ≡ []
joined-nothing Inner on = refl
joined-nothing Left on = refl
joined-nothing Right on = refl
joined-nothing Full on = refl
joined-nothing Semi on = refl
joined-nothing Anti on = refl

-- the joined rows of all parts together are those of the parts put together
pub joined-apart : (kind : JoinKind) (on : On) (parts : List Part) → AreApart on parts → IsPermutation (joined kind on (all_probe parts) (all_build parts)) (joined_in_parts kind on parts)
joined-apart kind on [] h = subst (λ rows. IsPermutation rows []) (sym (joined-nothing kind on)) (IsPermutation-refl [])
joined-apart kind on (part ∷ parts) h =
    let apart = Apart-all on part parts h.0 in
    IsPermutation-trans (joined kind on (part.probe ++ all_probe parts) (part.build ++ all_build parts)) (joined kind on part.probe part.build ++ joined kind on (all_probe parts) (all_build parts))
    (joined kind on part.probe part.build ++ joined_in_parts kind on parts)
    (joined-parts kind on part.probe (all_probe parts) part.build (all_build parts) apart.0 apart.1)
    (IsPermutation-append_right (joined kind on part.probe part.build) (joined kind on (all_probe parts) (all_build parts)) (joined_in_parts kind on parts) (joined-apart kind on parts h.1))

-- a part of a lower number is apart from those that follow
before-apart : (deal : Row → ℕ) (on : On) (x number : ℕ) (part : Part) (parts : List Part) → x < number → All (LiesIn deal on.left_keys x) part.probe → All (λ (b : Build). LiesIn deal on.right_keys x b.row) part.build
    → AreDealtFrom number deal on parts → All (λ other. Apart on part.probe other.build × Apart on other.probe part.build) parts
before-apart deal on x number part [] below left right h = λ k d within. absurd (omega arith)
before-apart deal on x number part (other ∷ parts) below left right h =
    All-cons (λ other. Apart on part.probe other.build × Apart on other.probe part.build) other parts (
      Apart-by_key deal on x number (λ same. absurd (omega arith)) part.probe other.build left h.1,
      Apart-by_key deal on number x (λ same. absurd (omega arith)) other.probe part.build h.0 right,
    )
    (before-apart deal on x (number + 1) part parts (omega arith) left right h.2)

-- parts that are dealt by a function of the key are apart, with rows that have a null in their key in any part
pub AreApart-by_key : (deal : Row → ℕ) (on : On) (number : ℕ) (parts : List Part) → AreDealtFrom number deal on parts → AreApart on parts
AreApart-by_key deal on number [] h = h
AreApart-by_key deal on number (part ∷ parts) h = (before-apart deal on number (number + 1) part parts (omega arith) h.0 h.1 h.2, AreApart-by_key deal on (number + 1) parts h.2)

-- The joined rows of a whole are those of its parts put together, where its rows are dealt by a function of the key.
pub joined-dealt : (kind : JoinKind) (on : On) (deal : Row → ℕ) (probe : List Row) (build : List Build) (parts : List Part) → IsPermutation probe (all_probe parts) → IsPermutation build (all_build parts) → AreDealtFrom 0 deal on parts
    → IsPermutation (joined kind on probe build) (joined_in_parts kind on parts)
joined-dealt kind on deal probe build parts left right dealt =
    IsPermutation-trans (joined kind on probe build) (joined kind on (all_probe parts) (all_build parts)) (joined_in_parts kind on parts)
    (joined-shuffled kind on probe (all_probe parts) build (all_build parts) left right)
    (joined-apart kind on parts (AreApart-by_key deal on 0 parts dealt))
