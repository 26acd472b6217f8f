-- A join's calls don't raise what may still be taken from it.
use Rattle.std.proofs.Common.{◌≡◌, ℕ, ◌+◌, ◌*◌, ◌≤◌, Bool, true, false, cond, List, [], ◌∷◌, map, length, refl, arith, mul-le-mul, add-mul, suc-mul, mul-add, mul-one}
use Rattle.std.specs.Prelude.{filter}
use Rattle.std.proofs.lemmas.List.{length-append}
use Rattle.vx_value.specs.Row.{Row}
use Rattle.vx_plan.specs.declared.node.JoinKind.{JoinKind}
use Rattle.vx_plan.specs.declared.node.JoinKind.TheVariants.{Inner, Left, Right, Full, Semi, Anti}
use Rattle.vx_meaning.specs.Joins.{On, Build, nulls, partners, pairs, if_none, given, probed, is_alone, alone, unmatched, joined}
use Rattle.vx_rest.specs.Counts.{join_most}
use Rattle.vx_rest.specs.Sums.{allowed}

-- ---- how many rows

filter-fewer : {X : Type 0} (test : X → Bool) (xs : List X) → length (filter test xs) ≤ length xs
filter-fewer test [] = omega arith
filter-fewer test (x ∷ xs) = at (test x) (filter-fewer test xs) where
  at : (b : Bool) → length (filter test xs) ≤ length xs → length (cond b (x ∷ filter test xs) (filter test xs)) ≤ length (x ∷ xs)
  at true h = omega arith
  at false h = omega arith

pairs-many : (left : Row) (rights : List Row) → length (pairs left rights) ≡ length rights
pairs-many left [] = refl
pairs-many left (r ∷ rights) = let e = pairs-many left rights in omega arith

given-few : (kind : JoinKind) (on : On) (left : Row) (rights : List Row) → length (given kind on left rights) ≤ allowed kind (length rights)
given-few Inner on left rights = let e = pairs-many left rights in omega arith
given-few Right on left rights = let e = pairs-many left rights in omega arith
given-few Left on left [] = omega arith
given-few Left on left (r ∷ rights) = let e = pairs-many left (r ∷ rights) in omega arith
given-few Full on left [] = omega arith
given-few Full on left (r ∷ rights) = let e = pairs-many left (r ∷ rights) in omega arith
given-few Semi on left [] = omega arith
given-few Semi on left (r ∷ rights) = omega arith
given-few Anti on left [] = omega arith
given-few Anti on left (r ∷ rights) = omega arith

allowed-more : (kind : JoinKind) (a b : ℕ) → a ≤ b → allowed kind a ≤ allowed kind b
allowed-more Inner a b h = omega arith
allowed-more Left a b h = omega arith
allowed-more Right a b h = omega arith
allowed-more Full a b h = omega arith
allowed-more Semi a b h = omega arith
allowed-more Anti a b h = omega arith

rows-many : (build : List Build) → length (map (λ (b : Build). b.row) build) ≡ length build
rows-many [] = refl
rows-many (b ∷ build) = let e = rows-many build in omega arith

partners-few : (on : On) (build : List Build) (left : Row) → length (partners on build left) ≤ length build
partners-few on build left =
    let few = filter-fewer (Rattle.vx_meaning.specs.Joins.matches on left) (map (λ (b : Build). b.row) build) in
    let same = rows-many build in
    omega arith

pub probed-few : (kind : JoinKind) (on : On) (probe : List Row) (build : List Build) → length (probed kind on probe build) ≤ length probe * allowed kind (length build)
probed-few kind on [] build = omega arith
probed-few kind on (left ∷ probe) build =
    let one = given-few kind on left (partners on build left) in
    let most = allowed-more kind (length (partners on build left)) (length build) (partners-few on build left) in
    let rest = probed-few kind on probe build in
    let sum = length-append (given kind on left (partners on build left)) (probed kind on probe build) in
    let times = suc-mul (length probe) (allowed kind (length build)) in
    omega arith

-- ---- the bound

pub join_most-mono : (kind : JoinKind) (w w' m m' b b' : ℕ) → w ≤ w' → m ≤ m' → b ≤ b' → join_most kind w m b ≤ join_most kind w' m' b'
join_most-mono Semi w w' m m' b b' p q r = omega arith
join_most-mono Anti w w' m m' b b' p q r = omega arith
join_most-mono Inner w w' m m' b b' p q r = let t = mul-le-mul q r in omega arith
join_most-mono Left w w' m m' b b' p q r = let t = mul-le-mul q r in omega arith
join_most-mono Right w w' m m' b b' p q r = let t = mul-le-mul q r in omega arith
join_most-mono Full w w' m m' b b' p q r = let t = mul-le-mul q r in omega arith

-- k probe rows are answered by p rows
pub join_most-answers : (kind : JoinKind) (w p k m b : ℕ) → p ≤ k * allowed kind b → join_most kind (w + p) m b ≤ join_most kind w (k + m) b
join_most-answers Semi w p k m b h = let one : k * 1 ≡ k = mul-one k in omega arith
join_most-answers Anti w p k m b h = let one : k * 1 ≡ k = mul-one k in omega arith
join_most-answers Inner w p k m b h = let x = mul-add k b 1 in let one : k * 1 ≡ k = mul-one k in let y = add-mul k m b in omega arith
join_most-answers Left w p k m b h = let x = mul-add k b 1 in let one : k * 1 ≡ k = mul-one k in let y = add-mul k m b in omega arith
join_most-answers Right w p k m b h = let x = mul-add k b 1 in let one : k * 1 ≡ k = mul-one k in let y = add-mul k m b in omega arith
join_most-answers Full w p k m b h = let x = mul-add k b 1 in let one : k * 1 ≡ k = mul-one k in let y = add-mul k m b in omega arith

-- build rows leave, and no more are given
pub join_most-leaves : (kind : JoinKind) (w put gone m b : ℕ) → put ≤ gone → (kind ≡ Semi → put ≡ 0) → (kind ≡ Anti → put ≡ 0) → join_most kind w m b + put ≤ join_most kind w m (gone + b)
join_most-leaves Semi w put gone m b h s a = let z = s refl in omega arith
join_most-leaves Anti w put gone m b h s a = let z = a refl in omega arith
join_most-leaves Inner w put gone m b h s a = let x = mul-add m gone b in omega arith
join_most-leaves Left w put gone m b h s a = let x = mul-add m gone b in omega arith
join_most-leaves Right w put gone m b h s a = let x = mul-add m gone b in omega arith
join_most-leaves Full w put gone m b h s a = let x = mul-add m gone b in omega arith
