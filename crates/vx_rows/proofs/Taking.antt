-- What a call does to an arena that holds many texts, and what two calls do one after another.
use Rattle.std.proofs.Common.{◌≡◌, ℕ, ◌+◌, ◌*◌, ◌^◌, ◌<◌, ◌≤◌, nat_le, false, List, [], ◌∷◌, ◌++◌, length, take, drop, get_or, set, All, refl, sym, ap, ◌∙◌, subst, arith, append_assoc, zero, suc, drop-cons, Bor}
use Rattle.std.specs.List.{sum_by}
use Rattle.std.specs.List.Sorted.{IsPermutation}
use Rattle.std.proofs.lemmas.List.{take_more, length-take-le, take-append-drop}
use Rattle.std.proofs.lemmas.List.Elements.{All-head, All-tail}
use Rattle.std.proofs.lemmas.List.Sums.{sum_by-set, sum_by_more, sum_by-cons}
use Rattle.std.proofs.lemmas.List.Sorted.{IsPermutation-middle, IsPermutation-trans, IsPermutation-cons}
use Rattle.vx_raw.specs.declared.place.Place.{Place}
use Rattle.vx_arena.specs.Names.{name_of}
use Rattle.vx_arena.specs.Chunks.{Chunks}
use Rattle.vx_arena.specs.Part.{Paid, none_made, spare_left, all_paid, Pays, PaysMore}
use Rattle.vx_arena.specs.Text.{ArenaModel, GivesAll, GivesText, IsNew, IsText, KeepsOthers, KeepsTexts, Reads, TakesNothing, TakesText, blocks_of, cost_of, count_at, more}
use Rattle.vx_value.specs.declared.value.Kind.{Kind}
use Rattle.vx_value.specs.declared.value.Value.{Value}
use Rattle.vx_value.specs.declared.value.Value.TheVariants as value
use Rattle.vx_value.specs.Value.{IsText as IsLawfulText}
use Rattle.vx_vector.specs.Column.{FitsKind}
use Rattle.vx_rows.specs.declared.field.FieldRef.{FieldRef}
use Rattle.vx_rows.specs.declared.field.FieldRef.TheVariants as lent
use Rattle.vx_rows.specs.declared.fields.Extra.TheVariants as extra
use Rattle.vx_arena.proofs.Paying.{pays_then, pays_cost, pays_kept}
use Rattle.vx_rows.specs.Body.{Stored, null, bool, int, short, long, raw, seen, CanBeSpelled, IsOf}
use Rattle.vx_rows.specs.Texts.{value_of, IsKept, same_place, Holds, SameValue, blocks_in, text_cost, Adds, Frees, Keeps, StandsAt, Stores}
use Rattle.vx_rows.proofs.Holding.{holds_permuted, holds_cons, holds_head, holds_tail, all_behind, all_stay, all_stay_kept, all_stay_others, values_stay, all_new_apart}

-- ---- counts

pub more_more : (count a b : ℕ) → more (more count a) b ≡ more count (a + b)
more_more count a b = omega arith

pub same_then : (a m d : ArenaModel) (xs : List Stored) → All (SameValue a m) xs → All (SameValue m d) xs → All (SameValue a d) xs
same_then a m d xs one two = λ k s less. two k s less ∙ one k s less

-- ---- fields that hold no text

abbrev pub IsPlain : Stored → Type 0
IsPlain (long len front place) = ⊥
IsPlain _ = Unit {0}

plain_apart : (s y : Stored) → IsPlain s → same_place s y ≡ false
plain_apart null y plain = refl
plain_apart (bool b) y plain = refl
plain_apart (int n) y plain = refl
plain_apart (short t) y plain = refl
plain_apart (long len front place) y plain = absurd plain
plain_apart (raw b) y plain = refl

plain_blocks : (s : Stored) → IsPlain s → blocks_in s ≡ 0
plain_blocks null plain = refl
plain_blocks (bool b) plain = refl
plain_blocks (int n) plain = refl
plain_blocks (short t) plain = refl
plain_blocks (long len front place) plain = absurd plain
plain_blocks (raw b) plain = refl

pub holds_plain : (a : ArenaModel) (s : Stored) (xs : List Stored) → IsPlain s → IsKept a s → Holds a xs → Holds a (s ∷ xs)
holds_plain a s xs plain kept h = holds_cons a s xs kept (λ k y less. plain_apart s (get_or xs k y) plain) h

-- nothing changes where a plain value is stored
pub adds_plain : (a : ArenaModel) (s : Stored) → a.taken < 2 ^ 64 → IsPlain s → IsKept a s → Adds a a (s ∷ []) 0
adds_plain a s fits plain kept = record {
  holds = λ others h. holds_plain a s others plain kept h;
  values = λ others h k y less. refl;
  taken = let none_of : blocks_in s ≡ 0 = plain_blocks s plain in omega (arith, fits, none_of);
  given = refl;
  pays = pays_kept a.chunks a.chunks refl (λ n l spare. spare);
}

-- ---- a field set where there was none

exchange : (a b : Stored) (xs : List Stored) → IsPermutation (a ∷ b ∷ xs) (b ∷ a ∷ xs)
exchange a b xs = IsPermutation-middle (a ∷ []) b xs

-- an item that is set goes to the front, and the one before it comes from there
pub set_front : (xs : List Stored) (i : ℕ) (s : Stored) (others : List Stored) → i < length xs → IsPermutation (s ∷ (xs ++ others)) (get_or xs i null ∷ (set xs i s ++ others))
set_front [] i s others less = absurd (omega (arith, less))
set_front (x ∷ xs) zero s others less = exchange s x (xs ++ others)
set_front (x ∷ xs) (suc i) s others less =
    let rest : IsPermutation (s ∷ (xs ++ others)) (get_or xs i null ∷ (set xs i s ++ others)) = set_front xs i s others (omega (arith, less)) in
    IsPermutation-trans (s ∷ x ∷ (xs ++ others)) (x ∷ s ∷ (xs ++ others)) (get_or xs i null ∷ x ∷ (set xs i s ++ others)) (exchange s x (xs ++ others))
    (IsPermutation-trans (x ∷ s ∷ (xs ++ others)) (x ∷ get_or xs i null ∷ (set xs i s ++ others)) (get_or xs i null ∷ x ∷ (set xs i s ++ others))
    (IsPermutation-cons x (s ∷ (xs ++ others)) (get_or xs i null ∷ (set xs i s ++ others)) rest)
    (exchange x (get_or xs i null) (set xs i s ++ others)))

pub adds_then : (a m d : ArenaModel) (xs : List Stored) (i : ℕ) (s : Stored) (x y : ℕ) → i < length xs → get_or xs i null ≡ null → Adds a m xs x → Adds m d (s ∷ []) y → Adds a d (set xs i s) (x + y)
adds_then a m d xs i s x y less was one two = record {
  holds = λ others h.
      let both : Holds d (s ∷ (xs ++ others)) = two.holds (xs ++ others) (one.holds others h) in
      holds_tail d (get_or xs i null) (set xs i s ++ others) (holds_permuted d (s ∷ (xs ++ others)) (get_or xs i null ∷ (set xs i s ++ others)) (set_front xs i s others less) both);
  values = λ others h. same_then a m d others (one.values others h) (all_behind (SameValue m d) xs others (two.values (xs ++ others) (one.holds others h)));
  taken =
      let sum : sum_by blocks_in (set xs i s) + blocks_in (get_or xs i null) ≡ sum_by blocks_in xs + blocks_in s = sum_by-set blocks_in xs i s null less in
      let none_of : blocks_in (get_or xs i null) ≡ 0 = ap blocks_in was in
      let first : m.taken ≡ more a.taken (sum_by blocks_in xs) = one.taken in
      let second : d.taken ≡ more m.taken (0 + blocks_in s) = two.taken in
      omega (arith, sum, none_of, first, second);
  given = two.given ∙ one.given;
  pays = pays_then a.chunks m.chunks d.chunks x y one.pays two.pays;
}

-- ---- fields freed one after another

pub frees_more : (a m d : ArenaModel) (xs : List Stored) (i : ℕ) (s : Stored) → i < length xs → get_or xs i null ≡ s → Frees a m (take i xs) → Frees m d (s ∷ []) → Frees a d (take (i + 1) xs)
frees_more a m d xs i s less is one two =
    let more_is : take (i + 1) xs ≡ take i xs ++ s ∷ [] = take_more xs i null less ∙ ap (λ (x : Stored). take i xs ++ x ∷ []) is in
    let regroup = λ (others : List Stored). ap (λ (l : List Stored). l ++ others) more_is ∙ append_assoc (take i xs) (s ∷ []) others in
    let held = λ (others : List Stored) (h : Holds a (take (i + 1) xs ++ others)). subst (λ (l : List Stored). Holds a l) (regroup others) h in
    record {
      holds = λ others h. two.holds others (one.holds (s ∷ others) (held others h));
      values = λ others h. same_then a m d others (All-tail (SameValue a m) s others (one.values (s ∷ others) (held others h))) (two.values others (one.holds (s ∷ others) (held others h)));
      taken = two.taken ∙ one.taken;
      given =
          let sum : sum_by blocks_in (take (i + 1) xs) ≡ sum_by blocks_in (take i xs) + blocks_in (get_or xs i null) = sum_by_more blocks_in xs i null less in
          let last : blocks_in (get_or xs i null) ≡ blocks_in s = ap blocks_in is in
          let first : m.given ≡ more a.given (sum_by blocks_in (take i xs)) = one.given in
          let second : d.given ≡ more m.given (0 + blocks_in s) = two.given in
          omega (arith, sum, last, first, second);
      pays = pays_then a.chunks m.chunks d.chunks 0 0 one.pays two.pays;
    }

-- ---- what was added is freed, since more couldn't be

pub keeps_freed : (a m n d : ArenaModel) (xs : List Stored) (x y : ℕ) → Adds a m xs x → Keeps m n y → Frees n d xs → Keeps a d (x + y)
keeps_freed a m n d xs x y one two three = record {
  holds = λ others h. three.holds others (two.holds (xs ++ others) (one.holds others h));
  values = λ others h. same_then a n d others
      (same_then a m n others (one.values others h) (all_behind (SameValue m n) xs others (two.values (xs ++ others) (one.holds others h))))
      (three.values others (two.holds (xs ++ others) (one.holds others h)));
  blocks = sum_by blocks_in xs + two.blocks;
  taken =
      let first : m.taken ≡ more a.taken (sum_by blocks_in xs) = one.taken in
      let second : n.taken ≡ more m.taken two.blocks = two.taken in
      let third : d.taken ≡ n.taken = three.taken in
      omega (arith, first, second, third);
  given =
      let first : m.given ≡ a.given = one.given in
      let second : n.given ≡ more m.given two.blocks = two.given in
      let third : d.given ≡ more n.given (sum_by blocks_in xs) = three.given in
      omega (arith, first, second, third);
  pays = pays_cost a.chunks d.chunks (x + y + 0) (x + y) (omega arith) (pays_then a.chunks n.chunks d.chunks (x + y) 0 (pays_then a.chunks m.chunks n.chunks x y one.pays two.pays) three.pays);
}

-- what was added is freed
pub added_freed : (a m d : ArenaModel) (xs : List Stored) (x : ℕ) → Adds a m xs x → Frees m d xs → Keeps a d x
added_freed a m d xs x one two = record {
  holds = λ others h. two.holds others (one.holds others h);
  values = λ others h. same_then a m d others (one.values others h) (two.values others (one.holds others h));
  blocks = sum_by blocks_in xs;
  taken = two.taken ∙ one.taken;
  given = two.given ∙ ap (λ (n : ℕ). more n (sum_by blocks_in xs)) one.given;
  pays = pays_cost a.chunks d.chunks (x + 0) x (omega arith) (pays_then a.chunks m.chunks d.chunks x 0 one.pays two.pays);
}

-- ---- one field stored, or freed

pub stores_plain : (a : ArenaModel) (v : Value) (s : Stored) → a.taken < 2 ^ 64 → IsPlain s → IsKept a s → value_of a s ≡ v → CanBeSpelled s → ((k : Kind) → FitsKind k v → IsOf (extra.Slot k) s) → text_cost v ≡ 0 → Stores a a v s
stores_plain a v s fits plain kept is spelled kind none_of = record {
  adds = subst (λ (n : ℕ). Adds a a (s ∷ []) n) (sym none_of) (adds_plain a s fits plain kept);
  kept = kept;
  is = is;
  spelled = spelled;
  kind_is = kind;
}

cost : (text : List ℕ) → 12 < length text → cost_of (length text) ≡ text_cost (value.Text text)
cost text long_is =
    let test : nat_le (length text) 12 ≡ false = grind arith in
    rw test refl

module _ (a d : ArenaModel) (text : List ℕ) (place : Place) (long_is : 12 < length text) (lawful : IsLawfulText text) where
  new : Stored
  new = long (length text) (take 4 text) place

  stands : IsText d place → Reads d place text → count_at d place ≡ blocks_of (length text) → StandsAt d (length text) (take 4 text) place
  stands there reads count = record {
    is_text = there;
    lawful = subst (λ (t : List ℕ). IsLawfulText t) (sym reads) lawful;
    whole = ap length reads;
    front_is = ap (take 4) reads;
    blocks = count;
    least = long_is;
  }

  adds_long : TakesText a d (name_of place) text → IsNew a place → StandsAt d (length text) (take 4 text) place → KeepsTexts a d → Adds a d (long (length text) (take 4 text) place ∷ []) (text_cost (value.Text text))
  unfolding new
  adds_long takes fresh there keeps = record {
    holds = λ others h. holds_cons d new others there (all_new_apart a (length text) (take 4 text) place others fresh h) (all_stay a d others h (all_stay_kept a d others keeps h));
    values = λ others h. values_stay a d others (all_stay_kept a d others keeps h);
    taken = let first : d.taken ≡ more a.taken (blocks_of (length text)) = takes.taken in omega (arith, first);
    given = takes.given;
    pays = pays_cost a.chunks d.chunks (cost_of (length text)) (text_cost (value.Text text)) (cost text long_is) takes.pays;
  }

  pub stores_long : place.chunk < 2 ^ 32 → TakesText a d (name_of place) text → IsNew a place → IsText d place → Reads d place text → count_at d place ≡ blocks_of (length text) → KeepsTexts a d → Stores a d (value.Text text) (long (length text) (take 4 text) place)
  stores_long chunk takes fresh there reads count keeps = record {
    adds = adds_long takes fresh (stands there reads count) keeps;
    kept = stands there reads count;
    is = ap value.Text reads;
    spelled = record {
      least = long_is;
      most = let short : length text ≤ 65535 = lawful.short in omega (arith, short);
      four = length-take-le 4 text (omega (arith, long_is));
      chunk = chunk;
      near = there.near;
    };
    kind_is = λ k fits. sym fits;
  }

pub keeps_failed : (a d : ArenaModel) (text : List ℕ) → 12 < length text → TakesNothing a d text → KeepsTexts a d → Keeps a d (text_cost (value.Text text))
keeps_failed a d text long_is nothing keeps = record {
  holds = λ others h. all_stay a d others h (all_stay_kept a d others keeps h);
  values = λ others h. values_stay a d others (all_stay_kept a d others keeps h);
  blocks = nothing.blocks;
  taken = nothing.taken;
  given = nothing.given;
  pays = pays_cost a.chunks d.chunks (cost_of (length text)) (text_cost (value.Text text)) (cost text long_is) nothing.pays;
}

pub frees_plain : (a : ArenaModel) (s : Stored) → a.given < 2 ^ 64 → IsPlain s → Frees a a (s ∷ [])
frees_plain a s fits plain = record {
  holds = λ others h. holds_tail a s others h;
  values = λ others h k y less. refl;
  taken = refl;
  given = let none_of : blocks_in s ≡ 0 = plain_blocks s plain in omega (arith, fits, none_of);
  pays = pays_kept a.chunks a.chunks refl (λ n l spare. spare);
}

pub frees_long : (a d : ArenaModel) (len : ℕ) (front : List ℕ) (place : Place) → StandsAt a len front place → GivesAll a d (name_of place) → KeepsOthers a d place → d.given ≡ more a.given (count_at a place) → Frees a d (long len front place ∷ [])
frees_long a d len front place there gives keeps given =
    let text : GivesText a d there.is_text.text.names = gives there.is_text.text.names there.is_text.text.chain in
    let count : count_at a place ≡ blocks_of len = there.blocks in
    record {
      holds = λ others h. all_stay a d others (holds_tail a (long len front place) others h) (all_stay_others a d len front place others keeps h);
      values = λ others h. values_stay a d others (all_stay_others a d len front place others keeps h);
      taken = text.taken;
      given = omega (arith, given, count);
      pays = text.pays;
    }

-- fields that hold no text change nothing
pub adds_nothing : (a : ArenaModel) (xs : List Stored) → a.taken < 2 ^ 64 → All IsPlain xs → All (IsKept a) xs → Adds a a xs 0
adds_nothing a xs fits plain kept = record {
  holds = λ others h. all_held others h xs plain kept;
  values = λ others h k y less. refl;
  taken = let none_of : sum_by blocks_in xs ≡ 0 = no_blocks xs plain in omega (arith, fits, none_of);
  given = refl;
  pays = pays_kept a.chunks a.chunks refl (λ n l spare. spare);
}
  where
    all_held : (others : List Stored) → Holds a others → (xs : List Stored) → All IsPlain xs → All (IsKept a) xs → Holds a (xs ++ others)
    all_held others h [] plain kept = h
    all_held others h (x ∷ xs) plain kept = holds_plain a x (xs ++ others) (All-head IsPlain x xs plain) (All-head (IsKept a) x xs kept) (all_held others h xs (All-tail IsPlain x xs plain) (All-tail (IsKept a) x xs kept))

    no_blocks : (xs : List Stored) → All IsPlain xs → sum_by blocks_in xs ≡ 0
    no_blocks [] plain = refl
    no_blocks (x ∷ xs) plain =
        let first : blocks_in x ≡ 0 = plain_blocks x (All-head IsPlain x xs plain) in
        let rest : sum_by blocks_in xs ≡ 0 = no_blocks xs (All-tail IsPlain x xs plain) in
        omega (arith, first, rest, sum_by-cons blocks_in x xs)

-- what is lent and isn't a longer text
pub plain_unless : (s : FieldRef) → ((len : ℕ) (front : Bor (List ℕ)) (place : Place) → s ≡ lent.Long len front place → ⊥) → IsPlain (seen s)
plain_unless lent.Null not_long = tt
plain_unless (lent.Bool b) not_long = tt
plain_unless (lent.Int n) not_long = tt
plain_unless (lent.Short text) not_long = tt
plain_unless (lent.Long len front place) not_long = absurd (not_long len front place refl)
plain_unless (lent.Raw bytes) not_long = tt

-- ---- one after another

pub frees_none : (a : ArenaModel) → a.given < 2 ^ 64 → Frees a a []
frees_none a fits = record {
  holds = λ others h. h;
  values = λ others h k y less. refl;
  taken = refl;
  given = omega (arith, fits);
  pays = pays_kept a.chunks a.chunks refl (λ n l spare. spare);
}

-- the next one is there still
pub kept_next : (a m : ArenaModel) (xs : List Stored) (i : ℕ) → i < length xs → Holds a xs → Frees a m (take i xs) → IsKept m (get_or xs i null)
kept_next a m xs i less h freed =
    let whole : Holds a (take i xs ++ drop i xs) = subst (λ (l : List Stored). Holds a l) (sym (take-append-drop i xs)) h in
    let rest : Holds m (drop i xs) = freed.holds (drop i xs) whole in
    holds_head m (get_or xs i null) (drop (suc i) xs) (subst (λ (l : List Stored). Holds m l) (drop-cons xs i null less) rest)

-- ---- a greater cost

paid_more : (c : Chunks) (made x y : ℕ) → x ≤ y → Paid c made x → Paid c made y
paid_more c made x y less (none_made none_is) = none_made none_is
paid_more c made x y less (spare_left name len spare fits enough) = spare_left name len spare fits (omega (arith, less, enough))
paid_more c made x y less (all_paid enough) = all_paid (omega (arith, less, enough))

pays_more : (a d : Chunks) (x y : ℕ) → x ≤ y → Pays a d x → Pays a d y
pays_more a d x y less pays made spent paid =
    let p : PaysMore a d made spent x = pays made spent paid in
    let few : 2041 * (made + p.chunks) ≤ spent + x + 2041 = p.few in
    record {
      chunks = p.chunks;
      held = p.held;
      none = λ e. p.none (omega (arith, less, e));
      paid = paid_more d (made + p.chunks) (spent + x) (spent + y) (omega (arith, less)) p.paid;
      few = omega (arith, less, few);
    }

pub keeps_more : (a d : ArenaModel) (x y : ℕ) → x ≤ y → Keeps a d x → Keeps a d y
keeps_more a d x y less k = record {
  holds = k.holds;
  values = k.values;
  blocks = k.blocks;
  taken = k.taken;
  given = k.given;
  pays = pays_more a.chunks d.chunks x y less k.pays;
}
