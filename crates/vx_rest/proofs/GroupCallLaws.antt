-- What an aggregation's calls keep: groups put together, read back and given out.
use Rattle.std.proofs.Common.{◌≡◌, ℕ, Bool, true, false, cond, ◌||◌, List, [], ◌∷◌, ◌++◌, map, fold, refl, sym, ap, ap₂, ◌∙◌, subst, append_assoc, true≢false, Ok, Some, None}
use Rattle.std.specs.List.{list_any}
use Rattle.std.specs.List.Sorted.{IsPermutation}
use Rattle.std.specs.Ordering.{eq_by_cmp}
use Rattle.std.specs.FinMap.{get, entries, same_map}
use Rattle.std.proofs.lemmas.List.{append-nil, map-append}
use Rattle.std.proofs.lemmas.List.Elements.{filter-append}
use Rattle.std.proofs.lemmas.List.Folds.{list_any-append}
use Rattle.std.proofs.lemmas.List.Sums.{fold-append}
use Rattle.std.proofs.lemmas.List.Sorted.{IsPermutation-refl, IsPermutation-map}
use Rattle.vx_value.specs.declared.value.Value.{Value}
use Rattle.vx_value.specs.Row.{Row}
use Rattle.vx_plan.specs.declared.aggregate.Aggregate.{Aggregate}
use Rattle.vx_plan.specs.declared.aggregate.Step.{Step}
use Rattle.vx_plan.specs.declared.aggregate.AggregateName.{AggregateName}
use Rattle.vx_plan.specs.declared.aggregate.AggregateName.TheVariants.{Count, Sum, Min, Max, BoolAnd, BoolOr}
use Rattle.vx_meaning.specs.Folds.{plus, empty, plus_all}
use Rattle.vx_meaning.specs.Groups.{key_cmp, outcome}
use Rattle.vx_meaning.proofs.PlusLaws.{by_test, plus-assoc, plus-turns}
use Rattle.vx_meaning.proofs.Shuffles.{fold-shuffled}
use Rattle.vx_meaning.proofs.Keyed.{get-by_key, by_key-shuffled}
use Rattle.vx_meaning.proofs.GroupLemmas.{key_total, key_tied}
use Rattle.vx_rest.specs.Held.{Held, Group, group_of, folds_over, having_key, gathered, outcomes}
use Rattle.vx_rest.specs.Calls.{GroupKeeps}
use Rattle.vx_rest.proofs.GroupEntries.{has, ShareNone, entries-both}

-- ---- folds over two lists of groups

all-assoc : (aggregates : List Aggregate) (x y z : List Value) → plus_all aggregates (plus_all aggregates x y) z ≡ plus_all aggregates x (plus_all aggregates y z)
all-assoc [] x y z = refl
all-assoc (a ∷ aggregates) [] y z = refl
all-assoc (a ∷ aggregates) (v ∷ x) [] z = refl
all-assoc (a ∷ aggregates) (v ∷ x) (w ∷ y) [] = refl
all-assoc (a ∷ aggregates) (v ∷ x) (w ∷ y) (u ∷ z) = ap₂ ◌∷◌ (plus-assoc a.name v w u) (all-assoc aggregates x y z)

all-turns : (aggregates : List Aggregate) (x y z : List Value) → plus_all aggregates (plus_all aggregates x y) z ≡ plus_all aggregates (plus_all aggregates x z) y
all-turns [] x y z = refl
all-turns (a ∷ aggregates) [] y z = refl
all-turns (a ∷ aggregates) (v ∷ x) [] [] = refl
all-turns (a ∷ aggregates) (v ∷ x) [] (u ∷ z) = refl
all-turns (a ∷ aggregates) (v ∷ x) (w ∷ y) [] = refl
all-turns (a ∷ aggregates) (v ∷ x) (w ∷ y) (u ∷ z) = ap₂ ◌∷◌ (plus-turns a.name v w u) (all-turns aggregates x y z)

twice : (name : AggregateName) → plus name (empty name) (empty name) ≡ empty name
twice Count = refl
twice Sum = refl
twice Min = refl
twice Max = refl
twice BoolAnd = refl
twice BoolOr = refl

abbrev none : List Aggregate → List Value
none aggregates = map (λ a. empty a.name) aggregates

none-twice : (aggregates : List Aggregate) → plus_all aggregates (none aggregates) (none aggregates) ≡ none aggregates
none-twice [] = refl
none-twice (a ∷ aggregates) = ap₂ ◌∷◌ (twice a.name) (none-twice aggregates)

module _ (aggregates : List Aggregate) where
  abbrev more : List Value → Group → List Value
  more so_far g = plus_all aggregates so_far g.folds

  none-through : (x : List Value) (gs : List Group) → plus_all aggregates x (none aggregates) ≡ x → plus_all aggregates (fold more x gs) (none aggregates) ≡ fold more x gs
  none-through x [] h = h
  none-through x (g ∷ gs) h = none-through (more x g) gs (all-turns aggregates x g.folds (none aggregates) ∙ ap (λ y. more y g) h)

  front : (x y : List Value) (gs : List Group) → plus_all aggregates x (fold more y gs) ≡ fold more (plus_all aggregates x y) gs
  front x y [] = refl
  front x y (g ∷ gs) = front x (more y g) gs ∙ ap (λ d. fold more d gs) (sym (all-assoc aggregates x y g.folds))

  pub folds_over-append : (gs hs : List Group) → folds_over aggregates (gs ++ hs) ≡ plus_all aggregates (folds_over aggregates gs) (folds_over aggregates hs)
  folds_over-append gs hs =
      fold-append more (none aggregates) gs hs
      ∙ ap (λ d. fold more d hs) (sym (none-through (none aggregates) gs (none-twice aggregates)))
      ∙ sym (front (folds_over aggregates gs) (none aggregates) hs)

  folds_over-shuffled : (gs hs : List Group) → IsPermutation gs hs → folds_over aggregates gs ≡ folds_over aggregates hs
  folds_over-shuffled gs hs h = fold-shuffled more (λ b x y. all-turns aggregates b x.folds y.folds) gs hs h (none aggregates)

  -- the order of groups doesn't matter
  pub gathered-shuffled : (gs hs : List Group) → IsPermutation gs hs → gathered aggregates gs ≡ gathered aggregates hs
  gathered-shuffled gs hs h = by_key-shuffled key_total key_tied (λ (g : Group). g.key) (folds_over aggregates) folds_over-shuffled gs hs h

  abbrev at : Row → List Group → Bool
  at q gs = has (λ (g : Group). g.key) q gs

  get-is : (gs : List Group) (q : Row) → get (gathered aggregates gs) q ≡ cond (at q gs) (Some (folds_over aggregates (having_key q gs))) None
  get-is gs q = get-by_key key_total key_tied (λ (g : Group). g.key) (folds_over aggregates) gs q

  without : (q : Row) (gs : List Group) → at q gs ≡ false → having_key q gs ≡ []
  without q [] h = refl
  without q (g ∷ gs) h = by_test (eq_by_cmp key_cmp q g.key)
      (λ t. absurd (true≢false (sym (ap (λ b. b || at q gs) t) ∙ h)))
      (λ t. ap (λ b. cond b (g ∷ having_key q gs) (having_key q gs)) t ∙ without q gs (sym (ap (λ b. b || at q gs) t) ∙ h))

  same-there : (b c : Bool) (x y : List Value) → cond b (Some x) None ≡ cond c (Some y) None → (b ≡ c) × (b ≡ true → x ≡ y)
  same-there true true x y h = (refl, λ e. cc)
  same-there true false x y h = absurd (cc)
  same-there false true x y h = absurd (cc)
  same-there false false x y h = (refl, λ e. absurd (true≢false (sym e)))

  -- what gathers alike has the same keys with the same folds
  alike : (gs hs : List Group) → gathered aggregates gs ≡ gathered aggregates hs → (q : Row) → (at q gs ≡ at q hs) × (folds_over aggregates (having_key q gs) ≡ folds_over aggregates (having_key q hs))
  alike gs hs h q =
      let s = same-there (at q gs) (at q hs) (folds_over aggregates (having_key q gs)) (folds_over aggregates (having_key q hs)) (sym (get-is gs q) ∙ ap (λ m. get m q) h ∙ get-is hs q) in
      (s.0, by_test (at q gs) s.1 (λ e. ap (folds_over aggregates) (without q gs e ∙ sym (without q hs (sym s.0 ∙ e)))))

  -- and does so with further groups behind
  pub gathered-behind : (gs hs later : List Group) → gathered aggregates gs ≡ gathered aggregates hs → gathered aggregates (gs ++ later) ≡ gathered aggregates (hs ++ later)
  gathered-behind gs hs later h = same_map key_total key_tied (gathered aggregates (gs ++ later)) (gathered aggregates (hs ++ later)) (λ q.
      let s = alike gs hs h q in
      get-is (gs ++ later) q
      ∙ ap₂ (λ b x. cond b (Some x) None)
      (parts gs q ∙ ap (λ b. b || at q later) s.0 ∙ sym (parts hs q))
      (folds gs q ∙ ap (λ x. plus_all aggregates x (folds_over aggregates (having_key q later))) s.1 ∙ sym (folds hs q))
      ∙ sym (get-is (hs ++ later) q)) where
        parts : (gs : List Group) (q : Row) → at q (gs ++ later) ≡ (at q gs || at q later)
        parts gs q = ap (list_any (eq_by_cmp key_cmp q)) (map-append (λ (g : Group). g.key) gs later) ∙ list_any-append (eq_by_cmp key_cmp q) (map (λ (g : Group). g.key) gs) (map (λ (g : Group). g.key) later)

        folds : (gs : List Group) (q : Row) → folds_over aggregates (having_key q (gs ++ later)) ≡ plus_all aggregates (folds_over aggregates (having_key q gs)) (folds_over aggregates (having_key q later))
        folds gs q = ap (folds_over aggregates) (filter-append (λ (g : Group). eq_by_cmp key_cmp q g.key) gs later) ∙ folds_over-append (having_key q gs) (having_key q later)

  -- groups without a common key
  pub outcomes-both : (step : Step) (gs hs : List Group) → ShareNone (λ (g : Group). g.key) gs hs → IsPermutation (outcomes step aggregates (gs ++ hs)) (outcomes step aggregates gs ++ outcomes step aggregates hs)
  outcomes-both step gs hs apart =
      subst (IsPermutation (outcomes step aggregates (gs ++ hs))) (map-append (outcome step aggregates) (entries (gathered aggregates gs)) (entries (gathered aggregates hs)))
      (IsPermutation-map (outcome step aggregates) _ _ (entries-both (λ (g : Group). g.key) (folds_over aggregates) gs hs apart))

-- ---- the calls

-- a batch is taken in, where it doesn't matter how the groups then stand
pub Group-takes : (step : Step) (keys : List ℕ) (aggregates : List Aggregate) (old new : Held) (taken : List Row) → old.ended ≡ false
    → gathered aggregates (old.groups ++ map (group_of step keys aggregates) taken) ≡ gathered aggregates new.groups → GroupKeeps step keys aggregates old new taken []
Group-takes step keys aggregates old new taken going same more ends = record {
  ends = λ e. absurd (true≢false (sym e ∙ going));
  is =
      let g = group_of step keys aggregates in
      subst (λ l. IsPermutation (outcomes step aggregates (old.groups ++ map g (taken ++ more))) l)
      (ap (λ l. outcomes step aggregates (old.groups ++ l)) (map-append g taken more) ∙ ap (outcomes step aggregates) (sym (append_assoc old.groups (map g taken) (map g more)))
      ∙ ap (λ m. map (outcome step aggregates) (entries m)) (gathered-behind aggregates (old.groups ++ map g taken) new.groups (map g more) same)) (IsPermutation-refl _);
}

-- an end, a merge or a reclaim: the groups gather alike, and an end stays an end
pub Group-stays : (step : Step) (keys : List ℕ) (aggregates : List Aggregate) (old new : Held) → (old.ended ≡ true → new.ended ≡ true) → gathered aggregates old.groups ≡ gathered aggregates new.groups → GroupKeeps step keys aggregates old new [] []
Group-stays step keys aggregates old new still same more ends = record {
  ends = λ e. ends (still e);
  is = subst (λ l. IsPermutation (outcomes step aggregates (old.groups ++ map (group_of step keys aggregates) more)) l) (ap (λ m. map (outcome step aggregates) (entries m)) (gathered-behind aggregates old.groups new.groups (map (group_of step keys aggregates) more) same)) (IsPermutation-refl _);
}

-- groups are given out, after the end
pub Group-gives : (step : Step) (keys : List ℕ) (aggregates : List Aggregate) (old new : Held) (gone : List Group) (put : List Row) → new.ended ≡ true → gathered aggregates old.groups ≡ gathered aggregates (gone ++ new.groups)
    → ShareNone (λ (g : Group). g.key) gone new.groups → outcomes step aggregates gone ≡ map Ok put → GroupKeeps step keys aggregates old new [] put
Group-gives step keys aggregates old new gone put ended same apart is more ends = record {
  ends = λ e. ends ended;
  is =
      let g = group_of step keys aggregates in
      let nothing : more ≡ [] = ends ended in
      let at_end = λ (l : List Row). IsPermutation (outcomes step aggregates (old.groups ++ map g l)) (map Ok put ++ outcomes step aggregates (new.groups ++ map g l)) in
      subst at_end (sym nothing)
      (subst (λ l. IsPermutation (outcomes step aggregates l) (map Ok put ++ outcomes step aggregates (new.groups ++ []))) (sym (append-nil old.groups))
      (subst (λ l. IsPermutation (outcomes step aggregates old.groups) (map Ok put ++ outcomes step aggregates l)) (sym (append-nil new.groups))
      (subst (λ m. IsPermutation (map (outcome step aggregates) (entries m)) (map Ok put ++ outcomes step aggregates new.groups)) (sym same)
      (subst (λ l. IsPermutation (outcomes step aggregates (gone ++ new.groups)) (l ++ outcomes step aggregates new.groups)) is (outcomes-both aggregates step gone new.groups apart)))));
}
