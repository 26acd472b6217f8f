-- A settled plan has answers that are permutations of one list.
use Rattle.std.proofs.Common.{◌≡◌, ℕ, Bool, true, false, ◌&&◌, List, [], ◌∷◌, map, length, refl, sym, ap, ◌∙◌, subst, arith, true≢false, Ok, Err}
use Rattle.std.specs.Prelude.{flat_map}
use Rattle.std.specs.List.{filter as where_true}
use Rattle.std.specs.List.Sorted.{IsPermutation}
use Rattle.std.proofs.lemmas.List.{append-nil}
use Rattle.std.proofs.lemmas.List.Sorted.{IsPermutation-sym, IsPermutation-trans, IsPermutation-map}
use Rattle.vx_value.specs.Row.{Row}
use Rattle.vx_plan.specs.declared.aggregate.Aggregate.{Aggregate}
use Rattle.vx_plan.specs.declared.aggregate.Step.{Step}
use Rattle.vx_plan.specs.declared.widths.Width.{Width}
use Rattle.vx_plan.specs.declared.widths.Width.TheVariants.{One, Many}
use Rattle.vx_plan.specs.Tree.{Tree, values, over, join, Own, filter, project, aggregation, order, topn, limit, exchange}
use Rattle.vx_plan.specs.Width.{width_of}
use Rattle.vx_plan.specs.Widths.{is_one}
use Rattle.vx_meaning.specs.Rows.{holds, image}
use Rattle.vx_meaning.specs.Groups.{Outcome, groups}
use Rattle.vx_meaning.specs.Joins.{fresh, joined}
use Rattle.vx_meaning.specs.Lines.{spread, Line}
use Rattle.vx_meaning.specs.Answer.{Answers, joined_on}
use Rattle.vx_meaning.specs.Settled.{is_settled_over, is_settled}
use Rattle.vx_meaning.proofs.Shuffles.{filter-shuffled}
use Rattle.vx_meaning.proofs.GroupLemmas.{groups-shuffled}
use Rattle.vx_meaning.proofs.JoinLaws.{joined-shuffled}

both-true : (a b : Bool) → (a && b) ≡ true → (a ≡ true) × (b ≡ true)
both-true true b h = (refl, h)
both-true false b h = absurd (true≢false (sym h))

one-is : (w : Width) → is_one w ≡ true → w ≡ One
one-is One h = refl
one-is Many h = absurd (true≢false (sym h))

-- the row of an outcome; an overflow has none
row_in : Outcome → Row
row_in (Ok row) = row
row_in (Err key) = []

rows-in : (rows : List Row) → map row_in (map Ok rows) ≡ rows
unfolding row_in
rows-in [] = refl
rows-in (row ∷ rows) = ap (λ rest. row ∷ rest) (rows-in rows)

rows-shuffled : (xs ys : List Row) → IsPermutation {X = Outcome} (map Ok xs) (map Ok ys) → IsPermutation xs ys
rows-shuffled xs ys h = subst (λ l. IsPermutation l ys) (rows-in xs) (subst (IsPermutation (map row_in (map Ok xs))) (rows-in ys) (IsPermutation-map row_in (map Ok xs) (map Ok ys) h))

-- of two that come from permutations of one list
through : {X : Type 0} (a b xs ys : List X) → IsPermutation a b → IsPermutation a xs → IsPermutation b ys → IsPermutation xs ys
through a b xs ys ab ax by = IsPermutation-trans xs a ys (IsPermutation-sym a xs ax) (IsPermutation-trans a b ys ab by)

-- what rows that are dealt into one list are grouped to
groups-one : (step : Step) (keys : List ℕ) (aggregates : List Aggregate) (input : List Row) (lists : List (List Row)) → length lists ≡ 1 → IsPermutation input (flat_map (λ list. list) lists)
    → flat_map (groups step keys aggregates) lists ≡ groups step keys aggregates input
groups-one step keys aggregates input [] one all = absurd (omega arith)
groups-one step keys aggregates input (list ∷ []) one all =
    append-nil (groups step keys aggregates list) ∙ sym (groups-shuffled step keys aggregates input list (subst (IsPermutation input) (append-nil list) all))
groups-one step keys aggregates input (list ∷ other ∷ lists) one all = absurd (omega arith)

module _ (From : List Row → Type 0) (one : (xs ys : List Row) → From xs → From ys → IsPermutation xs ys) where
  line-settled : (own : Own) (source : Width) → is_settled_over own source ≡ true → (xs ys : List Row) → Line own source From xs → Line own source From ys → IsPermutation xs ys
  line-settled (filter e) source s xs ys h k =
      subst (λ l. IsPermutation l ys) (sym h.is) (subst (IsPermutation (where_true (holds e) h.input)) (sym k.is) (filter-shuffled (holds e) h.input k.input (one h.input k.input h.from k.from)))
  line-settled (project exprs) source s xs ys h k =
      subst (λ l. IsPermutation l ys) (sym h.is) (subst (IsPermutation (map (image exprs) h.input)) (sym k.is) (IsPermutation-map (image exprs) h.input k.input (one h.input k.input h.from k.from)))
  line-settled (aggregation step keys aggregates) source s xs ys h k =
      let single = one-is (spread step source) s in
      let a = groups-one step keys aggregates h.input h.lists (h.dealt.one single) h.dealt.all in
      let b = groups-one step keys aggregates k.input k.lists (k.dealt.one single) k.dealt.all in
      rows-shuffled xs ys (through (flat_map (groups step keys aggregates) h.lists) (flat_map (groups step keys aggregates) h.lists) (map Ok xs) (map Ok ys)
      (IsPermutation-trans (flat_map (groups step keys aggregates) h.lists) (map Ok xs) (flat_map (groups step keys aggregates) h.lists) h.is (IsPermutation-sym (flat_map (groups step keys aggregates) h.lists) (map Ok xs) h.is))
      h.is
      (subst (λ l. IsPermutation l (map Ok ys)) (b ∙ sym (groups-shuffled step keys aggregates h.input k.input (one h.input k.input h.from k.from)) ∙ sym a) k.is))
  line-settled (order keys) source s xs ys h k = through h.input k.input xs ys (one h.input k.input h.from k.from) h.same k.same
  line-settled (topn count keys) source s xs ys h k = absurd (true≢false (sym s))
  line-settled (limit offset count) source s xs ys h k = absurd (true≢false (sym s))
  line-settled (exchange kind keys) source s xs ys h k = through h.input k.input xs ys (one h.input k.input h.from k.from) h.is k.is

-- any two answers of a settled plan have the same rows
pub Answers-settled : (t : Tree) → is_settled t ≡ true → (xs ys : List Row) → Answers t xs → Answers t ys → IsPermutation xs ys
Answers-settled (values id kinds all parallel) s xs ys h k = IsPermutation-trans xs all ys (IsPermutation-sym all xs h) k
Answers-settled (over id own source) s xs ys h k =
    let parts = both-true (is_settled_over own (width_of source)) (is_settled source) s in
    line-settled (Answers source) (Answers-settled source parts.1) own (width_of source) parts.0 xs ys h k
Answers-settled (join id kind left_keys right_keys left right) s xs ys h k =
    let parts = both-true (is_settled left) (is_settled right) s in
    let on = joined_on left_keys right_keys left right in
    through (joined kind on h.left (map fresh h.right)) (joined kind on k.left (map fresh k.right)) xs ys
    (joined-shuffled kind on h.left k.left (map fresh h.right) (map fresh k.right) (Answers-settled left parts.0 h.left k.left h.from_left k.from_left)
    (IsPermutation-map fresh h.right k.right (Answers-settled right parts.1 h.right k.right h.from_right k.from_right)))
    h.is k.is
