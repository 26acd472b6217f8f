-- Where nothing is left a query stands for what has come out; and a move that takes and gives nothing, and is right in
-- both directions, leaves what the query stands for as it was.
use Rattle.std.proofs.Common.{◌≡◌, ℕ, zero, suc, ◌<◌, List, [], ◌∷◌, ◌++◌, map, take, drop, refl, sym, ap, ap₂, ◌∙◌, subst, arith, append-nil, Ok, inl, inr}
use Rattle.std.specs.Prelude.{filter, ◌⊎◌}
use Rattle.std.specs.FinMap.{entries, empty, len-entries, len-empty}
use Rattle.std.proofs.lemmas.List.Sorted.{IsPermutation-refl}
use Rattle.vx_value.specs.declared.value.Value.{Value}
use Rattle.vx_value.specs.Row.{Row}
use Rattle.vx_expr.specs.declared.outcome.Fault.{Fault}
use Rattle.vx_plan.specs.declared.node.JoinKind.{JoinKind}
use Rattle.vx_plan.specs.declared.node.JoinKind.TheVariants.{Inner, Left, Right, Full, Semi, Anti}
use Rattle.vx_plan.specs.Tree.{Tree, values, over, join, Own, filter as filtering, project, aggregation, order, topn, limit, exchange}
use Rattle.vx_meaning.specs.Groups.{key_cmp, outcome}
use Rattle.vx_meaning.specs.Joins.{On, joined, fresh}
use Rattle.vx_meaning.specs.Answer.{joined_on}
use Rattle.vx_rest.specs.Lists.{nothing, drivers_of}
use Rattle.vx_rest.specs.Held.{Held, HeldJoin, Holding}
use Rattle.vx_rest.specs.Rest.{Gives, NodeGives, Joins, Rest, Stands}
use Rattle.vx_rest.specs.RestFaulty.{RestFaulty}
use Rattle.vx_rest.specs.Fits.{Fits}
use Rattle.vx_rest.specs.Through.{IsThrough, IsQuiet}
use Rattle.vx_rest.proofs.Together.{perm_is, together-same, together-none}
use Rattle.vx_rest.proofs.Sorts.{in_order, in_order-same, in_order-sorted}
use Rattle.vx_rest.proofs.StepLaw.{Rest-back, RestFaulty-back}

take-none : {X : Type 0} (n : ℕ) → take {A = X} n [] ≡ []
take-none zero = refl
take-none (suc n) = refl

drop-none : {X : Type 0} (n : ℕ) → drop {A = X} n [] ≡ []
drop-none zero = refl
drop-none (suc n) = refl

no_length : {A : Type 0} (es : List A) → Rattle.std.proofs.Common.length es ≡ 0 → es ≡ []
no_length [] e = refl
no_length (x ∷ es) e = absurd (omega arith)

entries-empty : entries (empty {K = Row} {X = List Value} {R = key_cmp}) ≡ []
entries-empty = no_length (entries (empty {K = Row} {X = List Value} {R = key_cmp})) (sym (len-entries (empty {K = Row} {X = List Value} {R = key_cmp})) ∙ len-empty key_cmp (List Value))

no_pairs : (keys : List Rattle.vx_value.specs.declared.sorting.SortKey.SortKey) → Rattle.vx_value.specs.Order.IsSortedBy keys []
no_pairs keys i j d low within = absurd (omega arith)

-- ---- nothing left

empty-outcomes : (step : Rattle.vx_plan.specs.declared.aggregate.Step.Step) (keys : List ℕ) (aggregates : List Rattle.vx_plan.specs.declared.aggregate.Aggregate.Aggregate) (held : Held) → held.groups ≡ [] → Rattle.vx_rest.specs.Held.outcomes step aggregates (held.groups ++ []) ≡ []
empty-outcomes step keys aggregates held h = ap (λ gs. Rattle.vx_rest.specs.Held.outcomes step aggregates (gs ++ [])) h ∙ ap (map (outcome step aggregates)) entries-empty

node-none : (before after : ℕ) (own : Own) (held : ℕ → Held) → ((driver : ℕ) → driver < after → IsThrough own (held driver)) → NodeGives before after own held nothing nothing
node-none before after (filtering e) held h = λ d w. record { sound = λ k x within. absurd (omega arith); is = sym (ap (λ l. l ++ []) (h d w)) }
node-none before after (project es) held h = λ d w. record { sound = λ k x within. absurd (omega arith); is = sym (ap (λ l. l ++ []) (h d w)) }
node-none before after (aggregation step keys aggregates) held h = λ d w. record { ends = λ e. refl; is = perm_is _ _ (empty-outcomes step keys aggregates (held d) (h d w)) }
node-none before after (order keys) held h = λ d w. record { ends = λ e. refl; same = perm_is _ _ (ap (λ l. l ++ []) (h d w)); sorted = no_pairs keys }
node-none before after (topn count keys) held h = λ d w. record { all = in_order keys ((held d).rows ++ []); ordered = record { ends = λ e. refl; same = in_order-same keys _; sorted = in_order-sorted keys _ }; is = none (held d) (h d w) } where
  none : (k : Held) → (k.rows ≡ []) ⊎ (k.left ≡ 0) → [] ≡ take k.left (in_order keys (k.rows ++ []))
  none k (inl e) = sym (ap (take k.left) (no_length _ (let same = Rattle.std.proofs.lemmas.List.Sorted.length_permutation (k.rows ++ []) (in_order keys (k.rows ++ [])) (in_order-same keys (k.rows ++ [])) in let z = ap (λ l. Rattle.std.proofs.Common.length (l ++ [])) e in omega arith)) ∙ take-none k.left)
  none k (inr e) = sym (ap (λ n. take n (in_order keys (k.rows ++ []))) e)
node-none before after (limit offset count) held h = λ d w. record { is = sym (ap₂ ◌++◌ (h d w) (ap (take (held d).left) (drop-none (held d).skip) ∙ take-none (held d).left)) }
node-none before after (exchange kind keys) held h = λ d w. perm_is _ _ (ap₂ (λ l m. l ++ filter (Rattle.vx_rest.specs.Rest.belongs kind keys after d) m) (h d w) (together-none before))

pub joined-none : (kind : JoinKind) (on : On) → joined kind on [] [] ≡ []
joined-none Inner on = refl
joined-none Left on = refl
joined-none Right on = refl
joined-none Full on = refl
joined-none Semi on = refl
joined-none Anti on = refl

module _ (drivers : ℕ) (q : Holding) where
  pub Rest-quiet : (t : Tree) → IsQuiet drivers q t → Rest drivers q t nothing
  Rest-quiet (values id kinds all parallel) h = (nothing, perm_is _ _ (together-same _ (λ d. (q.held id d).rows) nothing (λ d w. h.1 d w)), λ d. sym (ap (λ l. l ++ []) (h.0 d)))
  Rest-quiet (over id own source) h =
      (nothing, record { more = nothing; from = Rest-quiet source h.1; gives = node-none (drivers_of drivers source) (drivers_of drivers (over id own source)) own (q.held id) h.2 }, λ d. sym (ap (λ l. l ++ []) (h.0 d)))
  Rest-quiet (join id kind left_keys right_keys left right) h = (
    nothing,
    record {
      left = nothing;
      from_left = Rest-quiet left h.1;
      right = nothing;
      from_right = Rest-quiet right h.2;
      gives = record {
        built = λ e. together-none (drivers_of drivers right);
        ends = λ e. refl;
        is = perm_is _ _ (
            ap₂ (λ w r. w ++ r) h.3.owed (ap₂ (joined kind (joined_on left_keys right_keys left right)) (ap (λ l. l ++ []) h.3.deferred) (ap₂ (λ b n. b ++ map fresh n) h.3.build (together-none (drivers_of drivers right))) ∙ joined-none kind (joined_on left_keys right_keys left right)));
      };
    },
    λ d. sym (ap (λ l. l ++ []) (h.0 d)),
  )

-- where nothing is left the query stands for what has come out
pub Stands-quiet : (drivers : ℕ) (q : Holding) (t : Tree) → IsQuiet drivers q t → Stands drivers q t q.out
Stands-quiet drivers q t h = record { lists = nothing; rest = Rest-quiet drivers q t h; is = sym (append-nil q.out) }

-- ---- nothing taken and nothing given

pub record IsStill (drivers : ℕ) (t : Tree) (old new : Holding) : Type 0 where
  pub hands : (id driver : ℕ) → new.hand id driver ≡ old.hand id driver
  pub out : new.out ≡ old.out
  pub fits : Fits drivers old new (record { taken = λ id. nothing; put = λ id. nothing }) t
  pub back : Fits drivers new old (record { taken = λ id. nothing; put = λ id. nothing }) t

pub Stands-still : (drivers : ℕ) (t : Tree) (old new : Holding) → IsStill drivers t old new → (rows : List Row) → (Stands drivers new t rows → Stands drivers old t rows) × (Stands drivers old t rows → Stands drivers new t rows)
Stands-still drivers t old new h rows = (
  (λ (s : Stands drivers new t rows). record { lists = s.lists; rest = Rest-back drivers old new (record { taken = λ id. nothing; put = λ id. nothing }) (λ id d. h.hands id d ∙ sym (append-nil (old.hand id d))) t h.fits s.lists s.rest; is = s.is ∙ ap (λ l. l ++ s.lists 0) h.out }),
  (λ (s : Stands drivers old t rows). record { lists = s.lists; rest = Rest-back drivers new old (record { taken = λ id. nothing; put = λ id. nothing }) (λ id d. sym (h.hands id d) ∙ sym (append-nil (new.hand id d))) t h.back s.lists s.rest; is = s.is ∙ ap (λ l. l ++ s.lists 0) (sym h.out) }),
)

pub RestFaulty-still : (drivers : ℕ) (t : Tree) (old new : Holding) → IsStill drivers t old new → (at : ℕ) (row : Row) (code : Fault) → (RestFaulty drivers new t at row code → RestFaulty drivers old t at row code) × (RestFaulty drivers old t at row code → RestFaulty drivers new t at row code)
RestFaulty-still drivers t old new h at row code = (
  RestFaulty-back drivers old new (record { taken = λ id. nothing; put = λ id. nothing }) (λ id d. h.hands id d ∙ sym (append-nil (old.hand id d))) t h.fits at row code,
  RestFaulty-back drivers new old (record { taken = λ id. nothing; put = λ id. nothing }) (λ id d. sym (h.hands id d) ∙ sym (append-nil (new.hand id d))) t h.back at row code,
)
