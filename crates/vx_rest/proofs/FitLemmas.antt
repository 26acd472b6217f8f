-- From what one operator's call keeps to what the node's rule asks of all drivers.
use Rattle.std.proofs.Common.{◌≡◌, ℕ, List, [], ◌∷◌, ◌++◌, map, length, refl, sym, ap, ◌∙◌, subst, arith, append_assoc, Ok, Err}
use Rattle.std.specs.Prelude.{filter}
use Rattle.std.specs.List.Sorted.{IsPermutation}
use Rattle.std.proofs.lemmas.List.{append-nil, map-append}
use Rattle.std.proofs.lemmas.List.Elements.{filter-append, All-append, Contains-append_right}
use Rattle.std.proofs.lemmas.List.Sorted.{IsPermutation-refl, IsPermutation-trans, IsPermutation-sym, IsPermutation-append, IsPermutation-append_left, IsPermutation-append_right, IsPermutation-append_comm, length_permutation, Contains-permutation}
use Rattle.vx_value.specs.declared.sorting.SortKey.{SortKey}
use Rattle.vx_value.specs.Row.{Row}
use Rattle.vx_expr.specs.declared.expression.Expr.{Expr}
use Rattle.vx_expr.specs.declared.outcome.Fault.{Fault}
use Rattle.vx_plan.specs.declared.aggregate.Aggregate.{Aggregate}
use Rattle.vx_plan.specs.declared.aggregate.Step.{Step}
use Rattle.vx_plan.specs.declared.node.ExchangeKind.{ExchangeKind}
use Rattle.vx_plan.specs.Tree.{Own, filter as filtering, project, aggregation, order, topn, limit, exchange}
use Rattle.vx_meaning.specs.Rows.{holds, image, IsSound}
use Rattle.vx_meaning.specs.Joins.{Build, fresh}
use Rattle.vx_meaning.proofs.Shuffles.{filter-shuffled}
use Rattle.vx_rest.specs.Lists.{Lists, together, ahead}
use Rattle.vx_rest.proofs.Together.{together-ahead}
use Rattle.vx_rest.specs.Held.{Held, HeldJoin, group_of, outcomes}
use Rattle.vx_rest.specs.Rest.{Filters, Projects, Orders, TakesFirst, belongs, Deals, JoinGives}
use Rattle.vx_rest.specs.RestFaulty.{RowMeets}
use Rattle.vx_rest.specs.Fits.{ValuesFit, NodeFits}
use Rattle.vx_rest.specs.Calls.{Keeps, FilterKeeps, ProjectKeeps, LimitKeeps, GroupKeeps, OrderKeeps, TopKeeps, ExchangeKeeps, AllKeep, ValuesKeep, JoinKeeps}

-- ---- one driver

filter-keeps : (e : Expr) (old new : Held) (taken put : List Row) → FilterKeeps e old new taken put → (more given : List Row) → Filters e new more given → Filters e old (taken ++ more) (put ++ given)
filter-keeps e old new taken put k more given h = record {
  sound = All-append (IsSound (e ∷ [])) taken more k.sound h.sound;
  is = ap (λ l. put ++ l) h.is ∙ sym (append_assoc put new.rows (filter (holds e) more)) ∙ ap (λ l. l ++ filter (holds e) more) (sym k.is) ∙ append_assoc old.rows (filter (holds e) taken) (filter (holds e) more)
      ∙ ap (λ l. old.rows ++ l) (sym (filter-append (holds e) taken more));
}

project-keeps : (es : List Expr) (old new : Held) (taken put : List Row) → ProjectKeeps es old new taken put → (more given : List Row) → Projects es new more given → Projects es old (taken ++ more) (put ++ given)
project-keeps es old new taken put k more given h = record {
  sound = All-append (IsSound es) taken more k.sound h.sound;
  is = ap (λ l. put ++ l) h.is ∙ sym (append_assoc put new.rows (map (image es) more)) ∙ ap (λ l. l ++ map (image es) more) (sym k.is) ∙ append_assoc old.rows (map (image es) taken) (map (image es) more)
      ∙ ap (λ l. old.rows ++ l) (sym (map-append (image es) taken more));
}

row-meets : (es : List Expr) (taken more : List Row) (row : Row) (code : Fault) → RowMeets es more row code → RowMeets es (taken ++ more) row code
row-meets es taken more row code h = record { there = Contains-append_right taken more row h.there; fault = h.fault }

pub Filter-keeps : (e : Expr) (old new : Held) (taken put : List Row) → FilterKeeps e old new taken put → Keeps (filtering e) old new taken put
Filter-keeps e old new taken put k = record { whole = filter-keeps e old new taken put k; begun = filter-keeps e old new taken put k; faults = row-meets (e ∷ []) taken }

pub Project-keeps : (es : List Expr) (old new : Held) (taken put : List Row) → ProjectKeeps es old new taken put → Keeps (project es) old new taken put
Project-keeps es old new taken put k = record { whole = project-keeps es old new taken put k; begun = project-keeps es old new taken put k; faults = row-meets es taken }

pub Limit-keeps : (offset count : ℕ) (old new : Held) (taken put : List Row) → LimitKeeps old new taken put → Keeps (limit offset count) old new taken put
Limit-keeps offset count old new taken put k = record {
  whole = λ more given h. record { is = ap (λ l. put ++ l) h.is ∙ sym (k more) };
  begun = λ more given h. record { is = ap (λ l. put ++ l) h.is ∙ sym (k more) };
  faults = λ more row code h. h;
}

pub Group-keeps : (step : Step) (keys : List ℕ) (aggregates : List Aggregate) (old new : Held) (taken put : List Row) → GroupKeeps step keys aggregates old new taken put → Keeps (aggregation step keys aggregates) old new taken put
Group-keeps step keys aggregates old new taken put k = record {
  whole = λ more given h. record {
    ends = (k more h.ends).ends;
    is = IsPermutation-trans _ _ _ (k more h.ends).is (subst (IsPermutation (map Ok put ++ outcomes step aggregates (new.groups ++ map (group_of step keys aggregates) more))) (sym (map-append Ok put given))
        (IsPermutation-append_right (map Ok put) _ _ h.is));
  };
  begun = λ more given h. record {
    ends = (k more h.ends).ends;
    later = h.later;
    is = IsPermutation-trans _ _ _ (k more h.ends).is (subst (IsPermutation (map Ok put ++ outcomes step aggregates (new.groups ++ map (group_of step keys aggregates) more)))
        (sym (ap (λ l. l ++ h.later) (map-append Ok put given) ∙ append_assoc (map Ok put) (map Ok given) h.later))
        (IsPermutation-append_right (map Ok put) _ _ h.is));
  };
  faults = λ more row code h. record {
    ends = (k more h.ends).ends;
    there = Contains-permutation _ _ (Err row) (IsPermutation-sym _ _ (k more h.ends).is) (Contains-append_right (map Ok put) _ (Err row) h.there);
    fault = h.fault;
  };
}

order-keeps : (keys : List SortKey) (old new : Held) (taken put : List Row) → OrderKeeps keys old new taken put → (more given : List Row) → Orders keys new more given → Orders keys old (taken ++ more) (put ++ given)
order-keeps keys old new taken put k more given h = record {
  ends = (k more h.ends).ends;
  same = IsPermutation-trans _ _ _ (k more h.ends).same (IsPermutation-append_right put _ _ h.same);
  sorted = (k more h.ends).sorted given h.same h.sorted;
}

pub Order-keeps : (keys : List SortKey) (old new : Held) (taken put : List Row) → OrderKeeps keys old new taken put → Keeps (order keys) old new taken put
Order-keeps keys old new taken put k = record { whole = order-keeps keys old new taken put k; begun = order-keeps keys old new taken put k; faults = λ more row code h. h }

top-keeps : (keys : List SortKey) (old new : Held) (taken put : List Row) → TopKeeps keys old new taken put → (more given : List Row) → TakesFirst keys new more given → TakesFirst keys old (taken ++ more) (put ++ given)
top-keeps keys old new taken put k more given h = record {
  all = put ++ h.all;
  ordered = order-keeps keys old new taken put k.order more h.all h.ordered;
  is = ap (λ l. put ++ l) h.is ∙ sym (k.left h.all);
}

pub Top-keeps : (count : ℕ) (keys : List SortKey) (old new : Held) (taken put : List Row) → TopKeeps keys old new taken put → Keeps (topn count keys) old new taken put
Top-keeps count keys old new taken put k = record { whole = top-keeps keys old new taken put k; begun = top-keeps keys old new taken put k; faults = λ more row code h. h }

-- ---- all drivers: each keeps its own; those that the move doesn't name keep by being the same

pub Keeps-same : (own : Own) (held : Held) → Keeps own held held [] []
Keeps-same own held = record { whole = λ more given h. h; begun = λ more given h. h; faults = λ more row code h. h }

module _ (before after : ℕ) (old new : ℕ → Held) (taken put : Lists) where
  deals : (kind : ExchangeKind) (keys : List ℕ) → ExchangeKeeps kind keys before after old new taken put → (more given : Lists) → Deals kind keys after new (together before more) given → Deals kind keys after old (together before (ahead taken more)) (ahead put given)
  deals kind keys k more given h d w =
      let mine = filter (belongs kind keys after d) in
      IsPermutation-trans _ _ _ (IsPermutation-append_right (old d).rows _ _ (filter-shuffled (belongs kind keys after d) _ _ (together-ahead before taken more)))
      (subst (λ l. IsPermutation l (put d ++ given d)) (append_assoc (old d).rows (mine (together before taken)) (mine (together before more)) ∙ ap (λ l. (old d).rows ++ l) (sym (filter-append (belongs kind keys after d) (together before taken) (together before more))))
      (IsPermutation-trans _ _ _ (IsPermutation-append_left (mine (together before more)) _ _ (k d w))
      (subst (λ l. IsPermutation l (put d ++ given d)) (sym (append_assoc (put d) (new d).rows (mine (together before more)))) (IsPermutation-append_right (put d) _ _ (h d w)))))

  pub Fits-all : (own : Own) → AllKeep before after own old new taken put → NodeFits before after own old new taken put
  Fits-all (filtering e) k = record { whole = λ more given h d w. (k d).whole (more d) (given d) (h d w); begun = λ more given h d w. (k d).begun (more d) (given d) (h d w); faults = λ d w more row code h. (k d).faults more row code h }
  Fits-all (project es) k = record { whole = λ more given h d w. (k d).whole (more d) (given d) (h d w); begun = λ more given h d w. (k d).begun (more d) (given d) (h d w); faults = λ d w more row code h. (k d).faults more row code h }
  Fits-all (aggregation step keys aggregates) k = record { whole = λ more given h d w. (k d).whole (more d) (given d) (h d w); begun = λ more given h d w. (k d).begun (more d) (given d) (h d w); faults = λ d w more row code h. (k d).faults more row code h }
  Fits-all (order keys) k = record { whole = λ more given h d w. (k d).whole (more d) (given d) (h d w); begun = λ more given h d w. (k d).begun (more d) (given d) (h d w); faults = λ d w more row code h. (k d).faults more row code h }
  Fits-all (topn count keys) k = record { whole = λ more given h d w. (k d).whole (more d) (given d) (h d w); begun = λ more given h d w. (k d).begun (more d) (given d) (h d w); faults = λ d w more row code h. (k d).faults more row code h }
  Fits-all (limit offset count) k = record { whole = λ more given h d w. (k d).whole (more d) (given d) (h d w); begun = λ more given h d w. (k d).begun (more d) (given d) (h d w); faults = λ d w more row code h. (k d).faults more row code h }
  Fits-all (exchange kind keys) k = record { whole = deals kind keys k; begun = deals kind keys k; faults = λ d w more row code h. h }

pub Values-fit : (count : ℕ) (old new : ℕ → Held) (put : Lists) → ValuesKeep count old new put → ValuesFit count old new put
Values-fit count old new put k given h =
    IsPermutation-trans _ _ _ k (IsPermutation-trans _ _ _ (IsPermutation-append_right (together count put) _ _ h) (IsPermutation-sym _ _ (together-ahead count put given)))

-- ---- joins

no_rows : (xs ys : List Row) → IsPermutation xs ys → ys ≡ [] → xs ≡ []
no_rows [] ys h e = refl
no_rows (x ∷ xs) ys h e = absurd (omega (arith, length_permutation (x ∷ xs) ys h, ap length e))

pub Join-fits : (result : List Row → List Build → List Row) → ((left : List Row) (b c : List Build) → IsPermutation b c → IsPermutation (result left b) (result left c))
    → (lanes : ℕ) (old new : HeldJoin) (taken_left taken_right put : Lists) → JoinKeeps result old new (taken_left 0) (together lanes taken_right) (put 0)
    → (l r given : Lists) → JoinGives result lanes new l r given → JoinGives result lanes old (ahead taken_left l) (ahead taken_right r) (ahead put given)
Join-fits result any lanes old new taken_left taken_right put k l r given h =
    let kept = k (l 0) (together lanes r) h.built h.ends in
    let same = together-ahead lanes taken_right r in
    record {
      built = λ e. no_rows (together lanes (ahead taken_right r)) (together lanes taken_right ++ together lanes r) same (kept.built e);
      ends = kept.ends;
      is = IsPermutation-trans _ _ _
          (IsPermutation-append_right old.owed _ _ (any (old.deferred ++ (taken_left 0 ++ l 0)) _ _ (IsPermutation-append_right old.build _ _ (Rattle.std.proofs.lemmas.List.Sorted.IsPermutation-map fresh _ _ same))))
          (IsPermutation-trans _ _ _ kept.is (IsPermutation-append_right (put 0) _ _ h.is));
    }
