-- What a join's calls keep: build rows taken in, probe rows taken in, put off and read back, rows given out.
use Rattle.std.proofs.Common.{◌≡◌, zero, suc, Bool, true, false, cond, not, ◌||◌, List, [], ◌∷◌, ◌++◌, map, All, refl, sym, ap, ap₂, ◌∙◌, subst, arith, append_assoc}
use Rattle.std.specs.Prelude.{filter}
use Rattle.std.specs.List.{list_any}
use Rattle.std.specs.List.Sorted.{IsPermutation}
use Rattle.std.proofs.lemmas.List.{append-nil, map-append}
use Rattle.std.proofs.lemmas.List.Concat.{flat_map-append}
use Rattle.std.proofs.lemmas.List.Folds.{list_any-append}
use Rattle.std.proofs.lemmas.List.Sorted.{IsPermutation-refl, IsPermutation-trans, IsPermutation-append, IsPermutation-append_left, IsPermutation-append_right, IsPermutation-append_comm}
use Rattle.vx_value.specs.Row.{Row}
use Rattle.vx_plan.specs.declared.node.JoinKind.{JoinKind}
use Rattle.vx_plan.specs.declared.node.JoinKind.TheVariants.{Inner, Left, Right, Full, Semi, Anti}
use Rattle.vx_meaning.specs.Joins.{On, Build, fresh, matches, nulls, partners, given, probed, is_alone, alone, unmatched, joined}
use Rattle.vx_meaning.specs.Parts.{Part, Apart}
use Rattle.vx_meaning.proofs.PlusLaws.{by_test}
use Rattle.vx_meaning.proofs.JoinLaws.{joined-shuffled, joined-apart}
use Rattle.vx_rest.specs.Held.{HeldJoin}
use Rattle.vx_rest.specs.Rest.{EndsWith}
use Rattle.vx_rest.specs.Calls.{JoinKeeps}
use Rattle.vx_rest.proofs.Together.{perm_is}
use Rattle.vx_rest.specs.JoinCalls.{mark, marked, StaysEnded, JoinStays, ProbesAnswered, OwedGiven, BuildsLeave}

-- ---- flags

marked-rows : (on : On) (probe : List Row) (build : List Build) → map (λ (b : Build). b.row) (marked on probe build) ≡ map (λ (b : Build). b.row) build
marked-rows on probe [] = refl
marked-rows on probe (b ∷ build) = ap (λ l. b.row ∷ l) (marked-rows on probe build)

pub probed-marked : (kind : JoinKind) (on : On) (before rest : List Row) (build : List Build) → probed kind on rest (marked on before build) ≡ probed kind on rest build
probed-marked kind on before [] build = refl
probed-marked kind on before (left ∷ rest) build = ap₂ (λ rows l. given kind on left (filter (matches on left) rows) ++ l) (marked-rows on before build) (probed-marked kind on before rest build)

or-assoc : (a b c : Bool) → (a || (b || c)) ≡ ((a || b) || c)
or-assoc true b c = refl
or-assoc false b c = refl

alone-marked : (on : On) (before rest : List Row) (build : List Build) → alone on (before ++ rest) build ≡ alone on rest (marked on before build)
alone-marked on before rest [] = refl
alone-marked on before rest (b ∷ build) =
    let pad = λ (x : Build). nulls on.left_columns ++ x.row in
    let test : is_alone on (before ++ rest) b ≡ is_alone on rest (mark on before b) =
    ap (λ any. not (b.matched || any)) (list_any-append (λ left. matches on left b.row) before rest) ∙ ap not (or-assoc b.matched (list_any (λ left. matches on left b.row) before) (list_any (λ left. matches on left b.row) rest)) in
    by_test (is_alone on rest (mark on before b))
    (λ t. ap (λ c. map pad (cond c (b ∷ filter (is_alone on (before ++ rest)) build) (filter (is_alone on (before ++ rest)) build))) (test ∙ t)
    ∙ ap (λ l. pad b ∷ l) (alone-marked on before rest build)
    ∙ sym (ap (λ c. map pad (cond c (mark on before b ∷ filter (is_alone on rest) (marked on before build)) (filter (is_alone on rest) (marked on before build)))) t))
    (λ t. ap (λ c. map pad (cond c (b ∷ filter (is_alone on (before ++ rest)) build) (filter (is_alone on (before ++ rest)) build))) (test ∙ t)
    ∙ alone-marked on before rest build
    ∙ sym (ap (λ c. map pad (cond c (mark on before b ∷ filter (is_alone on rest) (marked on before build)) (filter (is_alone on rest) (marked on before build)))) t))

unmatched-marked : (kind : JoinKind) (on : On) (before rest : List Row) (build : List Build) → unmatched kind on (before ++ rest) build ≡ unmatched kind on rest (marked on before build)
unmatched-marked Right on before rest build = alone-marked on before rest build
unmatched-marked Full on before rest build = alone-marked on before rest build
unmatched-marked Inner on before rest build = refl
unmatched-marked Left on before rest build = refl
unmatched-marked Semi on before rest build = refl
unmatched-marked Anti on before rest build = refl

-- left rows in front are answered at once, and set flags
pub joined-front : (kind : JoinKind) (on : On) (before rest : List Row) (build : List Build) → joined kind on (before ++ rest) build ≡ probed kind on before build ++ joined kind on rest (marked on before build)
joined-front kind on before rest build =
    ap₂ ◌++◌ (flat_map-append (λ left. given kind on left (partners on build left)) before rest) (unmatched-marked kind on before rest build)
    ∙ append_assoc (probed kind on before build) (probed kind on rest build) (unmatched kind on rest (marked on before build))
    ∙ ap (λ l. probed kind on before build ++ (l ++ unmatched kind on rest (marked on before build))) (sym (probed-marked kind on before rest build))

pub probed-front : (kind : JoinKind) (on : On) (before rest : List Row) (build : List Build) → probed kind on (before ++ rest) build ≡ probed kind on before build ++ probed kind on rest (marked on before build)
probed-front kind on before rest build = flat_map-append (λ left. given kind on left (partners on build left)) before rest ∙ ap (λ l. probed kind on before build ++ l) (sym (probed-marked kind on before rest build))

-- build rows that no other left row matches, after the last of their own
pub joined-gone : (kind : JoinKind) (on : On) (probe : List Row) (gone build : List Build) → Apart on probe gone → IsPermutation (joined kind on probe (gone ++ build)) (joined kind on [] gone ++ joined kind on probe build)
joined-gone kind on probe gone build apart =
    let first : Part = record { probe = []; build = gone } in
    let second : Part = record { probe = probe; build = build } in
    subst (λ l. IsPermutation (joined kind on l (gone ++ build)) (joined kind on [] gone ++ joined kind on probe build)) (append-nil probe)
    (subst (λ l. IsPermutation (joined kind on (probe ++ []) (gone ++ l)) (joined kind on [] gone ++ joined kind on probe build)) (append-nil build)
    (subst (λ l. IsPermutation (joined kind on (probe ++ []) (gone ++ (build ++ []))) (joined kind on [] gone ++ l)) (append-nil (joined kind on probe build))
    (joined-apart kind on (first ∷ second ∷ []) (one, (last, tt))))) where
      one : All (λ (other : Part). Apart on [] other.build × Apart on other.probe gone) (record { probe = probe; build = build } ∷ [])
      one zero d within = (λ k d within. absurd (omega arith), apart)
      one (suc k) d within = absurd (omega arith)

      last : All (λ (other : Part). Apart on probe other.build × Apart on other.probe build) []
      last k d within = absurd (omega arith)

-- ---- what left rows give is the join of a kind without a part for rows without a match

abbrev pub plain : JoinKind → JoinKind
plain Inner = Inner
plain Left = Left
plain Right = Inner
plain Full = Left
plain Semi = Semi
plain Anti = Anti

pub probed-plain : (kind : JoinKind) (on : On) → probed kind on ≡ joined (plain kind) on
probed-plain Inner on = λ i p b. sym (append-nil (probed Inner on p b)) i
probed-plain Left on = λ i p b. sym (append-nil (probed Left on p b)) i
probed-plain Right on = λ i p b. sym (append-nil (probed Inner on p b)) i
probed-plain Full on = λ i p b. sym (append-nil (probed Left on p b)) i
probed-plain Semi on = λ i p b. sym (append-nil (probed Semi on p b)) i
probed-plain Anti on = λ i p b. sym (append-nil (probed Anti on p b)) i

-- so a call that keeps the joined rows of every kind keeps what left rows give
pub keeps-probed : (old new : HeldJoin) (taken_left taken_right put : List Row) → ((kind : JoinKind) (on : On) → JoinKeeps (joined kind on) old new taken_left taken_right put) → (kind : JoinKind) (on : On) → JoinKeeps (probed kind on) old new taken_left taken_right put
keeps-probed old new taken_left taken_right put h kind on = subst (λ result. JoinKeeps result old new taken_left taken_right put) (sym (probed-plain kind on)) (h (plain kind) on)

-- ---- the calls

pub still-ends : (before after : Bool) (taken more : List Row) → StaysEnded before after taken → EndsWith after more → EndsWith before (taken ++ more)
still-ends before after taken more s h e = ap₂ ◌++◌ (s e).1 (h (s e).0)

pub three : {X : Type 0} (a b c : List X) (d : List X) → IsPermutation (a ++ b) d → IsPermutation (a ++ (b ++ c)) (d ++ c)
three a b c d h = subst (λ l. IsPermutation l (d ++ c)) (append_assoc a b c) (IsPermutation-append_left c (a ++ b) d h)

builds : (old new : List Build) (taken right : List Row) → IsPermutation (old ++ map fresh taken) new → IsPermutation (old ++ map fresh (taken ++ right)) (new ++ map fresh right)
builds old new taken right h = subst (λ l. IsPermutation (old ++ l) (new ++ map fresh right)) (sym (map-append fresh taken right)) (three old (map fresh taken) (map fresh right) new h)

pub Join-stays : (old new : HeldJoin) (taken_left taken_right : List Row) → JoinStays old new taken_left taken_right → (kind : JoinKind) (on : On) → JoinKeeps (joined kind on) old new taken_left taken_right []
Join-stays old new taken_left taken_right s kind on left right built ends = record {
  built = still-ends old.built new.built taken_right right s.built built;
  ends = still-ends old.ended new.ended taken_left left s.ends ends;
  is = IsPermutation-append _ _ _ _ s.owed (joined-shuffled kind on _ _ _ _ (three old.deferred taken_left left new.deferred s.deferred) (builds old.build new.build taken_right right s.build));
}

pub Join-answers : (kind : JoinKind) (on : On) (old new : HeldJoin) (taken_left before : List Row) → ProbesAnswered kind on old new taken_left before → JoinKeeps (joined kind on) old new taken_left [] []
Join-answers kind on old new taken_left before s left right built ends =
    let nothing : right ≡ [] = built s.built in
    record {
      built = λ e. nothing;
      ends = still-ends old.ended new.ended taken_left left s.ends ends;
      is = subst (λ r. IsPermutation (old.owed ++ joined kind on (old.deferred ++ (taken_left ++ left)) (old.build ++ map fresh r)) (new.owed ++ joined kind on (new.deferred ++ left) (new.build ++ map fresh r))) (sym nothing)
          (subst (λ b. IsPermutation (old.owed ++ joined kind on (old.deferred ++ (taken_left ++ left)) b) (new.owed ++ joined kind on (new.deferred ++ left) (new.build ++ []))) (sym (append-nil old.build))
          (subst (λ b. IsPermutation (old.owed ++ joined kind on (old.deferred ++ (taken_left ++ left)) old.build) (new.owed ++ joined kind on (new.deferred ++ left) b)) (sym (append-nil new.build))
          (IsPermutation-trans _ _ _
          (IsPermutation-append_right old.owed _ _ (IsPermutation-trans _ _ _
          (joined-shuffled kind on _ (before ++ (new.deferred ++ left)) old.build old.build
          (subst (IsPermutation (old.deferred ++ (taken_left ++ left))) (append_assoc before new.deferred left) (three old.deferred taken_left left (before ++ new.deferred) s.deferred)) (IsPermutation-refl old.build))
          (perm_is _ _ (joined-front kind on before (new.deferred ++ left) old.build))))
          (IsPermutation-trans _ _ _
          (IsPermutation-append_right old.owed _ _ (IsPermutation-append_right (probed kind on before old.build) _ _ (joined-shuffled kind on _ _ _ _ (IsPermutation-refl (new.deferred ++ left)) s.build)))
          (three old.owed (probed kind on before old.build) (joined kind on (new.deferred ++ left) new.build) new.owed s.owed)))));
    }

pub Join-gives : (old new : HeldJoin) (put : List Row) → OwedGiven old new put → (kind : JoinKind) (on : On) → JoinKeeps (joined kind on) old new [] [] put
Join-gives old new put s kind on left right built ends =
    record {
      built = still-ends old.built new.built [] right s.built built;
      ends = still-ends old.ended new.ended [] left s.ends ends;
      is = subst (IsPermutation (old.owed ++ joined kind on (old.deferred ++ left) (old.build ++ map fresh right))) (append_assoc put new.owed (joined kind on (new.deferred ++ left) (new.build ++ map fresh right)))
          (IsPermutation-append _ _ _ _ s.owed (perm_is _ _ (ap₂ (λ p b. joined kind on (p ++ left) (b ++ map fresh right)) (sym s.deferred) (sym s.build))));
    }

swap-front : {X : Type 0} (a b c : List X) → IsPermutation (a ++ (b ++ c)) (b ++ (a ++ c))
swap-front a b c = subst (λ l. IsPermutation l (b ++ (a ++ c))) (append_assoc a b c) (subst (IsPermutation ((a ++ b) ++ c)) (append_assoc b a c) (IsPermutation-append_left c (a ++ b) (b ++ a) (IsPermutation-append_comm a b)))

pub Join-leaves : (kind : JoinKind) (on : On) (old new : HeldJoin) (gone : List Build) (put : List Row) → BuildsLeave kind on old new gone put → JoinKeeps (joined kind on) old new [] [] put
Join-leaves kind on old new gone put s left right built ends =
    let no_right : right ≡ [] = built s.built in
    let no_left : left ≡ [] = ends s.ends in
    let all = λ (l r : List Row). IsPermutation (old.owed ++ joined kind on (old.deferred ++ l) (old.build ++ map fresh r)) (put ++ (new.owed ++ joined kind on (new.deferred ++ l) (new.build ++ map fresh r))) in
    record {
      built = λ e. no_right;
      ends = λ e. no_left;
      is = subst (λ l. all l right) (sym no_left) (subst (λ r. all [] r) (sym no_right)
          (subst (λ p. IsPermutation (old.owed ++ joined kind on p (old.build ++ [])) (put ++ (new.owed ++ joined kind on (new.deferred ++ []) (new.build ++ [])))) (sym (append-nil old.deferred))
          (subst (λ b. IsPermutation (old.owed ++ joined kind on old.deferred b) (put ++ (new.owed ++ joined kind on (new.deferred ++ []) (new.build ++ [])))) (sym (append-nil old.build))
          (subst (λ r. IsPermutation (old.owed ++ joined kind on old.deferred old.build) (put ++ r)) (ap₂ (λ w p. w ++ joined kind on p (new.build ++ [])) (sym s.owed) (sym (append-nil new.deferred ∙ s.deferred)))
          (subst (λ b. IsPermutation (old.owed ++ joined kind on old.deferred old.build) (put ++ (old.owed ++ joined kind on old.deferred b))) (sym (append-nil new.build))
          (IsPermutation-trans _ _ _
          (IsPermutation-append_right old.owed _ _ (IsPermutation-trans _ _ _
          (joined-shuffled kind on old.deferred old.deferred old.build (gone ++ new.build) (IsPermutation-refl old.deferred) s.build)
          (IsPermutation-trans _ _ _ (joined-gone kind on old.deferred gone new.build s.apart) (IsPermutation-append_left (joined kind on old.deferred new.build) _ _ s.is))))
          (swap-front old.owed put (joined kind on old.deferred new.build))))))));
    }
