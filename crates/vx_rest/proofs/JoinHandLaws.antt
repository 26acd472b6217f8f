-- A join's moves, and reclaims, as moves of the query.
use Rattle.std.proofs.Common.{◌≡◌, ◌≢◌, ℕ, ◌<◌, Bool, true, false, cond, List, [], refl, sym, ap, ◌∙◌, subst, true≢false, nat_eq, eqb-true}
use Rattle.std.specs.List.Sorted.{IsPermutation}
use Rattle.std.proofs.lemmas.Bool.{eq-eqb}
use Rattle.std.proofs.lemmas.List.Sorted.{IsPermutation-refl}
use Rattle.vx_value.specs.Row.{Row}
use Rattle.vx_plan.specs.declared.node.JoinKind.{JoinKind}
use Rattle.vx_plan.specs.declared.node.JoinKind.TheVariants.{Inner, Left, Right, Full, Semi, Anti}
use Rattle.vx_plan.specs.Tree.{Tree, over, join, Own, id_of}
use Rattle.vx_meaning.specs.Joins.{On, Build, joined, probed}
use Rattle.vx_meaning.specs.Answer.{joined_on}
use Rattle.vx_meaning.proofs.JoinLaws.{joined-shuffled}
use Rattle.vx_rest.specs.Lists.{together, nothing, only_at, drivers_of}
use Rattle.vx_rest.specs.Held.{HeldJoin, Holding}
use Rattle.vx_rest.specs.Fits.{Passed, FitsHere, Moved, AreOnce, Within}
use Rattle.vx_rest.specs.Calls.{AllKeep, JoinKeeps, JoinCall as Call}
use Rattle.vx_rest.specs.HandMoves.{taking, putting, standing, HandEmptied, HandFilled, HandsStay, StaysBut}
use Rattle.vx_rest.proofs.Together.{together-only, together-none, together-same}
use Rattle.vx_rest.proofs.FitLemmas.{Fits-all, Join-fits}
use Rattle.vx_rest.proofs.JoinCallLaws.{plain, probed-plain, keeps-probed, Join-stays, Join-answers, Join-gives, Join-leaves}
use Rattle.vx_rest.specs.JoinCalls.{JoinStays, ProbesAnswered, OwedGiven, BuildsLeave}
use Rattle.vx_rest.proofs.OnlyAtLaws.{clash, not-true, or-left, or-right, Fits-within}
use Rattle.vx_rest.proofs.HandLaws.{taken-at, put-at, only-taking, only-putting, only-standing, taking-hands, putting-hands, standing-hands, Moved-at}
use Rattle.vx_rest.proofs.ThroughLaw.{IsStill}

-- ---- what a join's call owes

still-going : (before after : Bool) → (before ≡ true → after ≡ true) → after ≡ false → before ≡ false
still-going before after h e = not-true before (λ b. true≢false (sym (h b) ∙ e))

pub Stays-call : (kind : JoinKind) (on : On) (old new : HeldJoin) (taken_left taken_right : List Row) → JoinStays old new taken_left taken_right → Call kind on old new taken_left taken_right []
Stays-call kind on old new taken_left taken_right s = record {
  whole = Join-stays old new taken_left taken_right s kind on;
  begun = λ e. (still-going old.ended new.ended (λ b. (s.ends b).0) e, keeps-probed old new taken_left taken_right [] (Join-stays old new taken_left taken_right s) kind on);
}

pub Gives-call : (kind : JoinKind) (on : On) (old new : HeldJoin) (put : List Row) → OwedGiven old new put → Call kind on old new [] [] put
Gives-call kind on old new put s = record {
  whole = Join-gives old new put s kind on;
  begun = λ e. (still-going old.ended new.ended (λ b. (s.ends b).0) e, keeps-probed old new [] [] put (Join-gives old new put s) kind on);
}

answers-plain : (kind : JoinKind) (on : On) (old new : HeldJoin) (taken before : List Row) → ProbesAnswered kind on old new taken before → ProbesAnswered (plain kind) on old new taken before
answers-plain Inner on old new taken before s = s
answers-plain Left on old new taken before s = s
answers-plain Right on old new taken before s = record { built = s.built; ends = s.ends; deferred = s.deferred; build = s.build; owed = s.owed }
answers-plain Full on old new taken before s = record { built = s.built; ends = s.ends; deferred = s.deferred; build = s.build; owed = s.owed }
answers-plain Semi on old new taken before s = s
answers-plain Anti on old new taken before s = s

pub Answers-call : (kind : JoinKind) (on : On) (old new : HeldJoin) (taken before : List Row) → ProbesAnswered kind on old new taken before → Call kind on old new taken [] []
Answers-call kind on old new taken before s = record {
  whole = Join-answers kind on old new taken before s;
  begun = λ e. (
    still-going old.ended new.ended (λ b. (s.ends b).0) e,
    subst (λ result. JoinKeeps result old new taken [] []) (sym (probed-plain kind on)) (Join-answers (plain kind) on old new taken before (answers-plain kind on old new taken before s)),
  );
}

pub Leaves-call : (kind : JoinKind) (on : On) (old new : HeldJoin) (gone : List Build) (put : List Row) → BuildsLeave kind on old new gone put → Call kind on old new [] [] put
Leaves-call kind on old new gone put s = record { whole = Join-leaves kind on old new gone put s; begun = λ e. absurd (true≢false (sym s.ends ∙ e)) }

-- ---- as moves

any-joined : (kind : JoinKind) (on : On) (left : List Row) (b c : List Build) → IsPermutation b c → IsPermutation (joined kind on left b) (joined kind on left c)
any-joined kind on left b c h = joined-shuffled kind on left left b c (IsPermutation-refl left) h

any-probed : (kind : JoinKind) (on : On) (left : List Row) (b c : List Build) → IsPermutation b c → IsPermutation (probed kind on left b) (probed kind on left c)
any-probed kind on left b c h = subst (λ result. IsPermutation (result left b) (result left c)) (sym (probed-plain kind on)) (any-joined (plain kind) on left b c h)

pub turn : (a b : ℕ) → nat_eq a b ≡ nat_eq b a
turn a b = Rattle.vx_meaning.proofs.PlusLaws.by_test (nat_eq a b) (λ t. t ∙ sym (eq-eqb b a (sym (eqb-true a b t)))) (λ t. t ∙ sym (not-true (nat_eq b a) (λ e. clash (nat_eq a b) (eq-eqb a b (sym (eqb-true b a e))) t)))

pub together-at : (count place : ℕ) (rows : List Row) → place < count → together count (only_at place rows) ≡ rows
together-at count place rows h = together-same count (only_at place rows) (λ d. cond (nat_eq place d) rows []) (λ d w. ap (λ b. cond b rows []) (turn d place)) ∙ together-only count place rows h

module _ (drivers : ℕ) (t : Tree) (once : AreOnce t) (old new : Holding) (id : ℕ) (kind : JoinKind) (left_keys right_keys : List ℕ) (left right : Tree) (within : Within (join id kind left_keys right_keys left right) t) (s : StaysBut id old new) where
  abbrev part : Tree
  part = join id kind left_keys right_keys left right

  here : (m : Passed) (taken_left taken_right put : List Row) → m.taken (id_of left) 0 ≡ taken_left → together (drivers_of drivers right) (m.taken (id_of right)) ≡ taken_right → m.put id 0 ≡ put
      → Call kind (joined_on left_keys right_keys left right) (old.join id) (new.join id) taken_left taken_right put → FitsHere drivers old new m part
  here m taken_left taken_right put l r p call =
      let on = joined_on left_keys right_keys left right in
      let at = λ (result : List Row → List Build → List Row) (k : JoinKeeps result (old.join id) (new.join id) taken_left taken_right put).
      subst (λ x. JoinKeeps result (old.join id) (new.join id) x (together (drivers_of drivers right) (m.taken (id_of right))) (m.put id 0)) (sym l)
      (subst (λ x. JoinKeeps result (old.join id) (new.join id) taken_left x (m.put id 0)) (sym r) (subst (λ x. JoinKeeps result (old.join id) (new.join id) taken_left taken_right x) (sym p) k)) in
      record {
        whole = Join-fits (joined kind on) (any-joined kind on) (drivers_of drivers right) (old.join id) (new.join id) (m.taken (id_of left)) (m.taken (id_of right)) (m.put id) (at (joined kind on) call.whole);
        begun = λ x y given g.
            let b = call.begun g.0 in
            (b.0, Join-fits (probed kind on) (any-probed kind on) (drivers_of drivers right) (old.join id) (new.join id) (m.taken (id_of left)) (m.taken (id_of right)) (m.put id) (at (probed kind on) b.1) x y given g.1);
      }

  none-right : together (drivers_of drivers right) nothing ≡ []
  none-right = together-none (drivers_of drivers right)

  pub Moved-left : (rows : List Row) → id_of right ≢ id_of left → HandEmptied (id_of left) 0 rows old new → Call kind (joined_on left_keys right_keys left right) (old.join id) (new.join id) rows [] [] → Moved drivers t (taking (id_of left) 0 rows) old new
  Moved-left rows apart hand call =
      Moved-at drivers t once old new part (taking (id_of left) 0 rows) within (only-taking part (id_of left) 0 rows old new (or-left _ _ (eq-eqb (id_of left) (id_of left) refl)) s) (taking-hands (id_of left) 0 rows old new hand)
      (here (taking (id_of left) 0 rows) rows [] [] (ap (λ f. f 0) (taken-at (id_of left) 0 rows)) (ap (together (drivers_of drivers right)) (ap (λ b. cond b (only_at 0 rows) nothing) (not-true (nat_eq (id_of right) (id_of left)) (λ e. apart (eqb-true _ _ e)))) ∙ none-right) refl call) s.out

  pub Moved-right : (place : ℕ) (rows : List Row) → id_of left ≢ id_of right → place < drivers_of drivers right → HandEmptied (id_of right) place rows old new → Call kind (joined_on left_keys right_keys left right) (old.join id) (new.join id) [] rows [] → Moved drivers t (taking (id_of right) place rows) old new
  Moved-right place rows apart low hand call =
      Moved-at drivers t once old new part (taking (id_of right) place rows) within (only-taking part (id_of right) place rows old new (or-right (nat_eq (id_of left) (id_of right)) _ (eq-eqb (id_of right) (id_of right) refl)) s) (taking-hands (id_of right) place rows old new hand)
      (here (taking (id_of right) place rows) [] rows [] (ap (λ b. cond b (only_at place rows) nothing 0) (not-true (nat_eq (id_of left) (id_of right)) (λ e. apart (eqb-true _ _ e)))) (ap (together (drivers_of drivers right)) (taken-at (id_of right) place rows) ∙ together-at (drivers_of drivers right) place rows low) refl call) s.out

  pub Moved-given : (rows : List Row) → HandFilled id 0 rows old new → Call kind (joined_on left_keys right_keys left right) (old.join id) (new.join id) [] [] rows → Moved drivers t (putting id 0 rows) old new
  Moved-given rows hand call =
      Moved-at drivers t once old new part (putting id 0 rows) within (only-putting part 0 rows old new s) (putting-hands id 0 rows old new hand)
      (here (putting id 0 rows) [] [] rows refl none-right (ap (λ f. f 0) (put-at id 0 rows)) call) s.out

  pub Moved-joins : HandsStay old new → Call kind (joined_on left_keys right_keys left right) (old.join id) (new.join id) [] [] [] → Moved drivers t standing old new
  Moved-joins hands call = Moved-at drivers t once old new part standing within (only-standing part old new s) (standing-hands old new hands) (here standing [] [] [] refl none-right refl call) s.out

-- ---- reclaims: both ways

back : (node : ℕ) (old new : Holding) → StaysBut node old new → StaysBut node new old
back node old new s = record { held = λ id h. sym (s.held id h); join = λ id h. sym (s.join id h); out = sym s.out }

pub Reclaimed : (drivers : ℕ) (t : Tree) → AreOnce t → (old new : Holding) (id : ℕ) (own : Own) (source : Tree) → Within (over id own source) t → StaysBut id old new → HandsStay old new
    → AllKeep (drivers_of drivers source) (drivers_of drivers (over id own source)) own (old.held id) (new.held id) nothing nothing
    → AllKeep (drivers_of drivers source) (drivers_of drivers (over id own source)) own (new.held id) (old.held id) nothing nothing → IsStill drivers t old new
Reclaimed drivers t once old new id own source within s hands there again = record {
  hands = hands;
  out = s.out;
  fits = Fits-within drivers old new standing (over id own source) (only-standing (over id own source) old new s) (Fits-all _ _ (old.held id) (new.held id) nothing nothing own there) t once within;
  back = Fits-within drivers new old standing (over id own source) (only-standing (over id own source) new old (back id old new s)) (Fits-all _ _ (new.held id) (old.held id) nothing nothing own again) t once within;
}

pub Reclaimed-join : (drivers : ℕ) (t : Tree) → AreOnce t → (old new : Holding) (id : ℕ) (kind : JoinKind) (left_keys right_keys : List ℕ) (left right : Tree) → Within (join id kind left_keys right_keys left right) t → StaysBut id old new → HandsStay old new
    → Call kind (joined_on left_keys right_keys left right) (old.join id) (new.join id) [] [] [] → Call kind (joined_on left_keys right_keys left right) (new.join id) (old.join id) [] [] [] → IsStill drivers t old new
Reclaimed-join drivers t once old new id kind left_keys right_keys left right within s hands there again =
    let part = join id kind left_keys right_keys left right in
    record {
      hands = hands;
      out = s.out;
      fits = Fits-within drivers old new standing part (only-standing part old new s)
          (here drivers t once old new id kind left_keys right_keys left right within s standing [] [] [] refl (together-none (drivers_of drivers right)) refl there) t once within;
      back = Fits-within drivers new old standing part (only-standing part new old (back id old new s))
          (here drivers t once new old id kind left_keys right_keys left right within (back id old new s) standing [] [] [] refl (together-none (drivers_of drivers right)) refl again) t once within;
    }
