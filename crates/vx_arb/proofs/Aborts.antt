-- A request that may abort a job makes an abort that was unavoidable.
use Rattle.std.proofs.Common.{◌≡◌, ◌≢◌, ℕ, ◌+◌, ◌-◌, ◌<◌, ◌≤◌, Bool, true, false, not, cond, eqb, ltb, ◌||◌, ◌&&◌, Option, Some, None, IsSome, IsSomeAnd, IfSome, IfNone, IsTrue, unwrap_or, List, [], ◌∷◌, length, refl, sym, ◌∙◌, ap, subst, arith}
use Rattle.std.specs.List.{list_all}
use Rattle.std.proofs.lemmas.Bool.Decides.{nat_tests}
use Rattle.vx_arb.specs.declared.entries.Entry.{Entry}
use Rattle.vx_arb.specs.declared.entries.Entry.TheVariants.{Abort, Shrink, Reclaim}
use Rattle.vx_arb.specs.declared.entries.Look.{Look}
use Rattle.vx_arb.specs.declared.entries.AbortNote.{AbortNote}
use Rattle.vx_arb.specs.declared.entries.NoteCause.TheVariants.{Total, Own}
use Rattle.vx_arb.specs.declared.rows.Live.{Live}
use Rattle.vx_arb.specs.declared.rows.Standing.{Standing}
use Rattle.vx_arb.specs.Members.{IsWithin}
use Rattle.vx_arb.specs.Log.{capacity_of}
use Rattle.vx_arb.specs.Unmet.{AreSingle, saw_nothing, saw_no_unused, is_at_most, max_of, IsUnmetBy, PassesOwnMax, LacksOfTotal, IsJust}
use Rattle.vx_arb.specs.Rows.{is_live, capacity_at, max_at, max_in, with_capacity, is_largest, one_less, without, IsTied}
use Rattle.vx_arb.specs.Books.{Books, Asked, IsBooks, IsStanding, Stands, standing_of, is_unmet, is_unmet_own, is_unmet_total, note_for, after_taking, after_move, after_look, shrink_entry, reclaim_entry, has_look, with_look, unseen, is_requester}
use Rattle.vx_arb.specs.Keeping.{IsKept, Takes, MayTake}
use Rattle.vx_arb.proofs.RowLemmas.{absent_max, live_set, capacity_set, capacity_others, length_set, count_set, count_without}
use Rattle.vx_arb.proofs.LookLemmas.{unseen_some, unseen_put, unseen_again}

-- both of two tests that hold together
pub both : (a b : Bool) → (a && b) ≡ true → (a ≡ true) × (b ≡ true)
both true true h = (refl, refl)
both true false h = absurd (cc)
both false b h = absurd (cc)

-- a live job has a max, and a job with a max is live
pub has_max : (live : List Live) (job : ℕ) → is_live live job ≡ true → max_at live job ≡ Some (max_in live job)
has_max [] job h = absurd (cc)
has_max (row ∷ rest) job h =
    elim (eqb row.job job) as (λ b. (b || is_live rest job) ≡ true → cond b (Some row.max) (max_at rest job) ≡ Some (unwrap_or (cond b (Some row.max) (max_at rest job)) 0))
    [ true ↦ λ e. refl | false ↦ λ e. has_max rest job e ] h

pub live_by_max : (live : List Live) (job : ℕ) → IsSome (max_at live job) → is_live live job ≡ true
live_by_max live job some =
    elim (is_live live job) as (λ b. is_live live job ≡ b → is_live live job ≡ true) [
      | true ↦ λ e. e
      | false ↦ λ e. let none : max_at live job ≡ None = absent_max live job e in
          let nothing : IsSome {T = ℕ} None = subst (λ (o : Option ℕ). IsSome o) none some in absurd (cc)
    ] refl

-- what holds of every row's job holds of every live job
pub at_live : (p : ℕ → Bool) (live : List Live) (job : ℕ) → list_all (λ (row : Live). p row.job) live ≡ true → is_live live job ≡ true → p job ≡ true
at_live p [] job all there = absurd (cc)
at_live p (row ∷ rest) job all there =
    let parts = both (p row.job) (list_all (λ (row : Live). p row.job) rest) all in
    elim (eqb row.job job) as (λ b. eqb row.job job ≡ b → (b || is_live rest job) ≡ true → p job ≡ true) [
      | true ↦ λ e h. let same : row.job ≡ job = grind (arith, nat_tests) in subst (λ n. p n ≡ true) same parts.0
      | false ↦ λ e h. at_live p rest job parts.1 h
    ] refl there

-- and so does what holds of every row's capacity and job
pub at_rows : (p : ℕ → ℕ → Bool) (live : List Live) (job : ℕ) → list_all (λ (row : Live). p row.capacity row.job) live ≡ true → is_live live job ≡ true → p (capacity_at live job) job ≡ true
at_rows p [] job all there = absurd (cc)
at_rows p (row ∷ rest) job all there =
    let parts = both (p row.capacity row.job) (list_all (λ (row : Live). p row.capacity row.job) rest) all in
    elim (eqb row.job job) as (λ b. eqb row.job job ≡ b → (b || is_live rest job) ≡ true → p (cond b row.capacity (capacity_at rest job)) job ≡ true) [
      | true ↦ λ e h. let same : row.job ≡ job = grind (arith, nat_tests) in subst (λ n. p row.capacity n ≡ true) same parts.0
      | false ↦ λ e h. at_rows p rest job parts.1 h
    ] refl there

some_and : (o : Option ℕ) (n : ℕ) (P : ℕ → Type 0) → o ≡ Some n → P n → IsSomeAnd o P
some_and o n P e p = subst (λ (o : Option ℕ). IsSomeAnd o P) (sym e) p

is_some_of : (o : Option ℕ) (n : ℕ) → o ≡ Some n → IsSome o
is_some_of o n e = subst (λ (o : Option ℕ). IsSome o) (sym e) refl

-- the request that stands is of a live job, and its numbers agree
pub stands_well : (books : Books) (request : Asked) → IsBooks books → Stands books request → IsStanding books.live books.spare (standing_of request)
stands_well books request b s = subst (λ (o : Option Standing). IfSome o (IsStanding books.live books.spare)) s.same b.stands

own_cause : (books : Books) (request : Asked) (job : ℕ) → IsBooks books → Stands books request → ltb (max_in books.live request.job) request.would ≡ true → is_unmet_own request job ≡ true → PassesOwnMax (max_of books.admitted books.log) books.log (note_for books request job) request.looks
own_cause books request job b s past may =
    let parts = both (eqb job request.job) (saw_nothing request.looks job) may in
    let same : job ≡ request.job = grind (arith, nat_tests, parts.0) in
    let well : IsStanding books.live books.spare (standing_of request) = stands_well books request b s in
    let most : max_of books.admitted books.log request.job ≡ Some (max_in books.live request.job) = sym (b.lives request.job) ∙ has_max books.live request.job well.there in
    let over : max_in books.live request.job < request.would = grind (arith, nat_tests) in
    record {
      victim = same;
      past = some_and (max_of books.admitted books.log request.job) (max_in books.live request.job) (λ most. most < capacity_of books.log request.job + request.need) most (omega (arith, over, well.adds, b.rows request.job));
      emptied = subst (λ n. saw_nothing request.looks n ≡ true) same parts.1;
    }

total_cause : (books : Books) (request : Asked) (job : ℕ) → IsBooks books → Stands books request → ltb (max_in books.live request.job) request.would ≡ false → is_unmet_total books request job ≡ true → LacksOfTotal (max_of books.admitted books.log) books.log (note_for books request job) request.looks
total_cause books request job b s past may =
    let largest = both (ltb books.free request.need && list_all (λ (row : Live). saw_nothing request.looks row.job) books.live && saw_no_unused request.looks request.job && is_live books.live job) (is_largest books.live job) may in
    let there = both (ltb books.free request.need && list_all (λ (row : Live). saw_nothing request.looks row.job) books.live && saw_no_unused request.looks request.job) (is_live books.live job) largest.0 in
    let shrunk = both (ltb books.free request.need && list_all (λ (row : Live). saw_nothing request.looks row.job) books.live) (saw_no_unused request.looks request.job) there.0 in
    let emptied = both (ltb books.free request.need) (list_all (λ (row : Live). saw_nothing request.looks row.job) books.live) shrunk.0 in
    let well : IsStanding books.live books.spare (standing_of request) = stands_well books request b s in
    let most : max_of books.admitted books.log request.job ≡ Some (max_in books.live request.job) = sym (b.lives request.job) ∙ has_max books.live request.job well.there in
    let under : request.would ≤ max_in books.live request.job = grind (arith, nat_tests) in
    let lacking : books.free < request.need = grind (arith, nat_tests, emptied.0) in
    record {
      within = some_and (max_of books.admitted books.log request.job) (max_in books.live request.job) (λ most. capacity_of books.log request.job + request.need ≤ most) most (omega (arith, under, well.adds, b.rows request.job));
      lacking = lacking;
      emptied = λ other some. at_live (λ n. saw_nothing request.looks n) books.live other emptied.1 (live_by_max books.live other (subst (λ (o : Option ℕ). IsSome o) (sym (b.lives other)) some));
      shrunk = shrunk.1;
      live = is_some_of (max_of books.admitted books.log job) (max_in books.live job) (sym (b.lives job) ∙ has_max books.live job there.1);
      largest = λ other some. rw (← b.rows other, ← b.rows job) (at_rows (λ c j. is_at_most c j (capacity_at books.live job) job) books.live other largest.1 (live_by_max books.live other (subst (λ (o : Option ℕ). IsSome o) (sym (b.lives other)) some)));
    }

-- the entry of an abort that a request may make is just
pub abort_just : (books : Books) (request : Asked) (job : ℕ) → IsBooks books → Stands books request → AreSingle request.looks → is_unmet books request job ≡ true → IsJust books.total books.admitted books.log (Abort (note_for books request job) (capacity_at books.live job) request.looks)
abort_just books request job b s single may = record {
  free_was = b.balance;
  had = b.rows job;
  single = single;
  counted = refl;
  cause = elim (ltb (max_in books.live request.job) request.would) as (λ t. ltb (max_in books.live request.job) request.would ≡ t → cond t (is_unmet_own request job) (is_unmet_total books request job) ≡ true → IsUnmetBy (cond t Own Total) (max_of books.admitted books.log) books.log (note_for books request job) request.looks)
      [ true ↦ λ e h. own_cause books request job b s e h | false ↦ λ e h. total_cause books request job b s e h ] refl may;
}

-- what the type keeps holds of what the call was given
pub rule_now : (books now : Books) (fit : ℕ) → books ≡ now → IsKept books fit → IsBooks now
rule_now books now fit same k = subst (λ (b : Books). IsBooks b) same k.rule

-- an abort's entry can be written
pub abort_takes : (now : Books) (request : Asked) (job share amount : ℕ) (note : AbortNote) (looks : List Look)
    → IsBooks now → Stands now request → IsTrue (is_live now.live job) → share ≡ capacity_at now.live job → amount ≡ share → note ≡ note_for now request job → looks ≡ request.looks → AreSingle request.looks → is_unmet now request job ≡ true
    → MayTake now job share (Abort note amount looks) None
abort_takes now request job share amount note looks b s there e1 e2 e3 e4 single may =
    let well : IsStanding now.live now.spare (standing_of request) = stands_well now request b s in
    rw (e2, e1, e3, e4) (record {
      there = there;
      had = omega arith;
      takes = record { of = refl; nothing = refl; amount_is = refl; stays = λ other. refl };
      just = abort_just now request job b s single may;
      seat = omega (arith, well.room);
      then_stands = tt;
    })

-- a member's row after it gave something
pub tied_taken : (live : List Live) (job own capacity share less : ℕ) → IsTied live job capacity → own ≡ job → less ≡ capacity - share → IsTied (with_capacity live job (capacity_at live job - share)) own less
tied_taken live job own capacity share less t e1 e2 = rw e1 (record {
  there = live_set live job (capacity_at live job - share) job ∙ t.there;
  same = omega (arith, capacity_set live job (capacity_at live job - share) t.there, t.same, e2);
})

-- and after it got something
pub tied_given : (live : List Live) (job own capacity share more : ℕ) → IsTied live job capacity → own ≡ job → more ≡ capacity + share → IsTied (with_capacity live job (capacity_at live job + share)) own more
tied_given live job own capacity share more t e1 e2 = rw e1 (record {
  there = live_set live job (capacity_at live job + share) job ∙ t.there;
  same = omega (arith, capacity_set live job (capacity_at live job + share) t.there, t.same, e2);
})

-- the same after a shrink or a reclaim, with an entry or without
pub tied_taking : (books : Books) (job own capacity share less : ℕ) (entry : Option Entry) → IsTied books.live job capacity → IfNone entry (share ≡ 0) → own ≡ job → less ≡ capacity - share → IsTied (after_taking books job share entry).live own less
tied_taking books job own capacity share less None t nothing e1 e2 = rw e1 (record { there = t.there; same = omega (arith, t.same, e2, nothing) })
tied_taking books job own capacity share less (Some entry) t nothing e1 e2 = tied_taken books.live job own capacity share less t e1 e2

-- the request stands on after a shrink or a reclaim
pub stands_taking : (books : Books) (request : Asked) (job share : ℕ) (entry : Option Entry) → Stands books request → Stands (after_taking books job share entry) (after_move request)
stands_taking books request job share None s = record { same = ap (λ (o : Option Standing). one_less o) s.same; seats = s.seats }
stands_taking books request job share (Some entry) s = record {
  same = ap (λ (o : Option Standing). one_less o) s.same;
  seats = omega (arith, count_set (λ n. not (has_look request.looks n)) books.live job (capacity_at books.live job - share), s.seats);
}

standing_taken : (live : List Live) (job share spare : ℕ) (standing : Option Standing) → IsTrue (is_live live job) → share ≤ capacity_at live job → IsSomeAnd standing (λ s. 0 < s.left) → (is_requester standing job ≡ true → share ≡ 0) → IfSome standing (IsStanding live spare) → (length live < spare) × IfSome (one_less standing) (IsStanding (with_capacity live job (capacity_at live job - share)) (spare - 1))
standing_taken live job share spare None there had going other h = absurd (going)
standing_taken live job share spare (Some s) there had going other h = (
  omega (arith, h.room),
  record {
    there = live_set live job (capacity_at live job - share) s.job ∙ h.there;
    adds = elim (eqb s.job job) as (λ t. eqb s.job job ≡ t → (t ≡ true → share ≡ 0) → s.would ≡ capacity_at (with_capacity live job (capacity_at live job - share)) s.job + s.need) [
      | true ↦ λ e none. let same : s.job ≡ job = grind (arith, nat_tests) in
          omega (arith, h.adds, none refl, ap (λ n. capacity_at (with_capacity live job (capacity_at live job - share)) n) same, ap (λ n. capacity_at live n) same, capacity_set live job (capacity_at live job - share) there)
      | false ↦ λ e none. let ne : s.job ≢ job = grind (arith, nat_tests) in omega (arith, h.adds, capacity_others live job (capacity_at live job - share) s.job ne)
    ] refl other;
    room = omega (arith, h.room, length_set live job (capacity_at live job - share), going);
  },
)

-- the entry of a shrink or a reclaim can be written
pub taking_may : (now : Books) (job share : ℕ) (entry : Entry) (chosen : Option Entry) (standing : Option Standing)
    → chosen ≡ Some entry → standing ≡ one_less now.standing → IsBooks now
    → IsSomeAnd now.standing (λ s. 0 < s.left) → IsTrue (is_live now.live job) → share ≤ capacity_at now.live job → (is_requester now.standing job ≡ true → share ≡ 0)
    → IfSome chosen (Takes job share) → IfSome chosen (IsJust now.total now.admitted now.log)
    → MayTake now job share entry standing
taking_may now job share entry chosen standing e1 e2 b going there had other takes just =
    let stand = standing_taken now.live job share now.spare now.standing there had going other b.stands in
    rw e2 (record {
      there = there;
      had = had;
      takes = subst (λ (o : Option Entry). IfSome o (Takes job share)) e1 takes;
      just = subst (λ (o : Option Entry). IfSome o (IsJust now.total now.admitted now.log)) e1 just;
      seat = stand.0;
      then_stands = stand.1;
    })

-- without an entry nothing was moved
pub shrink_nothing : (job moved share : ℕ) (entry : Option Entry) → entry ≡ shrink_entry job moved → share ≡ moved → IfNone entry (share ≡ 0)
shrink_nothing job moved share entry e same =
    subst (λ (o : Option Entry). IfNone o (share ≡ 0)) (sym e)
    (elim (eqb moved 0) as (λ t. eqb moved 0 ≡ t → IfNone (cond t None (Some (Shrink job moved))) (share ≡ 0))
    [ true ↦ λ z. grind (arith, nat_tests) | false ↦ λ z. tt ] refl)

pub reclaim_nothing : (job freed moved share : ℕ) (entry : Option Entry) → entry ≡ reclaim_entry job freed moved → share ≡ moved → IfNone entry (share ≡ 0)
reclaim_nothing job freed moved share entry e same =
    subst (λ (o : Option Entry). IfNone o (share ≡ 0)) (sym e)
    (elim (eqb freed 0) as (λ t. IfNone (cond t (shrink_entry job moved) (Some (Reclaim job moved))) (share ≡ 0))
    [ true ↦ shrink_nothing job moved share (shrink_entry job moved) refl same | false ↦ tt ])

-- a reclaim turns what it frees into unused capacity
pub unused_after : (capacity reserved unused freed : ℕ) (left after : ℕ) (held : ℕ) → IsWithin capacity reserved unused → IsWithin held left after → held ≡ capacity → left + freed ≡ reserved → after ≡ unused + freed
unused_after capacity reserved unused freed left after held w v same fell = omega (arith, w.bounded, w.rest, v.bounded, v.rest)

-- the request stands on after a look
pub stands_looked : (books : Books) (request : Asked) (look : Look) → Stands books request → is_live books.live look.job ≡ true → Stands books (after_look request look)
stands_looked books request look s there = record {
  same = s.same;
  seats = elim (has_look request.looks look.job) as (λ t. has_look request.looks look.job ≡ t → unseen books.live (with_look request.looks look) ≤ cond t request.room (request.room - 1)) [
    | true ↦ λ e. omega (arith, unseen_again books.live request.looks look, s.seats)
    | false ↦ λ e. omega (arith, unseen_put books.live request.looks look there e, s.seats)
  ] refl;
}

-- a look at a live job has room
pub look_fits : (books : Books) (request : Asked) (job : ℕ) → Stands books request → is_live books.live job ≡ true → has_look request.looks job ≡ false → 0 < request.room
look_fits books request job s there lacking = omega (arith, unseen_some books.live request.looks job there lacking, s.seats)

five : (a b c d e : Bool) → a ≡ true → b ≡ true → c ≡ true → d ≡ true → e ≡ (a && b && c && d && e)
five a b c d e p q r s = rw (p, q, r, s) refl

-- the tests in turn are the test
pub unmet_is : (books now : Books) (request : Asked) (job : ℕ) (largest : Bool) → books ≡ now → books.free < request.need → list_all (λ (row : Live). saw_nothing request.looks row.job) books.live ≡ true → saw_no_unused request.looks request.job ≡ true → is_live books.live job ≡ true → largest ≡ is_largest books.live job → largest ≡ is_unmet_total now request job
unmet_is books now request job largest same lacking emptied shrunk there is =
    let lt : ltb books.free request.need ≡ true = grind (arith, nat_tests) in
    is ∙ five (ltb books.free request.need) (list_all (λ (row : Live). saw_nothing request.looks row.job) books.live) (saw_no_unused request.looks request.job) (is_live books.live job) (is_largest books.live job) lt emptied shrunk there
    ∙ ap (λ (b : Books). is_unmet_total b request job) same

-- the request stands on where another job has retired
pub stands_gone : (books now next : Books) (job : ℕ) → books ≡ now → is_live now.live job ≡ true → next.live ≡ without books.live job → next.standing ≡ books.standing → (request : Asked) → Stands now request → Stands next request
stands_gone books now next job same there e1 e2 request s =
    let here : is_live books.live job ≡ true = subst (λ (b : Books). is_live b.live job ≡ true) (sym same) there in
    let stood : Stands books request = subst (λ (b : Books). Stands b request) (sym same) s in
    record {
      same = e2 ∙ stood.same;
      seats = rw e1 (omega (arith, count_without (λ n. not (has_look request.looks n)) books.live job here, stood.seats));
    }
