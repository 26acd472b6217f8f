-- Each kind of step keeps the rule of a board.
use Rattle.std.proofs.Common.{◌≡◌, ◌≢◌, ℕ, zero, suc, ◌+◌, ◌*◌, ◌<◌, ◌≤◌, ◌==◌, max, Bool, cond, List, [], ◌∷◌, ◌++◌, length, get_or, set, MatchBool, sym, refl, ap, ◌∙◌, subst, inl, inr, ⊎_elim, arith, le_refl, le_trans, length-set, get_or-set_same, get_or-set_other, eq-eqb, ne_eqb}
use mathlib.Core.Logic.{dite}
use mathlib.Core.Option.{none, some}
use native.Mathlib.Decide.{ℕ_discrete}
use lib.ListN.{get_elem?}
use lib.Seq.{set-get_or}
use Rattle.std.proofs.lemmas.List.Sums.{sum_by-append, sum_by_push}
use Rattle.atomic_table.specs.Table.{State, keeps, step, Allows, Splits, Joins}
use Rattle.atomic_table.proofs.Lists.{at_set, at_snoc, set_again, set_here}
use Rattle.vx_board.specs.declared.view.Terms.{Terms}
use Rattle.vx_board.specs.declared.view.View.{View}
use Rattle.vx_board.specs.Seats.{IsWhole, NoneTwice, times, seen_of, spent, knowing, drew, noting, undrawn, greater, together, Claims, Posts, Sees}
use Rattle.vx_board.specs.BoardRule.{claim_word, peak_word, FitsBoard, KeepsBoard}
use Rattle.vx_board.specs.Kinds.{Sat, claimed, posted, peeked, looked}
use Rattle.vx_board.proofs.Places.{at_place, sum_by-changed, part-le-sum_by}

abbrev pub Law : Terms → State (Unit {0}) View → Type 0
Law terms state = KeepsBoard terms state.words state.views

-- how often a number stands in a list after one more

abbrev mark : Bool → ℕ
mark b = cond b 1 0

times-push : (number job : ℕ) (xs : List ℕ)
    → times number (xs ++ job ∷ []) ≡ times number xs + mark (job == number)
times-push number job xs = sum_by_push (λ (x : ℕ). mark (x == number)) xs job

once_more : (number job : ℕ) (xs : List ℕ) → number ≡ job
    → times number (xs ++ job ∷ []) ≡ times number xs + 1
once_more number job xs e =
    let one : mark (job == number) ≡ 1 = ap mark (eq-eqb job number (sym e)) in
    omega (arith, times-push number job xs)

no_more : (number job : ℕ) (xs : List ℕ) → number ≢ job
    → times number (xs ++ job ∷ []) ≡ times number xs
no_more number job xs ne =
    let absent : mark (job == number) ≡ 0 = ap mark (ne_eqb job number (λ e. ne (sym e))) in
    omega (arith, times-push number job xs)

times-append : (number : ℕ) (xs ys : List ℕ)
    → times number (xs ++ ys) ≡ times number xs + times number ys
times-append number xs ys = sum_by-append (λ (x : ℕ). mark (x == number)) xs ys

-- a view fits where no word is lower
risen : (t : Terms) (words ws : List ℕ) (v : View)
    → ((job : ℕ) → get_or words (2 * job) 0 ≤ get_or ws (2 * job) 0)
    → ((job : ℕ) → get_or words (2 * job + 1) 0 ≤ get_or ws (2 * job + 1) 0)
    → FitsBoard t words v → FitsBoard t ws v
risen t words ws v firm up fits = record {
  seen = λ job. le_trans (fits.seen job) (up job);
  taken = λ job has. omega (arith, fits.taken job has, firm job);
  whole = fits.whole;
}

-- A step of one seat changes words and its own view: what it draws is what the claim words gain, no
-- word falls, and the view fits.
moves : (t : Terms) (words ws : List ℕ) (views : List View) (id : ℕ) (v w : View)
    → KeepsBoard t words views → get_elem? views id ≡ some v → length ws ≡ length words
    → ((job : ℕ) → times job w.drawn + get_or words (2 * job) 0 ≡ times job v.drawn + get_or ws (2 * job) 0)
    → ((job : ℕ) → get_or words (2 * job) 0 ≤ get_or ws (2 * job) 0)
    → ((job : ℕ) → get_or ws (2 * job) 0 ≤ 1)
    → ((job : ℕ) → get_or words (2 * job + 1) 0 ≤ get_or ws (2 * job + 1) 0)
    → ((job : ℕ) → get_or ws (2 * job + 1) 0 ≤ t.total)
    → FitsBoard t ws w
    → KeepsBoard t ws (set views id w)
moves t words ws views id v w r at long gains firm once up within fits = record {
  size = long ∙ r.size;
  drawn = λ job.
      omega (arith, sum_by-changed (λ (u : View). times job u.drawn) views id v w at, r.drawn job, gains job);
  once = once;
  within = within;
  known = λ seat u e.
      ⊎_elim (λ (x : (seat ≡ id) × (w ≡ u)). subst (FitsBoard t ws) x.1 fits)
      (λ (x : (seat ≢ id) × (get_elem? views seat ≡ some u)). risen t words ws u firm up (r.known seat u x.1))
      (at_set views id seat w u e);
}

-- nothing has changed
stays : (t : Terms) (words ws : List ℕ) (views : List View) (id : ℕ) (v : View)
    → KeepsBoard t words views → get_elem? views id ≡ some v → ws ≡ words
    → KeepsBoard t ws (set views id v)
stays t words ws views id v r at same =
    subst (λ (vs : List View). KeepsBoard t ws vs) (sym (set_again views id v at))
    (subst (λ (xs : List ℕ). KeepsBoard t xs views) (sym same) r)

-- no seat has drawn a job twice
drawn_once : (t : Terms) (words : List ℕ) (views : List View) (id : ℕ) (v : View)
    → KeepsBoard t words views → get_elem? views id ≡ some v → NoneTwice v.drawn
drawn_once t words views id v r at = record {
  at_most_once = λ number.
      omega (arith, part-le-sum_by (λ (u : View). times number u.drawn) views id v at, r.drawn number, r.once number);
}

-- a claim that found 0
wins : (t : Terms) (words : List ℕ) (views : List View) (id : ℕ) (v : View) (job : ℕ)
    → KeepsBoard t words views → get_elem? views id ≡ some v → job < t.jobs → IsWhole t v
    → get_or words (2 * job) 0 ≡ 0
    → KeepsBoard t (set words (2 * job) 1) (set views id (drew v job))
wins t words views id v job r at low whole free =
    let ws : List ℕ = set words (2 * job) 1 in
    let here : 2 * job < length words = omega (arith, r.size) in
    let at_job : (other : ℕ) → other ≡ job → get_or ws (2 * other) 0 ≡ 1 = λ other e.
    ap (λ (k : ℕ). get_or ws (2 * k) 0) e ∙ get_or-set_same words (2 * job) 1 0 here in
    let was_free : (other : ℕ) → other ≡ job → get_or words (2 * other) 0 ≡ 0 = λ other e.
    ap (λ (k : ℕ). get_or words (2 * k) 0) e ∙ free in
    let away : (k : ℕ) → k ≢ 2 * job → get_or ws k 0 ≡ get_or words k 0 = λ k ne.
    get_or-set_other words (2 * job) k 1 0 ne in
    moves t words ws views id v (drew v job) r at (length-set words (2 * job) 1)
    (λ other. dite (ℕ_discrete other job)
    (λ e. omega (arith, at_job other e, was_free other e, once_more other job v.drawn e))
    (λ ne. omega (arith, away (2 * other) (λ e. ne (omega arith)), no_more other job v.drawn ne)))
    (λ other. dite (ℕ_discrete other job)
    (λ e. omega (arith, at_job other e, was_free other e))
    (λ ne. omega (arith, away (2 * other) (λ e. ne (omega arith)))))
    (λ other. dite (ℕ_discrete other job)
    (λ e. omega (arith, at_job other e))
    (λ ne. omega (arith, away (2 * other) (λ e. ne (omega arith)), r.once other)))
    (λ other. omega (arith, away (2 * other + 1) (λ e. omega arith)))
    (λ other. omega (arith, away (2 * other + 1) (λ e. omega arith), r.within other))
    (record {
      seen = λ other. omega (arith, away (2 * other + 1) (λ e. omega arith), (r.known id v at).seen other);
      taken = λ other has. dite (ℕ_discrete other job) (λ e. omega (arith, at_job other e))
          (λ ne.
          let before : 0 < times other v.taken = omega (arith, no_more other job v.taken ne) in
          omega (arith, away (2 * other) (λ e. ne (omega arith)), (r.known id v at).taken other before));
      whole = inr (record { jobs = whole.jobs; most = whole.most });
    })

claims_won : (v : View) (job other found : ℕ) → job ≡ other → found ≡ 0 → NoneTwice (drew v job).drawn
    → Claims v other (found == 0) (drew v job)
claims_won v job other found e free once =
    subst (λ (k : ℕ). Claims v k (found == 0) (drew v job)) e
    (record {
      drawn =
          subst (λ (b : Bool). MatchBool b (drew v job ≡ drew v job) (drew v job ≡ knowing v job))
          (sym (eq-eqb found 0 free)) refl;
      once = once;
    })

claims_lost : (v : View) (job other found : ℕ) → job ≡ other → found ≢ 0 → NoneTwice v.drawn
    → Claims v other (found == 0) (knowing v job)
claims_lost v job other found e taken once =
    subst (λ (k : ℕ). Claims v k (found == 0) (knowing v job)) e
    (record {
      drawn =
          subst (λ (b : Bool). MatchBool b (knowing v job ≡ drew v job) (knowing v job ≡ knowing v job))
          (sym (ne_eqb found 0 taken)) refl;
      once = once;
    })

-- a claim that found 1
loses : (t : Terms) (words : List ℕ) (views : List View) (id : ℕ) (v : View) (job : ℕ)
    → KeepsBoard t words views → get_elem? views id ≡ some v → IsWhole t v → get_or words (2 * job) 0 ≡ 1
    → KeepsBoard t (set words (2 * job) 1) (set views id (knowing v job))
loses t words views id v job r at whole one =
    let w : View = knowing v job in
    let same : set words (2 * job) 1 ≡ words =
    ap (λ (n : ℕ). set words (2 * job) n) (sym one) ∙ set-get_or words (2 * job) 0 in
    let fits : FitsBoard t words w =
    record {
      seen = (r.known id v at).seen;
      taken = λ other has. dite (ℕ_discrete other job)
          (λ e.
          let here : get_or words (2 * other) 0 ≡ 1 = ap (λ (k : ℕ). get_or words (2 * k) 0) e ∙ one in
          omega arith)
          (λ ne.
          (r.known id v at).taken other
          (let before : 0 < times other v.taken = omega (arith, no_more other job v.taken ne) in before));
      whole = inr (record { jobs = whole.jobs; most = whole.most });
    } in
    subst (λ (ws : List ℕ). KeepsBoard t ws (set views id w)) (sym same)
    (moves t words words views id v w r at refl (λ other. refl) (λ other. le_refl (get_or words (2 * other) 0)) r.once
    (λ other. le_refl (get_or words (2 * other + 1) 0)) r.within fits)

claims_here : (t : Terms) (slots id : ℕ) (m : Sat) (job : ℕ) → job < t.jobs → IsWhole t m.0
    → Allows (Law t) slots id m (2 * job) (λ _. 1) (claimed (step slots (2 * job) 1 0 none) m)
claims_here t slots id m job low whole s r homes at fits =
    dite (ℕ_discrete (get_or s.words (2 * job) 0) 0)
    (λ free.
    let w : View = drew m.0 job in
    let ws : List ℕ = set s.words (2 * job) 1 in
    let now = wins t s.words s.views id m.0 job r at low whole free in
    let mine = set_here s.views id w (at_place s.views id m.0 at).0 in
    let once = drawn_once t ws (set s.views id w) id w now mine in
    (w, keeps, tt, now, (refl, λ other e. claims_won m.0 job other _ (omega arith) free once)))
    (λ taken.
    let one : get_or s.words (2 * job) 0 ≡ 1 = omega (arith, r.once job) in
    let once = drawn_once t s.words s.views id m.0 r at in (
      knowing m.0 job,
      keeps,
      tt,
      loses t s.words s.views id m.0 job r at whole one,
      (refl, λ other e. claims_lost m.0 job other _ (omega arith) taken once),
    ))

-- `claim`
pub claims : (t : Terms) (slots id : ℕ) (m : Sat) (job i : ℕ) → i ≡ claim_word job → job < t.jobs
    → IsWhole t m.0 → Allows (Law t) slots id m i (λ _. 1) (claimed (step slots i 1 0 none) m)
claims t slots id m job i is low whole =
    subst (λ (k : ℕ). Allows (Law t) slots id m k (λ _. 1) (claimed (step slots k 1 0 none) m)) (sym is)
    (claims_here t slots id m job low whole)

-- a peak word becomes `now`, which is no lower, and the seat has seen it
notes : (t : Terms) (words : List ℕ) (views : List View) (id : ℕ) (v : View) (job now : ℕ)
    → KeepsBoard t words views → get_elem? views id ≡ some v → job < t.jobs → IsWhole t v
    → get_or words (2 * job + 1) 0 ≤ now → now ≤ t.total
    → KeepsBoard t (set words (2 * job + 1) now) (set views id (noting v job now))
notes t words views id v job now r at low whole up within =
    let i : ℕ = 2 * job + 1 in
    let ws : List ℕ = set words i now in
    let here : i < length words = omega (arith, r.size) in
    let at_job : (other : ℕ) → other ≡ job → get_or ws (2 * other + 1) 0 ≡ now = λ other e.
    ap (λ (k : ℕ). get_or ws (2 * k + 1) 0) e ∙ get_or-set_same words i now 0 here in
    let was : (other : ℕ) → other ≡ job → get_or words (2 * other + 1) 0 ≡ get_or words i 0 = λ other e.
    ap (λ (k : ℕ). get_or words (2 * k + 1) 0) e in
    let away : (k : ℕ) → k ≢ i → get_or ws k 0 ≡ get_or words k 0 = λ k ne.
    get_or-set_other words i k now 0 ne in
    let seen_here : (other : ℕ) → other ≡ job → get_or (set v.seen job now) other 0 ≡ now = λ other e.
    ap (λ (k : ℕ). get_or (set v.seen job now) k 0) e
    ∙ get_or-set_same v.seen job now 0 (omega (arith, whole.jobs)) in
    moves t words ws views id v (noting v job now) r at (length-set words i now)
    (λ other. omega (arith, away (2 * other) (λ e. omega arith)))
    (λ other. omega (arith, away (2 * other) (λ e. omega arith)))
    (λ other. omega (arith, away (2 * other) (λ e. omega arith), r.once other))
    (λ other. dite (ℕ_discrete other job)
    (λ e. omega (arith, at_job other e, was other e))
    (λ ne. omega (arith, away (2 * other + 1) (λ e. ne (omega arith)))))
    (λ other. dite (ℕ_discrete other job)
    (λ e. omega (arith, at_job other e))
    (λ ne. omega (arith, away (2 * other + 1) (λ e. ne (omega arith)), r.within other)))
    (record {
      seen = λ other. dite (ℕ_discrete other job)
          (λ e. omega (arith, at_job other e, seen_here other e))
          (λ ne.
          omega (arith, away (2 * other + 1) (λ e. ne (omega arith)), get_or-set_other v.seen job other now 0 ne, (r.known id v at).seen other));
      taken = λ other has. omega (arith, away (2 * other) (λ e. omega arith), (r.known id v at).taken other has);
      whole = inr (record { jobs = length-set v.seen job now ∙ whole.jobs; most = whole.most });
    })

-- what a step that notes a peak tells
sees : (t : Terms) (words : List ℕ) (v : View) (job now : ℕ) → FitsBoard t words v → IsWhole t v
    → get_or words (2 * job + 1) 0 ≤ now → now ≤ t.total → Sees v job now (noting v job now)
sees t words v job now fits whole up within = record {
  noted = refl;
  later = le_trans (fits.seen job) up;
  within = omega (arith, whole.most);
}

posts-told : (t : Terms) (v : View) (job peak now : ℕ) → job < t.jobs → IsWhole t v → peak ≤ now
    → Sees v job now (noting v job now) → Posts v job peak (noting v job now)
posts-told t v job peak now low whole up told =
    let is : seen_of (noting v job now) job ≡ now =
    get_or-set_same v.seen job now 0 (omega (arith, whole.jobs)) in
    record {
      sees = subst (λ (n : ℕ). Sees v job n (noting v job now)) (sym is) told;
      at_least = omega arith;
    }

peeks_here : (t : Terms) (slots id : ℕ) (m : Sat) (job : ℕ) → job < t.jobs → IsWhole t m.0
    → Allows (Law t) slots id m (2 * job + 1) (λ n. n) (peeked (step slots (2 * job + 1) 0 0 none) m)
peeks_here t slots id m job low whole s r homes at fits =
    let found : ℕ = get_or s.words (2 * job + 1) 0 in
    let told = sees t s.words m.0 job found (r.known id m.0 at) whole (le_refl found) (r.within job) in (
      noting m.0 job found,
      keeps,
      tt,
      notes t s.words s.views id m.0 job found r at low whole (le_refl found) (r.within job),
      (
        refl,
        λ other e.
            subst (λ (k : ℕ). Sees m.0 k found (noting m.0 job found)) (let same : job ≡ other = omega arith in same)
            told,
      ),
    )

-- `peek`
pub peeks : (t : Terms) (slots id : ℕ) (m : Sat) (job i : ℕ) → i ≡ peak_word job → job < t.jobs
    → IsWhole t m.0 → Allows (Law t) slots id m i (λ n. n) (peeked (step slots i 0 0 none) m)
peeks t slots id m job i is low whole =
    subst (λ (k : ℕ). Allows (Law t) slots id m k (λ n. n) (peeked (step slots k 0 0 none) m)) (sym is)
    (peeks_here t slots id m job low whole)

posts_here : (t : Terms) (slots id : ℕ) (m : Sat) (job peak : ℕ) → job < t.jobs → IsWhole t m.0 → peak ≤ t.total
    → Allows (Law t) slots id m (2 * job + 1) (λ n. max n peak) (posted (step slots (2 * job + 1) peak 0 none) m)
posts_here t slots id m job peak low whole within s r homes at fits =
    let found : ℕ = get_or s.words (2 * job + 1) 0 in
    let now : ℕ = max found peak in
    let up : found ≤ now = omega arith in
    let most : now ≤ t.total = omega (arith, r.within job) in
    let told = sees t s.words m.0 job now (r.known id m.0 at) whole up most in (
      noting m.0 job now,
      keeps,
      tt,
      notes t s.words s.views id m.0 job now r at low whole up most,
      (
        refl,
        λ other e.
            subst (λ (k : ℕ). Posts m.0 k peak (noting m.0 job now)) (let same : job ≡ other = omega arith in same)
            (posts-told t m.0 job peak now low whole (omega arith) told),
      ),
    )

-- `post`
pub posts : (t : Terms) (slots id : ℕ) (m : Sat) (job peak i : ℕ) → i ≡ peak_word job → job < t.jobs
    → IsWhole t m.0 → peak ≤ t.total
    → Allows (Law t) slots id m i (λ n. max n peak) (posted (step slots i peak 0 none) m)
posts t slots id m job peak i is low whole within =
    subst (λ (k : ℕ). Allows (Law t) slots id m k (λ n. max n peak) (posted (step slots k peak 0 none) m))
    (sym is) (posts_here t slots id m job peak low whole within)

-- the look of `join`
pub looks : (t : Terms) (slots id : ℕ) (m : Sat) (i : ℕ)
    → Allows (Law t) slots id m i (λ n. n) (looked (step slots i 0 0 none) m)
looks t slots id m i s r homes at fits = (
  m.0,
  keeps,
  tt,
  stays t s.words (set s.words i (get_or s.words i 0)) s.views id m.0 r at (set-get_or s.words i 0),
  (refl, drawn_once t s.words s.views id m.0 r at),
)

-- `split`
pub splits : (t : Terms) (id : ℕ) (v : View) → IsWhole t v → Splits (Law t) id v v (undrawn v)
splits t id v whole s r at =
    subst (λ (vs : List View). KeepsBoard t s.words (vs ++ undrawn v ∷ [])) (sym (set_again s.views id v at))
    grown
  where
    fits : FitsBoard t s.words (undrawn v)
    fits = record {
      seen = (r.known id v at).seen;
      taken = (r.known id v at).taken;
      whole = inr (record { jobs = whole.jobs; most = whole.most });
    }

    grown : KeepsBoard t s.words (s.views ++ undrawn v ∷ [])
    grown = record {
      size = r.size;
      drawn = λ job.
          omega (arith, sum_by_push (λ (u : View). times job u.drawn) s.views (undrawn v), r.drawn job);
      once = r.once;
      within = r.within;
      known = λ seat u e.
          ⊎_elim (λ (x : get_elem? s.views seat ≡ some u). r.known seat u x)
          (λ (x : undrawn v ≡ u). subst (FitsBoard t s.words) x fits)
          (at_snoc s.views (undrawn v) u seat e);
    }

greater_at : (xs ys : List ℕ) (k : ℕ)
    → get_or (greater xs ys) k 0 ≡ max (get_or xs k 0) (get_or ys k 0)
greater_at [] ys k = omega arith
greater_at (x ∷ xs) [] k = omega arith
greater_at (x ∷ xs) (y ∷ ys) zero = refl
greater_at (x ∷ xs) (y ∷ ys) (suc k) = greater_at xs ys k

pub length-greater : (xs ys : List ℕ) → length xs ≡ length ys → length (greater xs ys) ≡ length xs
length-greater [] ys e = sym e
length-greater (x ∷ xs) [] e = refl
length-greater (x ∷ xs) (y ∷ ys) e = ap suc (length-greater xs ys (omega arith))

-- a view that was put together is whole
pub together_whole : (t : Terms) (v w : View) → IsWhole t v → IsWhole t w → IsWhole t (together v w)
together_whole t v w whole other = record {
  jobs = length-greater v.seen w.seen (whole.jobs ∙ sym other.jobs) ∙ whole.jobs;
  most = whole.most;
}

-- `join`
pub joins : (t : Terms) (id : ℕ) (v : View) (other : ℕ) (w : View) → IsWhole t v → IsWhole t w
    → Joins (Law t) id v other w (together v w) spent
joins t id v other w whole whole' s r at apart there = record {
  size = r.size;
  drawn = λ job.
      omega (arith, sum_by-changed (λ (u : View). times job u.drawn) s.views id v both at, sum_by-changed (λ (u : View). times job u.drawn) (set s.views id both) other w spent there, times-append job v.drawn w.drawn, r.drawn job);
  once = r.once;
  within = r.within;
  known = λ seat u e.
      ⊎_elim (λ (x : (seat ≡ other) × (spent ≡ u)). subst (FitsBoard t s.words) x.1 gone)
      (λ (x : (seat ≢ other) × (get_elem? (set s.views id both) seat ≡ some u)).
      ⊎_elim (λ (y : (seat ≡ id) × (both ≡ u)). subst (FitsBoard t s.words) y.1 fits)
      (λ (y : (seat ≢ id) × (get_elem? s.views seat ≡ some u)). r.known seat u y.1)
      (at_set s.views id seat both u x.1))
      (at_set (set s.views id both) other seat spent u e);
}
  where
    both : View
    both = together v w

    theirs : get_elem? s.views other ≡ some w
    theirs =
        ⊎_elim (λ (x : (other ≡ id) × (both ≡ w)). absurd (apart x.0))
        (λ (x : (other ≢ id) × (get_elem? s.views other ≡ some w)). x.1)
        (at_set s.views id other both w there)

    gone : FitsBoard t s.words spent
    gone = record { seen = λ job. omega arith; taken = λ job has. absurd (omega arith); whole = inl refl }

    fits : FitsBoard t s.words both
    fits = record {
      seen = λ job.
          omega (arith, greater_at v.seen w.seen job, (r.known id v at).seen job, (r.known other w theirs).seen job);
      taken = λ job has. dite (ℕ_discrete (times job v.taken) 0)
          (λ e.
          (r.known other w theirs).taken job
          (let some_there : 0 < times job w.taken = omega (arith, times-append job v.taken w.taken) in some_there))
          (λ ne. (r.known id v at).taken job (let some_here : 0 < times job v.taken = omega arith in some_here));
      whole = inr (together_whole t v w whole whole');
    }
