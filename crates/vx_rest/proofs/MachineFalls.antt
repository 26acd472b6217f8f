-- Each move lowers the rank.
use Rattle.std.proofs.Common.{◌≡◌, ◌≢◌, ℕ, zero, suc, ◌<◌, ◌≤◌, ◌+◌, Bool, true, false, cond, List, [], ◌∷◌, ◌++◌, length, refl, sym, ap, ap₂, ◌∙◌, subst, inl, inr, ⊎_elim, true≢false, nat_eq, arith}
use Rattle.std.specs.Prelude.{◌⊎◌}
use Rattle.vx_value.specs.Row.{Row}
use Rattle.vx_plan.specs.Tree.{Tree, values, over, join, Own, id_of}
use Rattle.vx_plan.specs.declared.widths.Width.{Width}
use Rattle.vx_plan.specs.declared.widths.Width.TheVariants.{One, Many}
use Rattle.vx_plan.specs.Width.{width_of}
use Rattle.vx_plan.specs.Widths.{is_one}
use Rattle.vx_rest.specs.Lists.{drivers_of}
use Rattle.vx_rest.specs.Held.{Held, HeldJoin, Holding}
use Rattle.vx_rest.specs.Fits.{Within, AreOnce, has_node, is_source}
use Rattle.vx_rest.specs.HandMoves.{HandEmptied, HandFilled, HandsStay, StaysBut}
use Rattle.vx_rest.specs.Ends.{Ends}
use Rattle.vx_rest.specs.Rank.{Places, five, rank, IsLower}
use Rattle.vx_rest.specs.Machine.{Machine, JoinNode, join_node, Move, reads, gives, answers, leaves, takes, builds, probes, comes_out, turns, merges, finishes, built, probed, empties, stops}
use Rattle.vx_rest.specs.Changes.{size, EndsStay, Here, IsSet, AnswerChanges, JoinStands, Makes}
use Rattle.vx_rest.specs.Reclaims.{Reclaims, ReclaimsJoin}
use Rattle.vx_rest.specs.MachineRank.{total, unless, places, rank_of}
use Rattle.vx_rest.proofs.OnlyAtLaws.{within-node, or-left, or-right}
use Rattle.vx_rest.proofs.RankLaw.{lower-front, lower-same, rank-same, rank-lower, rank-takes}
use Rattle.vx_rest.proofs.EndMoves.{within-here}
use Rattle.vx_rest.proofs.DrainedLaws.{source-within}
use Rattle.vx_rest.proofs.StartLaw.{lanes-some}
use Rattle.vx_rest.proofs.MachineParts.{eq_or, once-within, within-trans, apart}
use Rattle.std.proofs.lemmas.Bool.{eq-eqb}

-- ---- sums

pub total-same : (n : ℕ) (f g : ℕ → ℕ) → ((d : ℕ) → f d ≡ g d) → total n f ≡ total n g
total-same zero f g h = refl
total-same (suc n) f g h = ap₂ ◌+◌ (h zero) (total-same n (λ d. f (suc d)) (λ d. g (suc d)) (λ d. h (suc d)))

pub total-most : (n : ℕ) (f g : ℕ → ℕ) → ((d : ℕ) → f d ≤ g d) → total n f ≤ total n g
total-most zero f g h = omega arith
total-most (suc n) f g h = let a = h zero in let b = total-most n (λ d. f (suc d)) (λ d. g (suc d)) (λ d. h (suc d)) in omega arith

pub total-less : (n p : ℕ) (f g : ℕ → ℕ) → p < n → f p < g p → ((d : ℕ) → d ≢ p → f d ≤ g d) → total n f < total n g
total-less zero p f g w low h = absurd (omega arith)
total-less (suc n) zero f g w low h = let b = total-most n (λ d. f (suc d)) (λ d. g (suc d)) (λ d. h (suc d) (λ e. absurd (omega arith))) in omega arith
total-less (suc n) (suc p) f g w low h =
    let a = h zero (λ e. absurd (omega arith)) in
    let b = total-less n p (λ d. f (suc d)) (λ d. g (suc d)) (omega arith) low (λ d ne. h (suc d) (λ e. ne (omega arith))) in
    omega arith

lanes-most : (drivers : ℕ) → 1 ≤ drivers → (w : Width) → cond (is_one w) 1 drivers ≤ drivers
lanes-most drivers some One = some
lanes-most drivers some Many = omega arith

lanes-low : (drivers : ℕ) → 1 ≤ drivers → (s : Tree) → 0 < drivers_of drivers s
lanes-low drivers some s = lanes-some drivers some (width_of s)

low-driver : (drivers : ℕ) → 1 ≤ drivers → (s : Tree) (d : ℕ) → d < drivers_of drivers s → d < drivers
low-driver drivers some s d w = let n : drivers_of drivers s ≤ drivers = lanes-most drivers some (width_of s) in omega arith

-- ---- five numbers

first-lower : (new old : Places) → new.moves < old.moves → IsLower (five new) (five old)
first-lower new old h = inl h

at-most : (x y : ℕ) (xs ys : List ℕ) → x ≤ y → IsLower xs ys → IsLower (x ∷ xs) (y ∷ ys)
at-most x y xs ys h l = ⊎_elim (λ e. inr (e, l)) (λ w. inl w) (split x y h) where
  split : (x y : ℕ) → x ≤ y → (x ≡ y) ⊎ (x < y)
  split zero zero h = inl refl
  split zero (suc y) h = inr (omega arith)
  split (suc x) zero h = absurd (omega arith)
  split (suc x) (suc y) h = ⊎_elim (λ e. inl (ap suc e)) (λ w. inr (omega arith)) (split x y (omega arith))

last-lower : (new old : Places) → new.moves ≤ old.moves → new.owed ≤ old.owed → new.kept ≤ old.kept → new.runs ≤ old.runs → new.pending < old.pending → IsLower (five new) (five old)
last-lower new old a b c d p =
    at-most new.moves old.moves (new.owed ∷ new.kept ∷ new.runs ∷ new.pending ∷ []) (old.owed ∷ old.kept ∷ old.runs ∷ old.pending ∷ []) a
    (at-most new.owed old.owed (new.kept ∷ new.runs ∷ new.pending ∷ []) (old.kept ∷ old.runs ∷ old.pending ∷ []) b
    (at-most new.kept old.kept (new.runs ∷ new.pending ∷ []) (old.runs ∷ old.pending ∷ []) c
    (at-most new.runs old.runs (new.pending ∷ []) (old.pending ∷ []) d (inl p))))

fourth-lower : (new old : Places) → new.moves ≤ old.moves → new.owed ≤ old.owed → new.kept ≤ old.kept → new.runs < old.runs → IsLower (five new) (five old)
fourth-lower new old a b c d =
    at-most new.moves old.moves (new.owed ∷ new.kept ∷ new.runs ∷ new.pending ∷ []) (old.owed ∷ old.kept ∷ old.runs ∷ old.pending ∷ []) a
    (at-most new.owed old.owed (new.kept ∷ new.runs ∷ new.pending ∷ []) (old.kept ∷ old.runs ∷ old.pending ∷ []) b
    (at-most new.kept old.kept (new.runs ∷ new.pending ∷ []) (old.runs ∷ old.pending ∷ []) c (inl d)))

third-lower : (new old : Places) → new.moves ≤ old.moves → new.owed ≤ old.owed → new.kept < old.kept → IsLower (five new) (five old)
third-lower new old a b c =
    at-most new.moves old.moves (new.owed ∷ new.kept ∷ new.runs ∷ new.pending ∷ []) (old.owed ∷ old.kept ∷ old.runs ∷ old.pending ∷ []) a
    (at-most new.owed old.owed (new.kept ∷ new.runs ∷ new.pending ∷ []) (old.kept ∷ old.runs ∷ old.pending ∷ []) b (inl c))

second-lower : (new old : Places) → new.moves ≤ old.moves → new.owed < old.owed → IsLower (five new) (five old)
second-lower new old a b = at-most new.moves old.moves (new.owed ∷ new.kept ∷ new.runs ∷ new.pending ∷ []) (old.owed ∷ old.kept ∷ old.runs ∷ old.pending ∷ []) a (inl b)

abbrev make : ℕ → ℕ → ℕ → ℕ → ℕ → Places
make a b c d p = record { moves = a; owed = b; kept = c; runs = d; pending = p }

make-same : (a b c d p a' b' c' d' p' : ℕ) → a ≡ a' → b ≡ b' → c ≡ c' → d ≡ d' → p ≡ p' → make a b c d p ≡ make a' b' c' d' p'
make-same a b c d p a' b' c' d' p' ha hb hc hd hp =
    ap (λ x. make x b c d p) ha ∙ ap (λ x. make a' x c d p) hb ∙ ap (λ x. make a' b' x d p) hc ∙ ap (λ x. make a' b' c' x p) hd ∙ ap (λ x. make a' b' c' d' x) hp

unless-fewer : (b c : Bool) → (c ≡ true → b ≡ true) → unless b ≤ unless c
unless-fewer true c h = let z : 0 ≤ unless c = omega arith in z
unless-fewer false true h = absurd (true≢false (sym (h refl)))
unless-fewer false false h = omega arith

unless-set : (b c : Bool) → b ≡ true → c ≡ false → unless b < unless c
unless-set true false h k = omega arith
unless-set true true h k = absurd (true≢false k)
unless-set false c h k = absurd (true≢false (sym h))

module _ (drivers : ℕ) (some : 1 ≤ drivers) (t : Tree) (once : AreOnce t) (old new : Machine) where
  abbrev q : Holding
  q = old.query

  abbrev q' : Holding
  q' = new.query

  abbrev P : ℕ → Places
  P = places drivers old

  abbrev P' : ℕ → Places
  P' = places drivers new

  abbrev pub IsDown : Type 0
  IsDown = IsLower (rank_of drivers t new) (rank_of drivers t old)

  pending-same : (k : ℕ) → ((d : ℕ) → length (q'.hand k d) ≡ length (q.hand k d)) → ((d : ℕ) → new.ends.input k d ≡ old.ends.input k d) → ((d : ℕ) → new.ends.build k d ≡ old.ends.build k d) → new.through k ≡ old.through k → new.inside k ≡ old.inside k → (P' k).pending ≡ (P k).pending
  pending-same k hands inputs build_ends through inside =
      ap₂ ◌+◌ (total-same drivers _ _ hands) (ap₂ ◌+◌ (total-same drivers (λ d. unless (new.ends.input k d)) (λ d. unless (old.ends.input k d)) (λ d. ap unless (inputs d)))
      (ap₂ ◌+◌ (total-same drivers (λ d. unless (new.ends.build k d)) (λ d. unless (old.ends.build k d)) (λ d. ap unless (build_ends d))) (ap₂ (λ b n. unless b + n) through inside)))

  places-same : (k : ℕ) → q'.held k ≡ q.held k → q'.join k ≡ q.join k → ((d : ℕ) → q'.hand k d ≡ q.hand k d) → new.kept k ≡ old.kept k → new.runs k ≡ old.runs k → ((d : ℕ) → new.ends.input k d ≡ old.ends.input k d)
      → ((d : ℕ) → new.ends.build k d ≡ old.ends.build k d) → new.through k ≡ old.through k → new.weight k ≡ old.weight k → new.inside k ≡ old.inside k → P' k ≡ P k
  places-same k held joins hands kept runs inputs build_ends through weight inside =
      make-same _ _ _ _ _ _ _ _ _ _
      (ap₂ (λ (f : ℕ → Held) (n : ℕ). total drivers (λ d. size (f d)) + n) held weight) (ap (λ (j : HeldJoin). length j.owed) joins) (ap (total drivers) kept) (ap (total drivers) runs)
      (pending-same k (λ d. ap length (hands d)) inputs build_ends through inside)

  -- where the ends stay
  other-same : (c : ℕ) → Here c old new → EndsStay old new → (k : ℕ) → k ≢ c → ((d : ℕ) → q'.hand k d ≡ q.hand k d) → P' k ≡ P k
  other-same c h s k ne hands = places-same k (h.stays.held k ne) (h.stays.join k ne) hands (h.memory.kept k ne) (h.memory.runs k ne) (λ d. ap (λ (x : Ends). x.input k d) s.ends) (λ d. ap (λ (x : Ends). x.build k d) s.ends) (ap (λ f. f k) s.through) (h.memory.weight k ne) (h.memory.inside k ne)

  one-falls : (part : Tree) → Within part t → ((k : ℕ) → k ≢ id_of part → P' k ≡ P k) → IsLower (five (P' (id_of part))) (five (P (id_of part))) → IsDown
  one-falls part within same low = lower-front _ _ _ _ (rank-lower P' P (id_of part) low t (λ k there ne. same k ne) once (within-node part t within))

  -- the batch that a node takes
  taken-falls : (part : Tree) → Within part t → (s : Tree) → Within s t → is_source (id_of s) part ≡ true → id_of s ≢ id_of part → Here (id_of part) old new → EndsStay old new → (d : ℕ) → d < drivers_of drivers s → (row : Row) (rows : List Row)
      → HandEmptied (id_of s) d (row ∷ rows) q q' → IsDown
  taken-falls part within s below is other h ends d w row rows hand =
      let c = id_of s in
      let sum_less : total drivers (λ k. length (q'.hand c k)) < total drivers (λ k. length (q.hand c k)) =
      total-less drivers d (λ k. length (q'.hand c k)) (λ k. length (q.hand c k)) (low-driver drivers some s d w)
      (let a = ap length hand.after in let b = ap length hand.before in let n : length (row ∷ rows) ≡ suc (length rows) = refl in omega arith)
      (λ k ne. let e = ap length (hand.others c k (inr ne)) in omega arith) in
      let rest : total drivers (λ k. unless (new.ends.input c k)) + (total drivers (λ k. unless (new.ends.build c k)) + (unless (new.through c) + new.inside c)) ≡ total drivers (λ k. unless (old.ends.input c k)) + (total drivers (λ k. unless (old.ends.build c k)) + (unless (old.through c) + old.inside c)) =
      ap₂ (λ (x : Ends) (n : ℕ). total drivers (λ k. unless (x.input c k)) + (total drivers (λ k. unless (x.build c k)) + n)) ends.ends (ap₂ (λ (f : ℕ → Bool) n. unless (f c) + n) ends.through (h.memory.inside c other)) in
      let moves : (P' c).moves ≡ (P c).moves = ap₂ (λ (f : ℕ → Held) (n : ℕ). total drivers (λ d. size (f d)) + n) (h.stays.held c other) (h.memory.weight c other) in
      let owed : (P' c).owed ≡ (P c).owed = ap (λ (j : HeldJoin). length j.owed) (h.stays.join c other) in
      let kept : (P' c).kept ≡ (P c).kept = ap (total drivers) (h.memory.kept c other) in
      let runs : (P' c).runs ≡ (P c).runs = ap (total drivers) (h.memory.runs c other) in
      let low : IsLower (five (P' c)) (five (P c)) = last-lower (P' c) (P c) (omega arith) (omega arith) (omega arith) (omega arith) (omega arith) in
      lower-front _ _ _ _ (rank-takes P' P part c is (λ k ns np. other-same (id_of part) h ends k np (λ i. hand.others k i (inl ns))) low t once within)

  given-falls : (part : Tree) → Within part t → Here (id_of part) old new → EndsStay old new → (d : ℕ) → d < drivers_of drivers part → (rows : List Row) → HandFilled (id_of part) d rows q q' → ((k : ℕ) → k ≢ d → q'.held (id_of part) k ≡ q.held (id_of part) k)
      → new.weight (id_of part) ≡ old.weight (id_of part) → size (q'.held (id_of part) d) < size (q.held (id_of part) d) → IsDown
  given-falls part within h ends d w rows hand others joins fewer =
      let c = id_of part in
      let sum_less : total drivers (λ k. size (q'.held c k)) < total drivers (λ k. size (q.held c k)) =
      total-less drivers d (λ k. size (q'.held c k)) (λ k. size (q.held c k)) (low-driver drivers some part d w) fewer (λ k ne. let e = ap size (others k ne) in omega arith) in
      one-falls part within (λ k ne. other-same c h ends k ne (λ i. hand.others k i (inl ne))) (first-lower (P' c) (P c) (omega arith))

  -- a join's rows
  fills-falls : (j : JoinNode) → Within (join_node j) t → AnswerChanges j old new → IsDown
  fills-falls j within c =
      let held : total drivers (λ d. size (q'.held j.id d)) ≡ total drivers (λ d. size (q.held j.id d)) = ap (λ (f : ℕ → Held). total drivers (λ d. size (f d))) c.here.held in
      one-falls (join_node j) within (λ k ne. other-same j.id c.here.here c.ends k ne (λ i. c.hand.others k i (inl ne)))
      (⊎_elim (λ w. first-lower (P' j.id) (P j.id) (omega arith)) (λ w. let a = w.0 in let b = w.1 in second-lower (P' j.id) (P j.id) (omega arith) b) c.fewer)

  -- an end is passed on
  sum-flags : (k place : ℕ) (a b : ℕ → Bool) → place < drivers → a place ≡ true → b place ≡ false → ((d : ℕ) → d ≢ place → a d ≡ b d) → total drivers (λ d. unless (a d)) < total drivers (λ d. unless (b d))
  sum-flags k place a b w after before others =
      total-less drivers place (λ d. unless (a d)) (λ d. unless (b d)) w (unless-set (a place) (b place) after before) (λ d ne. let e = ap unless (others d ne) in omega arith)

  stands-falls : (j : JoinNode) → Within (join_node j) t → JoinStands j old new → ((k : ℕ) → k ≢ j.id → (d : ℕ) → new.ends.input k d ≡ old.ends.input k d) → ((k : ℕ) → k ≢ j.id → (d : ℕ) → new.ends.build k d ≡ old.ends.build k d) → ((k : ℕ) → k ≢ j.id → new.through k ≡ old.through k)
      → (P' j.id).pending < (P j.id).pending → IsDown
  stands-falls j within c inputs build_ends through low =
      let held : total drivers (λ d. size (q'.held j.id d)) ≡ total drivers (λ d. size (q.held j.id d)) = ap (λ (f : ℕ → Held). total drivers (λ d. size (f d))) c.here.held in
      let owed : length (q'.join j.id).owed ≡ length (q.join j.id).owed = ap length c.owed in
      let kept : total drivers (new.kept j.id) ≤ total drivers (old.kept j.id) = total-most drivers (new.kept j.id) (old.kept j.id) c.kept in
      let runs : total drivers (new.runs j.id) ≡ total drivers (old.runs j.id) = ap (total drivers) c.runs in
      let weight = c.weight in
      one-falls (join_node j) within
      (λ k ne. places-same k (c.here.here.stays.held k ne) (c.here.here.stays.join k ne) (c.hands k) (c.here.here.memory.kept k ne) (c.here.here.memory.runs k ne) (inputs k ne) (build_ends k ne) (through k ne) (c.here.here.memory.weight k ne) (c.here.here.memory.inside k ne))
      (last-lower (P' j.id) (P j.id) (omega arith) (omega arith) (omega arith) (omega arith) low)

  pub falls : (move : Move) → Makes drivers t move old new → IsDown
  falls (reads id kinds all parallel d) h = let c = h.changes in given-falls (values id kinds all parallel) h.can.needs.0 c.here c.ends d h.can.needs.1 c.rows c.hand c.others c.parts.weight c.fewer
  falls (gives id own source d) h = let c = h.changes in given-falls (over id own source) h.can.needs.0 c.here c.ends d h.can.needs.1 c.rows c.hand c.others c.parts.weight c.fewer
  falls (answers j) h = fills-falls j h.can.needs.0 h.changes
  falls (leaves j) h = fills-falls j h.can.needs.0 h.changes
  falls (takes id own source d) h =
      let c = h.changes in
      let within = h.can.needs.0 in
      taken-falls (over id own source) within source (source-within id own source t within) (eq-eqb (id_of source) (id_of source) refl) (apart id source (once-within (over id own source) t within once).0) c.here c.ends d h.can.needs.1 c.row c.rows c.hand
  falls (builds j d) h =
      let c = h.changes in
      let within = h.can.needs.0 in
      taken-falls (join_node j) within j.right (within-trans j.right (join_node j) t (inr (inr (within-here j.right))) within) (or-right (nat_eq (id_of j.left) (id_of j.right)) _ (eq-eqb (id_of j.right) (id_of j.right) refl)) (apart j.id j.right (once-within (join_node j) t within once).1)
      c.here.here c.ends d h.can.needs.1 c.row c.rows c.hand
  falls (probes j) h =
      let c = h.changes in
      let within = h.can.needs.0 in
      taken-falls (join_node j) within j.left (within-trans j.left (join_node j) t (inr (inl (within-here j.left))) within) (or-left _ (nat_eq (id_of j.right) (id_of j.left)) (eq-eqb (id_of j.left) (id_of j.left) refl)) (apart j.id j.left (once-within (join_node j) t within once).0)
      c.here.here c.ends 0 (lanes-low drivers some j.left) c.row c.rows c.hand
  falls (merges id own source d) h =
      let c = h.changes in
      let low = low-driver drivers some source d h.can.needs.1 in
      let sizes = total-most drivers (λ k. size (q'.held id k)) (λ k. size (q.held id k)) (λ k. eq_or k d (λ e. subst (λ k. size (q'.held id k) ≤ size (q.held id k)) (sym e) c.size) (λ ne. let e = ap size (c.others k ne) in omega arith)) in
      let joins = c.parts.weight in
      let owed = ap (λ (x : HeldJoin). length x.owed) c.joins in
      let kept = total-most drivers (new.kept id) (old.kept id) (λ k. eq_or k d (λ e. subst (λ k. new.kept id k ≤ old.kept id k) (sym e) c.kept) (λ ne. let e = c.memory.kept k ne in omega arith)) in
      let runs = total-less drivers d (new.runs id) (old.runs id) low c.runs (λ k ne. let e = c.memory.runs k ne in omega arith) in
      one-falls (over id own source) h.can.needs.0 (λ k ne. other-same id c.here c.ends k ne (c.hands k)) (fourth-lower (P' id) (P id) (omega arith) (omega arith) kept runs)
  falls (finishes id own source d) h =
      let c = h.changes in
      let low = low-driver drivers some source d h.can.needs.1 in
      let sizes = total-most drivers (λ k. size (q'.held id k)) (λ k. size (q.held id k)) (λ k. eq_or k d (λ e. subst (λ k. size (q'.held id k) ≤ size (q.held id k)) (sym e) c.size) (λ ne. let e = ap size (c.others k ne) in omega arith)) in
      let joins = c.parts.weight in
      let owed = ap (λ (x : HeldJoin). length x.owed) c.joins in
      let hands = total-same drivers (λ k. length (q'.hand id k)) (λ k. length (q.hand id k)) (λ k. ap length (c.hands id k)) in
      let flags = sum-flags id d (new.ends.input id) (old.ends.input id) low c.input.after h.can.needs.2 (λ k ne. c.input.others id k (inr ne)) in
      let build_ends = ap (λ (f : ℕ → ℕ → Bool). total drivers (λ k. unless (f id k))) c.build in
      let through = ap (λ f. unless (f id)) c.through in
      let inside = c.parts.inside in
      one-falls (over id own source) h.can.needs.0
      (λ k ne. places-same k (c.here.stays.held k ne) (c.here.stays.join k ne) (c.hands k) (c.here.memory.kept k ne) (c.here.memory.runs k ne) (λ i. c.input.others k i (inl ne)) (λ i. ap (λ f. f k i) c.build) (ap (λ f. f k) c.through) (c.here.memory.weight k ne) (c.here.memory.inside k ne))
      (⊎_elim
      (λ w. third-lower (P' id) (P id) (omega arith) (omega arith) (total-less drivers d (new.kept id) (old.kept id) low w (λ k ne. let e = c.memory.kept k ne in omega arith)))
      (λ w.
      let kept = total-most drivers (new.kept id) (old.kept id) (λ k. eq_or k d (λ e. subst (λ k. new.kept id k ≤ old.kept id k) (sym e) w.0) (λ ne. let e = c.memory.kept k ne in omega arith)) in
      let runs = total-most drivers (new.runs id) (old.runs id) (λ k. eq_or k d (λ e. subst (λ k. new.runs id k ≤ old.runs id k) (sym e) w.1) (λ ne. let e = c.memory.runs k ne in omega arith)) in
      last-lower (P' id) (P id) (omega arith) (omega arith) kept runs (omega arith))
      c.runs)
  falls (built j d) h =
      let c = h.changes in
      let low = low-driver drivers some j.right d h.can.needs.1 in
      let hands = total-same drivers (λ k. length (q'.hand j.id k)) (λ k. length (q.hand j.id k)) (λ k. ap length (c.stands.hands j.id k)) in
      let inputs = ap (λ (f : ℕ → ℕ → Bool). total drivers (λ k. unless (f j.id k))) c.input in
      let flags = sum-flags j.id d (new.ends.build j.id) (old.ends.build j.id) low c.build.after h.can.needs.2 (λ k ne. c.build.others j.id k (inr ne)) in
      let through = ap (λ f. unless (f j.id)) c.through in
      let inside = c.stands.inside in
      stands-falls j h.can.needs.0 c.stands (λ k ne d. ap (λ f. f k d) c.input) (λ k ne d. c.build.others k d (inl ne)) (λ k ne. ap (λ f. f k) c.through) (omega arith)
  falls (probed j) h =
      let c = h.changes in
      let hands = total-same drivers (λ k. length (q'.hand j.id k)) (λ k. length (q.hand j.id k)) (λ k. ap length (c.stands.hands j.id k)) in
      let flags = sum-flags j.id 0 (new.ends.input j.id) (old.ends.input j.id) (omega arith) c.input.after h.can.needs.2 (λ k ne. c.input.others j.id k (inr ne)) in
      let build_ends = ap (λ (f : ℕ → ℕ → Bool). total drivers (λ k. unless (f j.id k))) c.build in
      let through = ap (λ f. unless (f j.id)) c.through in
      let inside = c.stands.inside in
      stands-falls j h.can.needs.0 c.stands (λ k ne d. c.input.others k d (inl ne)) (λ k ne d. ap (λ f. f k d) c.build) (λ k ne. ap (λ f. f k) c.through) (omega arith)
  falls (empties j) h =
      let c = h.changes in
      let hands = total-same drivers (λ k. length (q'.hand j.id k)) (λ k. length (q.hand j.id k)) (λ k. ap length (c.stands.hands j.id k)) in
      let inputs = ap (λ (x : Ends). total drivers (λ k. unless (x.input j.id k))) c.ends in
      let build_ends = ap (λ (x : Ends). total drivers (λ k. unless (x.build j.id k))) c.ends in
      let through = unless-set (new.through j.id) (old.through j.id) c.through h.can.needs.5 in
      let inside = c.stands.inside in
      stands-falls j h.can.needs.0 c.stands (λ k ne d. ap (λ (x : Ends). x.input k d) c.ends) (λ k ne d. ap (λ (x : Ends). x.build k d) c.ends) (λ k ne. c.others k ne) (omega arith)
  falls (turns j) h =
      let c = h.changes in
      let held : total drivers (λ d. size (q'.held j.id d)) ≡ total drivers (λ d. size (q.held j.id d)) = ap (λ (f : ℕ → Held). total drivers (λ d. size (f d))) c.here.held in
      let hands = total-same drivers (λ k. length (q'.hand j.id k)) (λ k. length (q.hand j.id k)) (λ k. ap length (c.hands j.id k)) in
      let inputs = ap (λ (x : Ends). total drivers (λ k. unless (x.input j.id k))) c.ends.ends in
      let build_ends = ap (λ (x : Ends). total drivers (λ k. unless (x.build j.id k))) c.ends.ends in
      let through = ap (λ f. unless (f j.id)) c.ends.through in
      one-falls (join_node j) h.can.needs.0 (λ k ne. other-same j.id c.here.here c.ends k ne (c.hands k))
      (⊎_elim (λ w. first-lower (P' j.id) (P j.id) (omega arith))
      (λ w.
      let a = w.0 in
      let b = w.4 in
      let runs : total drivers (new.runs j.id) ≡ total drivers (old.runs j.id) = ap (total drivers) w.3 in
      last-lower (P' j.id) (P j.id) (omega arith) w.1 (total-most drivers (new.kept j.id) (old.kept j.id) w.2) (omega arith) (omega arith))
      c.fewer)
  falls comes_out h =
      let c = h.changes in
      let k = id_of t in
      let sum_less : total drivers (λ d. length (q'.hand k d)) < total drivers (λ d. length (q.hand k d)) =
      total-less drivers 0 (λ d. length (q'.hand k d)) (λ d. length (q.hand k d)) (omega arith)
      (let a = ap length c.out.hands.after in let b = ap length c.out.hands.before in let n : length (c.row ∷ c.rows) ≡ suc (length c.rows) = refl in omega arith)
      (λ d ne. let e = ap length (c.out.hands.others k d (inr ne)) in omega arith) in
      let rest : total drivers (λ d. unless (new.ends.input k d)) + (total drivers (λ d. unless (new.ends.build k d)) + (unless (new.through k) + new.inside k)) ≡ total drivers (λ d. unless (old.ends.input k d)) + (total drivers (λ d. unless (old.ends.build k d)) + (unless (old.through k) + old.inside k)) =
      ap₂ (λ (x : Ends) (n : ℕ). total drivers (λ d. unless (x.input k d)) + (total drivers (λ d. unless (x.build k d)) + n)) c.ends.ends (ap₂ (λ (f : ℕ → Bool) (g : ℕ → ℕ). unless (f k) + g k) c.ends.through c.inside) in
      let moves : (P' k).moves ≡ (P k).moves = ap₂ (λ (f : ℕ → ℕ → Held) (n : ℕ → ℕ). total drivers (λ d. size (f k d)) + n k) c.out.held c.weight in
      let owed : (P' k).owed ≡ (P k).owed = ap (λ (j : ℕ → HeldJoin). length (j k).owed) c.out.join in
      let kept : (P' k).kept ≡ (P k).kept = ap (λ f. total drivers (f k)) c.kept in
      let runs : (P' k).runs ≡ (P k).runs = ap (λ f. total drivers (f k)) c.runs in
      one-falls t (within-here t)
      (λ k ne. places-same k (ap (λ f. f k) c.out.held) (ap (λ f. f k) c.out.join) (λ d. c.out.hands.others k d (inl ne)) (ap (λ f. f k) c.kept) (ap (λ f. f k) c.runs) (λ d. ap (λ (x : Ends). x.input k d) c.ends.ends) (λ d. ap (λ (x : Ends). x.build k d) c.ends.ends) (ap (λ f. f k) c.ends.through) (ap (λ f. f k) c.weight) (ap (λ f. f k) c.inside))
      (last-lower (P' k) (P k) (omega arith) (omega arith) (omega arith) (omega arith) (omega arith))
  falls stops h =
      let c = h.changes in
      lower-same (rank P' t) (rank P t) _ _
      (rank-same P' P t (λ k there. places-same k (ap (λ (x : Holding). x.held k) c.query) (ap (λ (x : Holding). x.join k) c.query) (λ d. ap (λ (x : Holding). x.hand k d) c.query) (ap (λ f. f k) c.kept) (ap (λ f. f k) c.runs) (λ d. ap (λ (x : Ends). x.input k d) c.ends) (λ d. ap (λ (x : Ends). x.build k d) c.ends) (ap (λ f. f k) c.through) (ap (λ f. f k) c.weight) (ap (λ f. f k) c.inside)))
      (inl (unless-set new.done old.done c.done h.can.going))

  -- ---- reclaims that free

  pub reclaims-fall : (id : ℕ) (own : Own) (source : Tree) (d : ℕ) → Reclaims drivers t id own source d old new → IsDown
  reclaims-fall id own source d c =
      let low = low-driver drivers some (over id own source) d c.low in
      let sizes = total-most drivers (λ k. size (q'.held id k)) (λ k. size (q.held id k)) (λ k. eq_or k d (λ e. subst (λ k. size (q'.held id k) ≤ size (q.held id k)) (sym e) c.size) (λ ne. let e = ap size (c.others k ne) in omega arith)) in
      let joins = c.parts.weight in
      let owed = ap (λ (x : HeldJoin). length x.owed) c.joins in
      one-falls (over id own source) c.within (λ k ne. other-same id c.here c.ends k ne (c.hands k))
      (third-lower (P' id) (P id) (omega arith) (omega arith) (total-less drivers d (new.kept id) (old.kept id) low c.kept (λ k ne. let e = c.memory.kept k ne in omega arith)))

  pub reclaims-join-fall : (j : JoinNode) → ReclaimsJoin drivers t j old new → IsDown
  reclaims-join-fall j c =
      let held : total drivers (λ d. size (q'.held j.id d)) ≡ total drivers (λ d. size (q.held j.id d)) = ap (λ (f : ℕ → Held). total drivers (λ d. size (f d))) c.here.held in
      let weight = c.weight in
      let owed = ap length c.owed in
      one-falls (join_node j) c.within (λ k ne. other-same j.id c.here.here c.ends k ne (c.hands k))
      (third-lower (P' j.id) (P j.id) (omega arith) (omega arith) (total-less drivers 0 (new.kept j.id) (old.kept j.id) (omega arith) c.kept (λ k ne. let e = c.memory.kept k ne in omega arith)))
