-- Moves keep what is drained drained, so that ends stay right.
use Rattle.std.proofs.Common.{◌≡◌, ◌≢◌, ◌⊎◌, ℕ, ◌<◌, true, List, [], ◌∷◌, sym, ap, ◌∙◌, subst, inl, inr, ⊎_elim}
use Rattle.vx_value.specs.Row.{Row}
use Rattle.vx_plan.specs.Tree.{Tree, values, over, join, Own, filter, project, aggregation, order, topn, limit, exchange, id_of}
use Rattle.vx_rest.specs.Lists.{drivers_of}
use Rattle.vx_rest.specs.Held.{Holding}
use Rattle.vx_rest.specs.Fits.{Within, AreOnce}
use Rattle.vx_rest.specs.HandMoves.{HandEmptied, HandFilled, HandsStay, StaysBut, ComesOut}
use Rattle.vx_rest.specs.Ends.{Ends, IsDrained, AreEndsRight}
use Rattle.vx_rest.proofs.OnlyAtLaws.{within-unique}
use Rattle.vx_rest.proofs.EndMoves.{FlagsStay, StaysDrained, drained-same, drained-but, within-here}

pub ends-within : (drivers : ℕ) (e : Ends) (q : Holding) (part t : Tree) → Within part t → AreEndsRight drivers e q t → AreEndsRight drivers e q part
ends-within drivers e q part (values id kinds all parallel) w h = subst (AreEndsRight drivers e q) (sym w) h
ends-within drivers e q part (over id own source) (inl w) h = subst (AreEndsRight drivers e q) (sym w) h
ends-within drivers e q part (over id own source) (inr w) h = ends-within drivers e q part source w h.0
ends-within drivers e q part (join id kind left_keys right_keys left right) (inl w) h = subst (AreEndsRight drivers e q) (sym w) h
ends-within drivers e q part (join id kind left_keys right_keys left right) (inr (inl w)) h = ends-within drivers e q part left w h.0
ends-within drivers e q part (join id kind left_keys right_keys left right) (inr (inr w)) h = ends-within drivers e q part right w h.1

pub drained-hand : (drivers : ℕ) (e : Ends) (q : Holding) (t : Tree) (d : ℕ) → IsDrained drivers e q t d → q.hand (id_of t) d ≡ []
drained-hand drivers e q (values id kinds all parallel) d h = h.0
drained-hand drivers e q (over id (filter x) source) d h = h.0
drained-hand drivers e q (over id (project x) source) d h = h.0
drained-hand drivers e q (over id (aggregation step keys aggregates) source) d h = h.0
drained-hand drivers e q (over id (order keys) source) d h = h.0
drained-hand drivers e q (over id (topn count keys) source) d h = h.0
drained-hand drivers e q (over id (limit offset count) source) d h = h.0
drained-hand drivers e q (over id (exchange kind keys) source) d h = h.0
drained-hand drivers e q (join id kind left_keys right_keys left right) d h = h.0

-- a driver whose input goes on isn't drained, and of an exchange no queue is
pub goes-on : (drivers : ℕ) (e : Ends) (q : Holding) (id : ℕ) (own : Own) (source : Tree) (place : ℕ) → place < drivers_of drivers source → (e.input id place ≡ true → ⊥) → (d : ℕ) → IsDrained drivers e q (over id own source) d → d ≢ place
goes-on drivers e q id (filter x) source place w going d h = λ z. going (subst (λ k. e.input id k ≡ true) z h.2)
goes-on drivers e q id (project x) source place w going d h = λ z. going (subst (λ k. e.input id k ≡ true) z h.2)
goes-on drivers e q id (aggregation step ks aggregates) source place w going d h = λ z. going (subst (λ k. e.input id k ≡ true) z h.2)
goes-on drivers e q id (order ks) source place w going d h = λ z. going (subst (λ k. e.input id k ≡ true) z h.2)
goes-on drivers e q id (topn count ks) source place w going d h = λ z. going (subst (λ k. e.input id k ≡ true) z h.2)
goes-on drivers e q id (limit offset count) source place w going d h = λ z. going (subst (λ k. e.input id k ≡ true) z h.2)
goes-on drivers e q id (exchange kind ks) source place w going d h = absurd (going (h.2 place w))

source-is : (id id' : ℕ) (own own' : Own) (source source' : Tree) → over id own source ≡ over id' own' source' → source ≡ source'
source-is id id' own own' source source' h = cc

pub not-empty : {X : Type 0} (x : X) (xs : List X) → x ∷ xs ≡ [] → ⊥
not-empty x xs h = absurd (cc)

pub source-within : (id : ℕ) (own : Own) (source t : Tree) → Within (over id own source) t → Within source t
source-within id own source (values id' kinds all parallel) w = absurd (cc)
source-within id own source (over id' own' source') (inl w) = inr (subst (Within source) (source-is id id' own own' source source' w) (within-here source))
source-within id own source (over id' own' source') (inr w) = inr (source-within id own source source' w)
source-within id own source (join id' kind left_keys right_keys left right) (inl w) = absurd (cc)
source-within id own source (join id' kind left_keys right_keys left right) (inr (inl w)) = inr (inl (source-within id own source left w))
source-within id own source (join id' kind left_keys right_keys left right) (inr (inr w)) = inr (inr (source-within id own source right w))

module _ (drivers : ℕ) (e : Ends) (t : Tree) (once : AreOnce t) (old new : Holding) (id : ℕ) (own : Own) (source : Tree) (within : Within (over id own source) t) (s : StaysBut id old new) (joins : new.join id ≡ old.join id) (right : AreEndsRight drivers e old t) where
  kept : FlagsStay e e
  kept = record { input = λ id d h. h; build = λ id d h. h }

  here : AreEndsRight drivers e old (over id own source)
  here = ends-within drivers e old (over id own source) t within right

  -- a batch is taken in by one driver: it was there, so that driver's input hadn't ended
  pub takes-drained : (place : ℕ) (row : Row) (rows : List Row) → place < drivers_of drivers source → id_of source ≢ id → HandEmptied (id_of source) place (row ∷ rows) old new → ((d : ℕ) → d ≢ place → new.held id d ≡ old.held id d)
      → (part : Tree) → Within part t → StaysDrained drivers e e old new part
  takes-drained place row rows low other hand held =
      drained-but drivers e e old new kept t id (id_of source)
      (λ k a b. ((λ i d. hand.others k d (inl b) i), s.held k a, s.join k a))
      (λ p w. ⊎_elim (λ c. subst (StaysDrained drivers e e old new) (within-unique (over id own source) p t once within w (sym c)) taker) (λ c. subst (StaysDrained drivers e e old new) (within-unique source p t once (source-within id own source t within) w (sym c)) giver)) where
        going : e.input id place ≡ true → ⊥
        going ended = not-empty row rows (sym hand.before ∙ drained-hand drivers e old source place (here.1 place low ended))

        taker : StaysDrained drivers e e old new (over id own source)
        taker d h =
            let away = goes-on drivers e old id own source place low going d h in
            drained-same drivers e e old new kept (over id own source) d (hand.others id d (inr away)) (held d away) joins h

        giver : StaysDrained drivers e e old new source
        giver d h =
            let away : d ≢ place = λ z. not-empty row rows (sym hand.before ∙ subst (λ k. old.hand (id_of source) k ≡ []) z (drained-hand drivers e old source d h)) in
            drained-same drivers e e old new kept source d (hand.others (id_of source) d (inr away)) (ap (λ f. f d) (s.held (id_of source) other)) (s.join (id_of source) other) h

  -- a batch is put out by one driver, which wasn't drained
  pub puts-drained : (place : ℕ) (rows : List Row) → HandFilled id place rows old new → ((d : ℕ) → d ≢ place → new.held id d ≡ old.held id d) → (IsDrained drivers e old (over id own source) place → ⊥)
      → (part : Tree) → Within part t → StaysDrained drivers e e old new part
  puts-drained place rows hand held some =
      drained-but drivers e e old new kept t id id
      (λ k a b. ((λ i d. hand.others k d (inl a) i), s.held k a, s.join k a))
      (λ p w c. subst (StaysDrained drivers e e old new) (within-unique (over id own source) p t once within w (sym (⊎_elim (λ x. x) (λ x. x) c))) giver) where
        giver : StaysDrained drivers e e old new (over id own source)
        giver d h =
            let away : d ≢ place = λ z. some (subst (IsDrained drivers e old (over id own source)) z h) in
            drained-same drivers e e old new kept (over id own source) d (hand.others id d (inr away)) (held d away) joins h

-- ---- any node

-- rows are put into the hand behind a node, where a drained driver isn't touched
pub filled-drained : (drivers : ℕ) (e : Ends) (t : Tree) → AreOnce t → (old new : Holding) (part : Tree) → Within part t → StaysBut (id_of part) old new → (place : ℕ) (rows : List Row) → HandFilled (id_of part) place rows old new
    → ((d : ℕ) → IsDrained drivers e old part d → d ≢ place × (new.held (id_of part) d ≡ old.held (id_of part) d) × (new.join (id_of part) ≡ old.join (id_of part))) → (s : Tree) → Within s t → StaysDrained drivers e e old new s
filled-drained drivers e t once old new part within s place rows hand live =
    drained-but drivers e e old new (record { input = λ id d h. h; build = λ id d h. h }) t (id_of part) (id_of part)
    (λ k a b. ((λ i d. hand.others k d (inl a) i), s.held k a, s.join k a))
    (λ p w c. subst (StaysDrained drivers e e old new) (within-unique part p t once within w (sym (⊎_elim (λ x. x) (λ x. x) c)))
    (λ d h. let l = live d h in drained-same drivers e e old new (record { input = λ id d h. h; build = λ id d h. h }) part d (hand.others (id_of part) d (inr l.0)) l.1 l.2 h))

-- rows are taken out of the hand behind a source of a node, of which no driver is drained that would be touched
pub emptied-drained : (drivers : ℕ) (e : Ends) (t : Tree) → AreOnce t → (old new : Holding) (part source : Tree) → Within part t → Within source t → id_of source ≢ id_of part → StaysBut (id_of part) old new → (place : ℕ) (row : Row) (rows : List Row)
    → HandEmptied (id_of source) place (row ∷ rows) old new → ((d : ℕ) → IsDrained drivers e old part d → (new.held (id_of part) d ≡ old.held (id_of part) d) × (new.join (id_of part) ≡ old.join (id_of part))) → (s : Tree) → Within s t → StaysDrained drivers e e old new s
emptied-drained drivers e t once old new part source within below other s place row rows hand live =
    drained-but drivers e e old new (record { input = λ id d h. h; build = λ id d h. h }) t (id_of part) (id_of source)
    (λ k a b. ((λ i d. hand.others k d (inl b) i), s.held k a, s.join k a))
    (λ p w. ⊎_elim
    (λ c. subst (StaysDrained drivers e e old new) (within-unique part p t once within w (sym c))
    (λ d h. let l = live d h in drained-same drivers e e old new (record { input = λ id d h. h; build = λ id d h. h }) part d (hand.others (id_of part) d (inl (λ z. other (sym z)))) l.0 l.1 h))
    (λ c. subst (StaysDrained drivers e e old new) (within-unique source p t once below w (sym c))
    (λ d h. drained-same drivers e e old new (record { input = λ id d h. h; build = λ id d h. h }) source d
    (hand.others (id_of source) d (inr (λ z. not-empty row rows (sym hand.before ∙ subst (λ k. old.hand (id_of source) k ≡ []) z (drained-hand drivers e old source d h)))))
    (ap (λ f. f d) (s.held (id_of source) other)) (s.join (id_of source) other) h)))

-- a join of which an input goes on is drained for no driver
pub join-goes-on : (drivers : ℕ) (e : Ends) (q : Holding) (id : ℕ) (kind : Rattle.vx_plan.specs.declared.node.JoinKind.JoinKind) (left_keys right_keys : List ℕ) (left right : Tree) → AreEndsRight drivers e q (join id kind left_keys right_keys left right)
    → (row : Row) (rows : List Row) → (q.hand (id_of left) 0 ≡ row ∷ rows) ⊎ ((place : ℕ) × (place < drivers_of drivers right) × (q.hand (id_of right) place ≡ row ∷ rows)) → (d : ℕ) → IsDrained drivers e q (join id kind left_keys right_keys left right) d → ⊥
join-goes-on drivers e q id kind left_keys right_keys left right ends row rows (inl there) d h = not-empty row rows (sym there ∙ drained-hand drivers e q left 0 (ends.2 h.2))
join-goes-on drivers e q id kind left_keys right_keys left right ends row rows (inr there) d h = not-empty row rows (sym there.2 ∙ drained-hand drivers e q right there.0 (ends.3 there.0 there.1 (h.3 there.0 there.1)))

-- the last hand comes out
pub out-drained : (drivers : ℕ) (e : Ends) (t : Tree) → AreOnce t → (old new : Holding) (row : Row) (rows : List Row) → ComesOut (id_of t) (row ∷ rows) old new → (s : Tree) → Within s t → StaysDrained drivers e e old new s
out-drained drivers e t once old new row rows out =
    drained-but drivers e e old new (record { input = λ id d h. h; build = λ id d h. h }) t (id_of t) (id_of t)
    (λ k a b. ((λ i d. out.hands.others k d (inl a) i), ap (λ f. f k) out.held, ap (λ f. f k) out.join))
    (λ p w c. subst (StaysDrained drivers e e old new) (within-unique t p t once (within-here t) w (sym (⊎_elim (λ x. x) (λ x. x) c)))
    (λ d h. drained-same drivers e e old new (record { input = λ id d h. h; build = λ id d h. h }) t d
    (out.hands.others (id_of t) d (inr (λ z. not-empty row rows (sym out.hands.before ∙ subst (λ k. old.hand (id_of t) k ≡ []) z (drained-hand drivers e old t d h)))))
    (ap (λ f. f (id_of t) d) out.held) (ap (λ f. f (id_of t)) out.join) h))

-- a call that neither takes nor puts, of a node that stays drained where it was
pub still-drained : (drivers : ℕ) (e e' : Ends) → FlagsStay e e' → (t : Tree) → AreOnce t → (old new : Holding) (part : Tree) → Within part t → StaysBut (id_of part) old new → HandsStay old new → StaysDrained drivers e e' old new part
    → (s : Tree) → Within s t → StaysDrained drivers e e' old new s
still-drained drivers e e' flags t once old new part within s hands same =
    drained-but drivers e e' old new flags t (id_of part) (id_of part)
    (λ k a b. ((λ i d. hands k d i), s.held k a, s.join k a))
    (λ p w c. subst (StaysDrained drivers e e' old new) (within-unique part p t once within w (sym (⊎_elim (λ x. x) (λ x. x) c))) same)
