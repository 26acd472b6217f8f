-- Links of live blocks, where one block more or fewer is live.
use Rattle.std.proofs.Common.{inl, inr, ◌≡◌, ◌≢◌, ℕ, Option, Some, None, List, [], sym, ap, ◌∙◌, subst, unwrap_or}
use Rattle.std.proofs.lemmas.Bool.{cases_eq}
use Rattle.vx_arena.specs.Chunks.{Chunks}
use Rattle.vx_arena.specs.Names.{none, named, live_at}
use Rattle.vx_arena.specs.Free.{next_in, IsLive}
use Rattle.vx_arena.specs.Text.{payload_at, StandsLive, next_at, IsUnnamed, IsChained, CanFollow}
use Rattle.vx_arena.proofs.Effects.{live_again}

pub payload_from : (c : Chunks) (n : ℕ) (p : List ℕ) → live_at c n ≡ Some p → payload_at c n ≡ p
unfolding payload_at
payload_from c n p is = ap (λ (o : Option (List ℕ)). unwrap_or o []) is

pub stands_from : (c : Chunks) (n : ℕ) (p : List ℕ) → live_at c n ≡ Some p → StandsLive c n
stands_from c n p is = is ∙ ap (λ (x : List ℕ). Some x) (sym (payload_from c n p is))

pub same_payload : (c d : Chunks) (n : ℕ) → live_at d n ≡ live_at c n → payload_at d n ≡ payload_at c n
unfolding payload_at
same_payload c d n same = ap (λ (o : Option (List ℕ)). unwrap_or o []) same

pub same_next : (c d : Chunks) (n : ℕ) → live_at d n ≡ live_at c n → next_at d n ≡ next_at c n
same_next c d n same = ap next_in (same_payload c d n same)

pub stands_kept : (c d : Chunks) (n : ℕ) → live_at d n ≡ live_at c n → StandsLive c n → StandsLive d n
stands_kept c d n same live = stands_from d n (payload_at c n) (same ∙ live)

pub live_stands : (c : Chunks) (n : ℕ) → StandsLive c n → IsLive c n
live_stands c n live = live_again c n (payload_at c n) live

pub named_payload : (c : Chunks) (n : ℕ) → StandsLive c n → (named c n).payload ≡ payload_at c n
named_payload c n live = sym (payload_from c n (named c n).payload (live_stands c n live))

none_some : {A : Type 0} {a : A} {X : Type 0} → None ≡ Some a → X
none_some e = absurd (cc)

pub not_gone : (c : Chunks) (n : ℕ) → StandsLive c n → live_at c n ≡ None → ⊥
not_gone c n live gone = none_some (sym gone ∙ live)

pub apart_from : (c : Chunks) (n m : ℕ) → StandsLive c n → live_at c m ≡ None → n ≡ m → ⊥
apart_from c n m live gone e = not_gone c n live (ap (live_at c) e ∙ gone)

-- one block more is live, and names one that may follow
module _ (a d : Chunks) (name next : ℕ) (fresh : live_at a name ≡ None) (live : StandsLive d name) (link : next_at d name ≡ next) (others : (n : ℕ) → (n ≡ name → ⊥) → live_at d n ≡ live_at a n) (follow : CanFollow a next) (chained : IsChained a) where
  was : (n : ℕ) → (n ≡ name → ⊥) → StandsLive d n → StandsLive a n
  was n ne stands = stands_kept d a n (sym (others n ne)) stands

  now : (n : ℕ) → StandsLive a n → StandsLive d n
  now n stands = stands_kept a d n (others n (apart_from a n name stands fresh)) stands

  same_link : (n : ℕ) → (n ≡ name → ⊥) → next_at d n ≡ next_at a n
  same_link n ne = same_next a d n (others n ne)

  closed_more : (n : ℕ) → StandsLive d n → next_at d n ≢ none → StandsLive d (next_at d n)
  closed_more n stands some = elim (cases_eq n name) as (λ _. StandsLive d (next_at d n)) [
    | inl e ↦
        let to : next_at d n ≡ next = ap (next_at d) e ∙ link in
        subst (λ (k : ℕ). StandsLive d k) (sym to) (now next (follow.live (λ z. some (to ∙ z))))
    | inr ne ↦
        let to : next_at d n ≡ next_at a n = same_link n ne in
        subst (λ (k : ℕ). StandsLive d k) (sym to) (now (next_at a n) (chained.closed n (was n ne stands) (λ z. some (to ∙ z))))
  ]

  -- no other block names it too
  lone : (n : ℕ) → (n ≡ name → ⊥) → StandsLive d n → next_at d n ≡ next → next ≡ none
  lone n ne stands same = follow.first n (was n ne stands) (sym (same_link n ne) ∙ same)

  alone_more : (m n : ℕ) → StandsLive d m → StandsLive d n → next_at d m ≡ next_at d n → next_at d m ≢ none → m ≡ n
  alone_more m n one two same some = elim (cases_eq m name) as (λ _. m ≡ n) [
    | inl e ↦
        let to : next_at d m ≡ next = ap (next_at d) e ∙ link in
        elim (cases_eq n name) as (λ _. m ≡ n) [
          | inl f ↦ e ∙ sym f
          | inr ne ↦ absurd (some (to ∙ lone n ne two (sym same ∙ to)))
        ]
    | inr apart ↦ elim (cases_eq n name) as (λ _. m ≡ n) [
      | inl f ↦
          let to : next_at d m ≡ next = same ∙ (ap (next_at d) f ∙ link) in
          absurd (some (to ∙ lone m apart one to))
      | inr ne ↦ chained.alone m n (was m apart one) (was n ne two) (sym (same_link m apart) ∙ (same ∙ same_link n ne)) (λ z. some (same_link m apart ∙ z))
    ]
  ]

  pub chained_more : IsChained d
  chained_more = record { closed = closed_more; alone = alone_more }

  pub unnamed_more : IsUnnamed d name
  unnamed_more n stands to = elim (cases_eq name none) as (λ _. name ≡ none) [
    | inl e ↦ e
    | inr some ↦ elim (cases_eq n name) as (λ _. name ≡ none) [
      | inl e ↦
          let self : next ≡ name = sym link ∙ (ap (next_at d) (sym e) ∙ to) in
          absurd (apart_from a next name (follow.live (λ z. some (sym self ∙ z))) fresh self)
      | inr ne ↦
          let there : next_at a n ≡ name = sym (same_link n ne) ∙ to in
          absurd (apart_from a (next_at a n) name (chained.closed n (was n ne stands) (λ z. some (sym there ∙ z))) fresh there)
    ]
  ]

-- one block fewer is live, which none named
module _ (a d : Chunks) (name next : ℕ) (live : StandsLive a name) (gone : live_at d name ≡ None) (link : next ≡ next_at a name) (others : (n : ℕ) → (n ≡ name → ⊥) → live_at d n ≡ live_at a n) (first : IsUnnamed a name) (some : name ≢ none) (chained : IsChained a) where
  away : (n : ℕ) → StandsLive d n → n ≡ name → ⊥
  away n stands e = apart_from d n name stands gone e

  had : (n : ℕ) → StandsLive d n → StandsLive a n
  had n stands = stands_kept d a n (sym (others n (away n stands))) stands

  link_was : (n : ℕ) → StandsLive d n → next_at d n ≡ next_at a n
  link_was n stands = same_next a d n (others n (away n stands))

  closed_less : (n : ℕ) → StandsLive d n → next_at d n ≢ none → StandsLive d (next_at d n)
  closed_less n stands more =
      let to : next_at d n ≡ next_at a n = link_was n stands in
      let ne : next_at a n ≡ name → ⊥ = λ e. some (first n (had n stands) e) in
      subst (λ (k : ℕ). StandsLive d k) (sym to) (stands_kept a d (next_at a n) (others (next_at a n) ne) (chained.closed n (had n stands) (λ z. more (to ∙ z))))

  pub chained_less : IsChained d
  chained_less = record {
    closed = closed_less;
    alone = λ m n one two same more. chained.alone m n (had m one) (had n two) (sym (link_was m one) ∙ (same ∙ link_was n two)) (λ z. more (link_was m one ∙ z));
  }

  pub unnamed_less : IsUnnamed d next
  unnamed_less n stands to = elim (cases_eq next none) as (λ _. next ≡ none) [
    | inl e ↦ e
    | inr more ↦
        let same : next_at a n ≡ next_at a name = sym (link_was n stands) ∙ (to ∙ link) in
        absurd (away n stands (chained.alone n name (had n stands) live same (λ z. more (link ∙ (sym same ∙ z)))))
  ]
