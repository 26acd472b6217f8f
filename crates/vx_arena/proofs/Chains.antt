-- Chains of live blocks: what is kept of them, and how they are given back.
use Rattle.std.proofs.Common.{inl, inr, ◌≡◌, ◌≢◌, ℕ, ◌^◌, ◌<◌, None, List, [], ◌∷◌, ◌++◌, length, take, drop, refl, sym, ap, ◌∙◌, subst, arith}
use Rattle.std.proofs.lemmas.List.Concat.{flat_map-cons}
use Rattle.vx_arena.specs.Chunks.{Chunks}
use Rattle.vx_arena.specs.Names.{none, live_at}
use Rattle.vx_arena.specs.Free.{IsIn}
use Rattle.vx_arena.specs.Text.{ArenaModel, more, StandsLive, next_at, part_at, IsChain, bytes_in, GivesPart, GivesText, GivesAll, HasChain}
use Rattle.vx_arena.proofs.Paying.{pays_kept, pays_then}
use Rattle.vx_arena.proofs.Chaining.{same_payload, same_next, stands_kept}

pub chain_from : (c : Chunks) (first second : ℕ) (names : List ℕ) → first ≡ second → IsChain c first names → IsChain c second names
chain_from c first second names e chain = subst (λ (k : ℕ). IsChain c k names) e chain

-- no block of it has the name of none
pub chain_none : (c : Chunks) (first : ℕ) (names : List ℕ) → first ≡ none → IsChain c first names → names ≡ []
chain_none c first [] e chain = refl
chain_none c first (n ∷ rest) e chain = absurd (chain.0.some (sym chain.0.is ∙ e))

-- each block of it is live
pub chain_live : (c : Chunks) (first : ℕ) (names : List ℕ) → IsChain c first names → (n : ℕ) → IsIn names n → StandsLive c n
chain_live c first [] chain n there = absurd there
chain_live c first (m ∷ rest) chain n there = elim there as (λ _. StandsLive c n) [
  | inl e ↦ subst (λ (k : ℕ). StandsLive c k) (sym e) chain.0.live
  | inr later ↦ chain_live c (next_at c m) rest chain.1 n later
]

-- a chain whose blocks are as they were is the same chain, with the same bytes
pub record SameChain (c d : Chunks) (first : ℕ) (names : List ℕ) : Type 0 where
  pub chain : IsChain d first names
  pub bytes : bytes_in d names ≡ bytes_in c names

pub chain_kept : (c d : Chunks) (first : ℕ) (names : List ℕ) → IsChain c first names → ((n : ℕ) → IsIn names n → live_at d n ≡ live_at c n) → SameChain c d first names
chain_kept c d first [] chain same = record { chain = chain; bytes = refl }
chain_kept c d first (n ∷ rest) chain same =
    let here : live_at d n ≡ live_at c n = same n (inl refl) in
    let link : next_at d n ≡ next_at c n = same_next c d n here in
    let later : SameChain c d (next_at c n) rest = chain_kept c d (next_at c n) rest chain.1 (λ k there. same k (inr there)) in
    let part : part_at d n ≡ part_at c n = ap (λ (p : List ℕ). take 2040 (drop 8 p)) (same_payload c d n here) in
    record {
      chain = (record { is = chain.0.is; some = chain.0.some; live = stands_kept c d n here chain.0.live; once = chain.0.once }, chain_from d (next_at c n) (next_at d n) rest (sym link) later.chain);
      bytes = flat_map-cons (part_at d) n rest ∙ (ap (λ (x : List ℕ). x ++ bytes_in d rest) part ∙ (ap (λ (x : List ℕ). part_at c n ++ x) later.bytes ∙ sym (flat_map-cons (part_at c) n rest)));
    }

-- a chain is one alone
pub one_chain : (c : Chunks) (first : ℕ) (names others : List ℕ) → IsChain c first names → IsChain c first others → names ≡ others
one_chain c first [] others chain other = sym (chain_none c first others chain other)
one_chain c first (n ∷ rest) [] chain other = chain_none c first (n ∷ rest) other chain
one_chain c first (n ∷ rest) (m ∷ more) chain other =
    let same : n ≡ m = sym chain.0.is ∙ other.0.is in
    let later : rest ≡ more = one_chain c (next_at c n) rest more chain.1 (chain_from c (next_at c m) (next_at c n) more (ap (next_at c) (sym same)) other.1) in
    λ i. same i ∷ later i

-- giving none
pub gives_none : (a : ArenaModel) (name : ℕ) → a.given < 2 ^ 64 → name ≡ none → GivesAll a a name
gives_none a name fits e names chain = subst (λ (l : List ℕ). GivesText a a l) (sym (chain_none a.chunks name names e chain)) (record {
  gone = λ n there. absurd there;
  others = λ n away. refl;
  taken = refl;
  given = omega (arith, fits);
  pays = pays_kept a.chunks a.chunks refl (λ n l s. s);
})

rest_kept : (a m : ArenaModel) (name next : ℕ) (rest : List ℕ) → GivesPart a m name next → (IsIn rest name → ⊥) → IsChain a.chunks (next_at a.chunks name) rest → IsChain m.chunks next rest
rest_kept a m name next rest g once chain =
    chain_from m.chunks (next_at a.chunks name) next rest (sym g.link) (chain_kept a.chunks m.chunks (next_at a.chunks name) rest chain (λ k there. g.others k (λ e. once (subst (λ (x : ℕ). IsIn rest x) e there)))).chain

-- what is left of a chain after its first block was given
pub gives_rest : (a m : ArenaModel) (name next : ℕ) → name ≢ none → HasChain a.chunks name → GivesPart a m name next → HasChain m.chunks next
gives_rest a m name next some h g = by_names h.names h.chain where
  by_names : (names : List ℕ) → IsChain a.chunks name names → HasChain m.chunks next
  by_names [] chain = absurd (some chain)
  by_names (n ∷ rest) chain =
      let here : n ≡ name = sym chain.0.is in
      let once : IsIn rest name → ⊥ = λ there. chain.0.once (subst (λ (x : ℕ). IsIn rest x) (sym here) there) in
      record {
        names = rest;
        chain = rest_kept a m name next rest g once (chain_from a.chunks (next_at a.chunks n) (next_at a.chunks name) rest (ap (next_at a.chunks) here) chain.1);
        unnamed = g.first;
      }

first_live : (c : Chunks) (name : ℕ) (names : List ℕ) → name ≢ none → IsChain c name names → StandsLive c name
first_live c name [] some chain = absurd (some chain)
first_live c name (n ∷ rest) some chain = subst (λ (k : ℕ). StandsLive c k) (sym chain.0.is) chain.0.live

pub has_live : (c : Chunks) (name : ℕ) → name ≢ none → HasChain c name → StandsLive c name
has_live c name some h = first_live c name h.names some h.chain

pub gives_more : (a m d : ArenaModel) (name next : ℕ) → name ≢ none → GivesPart a m name next → GivesAll m d next → GivesAll a d name
gives_more a m d name next some g later [] chain = absurd (some chain)
gives_more a m d name next some g later (n ∷ rest) chain =
    let here : n ≡ name = sym chain.0.is in
    let once : IsIn rest name → ⊥ = λ there. chain.0.once (subst (λ (x : ℕ). IsIn rest x) (sym here) there) in
    let t : GivesText m d rest = later rest (rest_kept a m name next rest g once (chain_from a.chunks (next_at a.chunks n) (next_at a.chunks name) rest (ap (next_at a.chunks) here) chain.1)) in
    let one : m.given ≡ more a.given 1 = g.given in
    let two : d.given ≡ more m.given (length rest) = t.given in
    let first_gone : live_at d.chunks name ≡ None = t.others name once ∙ g.gone in
    record {
      gone = λ k there. elim there as (λ _. live_at d.chunks k ≡ None) [
        | inl e ↦ ap (live_at d.chunks) (e ∙ here) ∙ first_gone
        | inr more ↦ t.gone k more
      ];
      others = λ k away. t.others k (λ there. away (inr there)) ∙ g.others k (λ e. away (inl (e ∙ sym here)));
      taken = t.taken ∙ g.taken;
      given = omega (arith, one, two);
      pays = pays_then a.chunks m.chunks d.chunks 0 0 g.pays t.pays;
    }
