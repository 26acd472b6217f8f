-- Texts at places: what is read there, and that they stay where other texts come and go.
use Rattle.std.proofs.Common.{inl, inr, ◌≡◌, ◌≢◌, ◌⊎◌, zero, suc, ℕ, ◌/◌, ◌%◌, ◌^◌, ◌<◌, ◌≤◌, List, [], ◌∷◌, ◌++◌, length, take, refl, sym, ap, ◌∙◌, subst, arith}
use Rattle.std.proofs.lemmas.Bool.{cases_eq, eq-eqb, ne_eqb}
use Rattle.std.proofs.lemmas.List.Concat.{flat_map-cons}
use Rattle.vx_raw.specs.declared.place.Place.{Place}
use Rattle.vx_arena.specs.Chunks.{Chunks}
use Rattle.vx_arena.specs.Names.{name_of, place_of, none, live_at}
use Rattle.vx_arena.specs.Free.{IsIn}
use Rattle.vx_arena.specs.Text.{ArenaModel, StandsLive, next_at, part_at, IsChain, bytes_in, bytes_from, bytes_at, count_from, count_at, more, Reads, IsUnnamed, IsChained, HasText, IsText, blocks_of, TakesText, TakesNothing, GivesText, GivesAll, HasChain, StaysText, KeepsTexts, KeepsOthers, IsNew}
use Rattle.vx_arena.proofs.Chaining.{same_next, stands_kept, apart_from, not_gone}
use Rattle.vx_arena.proofs.Chains.{chain_none, chain_live, SameChain, chain_kept}

bytes_none : (most : ℕ) (c : Chunks) (name : ℕ) → name ≡ none → bytes_from most c name ≡ []
unfolding bytes_from
bytes_none zero c name e = refl
bytes_none (suc most) c name e = rw (eq-eqb name none e) refl

bytes_some : (most : ℕ) (c : Chunks) (name : ℕ) → name ≢ none → bytes_from (suc most) c name ≡ part_at c name ++ bytes_from most c (next_at c name)
unfolding bytes_from
bytes_some most c name ne = rw (ne_eqb name none ne) refl

-- what is read from the first block on are the bytes of the chain
pub bytes_of_chain : (most : ℕ) (c : Chunks) (first : ℕ) (names : List ℕ) → IsChain c first names → length names ≤ most → bytes_from most c first ≡ bytes_in c names
bytes_of_chain most c first [] chain few = bytes_none most c first chain
bytes_of_chain zero c first (n ∷ rest) chain few = absurd (omega arith)
bytes_of_chain (suc most) c first (n ∷ rest) chain few =
    let some : first ≢ none = λ e. chain.0.some (sym chain.0.is ∙ e) in
    let later : bytes_from most c (next_at c n) ≡ bytes_in c rest = bytes_of_chain most c (next_at c n) rest chain.1 (omega arith) in
    bytes_some most c first some
    ∙ (ap (λ (k : ℕ). part_at c k ++ bytes_from most c (next_at c k)) chain.0.is
    ∙ (ap (λ (x : List ℕ). part_at c n ++ x) later ∙ sym (flat_map-cons (part_at c) n rest)))

-- and as many blocks are counted as it has
pub count_of_chain : (most : ℕ) (c : Chunks) (first : ℕ) (names : List ℕ) → IsChain c first names → length names ≤ most → count_from most c first ≡ length names
unfolding count_from
count_of_chain zero c first [] chain few = refl
count_of_chain (suc most) c first [] chain few = rw (eq-eqb first none chain) refl
count_of_chain zero c first (n ∷ rest) chain few = absurd (omega arith)
count_of_chain (suc most) c first (n ∷ rest) chain few =
    let some : first ≢ none = λ e. chain.0.some (sym chain.0.is ∙ e) in
    let later : count_from most c (next_at c n) ≡ length rest = count_of_chain most c (next_at c n) rest chain.1 (omega arith) in
    rw (ne_eqb first none some) (ap (λ (k : ℕ). suc (count_from most c (next_at c k))) chain.0.is ∙ ap suc later)

pub text_count : (c : Chunks) (name : ℕ) (h : HasText c name) → count_from 33 c name ≡ length h.names
text_count c name h = count_of_chain 33 c name h.names h.chain h.few

pub text_bytes : (c : Chunks) (name : ℕ) (h : HasText c name) → bytes_from 33 c name ≡ bytes_in c h.names
text_bytes c name h = bytes_of_chain 33 c name h.names h.chain h.few

pub name_back : (name : ℕ) (p : Place) → p ≡ place_of name → name_of p ≡ name
name_back name p is =
    let chunk : p.chunk ≡ name % 2 ^ 32 = ap (λ (q : Place). q.chunk) is in
    let at : p.at ≡ name / 2 ^ 32 = ap (λ (q : Place). q.at) is in
    omega (arith, chunk, at)

-- the text that was stored
chain_some : (c : Chunks) (first : ℕ) (names : List ℕ) → IsChain c first names → 0 < length names → first ≢ none
chain_some c first [] chain some = absurd (omega arith)
chain_some c first (n ∷ rest) chain some = λ e. chain.0.some (sym chain.0.is ∙ e)

pub stored : (a d : ArenaModel) (first : ℕ) (text : List ℕ) → 13 ≤ length text → length text ≤ 65535 → TakesText a d first text → HasText d.chunks first
stored a d first text least most t =
    let count : length t.names ≡ blocks_of (length text) = t.blocks in
    record {
      names = t.names;
      chain = t.chain;
      few = omega (arith, count, most);
      first = t.unnamed;
      some = chain_some d.chunks first t.names t.chain (omega (arith, count, least));
    }

pub stored_text : (a d : ArenaModel) (first : ℕ) (text : List ℕ) (p : Place) → 13 ≤ length text → length text ≤ 65535 → p.at < 2 ^ 32 → p ≡ place_of first → TakesText a d first text → IsText d p
stored_text a d first text p least most near is t = record {
  text = subst (λ (n : ℕ). HasText d.chunks n) (sym (name_back first p is)) (stored a d first text least most t);
  near = near;
}

pub stored_reads : (a d : ArenaModel) (first : ℕ) (text : List ℕ) (p : Place) → length text ≤ 65535 → p ≡ place_of first → TakesText a d first text → Reads d p text
stored_reads a d first text p most is t =
    let count : length t.names ≡ blocks_of (length text) = t.blocks in
    ap (λ (n : ℕ). take (length text) (bytes_from 33 d.chunks n)) (name_back first p is)
    ∙ (ap (take (length text)) (bytes_of_chain 33 d.chunks first t.names t.chain (omega (arith, count, most))) ∙ t.reads)

pub stored_count : (a d : ArenaModel) (first : ℕ) (text : List ℕ) (p : Place) → length text ≤ 65535 → p ≡ place_of first → TakesText a d first text → count_at d p ≡ blocks_of (length text)
stored_count a d first text p most is t =
    let count : length t.names ≡ blocks_of (length text) = t.blocks in
    ap (count_from 33 d.chunks) (name_back first p is) ∙ (count_of_chain 33 d.chunks first t.names t.chain (omega (arith, count, most)) ∙ count)

-- a text whose blocks are as they were
kept_text : (a d : ArenaModel) (p : Place) (i : IsText a p) → ((n : ℕ) → IsIn i.text.names n → live_at d.chunks n ≡ live_at a.chunks n) → IsUnnamed d.chunks (name_of p) → StaysText a d p
kept_text a d p i same first =
    let s : SameChain a.chunks d.chunks (name_of p) i.text.names = chain_kept a.chunks d.chunks (name_of p) i.text.names i.text.chain same in
    let h : HasText d.chunks (name_of p) = record { names = i.text.names; chain = s.chain; few = i.text.few; first = first; some = i.text.some } in
    record {
      there = record { text = h; near = i.near };
      bytes = text_bytes d.chunks (name_of p) h ∙ (s.bytes ∙ sym (text_bytes a.chunks (name_of p) i.text));
      count = text_count d.chunks (name_of p) h ∙ sym (text_count a.chunks (name_of p) i.text);
    }

-- links of a chain stay in it
chain_next : (c : Chunks) (first : ℕ) (names : List ℕ) → IsChain c first names → (k : ℕ) → IsIn names k → (next_at c k ≡ none) ⊎ IsIn names (next_at c k)
chain_next c first [] chain k there = absurd there
chain_next c first (n ∷ rest) chain k there = elim there as (λ _. (next_at c k ≡ none) ⊎ IsIn (n ∷ rest) (next_at c k)) [
  | inl e ↦ subst (λ (x : ℕ). (next_at c x ≡ none) ⊎ IsIn (n ∷ rest) (next_at c x)) (sym e) (head_next rest chain.1)
  | inr later ↦ elim (chain_next c (next_at c n) rest chain.1 k later) as (λ _. (next_at c k ≡ none) ⊎ IsIn (n ∷ rest) (next_at c k)) [
    | inl e ↦ inl e
    | inr in_rest ↦ inr (inr in_rest)
  ]
] where
  head_next : (list : List ℕ) → IsChain c (next_at c n) list → (next_at c n ≡ none) ⊎ IsIn (n ∷ list) (next_at c n)
  head_next [] e = inl e
  head_next (m ∷ more) chain = inr (inr (inl chain.0.is))

pub is_in : (names : List ℕ) (n : ℕ) → IsIn names n ⊎ (IsIn names n → ⊥)
is_in [] n = inr (λ there. there)
is_in (m ∷ rest) n = elim (cases_eq n m) as (λ _. IsIn (m ∷ rest) n ⊎ (IsIn (m ∷ rest) n → ⊥)) [
  | inl e ↦ inl (inl e)
  | inr ne ↦ elim (is_in rest n) as (λ _. IsIn (m ∷ rest) n ⊎ (IsIn (m ∷ rest) n → ⊥)) [
    | inl there ↦ inl (inr there)
    | inr away ↦ inr (λ there. elim there as (λ _. ⊥) [
      | inl e ↦ ne e
      | inr later ↦ away later
    ])
  ]
]

-- a text that is stored moves no other
pub takes_keeps : (a d : ArenaModel) (first : ℕ) (text : List ℕ) → TakesText a d first text → KeepsTexts a d
takes_keeps a d first text t p i =
    let apart : (n : ℕ) → StandsLive a.chunks n → IsIn t.names n → ⊥ = λ n live there. not_gone a.chunks n live (t.fresh n there) in
    let live : StandsLive a.chunks (name_of p) = first_live i.text.names i.text.chain in
    kept_text a d p i (λ n there. t.others n (apart n (chain_live a.chunks (name_of p) i.text.names i.text.chain n there)))
    (λ n stands to. elim (is_in t.names n) as (λ _. name_of p ≡ none) [
      | inl there ↦ elim (chain_next d.chunks first t.names t.chain n there) as (λ _. name_of p ≡ none) [
        | inl e ↦ sym to ∙ e
        | inr next ↦ absurd (apart (name_of p) live (subst (λ (x : ℕ). IsIn t.names x) to next))
      ]
      | inr away ↦ i.text.first n (stands_kept d.chunks a.chunks n (sym (t.others n away)) stands) (sym (same_next a.chunks d.chunks n (t.others n away)) ∙ to)
    ]) where
      first_live : (names : List ℕ) → IsChain a.chunks (name_of p) names → StandsLive a.chunks (name_of p)
      first_live [] chain = absurd (i.text.some chain)
      first_live (n ∷ rest) chain = subst (λ (x : ℕ). StandsLive a.chunks x) (sym chain.0.is) chain.0.live

text_live : (c : Chunks) (name : ℕ) (names : List ℕ) → name ≢ none → IsChain c name names → StandsLive c name
text_live c name [] some chain = absurd (some chain)
text_live c name (n ∷ rest) some chain = subst (λ (x : ℕ). StandsLive c x) (sym chain.0.is) chain.0.live

first_in : (c : Chunks) (first : ℕ) (names : List ℕ) → 0 < length names → IsChain c first names → IsIn names first
first_in c first [] some chain = absurd (omega arith)
first_in c first (n ∷ rest) some chain = inl chain.0.is

-- and stands where none stood
pub stored_new : (a d : ArenaModel) (first : ℕ) (text : List ℕ) (p : Place) → 13 ≤ length text → p ≡ place_of first → TakesText a d first text → IsNew a p
stored_new a d first text p least is t other i e =
    let count : length t.names ≡ blocks_of (length text) = t.blocks in
    let there : IsIn t.names first = first_in d.chunks first t.names (omega (arith, count, least)) t.chain in
    apart_from a.chunks (name_of other) first (text_live a.chunks (name_of other) i.text.names i.text.some i.text.chain) (t.fresh first there) (e ∙ name_back first p is)

pub nothing_keeps : (a d : ArenaModel) (text : List ℕ) → TakesNothing a d text → KeepsTexts a d
nothing_keeps a d text t p i = kept_text a d p i (λ n there. t.same n) (λ n stands to. i.text.first n (stands_kept d.chunks a.chunks n (sym (t.same n)) stands) (sym (same_next a.chunks d.chunks n (t.same n)) ∙ to))

-- what names a block of a chain
record Before (c : Chunks) (names : List ℕ) (x : ℕ) : Type 0 where
  pub name : ℕ
  pub there : IsIn names name
  pub live : StandsLive c name
  pub link : next_at c name ≡ x

from_before : (c : Chunks) (first : ℕ) (names : List ℕ) → IsChain c first names → (x : ℕ) → IsIn names x → (x ≡ first) ⊎ Before c names x
from_before c first [] chain x there = absurd there
from_before c first (n ∷ rest) chain x there = elim there as (λ _. (x ≡ first) ⊎ Before c (n ∷ rest) x) [
  | inl e ↦ inl (e ∙ sym chain.0.is)
  | inr later ↦ elim (from_before c (next_at c n) rest chain.1 x later) as (λ _. (x ≡ first) ⊎ Before c (n ∷ rest) x) [
    | inl e ↦ inr (record { name = n; there = inl refl; live = chain.0.live; link = sym e })
    | inr b ↦ inr (record { name = b.name; there = inr b.there; live = b.live; link = b.link })
  ]
]

-- two chains whose firsts are not the same have no block in common
walk : (c : Chunks) (n : ℕ) (ns : List ℕ) → IsChained c → IsChain c n ns → IsUnnamed c n → (m : ℕ) (ms : List ℕ) → IsChain c m ms → (IsIn ns m → ⊥) → (x : ℕ) → IsIn ms x → IsIn ns x → ⊥
walk c n ns chained chain first m [] here away x there also = there
walk c n ns chained chain first m (k ∷ rest) here away x there also = elim there as (λ _. ⊥) [
  | inl e ↦ away (subst (λ (y : ℕ). IsIn ns y) (e ∙ sym here.0.is) also)
  | inr later ↦
      let some : next_at c k ≡ none → ⊥ = λ e. subst (λ (l : List ℕ). IsIn l x) (chain_none c (next_at c k) rest e here.1) later in
      let apart : IsIn ns (next_at c k) → ⊥ = λ found.
      elim (from_before c n ns chain (next_at c k) found) as (λ _. ⊥) [
        | inl e ↦ some (e ∙ first k here.0.live e)
        | inr b ↦
            let same : b.name ≡ k = chained.alone b.name k b.live here.0.live b.link (λ z. some (sym b.link ∙ z)) in
            away (subst (λ (y : ℕ). IsIn ns y) (same ∙ sym here.0.is) b.there)
      ] in
      walk c n ns chained chain first (next_at c k) rest here.1 apart x later also
]

disjoint : (c : Chunks) (m n : ℕ) (ms ns : List ℕ) → IsChained c → IsChain c m ms → IsUnnamed c m → m ≢ none → IsChain c n ns → IsUnnamed c n → (m ≡ n → ⊥) → (x : ℕ) → IsIn ms x → IsIn ns x → ⊥
disjoint c m n ms ns chained one first some two second ne x there also =
    walk c n ns chained two second m ms one (λ found. elim (from_before c n ns two m found) as (λ _. ⊥) [
      | inl e ↦ ne e
      | inr b ↦ some (first b.name b.live b.link)
    ]) x there also

-- a text that is given back moves no other
pub gives_keeps : (a d : ArenaModel) (gone : Place) → IsChained a.chunks → IsText a gone → GivesAll a d (name_of gone) → KeepsOthers a d gone
gives_keeps a d gone chained g gives p i ne =
    let t : GivesText a d g.text.names = gives g.text.names g.text.chain in
    kept_text a d p i (λ n there. t.others n (λ also. disjoint a.chunks (name_of p) (name_of gone) i.text.names g.text.names chained i.text.chain i.text.first i.text.some g.text.chain g.text.first ne n there also))
    (λ n stands to. elim (is_in g.text.names n) as (λ _. name_of p ≡ none) [
      | inl there ↦ absurd (not_gone d.chunks n stands (t.gone n there))
      | inr away ↦ i.text.first n (stands_kept d.chunks a.chunks n (sym (t.others n away)) stands) (sym (same_next a.chunks d.chunks n (t.others n away)) ∙ to)
    ])

-- as many blocks are given as it has
pub gives_count : (a d : ArenaModel) (gone : Place) → IsText a gone → GivesAll a d (name_of gone) → d.given ≡ more a.given (count_at a gone)
gives_count a d gone g gives = (gives g.text.names g.text.chain).given ∙ ap (more a.given) (sym (text_count a.chunks (name_of gone) g.text))

-- what an owner of texts rests on: what is read at a place stays, and with a text's length it is that text alone
pub reads_kept : (a d : ArenaModel) (p : Place) (text : List ℕ) → StaysText a d p → Reads a p text → Reads d p text
reads_kept a d p text s reads = ap (take (length text)) s.bytes ∙ reads

pub reads_one : (a : ArenaModel) (p : Place) (text other : List ℕ) → length text ≡ length other → Reads a p text → Reads a p other → text ≡ other
reads_one a p text other same one two = sym one ∙ (ap (λ (k : ℕ). take k (bytes_at a p)) same ∙ two)

pub has_chain : (c : Chunks) (name : ℕ) → HasText c name → HasChain c name
has_chain c name h = record { names = h.names; chain = h.chain; unnamed = h.first }
