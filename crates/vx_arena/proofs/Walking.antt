-- The loops that go along a chain.
use Rattle.std.proofs.Common.{inl, inr, ◌≡◌, ◌≢◌, zero, suc, ℕ, ◌+◌, ◌-◌, ◌<◌, ◌≤◌, Bool, false, eqb, IsTrue, ◌↔◌, List, [], ◌∷◌, ◌++◌, length, take, drop, min, refl, sym, ap, ◌∙◌, subst, arith}
use Rattle.std.proofs.lemmas.Bool.{cases_lt, eqb-true, eq-eqb, both_ways}
use Rattle.std.proofs.lemmas.List.{append-nil, append_assoc, nil_from_length, take_min, take_at, drop_at, take-append-le, take-append-drop, length-append, length-take, length-take-le, length-drop}
use Rattle.std.proofs.lemmas.List.Concat.{flat_map-cons}
use Rattle.std.proofs.Math.Seq.{take-length, drop-length, take-append-add}
use Rattle.vx_arena.specs.Chunks.{Chunks}
use Rattle.vx_arena.specs.Names.{none}
use Rattle.vx_arena.specs.Text.{StandsLive, next_at, part_at, IsChain, bytes_in, bytes_from, HasText}
use Rattle.vx_arena.proofs.Chains.{chain_from, chain_none}
use Rattle.vx_arena.proofs.Texts.{text_bytes}

pub part_is : (payload : List ℕ) (n count : ℕ) → n ≡ length payload - 8 → count ≡ min n 2040 → take count (drop 8 payload) ≡ take 2040 (drop 8 payload)
part_is payload n count is least =
    let long : length (drop 8 payload) ≡ length payload - 8 = length-drop 8 payload in
    let all : count ≡ min 2040 (length (drop 8 payload)) = omega (arith, is, least, long) in
    ap (λ (k : ℕ). take k (drop 8 payload)) all ∙ take_min 2040 (drop 8 payload)

-- what is left of a chain
pub record Left (c : Chunks) (name done : ℕ) : Type 0 where
  pub rest : List ℕ
  pub chain : IsChain c name rest
  pub few : length rest + done ≤ 33

left_none : (c : Chunks) (name done : ℕ) (l : Left c name done) → name ≡ none → l.rest ≡ []
left_none c name done l e = chain_none c name l.rest e l.chain

left_over : (c : Chunks) (name done : ℕ) (l : Left c name done) → 33 ≤ done → l.rest ≡ []
left_over c name done l ge = nil_from_length l.rest (let few : length l.rest + done ≤ 33 = l.few in omega (arith, few, ge))

live_of : (c : Chunks) (name : ℕ) (rest : List ℕ) → IsChain c name rest → name ≢ none → StandsLive c name
live_of c name [] chain some = absurd (some chain)
live_of c name (n ∷ rest) chain some = subst (λ (k : ℕ). StandsLive c k) (sym chain.0.is) chain.0.live

pub left_live : (c : Chunks) (name done : ℕ) → Left c name done → name ≢ none → StandsLive c name
left_live c name done l some = live_of c name l.rest l.chain some

-- one block further
record Further (c : Chunks) (name done : ℕ) (rest : List ℕ) : Type 0 where
  pub left : Left c (next_at c name) (done + 1)
  pub bytes : bytes_in c rest ≡ part_at c name ++ bytes_in c left.rest

further : (c : Chunks) (name done : ℕ) (rest : List ℕ) → IsChain c name rest → length rest + done ≤ 33 → name ≢ none → Further c name done rest
further c name done [] chain few some = absurd (some chain)
further c name done (n ∷ rest) chain few some =
    let here : n ≡ name = sym chain.0.is in
    record {
      left = record { rest = rest; chain = chain_from c (next_at c n) (next_at c name) rest (ap (next_at c) here) chain.1; few = omega arith };
      bytes = flat_map-cons (part_at c) n rest ∙ ap (λ (k : ℕ). part_at c k ++ bytes_in c rest) here;
    }

-- what was read so far, and how many bytes are due
pub record ReadSoFar (c : Chunks) (old into : List ℕ) (len due first name done : ℕ) : Type 0 where
  pub left : Left c name done
  pub all : into ++ take due (bytes_in c left.rest) ≡ old ++ take len (bytes_from 33 c first)
  pub kept : take (length old) into ≡ old

pub read_start : (c : Chunks) (old : List ℕ) (len first : ℕ) → HasText c first → ReadSoFar c old old len len first first 0
read_start c old len first h = record {
  left = record { rest = h.names; chain = h.chain; few = let few : length h.names ≤ 33 = h.few in omega (arith, few) };
  all = ap (λ (x : List ℕ). old ++ take len x) (sym (text_bytes c first h));
  kept = take-length old;
}

take_nil : (n : ℕ) → ◌≡◌ {A = List ℕ} (take n []) []
take_nil zero = refl
take_nil (suc n) = refl

read_done : (c : Chunks) (old into : List ℕ) (len due first name done : ℕ) (r : ReadSoFar c old into len due first name done) → r.left.rest ≡ [] → into ≡ old ++ take len (bytes_from 33 c first)
read_done c old into len due first name done r e =
    let none_left : take due (bytes_in c r.left.rest) ≡ [] = ap (λ (l : List ℕ). take due (bytes_in c l)) e ∙ take_nil due in
    sym (append-nil into) ∙ (ap (λ (x : List ℕ). into ++ x) (sym none_left) ∙ r.all)

pub read_end : (c : Chunks) (old into : List ℕ) (len due first name done : ℕ) → ReadSoFar c old into len due first name done → name ≡ none → into ≡ old ++ take len (bytes_from 33 c first)
read_end c old into len due first name done r e = read_done c old into len due first name done r (left_none c name done r.left e)

pub read_over : (c : Chunks) (old into : List ℕ) (len due first name done : ℕ) → ReadSoFar c old into len due first name done → 33 ≤ done → into ≡ old ++ take len (bytes_from 33 c first)
read_over c old into len due first name done r ge = read_done c old into len due first name done r (left_over c name done r.left ge)

-- so many bytes of a part and what is behind it
take_parts : (part behind : List ℕ) (due count : ℕ) → count ≡ min (length part) due → take due (part ++ behind) ≡ take count part ++ take (due - count) behind
take_parts part behind due count is = elim (cases_lt (length part) due) as (λ _. take due (part ++ behind) ≡ take count part ++ take (due - count) behind) [
  | inl less ↦
      let same : count ≡ length part = omega (arith, is, less) in
      let split : due ≡ length part + (due - count) = omega (arith, is, less) in
      let whole : take count part ≡ part = ap (λ (k : ℕ). take k part) same ∙ take-length part in
      ap (λ (k : ℕ). take k (part ++ behind)) split ∙ (take-append-add part behind (due - count) ∙ ap (λ (x : List ℕ). x ++ take (due - count) behind) (sym whole))
  | inr ge ↦
      let same : count ≡ due = omega (arith, is, ge) in
      let over : due - count ≡ 0 = omega (arith, same) in
      take-append-le due part behind ge ∙ (ap (λ (k : ℕ). take k part) (sym same) ∙ (sym (append-nil (take count part)) ∙ ap (λ (k : ℕ). take count part ++ take k behind) (sym over)))
]

pub read_next : (c : Chunks) (old into now part : List ℕ) (len due first name next done count : ℕ) → ReadSoFar c old into len due first name done → name ≢ none → part ≡ part_at c name → count ≡ min (length part) due → now ≡ into ++ take count part → next ≡ next_at c name → ReadSoFar c old now len (due - count) first next (done + 1)
read_next c old into now part len due first name next done count r some is least all to =
    let f : Further c name done r.left.rest = further c name done r.left.rest r.left.chain r.left.few some in
    let long : length old ≡ min (length old) (length into) = ap length (sym r.kept) ∙ length-take (length old) into in
    let here : bytes_in c r.left.rest ≡ part ++ bytes_in c f.left.rest = f.bytes ∙ ap (λ (x : List ℕ). x ++ bytes_in c f.left.rest) (sym is) in
    let split : take due (bytes_in c r.left.rest) ≡ take count part ++ take (due - count) (bytes_in c f.left.rest) = ap (take due) here ∙ take_parts part (bytes_in c f.left.rest) due count least in
    let r2 : ReadSoFar c old now len (due - count) first (next_at c name) (done + 1) = record {
      left = f.left;
      all = ap (λ (x : List ℕ). x ++ take (due - count) (bytes_in c f.left.rest)) all ∙ (append_assoc into (take count part) (take (due - count) (bytes_in c f.left.rest)) ∙ (ap (λ (x : List ℕ). into ++ x) (sym split) ∙ r.all));
      kept = ap (take (length old)) all ∙ (take-append-le (length old) into (take count part) (omega (arith, long)) ∙ r.kept);
    } in
    subst (λ (k : ℕ). ReadSoFar c old now len (due - count) first k (done + 1)) (sym to) r2

-- bytes of known length with others behind them, against a text
record Fronts (front behind text : List ℕ) (count : ℕ) : Type 0 where
  pub few : count ≤ length text
  pub first : front ≡ take count text
  pub later : behind ≡ drop count text

fronts : (front behind text : List ℕ) (count : ℕ) → length front ≡ count → front ++ behind ≡ text → Fronts front behind text count
fronts front behind text count is e = record {
  few = let all : length text ≡ length front + length behind = ap length (sym e) ∙ length-append front behind in omega (arith, all, is);
  first = sym (take_at front behind count is) ∙ ap (take count) e;
  later = sym (drop_at front behind count is) ∙ ap (drop count) e;
}

-- whether the text is there comes down to whether its rest is what is due of the chain's rest
pub record ComparedSoFar (c : Chunks) (text rest : List ℕ) (len due first name done : ℕ) : Type 0 where
  pub left : Left c name done
  pub only : take len (bytes_from 33 c first) ≡ text → take due (bytes_in c left.rest) ≡ rest
  pub if_rest : take due (bytes_in c left.rest) ≡ rest → take len (bytes_from 33 c first) ≡ text

pub compare_start : (c : Chunks) (text : List ℕ) (len first : ℕ) → HasText c first → ComparedSoFar c text text len len first first 0
compare_start c text len first h =
    let same : bytes_from 33 c first ≡ bytes_in c h.names = text_bytes c first h in
    record {
      left = record { rest = h.names; chain = h.chain; few = let few : length h.names ≤ 33 = h.few in omega (arith, few) };
      only = λ e. ap (take len) (sym same) ∙ e;
      if_rest = λ e. ap (take len) same ∙ e;
    }

module _ (c : Chunks) (text rest : List ℕ) (len due first name done : ℕ) (s : ComparedSoFar c text rest len due first name done) where
  compare_done : s.left.rest ≡ [] → (b : Bool) → b ≡ eqb (length rest) 0 → IsTrue b ↔ (take len (bytes_from 33 c first) ≡ text)
  compare_done e b is = (
    λ yes. s.if_rest (nothing ∙ sym (nil_from_length rest (eqb-true (length rest) 0 (sym is ∙ yes)))),
    λ same. is ∙ eq-eqb (length rest) 0 (ap length (sym (s.only same) ∙ nothing)),
  )
    where
      nothing : take due (bytes_in c s.left.rest) ≡ []
      nothing = ap (λ (l : List ℕ). take due (bytes_in c l)) e ∙ take_nil due

  pub compare_end : name ≡ none → (b : Bool) → b ≡ eqb (length rest) 0 → IsTrue b ↔ (take len (bytes_from 33 c first) ≡ text)
  compare_end e b is = compare_done (left_none c name done s.left e) b is

  pub compare_over : 33 ≤ done → (b : Bool) → b ≡ eqb (length rest) 0 → IsTrue b ↔ (take len (bytes_from 33 c first) ≡ text)
  compare_over ge b is = compare_done (left_over c name done s.left ge) b is

  module _ (part : List ℕ) (count : ℕ) (some : name ≢ none) (is : part ≡ part_at c name) (least : count ≡ min (length part) due) where
    next_block : Further c name done s.left.rest
    next_block = further c name done s.left.rest s.left.chain s.left.few some

    split : take due (bytes_in c s.left.rest) ≡ take count part ++ take (due - count) (bytes_in c next_block.left.rest)
    split =
        let here : bytes_in c s.left.rest ≡ part ++ bytes_in c next_block.left.rest = next_block.bytes ∙ ap (λ (x : List ℕ). x ++ bytes_in c next_block.left.rest) (sym is) in
        ap (take due) here ∙ take_parts part (bytes_in c next_block.left.rest) due count least

    own : take len (bytes_from 33 c first) ≡ text → Fronts (take count part) (take (due - count) (bytes_in c next_block.left.rest)) rest count
    own e = fronts (take count part) (take (due - count) (bytes_in c next_block.left.rest)) rest count (length-take-le count part (omega (arith, least))) (sym split ∙ s.only e)

    -- the rest is shorter than the part, or begins otherwise
    pub compare_few : length rest < count → take len (bytes_from 33 c first) ≡ text → ⊥
    compare_few few e = let enough : count ≤ length rest = (own e).few in omega (arith, few, enough)

    pub compare_less : (take count part ≡ take count rest → ⊥) → take len (bytes_from 33 c first) ≡ text → ⊥
    compare_less apart e = apart (own e).first

    compare_more : take count part ≡ take count rest → ComparedSoFar c text (drop count rest) len (due - count) first (next_at c name) (done + 1)
    compare_more same = record {
      left = next_block.left;
      only = λ e. (own e).later;
      if_rest = λ e. s.if_rest (split ∙ (ap (λ (x : List ℕ). x ++ take (due - count) (bytes_in c next_block.left.rest)) same ∙ (ap (λ (x : List ℕ). take count rest ++ x) e ∙ take-append-drop count rest)));
    }

    pub compare_next : (now : List ℕ) (next : ℕ) → take count part ≡ take count rest → now ≡ drop count rest → next ≡ next_at c name → ComparedSoFar c text now len (due - count) first next (done + 1)
    compare_next now next same behind to =
        subst (λ (k : ℕ). ComparedSoFar c text now len (due - count) first k (done + 1)) (sym to)
        (subst (λ (l : List ℕ). ComparedSoFar c text l len (due - count) first (next_at c name) (done + 1)) (sym behind) (compare_more same))

pub not_true : IsTrue false → ⊥
not_true f = both_ways false refl f

pub compare_false : {P : Type 0} → (P → ⊥) → IsTrue false ↔ P
compare_false apart = (λ f. absurd (not_true f), λ p. absurd (apart p))
