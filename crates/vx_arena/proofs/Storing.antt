-- A text is put into blocks, its last part first.
use Rattle.std.proofs.Common.{inl, inr, ◌≡◌, ◌⊎◌, suc, ℕ, ◌+◌, ◌-◌, ◌*◌, ◌/◌, ◌^◌, ◌<◌, ◌≤◌, false, eqb, Result, Ok, Err, IfErr, None, List, [], ◌∷◌, ◌++◌, length, take, drop, min, refl, sym, ap, ◌∙◌, subst, arith}
use Rattle.std.proofs.lemmas.Bool.{cases_eq, cases_lt, eqb-false, ne_eqb}
use Rattle.std.proofs.lemmas.List.{append-nil, nil_from_length, length-append, length-take-le, length-drop, take-append-drop, take-take}
use Rattle.std.proofs.lemmas.List.Concat.{flat_map-cons}
use Rattle.std.proofs.Math.Seq.{take-append-add, take-length}
use Rattle.vx_arena.specs.Chunks.{Chunks, held_by}
use Rattle.vx_arena.specs.Names.{none, live_at, lives}
use Rattle.vx_arena.specs.Free.{IsIn}
use Rattle.vx_arena.specs.Part.{class_for, Takes, Paid, none_made, spare_left, all_paid, PaysMore, Pays}
use Rattle.vx_arena.specs.Text.{ArenaModel, more, payload_at, next_at, part_at, bytes_in, CanFollow, AddsPart, blocks_of, block_bytes, cost_of, GivesText, GivesAll, TakesBlocks, TakesSome, TakesText, TakesNothing, HasChain, IsArena}
use Rattle.vx_arena.proofs.Paying.{pays_so, pays_kept, pays_then, pays_cost}
use Rattle.vx_arena.proofs.Chaining.{apart_from}
use Rattle.vx_arena.proofs.Texts.{is_in}
use Rattle.vx_arena.proofs.Chains.{chain_from, chain_live, SameChain, chain_kept, has_live}

-- a text's first part and the rest
pub record Cut (text part rest : List ℕ) : Type 0 where
  pub all : part ++ rest ≡ text
  pub some : 0 < length part
  pub most : length part ≤ 2040
  pub full : (length part ≡ 2040) ⊎ (rest ≡ [])

pub cut : (text part rest : List ℕ) (count : ℕ) → 0 < length text → count ≡ min (length text) 2040 → part ≡ take count text → rest ≡ drop count text → Cut text part rest
cut text part rest count some is one two =
    let near : count ≤ length text = omega (arith, is) in
    let long : length part ≡ count = ap length one ∙ length-take-le count text near in
    record {
      all = ap (λ (x : List ℕ). x ++ rest) one ∙ (ap (λ (x : List ℕ). take count text ++ x) two ∙ take-append-drop count text);
      some = omega (arith, long, is, some);
      most = omega (arith, long, is);
      full = elim (cases_lt (length text) 2040) as (λ _. (length part ≡ 2040) ⊎ (rest ≡ [])) [
        | inl less ↦ inr (nil_from_length rest (ap length two ∙ (length-drop count text ∙ omega (arith, is, less))))
        | inr ge ↦ inl (omega (arith, long, is, ge))
      ];
    }

cost_some : (n : ℕ) → (n ≡ 0 → ⊥) → cost_of n ≡ block_bytes 2040 * ((n - 1) / 2040) + block_bytes (n - 2040 * ((n - 1) / 2040))
unfolding cost_of
cost_some n ne = rw (ne_eqb n 0 ne) refl

cost_zero : cost_of 0 ≡ 0
unfolding cost_of
cost_zero = refl

-- the last part
cost_last : (n : ℕ) → 0 < n → n ≤ 2040 → cost_of n ≡ block_bytes n
cost_last n some few =
    let none : (n - 1) / 2040 ≡ 0 = omega (arith, few) in
    let ne : n ≡ 0 → ⊥ = λ e. omega (arith, some, e) in
    let all : n - 2040 * 0 ≡ n = omega arith in
    cost_some n ne ∙ (ap (λ (q : ℕ). block_bytes 2040 * q + block_bytes (n - 2040 * q)) none ∙ (ap (λ (k : ℕ). block_bytes 2040 * 0 + block_bytes k) all ∙ omega arith))

cost_full : (n rest : ℕ) → n ≡ 2040 + rest → (rest ≡ 0 → ⊥) → cost_of rest + block_bytes 2040 ≡ cost_of n
cost_full n rest is ne =
    let q : ℕ = (rest - 1) / 2040 in
    let more_parts : (n - 1) / 2040 ≡ 1 + (rest - 1) / 2040 = omega (arith, is, ne) in
    let some : n ≡ 0 → ⊥ = λ e. omega (arith, is, e) in
    let left : n - 2040 * (1 + (rest - 1) / 2040) ≡ rest - 2040 * ((rest - 1) / 2040) = omega (arith, is, ne) in
    let all : cost_of n ≡ block_bytes 2040 * (1 + (rest - 1) / 2040) + block_bytes (rest - 2040 * ((rest - 1) / 2040)) =
    cost_some n some ∙ (ap (λ (k : ℕ). block_bytes 2040 * k + block_bytes (n - 2040 * k)) more_parts ∙ ap (λ (k : ℕ). block_bytes 2040 * (1 + (rest - 1) / 2040) + block_bytes k) left) in
    let before : cost_of rest ≡ block_bytes 2040 * ((rest - 1) / 2040) + block_bytes (rest - 2040 * ((rest - 1) / 2040)) = cost_some rest ne in
    omega (arith, all, before)

cost_cut : (text part rest : List ℕ) → Cut text part rest → cost_of (length rest) + block_bytes (length part) ≡ cost_of (length text)
cost_cut text part rest c =
    let all : length text ≡ length part + length rest = ap length (sym c.all) ∙ length-append part rest in
    let some : 0 < length part = c.some in
    let most : length part ≤ 2040 = c.most in
    elim (cases_eq (length rest) 0) as (λ _. cost_of (length rest) + block_bytes (length part) ≡ cost_of (length text)) [
      | inl e ↦
          let zero_cost : cost_of (length rest) ≡ 0 = ap cost_of e ∙ cost_zero in
          let last : cost_of (length part) ≡ block_bytes (length part) = cost_last (length part) some most in
          let same : cost_of (length text) ≡ cost_of (length part) = ap cost_of (omega (arith, all, e)) in
          omega (arith, zero_cost, last, same)
      | inr ne ↦ elim (c.full) as (λ _. cost_of (length rest) + block_bytes (length part) ≡ cost_of (length text)) [
        | inl full ↦
            let whole : cost_of (length rest) + block_bytes 2040 ≡ cost_of (length text) = cost_full (length text) (length rest) (omega (arith, all, full)) ne in
            ap (λ (k : ℕ). cost_of (length rest) + block_bytes k) full ∙ whole
        | inr empty ↦ absurd (ne (ap length empty))
      ]
    ]

paid_more : (c : Chunks) (made spent more : ℕ) → spent ≤ more → Paid c made spent → Paid c made more
paid_more c made spent more le (none_made e) = none_made e
paid_more c made spent more le (spare_left n l s bound enough) = spare_left n l s bound (omega (arith, le, enough))
paid_more c made spent more le (all_paid enough) = all_paid (omega (arith, le, enough))

pays_most : (a d : Chunks) (x y : ℕ) → x ≤ y → Pays a d x → Pays a d y
pays_most a d x y le pays made spent paid =
    let p : PaysMore a d made spent x = pays made spent paid in
    pays_so a d made spent y p.chunks p.held (λ e. p.none (omega (arith, le, e))) (paid_more d (made + p.chunks) (spent + x) (spent + y) (omega (arith, le)) p.paid)

-- nothing is stored
pub stores_none : (a : ArenaModel) (text : List ℕ) → a.taken < 2 ^ 64 → length text ≡ 0 → TakesText a a none text
stores_none a text fits empty =
    let nil : text ≡ [] = nil_from_length text empty in
    subst (λ (t : List ℕ). TakesText a a none t) (sym nil) (record {
      names = [];
      chain = refl;
      reads = refl;
      blocks = refl;
      fresh = λ n there. absurd there;
      others = λ n away. refl;
      taken = omega (arith, fits);
      given = refl;
      unnamed = λ n live to. refl;
      takes = refl;
      pays = pays_cost a.chunks a.chunks 0 (cost_of 0) (sym cost_zero) (pays_kept a.chunks a.chunks refl (λ n l s. s));
    })

-- what may be named by the next block
pub can_follow : (a m : ArenaModel) (next : ℕ) (rest : List ℕ) → TakesText a m next rest → CanFollow m.chunks next
can_follow a m next rest t = record { live = λ some. has_live m.chunks next some (record { names = t.names; chain = t.chain; unnamed = t.unnamed }); first = t.unnamed }

pub can_release : (a m : ArenaModel) (next : ℕ) (rest : List ℕ) → TakesText a m next rest → HasChain m.chunks next
can_release a m next rest t = record { names = t.names; chain = t.chain; unnamed = t.unnamed }

-- a part, and the bytes behind it
reads_full : (payload part rest bytes : List ℕ) (n : ℕ) → take (length part) (drop 8 payload) ≡ part → length part ≡ 2040 → n ≡ length part + length rest → take (length rest) bytes ≡ rest → take n (take 2040 (drop 8 payload) ++ bytes) ≡ part ++ rest
reads_full payload part rest bytes n holds full is later =
    let here : take 2040 (drop 8 payload) ≡ part = subst (λ (k : ℕ). take k (drop 8 payload) ≡ part) full holds in
    ap (λ (p : List ℕ). take n (p ++ bytes)) here ∙ (ap (λ (k : ℕ). take k (part ++ bytes)) is ∙ (take-append-add part bytes (length rest) ∙ ap (λ (x : List ℕ). part ++ x) later))

reads_last : (payload part : List ℕ) → take (length part) (drop 8 payload) ≡ part → length part ≤ 2040 → take (length part) (take 2040 (drop 8 payload) ++ []) ≡ part
reads_last payload part holds most =
    ap (take (length part)) (append-nil (take 2040 (drop 8 payload))) ∙ (take-take (length part) 2040 (drop 8 payload) most ∙ holds)

module _ (a m d : ArenaModel) (text part rest : List ℕ) (name next : ℕ) (c : Cut text part rest) (t : TakesText a m next rest) (p : AddsPart m d name next part) where
  all_long : length text ≡ length part + length rest
  all_long = ap length (sym c.all) ∙ length-append part rest

  once : IsIn t.names name → ⊥
  once there = apart_from m.chunks name name (chain_live m.chunks next t.names t.chain name there) p.fresh refl

  kept : SameChain m.chunks d.chunks next t.names
  kept = chain_kept m.chunks d.chunks next t.names t.chain (λ n there. p.others n (λ e. once (subst (λ (k : ℕ). IsIn t.names k) e there)))

  no_names : rest ≡ [] → t.names ≡ []
  no_names e = let count : length t.names ≡ blocks_of (length rest) = t.blocks in let zero_rest : length rest ≡ 0 = ap length e in nil_from_length t.names (omega (arith, count, zero_rest))

  reads_all : take (length text) (bytes_in d.chunks (name ∷ t.names)) ≡ text
  reads_all = ap (take (length text)) (flat_map-cons (part_at d.chunks) name t.names) ∙ (elim (c.full) as (λ _. take (length text) (part_at d.chunks name ++ bytes_in d.chunks t.names) ≡ text) [
    | inl full ↦ reads_full (payload_at d.chunks name) part rest (bytes_in d.chunks t.names) (length text) p.holds full all_long (ap (take (length rest)) kept.bytes ∙ t.reads) ∙ c.all
    | inr empty ↦
        let none_there : bytes_in d.chunks t.names ≡ [] = ap (bytes_in d.chunks) (no_names empty) in
        let whole : part ≡ text = sym (append-nil part) ∙ (ap (λ (x : List ℕ). part ++ x) (sym empty) ∙ c.all) in
        ap (λ (x : List ℕ). take (length text) (part_at d.chunks name ++ x)) none_there
        ∙ (ap (λ (x : List ℕ). take (length x) (part_at d.chunks name ++ [])) (sym whole) ∙ (reads_last (payload_at d.chunks name) part p.holds c.most ∙ whole))
  ])

  count_all : suc (length t.names) ≡ blocks_of (length text)
  count_all =
      let count : length t.names ≡ blocks_of (length rest) = t.blocks in
      let all : length text ≡ length part + length rest = all_long in
      let some : 0 < length part = c.some in
      let most : length part ≤ 2040 = c.most in
      elim (c.full) as (λ _. suc (length t.names) ≡ blocks_of (length text)) [
        | inl full ↦ omega (arith, count, all, full)
        | inr empty ↦ let zero_rest : length rest ≡ 0 = ap length empty in omega (arith, count, all, zero_rest, some, most)
      ]

  -- a text's first part and the rest, by their lengths
  parts : (min (length text) 2040 ≡ length part) × (length rest ≡ length text - 2040)
  parts =
      let all : length text ≡ length part + length rest = all_long in
      let most : length part ≤ 2040 = c.most in
      elim (c.full) as (λ _. (min (length text) 2040 ≡ length part) × (length rest ≡ length text - 2040)) [
        | inl full ↦ (omega (arith, all, full), omega (arith, all, full))
        | inr empty ↦ let zero_rest : length rest ≡ 0 = ap length empty in (omega (arith, all, zero_rest, most), omega (arith, all, zero_rest, most))
      ]

  takes_all : TakesBlocks a.chunks d.chunks (name ∷ t.names) (length text)
  takes_all = (
    m.chunks,
    subst (λ (k : ℕ). TakesBlocks a.chunks m.chunks t.names k) parts.1 t.takes,
    subst (λ (k : ℕ). Takes (class_for (8 + k)) m.chunks d.chunks name) (sym parts.0) p.takes,
  )

  pub stores_more : TakesText a d name text
  stores_more =
      let one : m.taken ≡ more a.taken (blocks_of (length rest)) = t.taken in
      let two : d.taken ≡ more m.taken 1 = p.taken in
      let count : suc (length t.names) ≡ blocks_of (length text) = count_all in
      let before : length t.names ≡ blocks_of (length rest) = t.blocks in
      record {
        names = name ∷ t.names;
        chain = (record { is = refl; some = p.some; live = p.live; once = once }, chain_from d.chunks next (next_at d.chunks name) t.names (sym p.link) kept.chain);
        reads = reads_all;
        blocks = count_all;
        fresh = λ n there. elim there as (λ _. live_at a.chunks n ≡ None) [
          | inl e ↦ ap (live_at a.chunks) e ∙ (sym (t.others name once) ∙ p.fresh)
          | inr later ↦ t.fresh n later
        ];
        others = λ n away. p.others n (λ e. away (inl e)) ∙ t.others n (λ there. away (inr there));
        taken = omega (arith, one, two, count, before);
        given = p.given ∙ t.given;
        unnamed = p.first;
        takes = takes_all;
        pays = pays_cost a.chunks d.chunks (cost_of (length rest) + block_bytes (length part)) (cost_of (length text)) (cost_cut text part rest c) (pays_then a.chunks m.chunks d.chunks (cost_of (length rest)) (block_bytes (length part)) t.pays p.pays);
      }

cost_less : (text part rest : List ℕ) → Cut text part rest → cost_of (length rest) ≤ cost_of (length text)
cost_less text part rest c = let all : cost_of (length rest) + block_bytes (length part) ≡ cost_of (length text) = cost_cut text part rest c in omega (arith, all)

some_less : (a d : Chunks) (less most : ℕ) → less ≤ most → TakesSome a d less → TakesSome a d most
some_less a d less most le s = record {
  middle = s.middle;
  names = s.names;
  bytes = s.bytes;
  within = let within : s.bytes ≤ less = s.within in omega (arith, within, le);
  takes = s.takes;
  held = s.held;
}

rest_less : (text part rest : List ℕ) → Cut text part rest → length rest ≤ length text
rest_less text part rest c = let all : length text ≡ length part + length rest = ap length (sym c.all) ∙ length-append part rest in omega (arith, all)

-- where nothing is paid for no chunk is made
pays_held : (a d : Chunks) → Pays a d 0 → held_by d ≡ held_by a
pays_held a d pays =
    let p : PaysMore a d 0 0 0 = pays 0 0 (none_made refl) in
    let held : held_by d ≡ held_by a + 4096 * p.chunks = p.held in
    let none : p.chunks ≡ 0 = p.none refl in
    omega (arith, held, none)

-- the rest could not be stored
pub nothing_rest : (a m : ArenaModel) (text part rest : List ℕ) → Cut text part rest → TakesNothing a m rest → TakesNothing a m text
nothing_rest a m text part rest c t = record {
  same = t.same;
  blocks = t.blocks;
  taken = t.taken;
  given = t.given;
  takes = some_less a.chunks m.chunks (length rest) (length text) (rest_less text part rest c) t.takes;
  pays = pays_most a.chunks m.chunks (cost_of (length rest)) (cost_of (length text)) (cost_less text part rest c) t.pays;
}

-- the first part could not be stored, and the rest was given back
pub nothing_more : (a m d : ArenaModel) (text part rest : List ℕ) (next : ℕ) → Cut text part rest → TakesText a m next rest → GivesAll m d next → TakesNothing a d text
nothing_more a m d text part rest next c t gives =
    let g : GivesText m d t.names = gives t.names t.chain in
    let one : m.taken ≡ more a.taken (blocks_of (length rest)) = t.taken in
    let two : d.taken ≡ m.taken = g.taken in
    let three : d.given ≡ more m.given (length t.names) = g.given in
    let four : m.given ≡ a.given = t.given in
    let count : length t.names ≡ blocks_of (length rest) = t.blocks in
    record {
      same = λ n. elim (is_in t.names n) as (λ _. live_at d.chunks n ≡ live_at a.chunks n) [
        | inl there ↦ g.gone n there ∙ sym (t.fresh n there)
        | inr away ↦ g.others n away ∙ t.others n away
      ];
      blocks = length t.names;
      taken = omega (arith, one, two, count);
      given = omega (arith, three, four);
      takes = record {
        middle = m.chunks;
        names = t.names;
        bytes = length rest;
        within = rest_less text part rest c;
        takes = t.takes;
        held = pays_held m.chunks d.chunks g.pays;
      };
      pays = pays_most a.chunks d.chunks (cost_of (length rest) + 0) (cost_of (length text)) (let less : cost_of (length rest) ≤ cost_of (length text) = cost_less text part rest c in omega (arith, less)) (pays_then a.chunks m.chunks d.chunks (cost_of (length rest)) 0 t.pays g.pays);
    }

-- what holds in any case holds where there is an error
pub if_err : {A E : Type 0} (r : Result A E) (P : Type 0) → P → IfErr r (λ _. P)
if_err (Ok x) P p = tt
if_err (Err e) P p = p

-- the slices that are stored
pub cut_slices : (text : List ℕ) (count : ℕ) → false ≡ eqb (length text) 0 → count ≡ min (length text) 2040 → Cut text (take count text) (take (length text - count) (drop count text))
cut_slices text count some is =
    let ne : length text ≡ 0 → ⊥ = eqb-false (length text) 0 (sym some) in
    let long : length (drop count text) ≡ length text - count = length-drop count text in
    cut text (take count text) (take (length text - count) (drop count text)) count (omega (arith, ne)) is refl (ap (λ (k : ℕ). take k (drop count text)) (sym long) ∙ take-length (drop count text))

pub fits_taken : (chunks : Chunks) (taken given : ℕ) → IsArena chunks taken given → taken < 2 ^ 64
fits_taken chunks taken given arena = let counted : taken ≡ more given (lives chunks) = arena.counted in omega (arith, counted)
