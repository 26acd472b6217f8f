-- How many frames stand in a chunk, where each begins, and how many chunks so many frames need.
use Rattle.std.proofs.Common.{inl, inr, ◌≡◌, ◌≢◌, ℕ, ◌+◌, ◌*◌, ◌/◌, ◌%◌, ◌^◌, ◌<◌, ◌≤◌, refl, sym, ap, subst, arith}
use Rattle.std.specs.Int.{div_ceil}
use Rattle.std.proofs.lemmas.Bool.{cases_eq, cases_lt}
use Rattle.std.proofs.lemmas.Grind.{div_ceil_times}
use Rattle.std.proofs.lemmas.Nat.{div-add-mod', mul-le, row_fits, div_below, le-div, mod_below}
use Rattle.vx_records.specs.Frame.{per_chunk}

pub per_some : (size : ℕ) → 8 ≤ size → size ≤ 4096 → 0 < per_chunk size
unfolding per_chunk
per_some size least most = le-div 1 4096 size (omega arith) (omega arith)

pub per_fits : (size : ℕ) → 8 ≤ size → per_chunk size * size ≤ 4096
unfolding per_chunk
per_fits size least =
    let whole : (4096 / size) * size + 4096 % size ≡ 4096 = div-add-mod' 4096 size in
    omega (arith, whole)

pub per_few : (size : ℕ) → 8 ≤ size → per_chunk size ≤ 512
per_few size least =
    let fits : per_chunk size * size ≤ 4096 = per_fits size least in
    let eight : per_chunk size * 8 ≤ per_chunk size * size = mul-le (per_chunk size) 8 (per_chunk size) size (omega arith) least in
    omega (arith, fits, eight)

-- a frame lies inside its chunk
pub frame_fits : (size number : ℕ) → 8 ≤ size → size ≤ 4096 → (number % per_chunk size) * size + size ≤ 4096
frame_fits size number least most =
    let some : 0 < per_chunk size = per_some size least most in
    let fits : per_chunk size * size ≤ 4096 = per_fits size least in
    let inside : (number % per_chunk size) * size + size ≤ per_chunk size * size = row_fits (number % per_chunk size) size (per_chunk size) size (mod_below number (per_chunk size) some) (omega arith) in
    omega (arith, fits, inside)

-- so many chunks hold so many frames, and one less would not
pub record Needs (count per chunks : ℕ) : Type 0 where
  pub enough : count ≤ chunks * per
  pub tight : chunks * per < count + per

pub needs : (count per chunks : ℕ) → 0 < per → chunks ≡ div_ceil count per → Needs count per chunks
needs count per chunks some is = subst (Needs count per) (sym is) (record { enough = (div_ceil_times count per some).0; tight = (div_ceil_times count per some).1 })

least_times : (a b d : ℕ) → a * d < b * d + d → a ≤ b
least_times a b d lt = elim (cases_lt b a) as (λ _. a ≤ b) [
  | inl less ↦
      let more : b * d + d ≤ a * d = row_fits b d a d less (omega arith) in
      absurd (omega (arith, more, lt))
  | inr le ↦ le
]

-- no other number of chunks is so
pub needed : (count per chunks : ℕ) → 0 < per → Needs count per chunks → chunks ≡ div_ceil count per
needed count per chunks some n =
    let e : ℕ = div_ceil count per in
    let there : Needs count per (div_ceil count per) = needs count per (div_ceil count per) some refl in
    let up : chunks ≤ div_ceil count per = least_times chunks (div_ceil count per) per (let a : count ≤ div_ceil count per * per = there.enough in let b : chunks * per < count + per = n.tight in omega (arith, a, b)) in
    let down : div_ceil count per ≤ chunks = least_times (div_ceil count per) chunks per (let a : count ≤ chunks * per = n.enough in let b : div_ceil count per * per < count + per = there.tight in omega (arith, a, b)) in
    omega (arith, up, down)

-- a number below the count stands in a chunk that is there
pub chunk_there : (count per chunks number : ℕ) → 0 < per → chunks ≡ div_ceil count per → number < count → number / per < chunks
chunk_there count per chunks number some is lt =
    let enough : count ≤ chunks * per = (needs count per chunks some is).enough in
    div_below number per chunks some (omega (arith, enough, lt))

-- at most 16 gibibytes of frames are fewer than 2^31 numbers
pub count_few : (size count chunks : ℕ) → 8 ≤ size → size ≤ 4096 → chunks ≤ 2 ^ 22 → chunks ≡ div_ceil count (per_chunk size) → count ≤ 2 ^ 31
count_few size count chunks least most few is =
    let enough : count ≤ chunks * per_chunk size = (needs count (per_chunk size) chunks (per_some size least most) is).enough in
    let all : chunks * per_chunk size ≤ 2 ^ 22 * 512 = mul-le chunks (per_chunk size) (2 ^ 22) 512 few (per_few size least) in
    omega (arith, enough, all)

-- where the next frame's chunk is not there yet, all are full
pub grown : (count per chunks : ℕ) → 0 < per → chunks ≡ div_ceil count per → count / per ≡ chunks → chunks + 1 ≡ div_ceil (count + 1) per
grown count per chunks some is full =
    let n : Needs count per chunks = needs count per chunks some is in
    let enough : count ≤ chunks * per = n.enough in
    let tight : chunks * per < count + per = n.tight in
    let whole : (count / per) * per + count % per ≡ count = div-add-mod' count per in
    let same : (count / per) * per ≡ chunks * per = ap (λ (q : ℕ). q * per) full in
    let more : (chunks + 1) * per ≡ chunks * per + per = omega arith in
    needed (count + 1) per (chunks + 1) some (record { enough = omega (arith, whole, same, enough, more); tight = omega (arith, whole, same, enough, more) })

pub roomy : (count per chunks : ℕ) → 0 < per → chunks ≡ div_ceil count per → count / per ≢ chunks → chunks ≡ div_ceil (count + 1) per
roomy count per chunks some is ne =
    let n : Needs count per chunks = needs count per chunks some is in
    let enough : count ≤ chunks * per = n.enough in
    let tight : chunks * per < count + per = n.tight in
    let room : count < chunks * per = elim (cases_eq count (chunks * per)) as (λ _. count < chunks * per) [
      | inl e ↦ absurd (ne (least_both count per chunks some e))
      | inr other ↦ omega (arith, enough, other)
    ] in
    needed (count + 1) per chunks some (record { enough = omega (arith, room); tight = omega (arith, tight) })
  where
    least_both : (count per chunks : ℕ) → 0 < per → count ≡ chunks * per → count / per ≡ chunks
    least_both count per chunks some e =
        let whole : (count / per) * per + count % per ≡ count = div-add-mod' count per in
        let below : count % per < per = mod_below count per some in
        let up : count / per ≤ chunks = least_times (count / per) chunks per (omega (arith, whole, e, some)) in
        let down : chunks ≤ count / per = least_times chunks (count / per) per (omega (arith, whole, e, below)) in
        omega (arith, up, down)

-- two frames of one chunk lie apart
pub apart : (size per a b : ℕ) → a % per < b % per → (a % per) * size + size ≤ (b % per) * size
apart size per a b lt = row_fits (a % per) size (b % per) size lt (omega arith)

pub other_place : (per a b : ℕ) → a ≢ b → a / per ≡ b / per → a % per ≢ b % per
other_place per a b ne same = λ e.
    let one : (a / per) * per + a % per ≡ a = div-add-mod' a per in
    let two : (b / per) * per + b % per ≡ b = div-add-mod' b per in
    let rows : (a / per) * per ≡ (b / per) * per = ap (λ (q : ℕ). q * per) same in
    ne (omega (arith, one, two, rows, e))

-- chunks of two lots of frames are at least those of both together
pub div_ceil_add : (a b per : ℕ) → 0 < per → div_ceil (a + b) per ≤ div_ceil a per + div_ceil b per
div_ceil_add a b per some =
    let one : a ≤ div_ceil a per * per = (needs a per (div_ceil a per) some refl).enough in
    let two : b ≤ div_ceil b per * per = (needs b per (div_ceil b per) some refl).enough in
    let all : div_ceil (a + b) per * per < (a + b) + per = (needs (a + b) per (div_ceil (a + b) per) some refl).tight in
    let sum : (div_ceil a per + div_ceil b per) * per ≡ div_ceil a per * per + div_ceil b per * per = omega arith in
    least_times (div_ceil (a + b) per) (div_ceil a per + div_ceil b per) per (omega (arith, one, two, all, sum))

pub div_ceil_more : (a b per : ℕ) → 0 < per → a ≤ b → div_ceil a per ≤ div_ceil b per
div_ceil_more a b per some le =
    let one : div_ceil a per * per < a + per = (needs a per (div_ceil a per) some refl).tight in
    let two : b ≤ div_ceil b per * per = (needs b per (div_ceil b per) some refl).enough in
    least_times (div_ceil a per) (div_ceil b per) per (omega (arith, one, two, le))
