-- Bytes side by side, and room beside them. Assumes `Logic`.
use Rattle.std.proofs.Common.{◌≡◌, ℕ, zero, suc, ◌+◌, ◌-◌, ◌<◌, List, [], ◌∷◌, ◌++◌, length, replicate, refl, ap, arith, w8}
use Rattle.std.proofs.lemmas.List.{length-replicate}
use seplogic.Ra.Ura.{Ura}
use base.Fraction.{full_share}
use base.Fml.{Fml, fat, froom, fsep}
use base.Logic.{ent, sep, via}
use mir.Syntax.{ty_int}
use mir.Val.{vint}
use types.Logic.{Logic, sem}
use types.Kit.{‵, ◌⊛◌, ◌$◌, ◌∵◌, !, qed, by, move, keep, use1, use2, split, rewrite, fsplit, fjoin, done}
use types.SemTy.{cells}
use denote.Builtin.{u8}
use denote.Index.{whole_out, whole_in}
use denote.Memory.{mem, part_at}
use denote.Plain.{uint_in}
use denote.RawPtr.Bytes.{bytes, bytes_glue, bytes-room}
use denote.Steps.{nothing}
use Rattle.vx_raw.specs.Ownership.{bytes_type}

-- so many zeros
abbrev pub zeros : ℕ → ℕ → ℕ → Fml
zeros i b o = bytes full_share (replicate i 0) b o

-- the first i of n bytes are zeros, and nothing was written to the others yet
abbrev pub begun : ℕ → ℕ → ℕ → ℕ → Fml
begun n b o i = fsep (zeros i b o) (froom (bytes_type (n - i)) b (o + i))

-- the same but for the first of the others
abbrev pub besides : ℕ → ℕ → ℕ → ℕ → Fml
besides n b o i = fsep (zeros i b o) (froom (bytes_type (n - suc i)) b (o + suc i))

one_longer : (i x : ℕ) → replicate i x ++ x ∷ [] ≡ replicate (suc i) x
one_longer zero x = refl
one_longer (suc i) x = ap (λ (xs : List ℕ). x ∷ xs) (one_longer i x)

module _ {M : Type 1} {𝓤 : Ura M} (𝓛 : Logic 𝓤) (b o : ℕ) where
  open 𝓛 use {H}

  -- bytes that are given up are room
  pub given_up : (xs : List ℕ) → ent 𝓤 (sem 𝓛 (cells (mem u8) xs b o)) (H.room (bytes_type (length xs)) b o)
  given_up xs = via 𝓤 (sem 𝓛 (bytes full_share xs b o)) (whole_out 𝓛 u8 xs b o) (bytes-room 𝓛 xs b o)

  pub all_room : (n : ℕ) → ent 𝓤 (H.room (bytes_type n) b o) (sem 𝓛 (begun n b o 0))
  all_room n =
      qed 𝓛 (‵ (froom (bytes_type n) b o) ∷ []) ∵ rewrite ! 0 (λ (k : ℕ). ‵ (froom (bytes_type k) b o)) {x = n - 0} (omega arith) refl $
      rewrite ! 0 (λ (k : ℕ). ‵ (froom (bytes_type (n - 0)) b k)) {x = o + 0} (omega arith) refl $ nothing ! $ done !

  pub all_zeros : (n : ℕ) → ent 𝓤 (sem 𝓛 (begun n b o n)) (sem 𝓛 (cells (mem u8) (replicate n 0) b o))
  all_zeros n = qed 𝓛 (‵ (begun n b o n) ∷ []) ∵ fsplit ! $ keep ! (0 ∷ []) $ by ! (whole_in 𝓛 u8 (replicate n 0) b o)

  module _ (n i : ℕ) (less : i < n) where
    -- the place that comes next
    pub next_place : ent 𝓤 (sem 𝓛 (begun n b o i)) (sep 𝓤 (H.room (ty_int w8) b (i + o)) (sem 𝓛 (besides n b o i)))
    next_place =
        qed 𝓛 (‵ (begun n b o i) ∷ []) ∵ fsplit ! $ move ! (1 ∷ []) $ rewrite ! 0 (λ (k : ℕ). ‵ (froom (bytes_type k) b (o + i))) {x = suc (n - suc i)} (omega arith) refl $
        use1 𝓛 (‵ (froom (ty_int w8) b (o + i)) ⊛ ‵ (froom (bytes_type (n - suc i)) b (o + i + 1))) (𝓛.laws.room_uncons (ty_int w8) (n - suc i) b (o + i)) $ split ! $
        rewrite ! 0 (λ (k : ℕ). ‵ (froom (ty_int w8) b k)) {x = i + o} (omega arith) refl $ rewrite ! 1 (λ (k : ℕ). ‵ (froom (bytes_type (n - suc i)) b k)) {x = o + suc i} (omega arith) refl $
        move ! (0 ∷ 2 ∷ []) $ done !

    -- a zero was written there
    pub one_zero : ent 𝓤 (sep 𝓤 (H.at full_share (ty_int w8) b (i + o) (vint w8 0)) (sem 𝓛 (besides n b o i))) (sem 𝓛 (begun n b o (suc i)))
    one_zero =
        let before : List ℕ = replicate i 0 in let long : length before ≡ i = length-replicate i 0 in
        qed 𝓛 (‵ (fat full_share (ty_int w8) b (i + o) (vint w8 0)) ∷ ‵ (besides n b o i) ∷ []) ∵ move ! (1 ∷ []) $ fsplit ! $ move ! (2 ∷ []) $
        rewrite ! 0 (λ (k : ℕ). ‵ (fat full_share (ty_int w8) b k (vint w8 0))) {x = o + length before} (omega (arith, long)) refl $
        use1 𝓛 (‵ (part_at u8 full_share 0 b (o + length before))) (uint_in 𝓛 full_share w8 0 b (o + length before)) $ nothing ! $ move ! (1 ∷ 0 ∷ []) $ fjoin ! $ move ! (1 ∷ 0 ∷ []) $
        use2 𝓛 (‵ (bytes full_share (before ++ 0 ∷ []) b o)) (bytes_glue 𝓛 full_share before (0 ∷ []) b o) $
        rewrite ! 0 (λ (xs : List ℕ). ‵ (bytes full_share xs b o)) (one_longer i 0) refl $ fjoin ! $ done !
