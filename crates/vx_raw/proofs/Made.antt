-- The machine values of a block's parts, which the parts determine, and what a block that was just taken is made of.
-- Assumes `Logic`.
use Rattle.std.proofs.Common.{◌≡◌, ℕ, List, [], ◌∷◌, refl}
use seplogic.Ra.Ura.{Ura}
use mir.Val.{Val, vstruct, vcons, vnil, of_list}
use base.Logic.{ent, sep}
use types.Logic.{Logic, sem}
use types.Kit.{‵, ◌$◌, ◌∵◌, !, qed, by, move, fjoin, fpack, feq_i, done}
use denote.Laws.{Is}
use denote.RattleType.{RattleType, Denots, Valss, owns, flat}
use denote.RawPtr.{Ptr, RawPtr, ptr_val, rawptr_vals, rawptr_Tells}
use denote.Steps.{nothing, owned}
use denote.Struct.Declared as Declared
use denote.Struct.Owning as Owning
use denote.Struct.Struct.{Shape, Struct, Struct-Tells, Struct-Makes, within}
use Rattle.std.proofs.RcSteps.{word}
use Rattle.std.specs.declared.alloc.Allocator.{Ghosts}
use Rattle.std.specs.contracts.marker.PhantomData as marker
use Rattle.vx_raw.specs.Ownership.{bytes_type, room_own}
use Rattle.vx_raw.specs.contracts.block.Start as Start
use Rattle.vx_raw.specs.contracts.block.Room as Room
use Rattle.vx_raw.specs.contracts.block.Bytes as Bytes
use Rattle.vx_raw.specs.contracts.block.Deed as Deed
use Rattle.vx_raw.specs.contracts.block.Taken as Taken

-- `Room` and `Bytes` have no bytes, and `Deed` has one field without any
abbrev pub empty_val : Val
empty_val = vstruct vnil

abbrev pub deed_val : Val
deed_val = vstruct (vcons empty_val vnil)

abbrev pub taken_val : Ptr → Val
taken_val p = vstruct (vcons (word p) (vcons empty_val (vcons deed_val vnil)))

pub start_told : (s : Start.the_row.Denot) (vs : List Val) → Is Start.the_row s vs → vs ≡ word s.at ∷ []
start_told s = Struct-Tells (Declared.shape Start.the_type) (rawptr_vals, tt) (rawptr_Tells, tt) (s.at, tt)

pub room_told : (r : Room.the_row.Denot) (vs : List Val) → Is Room.the_row r vs → vs ≡ empty_val ∷ []
room_told r vs is = Struct-Tells (Owning.shape Room.the_type) tt tt tt vs is.0

pub bytes_told : (r : Bytes.the_row.Denot) (vs : List Val) → Is Bytes.the_row r vs → vs ≡ empty_val ∷ []
bytes_told r vs is = Struct-Tells (Owning.shape Bytes.the_type) tt tt tt vs is.0

module _ (Z : RattleType) (g : Ghosts Z.Denot) where
  pub deed_told : (d : (Deed.the_row Z g).Denot) (vs : List Val) → Is (Deed.the_row Z g) d vs → vs ≡ deed_val ∷ []
  deed_told d vs is = Struct-Tells (Owning.shape (Deed.the_type Z g)) ((λ _. empty_val ∷ []), tt) (Struct-Tells (Declared.shape (marker.the_type RawPtr)) tt tt, tt) (tt, tt) vs is.0

module _ {M : Type 1} {𝓤 : Ura M} (𝓛 : Logic 𝓤) where
  -- a struct is what its fields are
  packed : (S : Shape) (a : Denots S.fields) (vss : Valss S.fields) → ent 𝓤 (sem 𝓛 (owns S.fields a vss)) (sem 𝓛 ((Struct S).own_val a (vstruct (of_list (flat S.fields vss)) ∷ [])))
  packed S a vss =
      let v : Val = vstruct (of_list (flat S.fields vss)) in
      qed 𝓛 (‵ (owns S.fields a vss) ∷ []) ∵ feq_i ! (List Val) (v ∷ []) (v ∷ []) refl $ fjoin ! $ fpack ! (Valss S.fields) (within S a (v ∷ [])) vss $ done !

  -- the room, and the right to give it back
  module _ (Z : RattleType) (g : Ghosts Z.Denot) (p : Ptr) (n : ℕ) (h : Z.Denot) where
    abbrev pub taken : (Taken.the_row Z g).Denot
    taken = record { start = record { at = p }; room = record { at = p; len = n }; deed = record { of = record {}; at = p; len = n; alloc = h } }

    pub taken_made : ent 𝓤 (sep 𝓤 (sem 𝓛 (room_own p n)) (sem 𝓛 (g.dealloc_token h (bytes_type n) p))) (sem 𝓛 ((Taken.the_row Z g).own_val taken (taken_val p ∷ [])))
    taken_made =
        let start : RattleType = Struct (Declared.shape Start.the_type) in let room : RattleType = Struct (Owning.shape Room.the_type) in let deed : RattleType = Struct (Owning.shape (Deed.the_type Z g)) in
        qed 𝓛 (‵ (room_own p n) ∷ ‵ (g.dealloc_token h (bytes_type n) p) ∷ []) ∵
        nothing ! $ move ! (2 ∷ []) $
        owned ! deed (Is deed) (Struct-Makes 𝓛 (Owning.shape (Deed.the_type Z g)) ((λ _ _ _. (tt, tt)), tt)) (tt, tt) (deed_val ∷ []) ((empty_val ∷ [], tt), (refl, ((tt, (refl, tt)), tt))) $ fjoin ! $ fjoin ! $ move ! (1 ∷ []) $
        owned ! room (Is room) (Struct-Makes 𝓛 (Owning.shape Room.the_type) tt) tt (empty_val ∷ []) (tt, (refl, tt)) $ fjoin ! $ fjoin ! $
        owned ! start (Is start) (Struct-Makes 𝓛 (Declared.shape Start.the_type) ((λ _ _. tt), tt)) (p, tt) (word p ∷ []) ((ptr_val p ∷ [], tt), (refl, (refl, tt))) $ fjoin ! $
        by ! (packed (Declared.shape (Taken.the_type Z g)) ((p, tt), (taken.room, (taken.deed, tt))) (word p ∷ [], (empty_val ∷ [], (deed_val ∷ [], tt))))
