-- A `&` to a deed holds nothing. Assumes `Logic`.
use denote.RattleType.{RattleType}
use denote.RawPtr.{RawPtr}
use denote.Param.Laws.{Laws}
use denote.Param.Shared.{copy_shared}
use denote.SharingLaws.{nothing_shr_laws}
use denote.Struct.Laws.{field_copy}
use denote.Struct.Lending.{of_Lends, Lends-nothing}
use Rattle.std.specs.declared.alloc.Allocator.{Ghosts}
use Rattle.std.specs.contracts.marker.PhantomData as marker
use Rattle.vx_raw.specs.contracts.block.Deed as Deed
use Rattle.vx_raw.proofs.block.Deed.TheLaw.Statement.{statement}

pub shares : (Z : RattleType) (g : Ghosts Z.Denot) (laws : Laws Z) → statement Z g laws
shares Z g laws =
    of_Lends (Deed.struct Z g) (Deed.the_codes Z.Denot Z.coded (marker.the_row RawPtr).coded) (Deed.the_heap Z g) (Deed.the_lent Z g) (λ c p. nothing_shr_laws)
    (copy_shared (marker.the_field RawPtr) (field_copy (marker.the_type RawPtr) tt), tt) (λ M 𝓤 𝓛 c p. Lends-nothing 𝓛 (Deed.the_heap Z g c) (Deed.the_row Z g).lives)
