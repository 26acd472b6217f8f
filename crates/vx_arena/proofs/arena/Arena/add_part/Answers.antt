use Rattle.std.proofs.Common.{length, sym, subst}
use Rattle.vx_arena.specs.Text.{ArenaModel, CanFollow, AddsPart, more}
use Rattle.vx_arena.proofs.PartSteps.{class_fits, link_inside, linked_live, part_inside, part_added, arena_more}
use Rattle.vx_arena.proofs.arena.Arena.add_part.Goals as goal

pub take-requires : goal.take-requires
take-requires c = class_fits c.class_for-class.result (length c.args.part.now) c.class_for-class.ensures

pub write-requires-clause-inside : goal.write-requires-clause-inside
write-requires-clause-inside c = link_inside c.self.inside.blocks c.take.new.blocks c.take.new.blocks c.take.new.blocks c.in_ok-name.name c.args.next c.class_for-class.result c.args.part.now c.to_le_bytes.result c.requires.part c.class_for-class.ensures c.ranges.next.fits c.in_ok-name.ensures.ok c.to_le_bytes.ensures

pub write-requires-2-clause-live : goal.write-requires-2-clause-live
write-requires-2-clause-live c = linked_live c.self.inside.blocks c.take.new.blocks c.write.new.self c.write.new.self c.in_ok-name.name c.args.next c.class_for-class.result c.args.part.now c.to_le_bytes.result c.requires.part c.class_for-class.ensures c.ranges.next.fits c.in_ok-name.ensures.ok c.to_le_bytes.ensures c.write.ensures

pub write-requires-2-clause-inside : goal.write-requires-2-clause-inside
write-requires-2-clause-inside c = part_inside c.self.inside.blocks c.take.new.blocks c.write.new.self c.write.new.self c.in_ok-name.name c.args.next c.class_for-class.result c.args.part.now c.to_le_bytes.result c.requires.part c.class_for-class.ensures c.ranges.next.fits c.in_ok-name.ensures.ok c.to_le_bytes.ensures c.write.ensures

pub invariant_of-self-2 : goal.invariant_of-self-2
invariant_of-self-2 c = arena_more c.self.inside.blocks c.take.new.blocks c.write.new.self c.write-2.new.self c.in_ok-name.name c.args.next c.class_for-class.result c.args.part.now c.to_le_bytes.result c.requires.part c.class_for-class.ensures c.ranges.next.fits c.in_ok-name.ensures.ok c.to_le_bytes.ensures c.write.ensures c.write-2.ensures (subst (λ (v : ArenaModel). CanFollow v.chunks c.args.next) (sym c.self.view_is) c.requires.next) c.self.inside.taken c.self.inside.given c.self.invariant

pub returns-clause-ok : goal.returns-clause-ok
returns-clause-ok c = subst (λ (v : ArenaModel). AddsPart v (record { chunks = c.write-2.new.self; taken = more c.self.inside.taken 1; given = c.self.inside.given }) c.in_ok-name.name c.args.next c.args.part.now) c.self.view_is (part_added c.self.inside.blocks c.take.new.blocks c.write.new.self c.write-2.new.self c.in_ok-name.name c.args.next c.class_for-class.result c.args.part.now c.to_le_bytes.result c.requires.part c.class_for-class.ensures c.ranges.next.fits c.in_ok-name.ensures.ok c.to_le_bytes.ensures c.write.ensures c.write-2.ensures (subst (λ (v : ArenaModel). CanFollow v.chunks c.args.next) (sym c.self.view_is) c.requires.next) c.self.inside.taken c.self.inside.given c.self.invariant)
