use Rattle.std.proofs.Common.{ap, subst}
use Rattle.vx_arena.specs.Text.{ArenaModel}
use Rattle.vx_rows.specs.Container.{ContainerModel, Gives, blocks_of_row, live}
use Rattle.vx_rows.proofs.RowLemmas.{live_parts}
use Rattle.vx_rows.proofs.ContainerLemmas.{held_body, erased_container, erased_seen, erased_count}
use Rattle.vx_rows.proofs.container.RowContainer.erase.Goals as goal

pub release-requires-clause-held : goal.release-requires-clause-held
release-requires-clause-held c =
    let s = c.self.inside in
    let parts = live_parts s.arena s.columns s.layout s.records c.args.self.now.rows c.args.row (live c.args.self.now c.args.row) (ap (λ (m : ContainerModel). m.rows) c.self.view_is) c.requires in
    held_body s.arena s.arena s.columns s.layout s.records s.records s.empty.items s.scratch.items c.args.row (live c.args.self.now c.args.row) c.body.result.now c.self.invariant parts c.body.ensures.is

pub invariant_of-self : goal.invariant_of-self
invariant_of-self c =
    let s = c.self.inside in
    let parts = live_parts s.arena s.columns s.layout s.records c.args.self.now.rows c.args.row (live c.args.self.now c.args.row) (ap (λ (m : ContainerModel). m.rows) c.self.view_is) c.requires in
    erased_container s.arena c.release.new.arena s.columns s.layout s.records c.erase.new.self s.empty.items s.scratch.items c.args.row (live c.args.self.now c.args.row) c.body.result.now c.self.invariant parts c.body.ensures.is c.release.ensures c.erase.ensures

pub returns-clause-rows : goal.returns-clause-rows
returns-clause-rows c =
    let s = c.self.inside in
    let rows = ap (λ (m : ContainerModel). m.rows) c.self.view_is in
    let parts = live_parts s.arena s.columns s.layout s.records c.args.self.now.rows c.args.row (live c.args.self.now c.args.row) rows c.requires in
    erased_seen s.arena c.release.new.arena s.columns s.layout s.records c.erase.new.self s.empty.items s.scratch.items c.args.row (live c.args.self.now c.args.row) c.body.result.now c.self.invariant parts c.body.ensures.is c.args.self.now.rows rows c.release.ensures c.erase.ensures

pub returns-clause-gives : goal.returns-clause-gives
returns-clause-gives c =
    let s = c.self.inside in
    let parts = live_parts s.arena s.columns s.layout s.records c.args.self.now.rows c.args.row (live c.args.self.now c.args.row) (ap (λ (m : ContainerModel). m.rows) c.self.view_is) c.requires in
    let gives = erased_count s.arena c.release.new.arena s.columns s.layout s.records c.erase.new.self s.empty.items s.scratch.items c.args.row (live c.args.self.now c.args.row) c.body.result.now c.self.invariant parts c.body.ensures.is c.release.ensures in
    subst (λ (a : ArenaModel). Gives a c.release.new.arena (blocks_of_row (live c.args.self.now c.args.row))) (ap (λ (m : ContainerModel). m.arena) c.self.view_is) gives
