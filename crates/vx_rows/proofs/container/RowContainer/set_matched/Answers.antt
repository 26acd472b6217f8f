use Rattle.std.proofs.Common.{refl, ap, ◌∙◌, true, set, Some}
use Rattle.vx_records.specs.Record.{record_at}
use Rattle.vx_rows.specs.Container.{ContainerModel, LiveRow, live}
use Rattle.vx_rows.proofs.RowLemmas.{live_parts, set_there}
use Rattle.vx_rows.proofs.ContainerLemmas.{changed_container, changed_seen, matched_changed, seen_as}
use Rattle.vx_rows.proofs.container.RowContainer.set_matched.Goals as goal

pub invariant_of-self : goal.invariant_of-self
invariant_of-self c =
    let s = c.self.inside in
    let parts = live_parts s.arena s.columns s.layout s.records c.args.self.now.rows c.args.row (live c.args.self.now c.args.row) (ap (λ (m : ContainerModel). m.rows) c.self.view_is) c.requires in
    changed_container s.arena s.columns s.layout s.records c.set_matched.new.self s.empty.items s.scratch.items c.args.row (live c.args.self.now c.args.row) (record (record_at s.records c.args.row) { matched = true }) c.self.invariant parts refl c.set_matched.ensures.set

pub returns-clause-set : goal.returns-clause-set
returns-clause-set c =
    let s = c.self.inside in
    let rows = ap (λ (m : ContainerModel). m.rows) c.self.view_is in
    let parts = live_parts s.arena s.columns s.layout s.records c.args.self.now.rows c.args.row (live c.args.self.now c.args.row) rows c.requires in
    let seen = changed_seen s.arena s.columns s.layout s.records c.set_matched.new.self s.empty.items s.scratch.items c.args.row (live c.args.self.now c.args.row) (record (record_at s.records c.args.row) { matched = true }) c.self.invariant parts refl c.set_matched.ensures.set c.args.self.now.rows rows in
    let row = matched_changed s.arena s.columns s.layout s.records c.args.row (live c.args.self.now c.args.row) parts in
    seen_as c.args.self.now _ _ _ _ _ s.arena c.self.view_is (seen ∙ ap (λ (r : LiveRow). set c.args.self.now.rows c.args.row (Some r)) row)

pub returns-clause-there : goal.returns-clause-there
returns-clause-there c =
    let s = c.self.inside in
    let rows = ap (λ (m : ContainerModel). m.rows) c.self.view_is in
    let parts = live_parts s.arena s.columns s.layout s.records c.args.self.now.rows c.args.row (live c.args.self.now c.args.row) rows c.requires in
    let seen = changed_seen s.arena s.columns s.layout s.records c.set_matched.new.self s.empty.items s.scratch.items c.args.row (live c.args.self.now c.args.row) (record (record_at s.records c.args.row) { matched = true }) c.self.invariant parts refl c.set_matched.ensures.set c.args.self.now.rows rows in
    set_there c.args.self.now.rows _ c.args.row (live c.args.self.now c.args.row) _ c.requires seen
