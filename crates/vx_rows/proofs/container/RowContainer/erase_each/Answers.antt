use Rattle.std.proofs.Common.{◌≡◌, ◌^◌, ◌<◌, refl, ap, ◌∙◌, arith}
use Rattle.vx_arena.specs.Text.{ArenaModel}
use Rattle.vx_rows.proofs.BatchLaw.{erases_none, erases_more, gives_none, gives_more}
use Rattle.vx_rows.proofs.container.RowContainer.erase_each.Goals as goal

pub loop-number-init : goal.loop-number-init
loop-number-init c =
    let same : c.arena.result.now.given ≡ c.args.self.now.arena.given = ap (λ (a : ArenaModel). a.given) c.arena.ensures in
    let fits : c.args.self.now.arena.given < 2 ^ 64 = omega (arith, same, c.given-given.ensures, c.given-given.type_inv) in
    record { rows = erases_none c.args.numbers.now c.args.self.now; gives = gives_none c.args.self.now.arena fits; kinds = refl; extras = refl }

pub loop-number-preserved : goal.loop-number-preserved
loop-number-preserved c =
    let i = c.loop-number.number-index in
    let now = c.loop-number.self in
    let so_far = c.loop-number.invariant in
    record {
      rows = erases_more i c.args.self.now now c.erase.new.self c.args.numbers.now c.requires.live c.requires.apart c.loop-number-test.true so_far.rows c.erase.ensures.rows;
      gives = gives_more i c.args.self.now now c.erase.new.self c.args.numbers.now c.requires.live c.requires.apart c.loop-number-test.true so_far.rows so_far.gives c.erase.ensures.gives;
      kinds = c.erase.ensures.kinds ∙ so_far.kinds;
      extras = c.erase.ensures.extras ∙ so_far.extras;
    }
