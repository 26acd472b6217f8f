use Rattle.std.proofs.Common.{sym, ◌∙◌, ◌≡◌, subst, arith, get_or, List}
use Rattle.std.proofs.lemmas.List.{take_all}
use Rattle.vx_rows.specs.Body.{Stored, all_stored, null, seen}
use Rattle.vx_rows.specs.Texts.{Frees, IsKept}
use Rattle.vx_rows.proofs.BodyLemmas.{stored_at, stored_many}
use Rattle.vx_rows.proofs.Taking.{frees_none, frees_more, kept_next}
use Rattle.vx_rows.proofs.texts.release.Goals as goal

pub loop-which-init : goal.loop-which-init
loop-which-init c = frees_none c.args.arena.now (omega (arith, c.given-given.ensures, c.given-given.type_inv))

pub give-requires : goal.give-requires
give-requires c =
    let xs = all_stored c.args.layout.now c.args.body.now in
    let is : get_or xs c.loop-which.which null ≡ seen c.field.result = stored_at c.args.layout.now c.args.body.now c.loop-which.which (omega (arith, c.loop-which-test.true, c.count-which-end.ensures)) ∙ sym c.field.ensures in
    subst (λ (s : Stored). IsKept c.loop-which.arena s) is (kept_next c.args.arena.now c.loop-which.arena xs c.loop-which.which (omega (arith, c.loop-which-test.true, c.count-which-end.ensures, stored_many c.args.layout.now c.args.body.now)) c.requires.held c.loop-which.invariant)

pub loop-which-preserved : goal.loop-which-preserved
loop-which-preserved c =
    let xs = all_stored c.args.layout.now c.args.body.now in
    let is : get_or xs c.loop-which.which null ≡ seen c.field.result = stored_at c.args.layout.now c.args.body.now c.loop-which.which (omega (arith, c.loop-which-test.true, c.count-which-end.ensures)) ∙ sym c.field.ensures in
    frees_more c.args.arena.now c.loop-which.arena c.give.new.arena xs c.loop-which.which (seen c.field.result) (omega (arith, c.loop-which-test.true, c.count-which-end.ensures, stored_many c.args.layout.now c.args.body.now)) is c.loop-which.invariant c.give.ensures

pub returns : goal.returns
returns c =
    let xs = all_stored c.args.layout.now c.args.body.now in
    subst (λ (l : List Stored). Frees c.args.arena.now c.loop-which.arena l) (take_all c.loop-which.which xs (omega (arith, c.loop-which-test.false, c.count-which-end.ensures, stored_many c.args.layout.now c.args.body.now))) c.loop-which.invariant
