use Rattle.std.proofs.Common.{refl, ◌≤◌, ◌∙◌, arith}
use Rattle.vx_arena.proofs.Parts.{none_yet, none_more, lacks, gives_more}
use Rattle.vx_arena.proofs.part.find.Goals as goal

pub loop-i-init : goal.loop-i-init
loop-i-init c = record { same = refl; none = none_yet c.args.blocks.now c.args.class c.args.class refl }

pub loop-i-preserved : goal.loop-i-preserved
loop-i-preserved c = record {
  same = c.in_default.ensures.same ∙ c.loop-i.invariant.same;
  none = none_more c.args.blocks.now c.loop-i.blocks c.pop.new.self c.args.class c.loop-i.i c.loop-i.invariant.none c.loop-i.invariant.same c.in_default.ensures;
}

pub returns-in-Some : goal.returns-in-Some
returns-in-Some c = gives_more c.args.blocks.now c.loop-i.blocks c.pop.new.self c.args.class c.loop-i.i c.in-Some.name c.loop-i.auto.i c.loop-i-test.true c.loop-i.invariant.same c.in-Some.ensures

pub returns : goal.returns
returns c =
    let ge : 8 ≤ c.loop-i.i = c.loop-i-test.false in
    lacks c.args.blocks.now c.loop-i.blocks c.args.class c.requires (λ class from to. c.loop-i.invariant.none class from (omega (arith, ge, to))) c.loop-i.invariant.same
