use Rattle.std.proofs.Common.{arith, refl}
use Rattle.vx_world.proofs.Runs.{goes_none, goes_more, goes_ran}
use Rattle.vx_world.proofs.running.World.apply_all.Goals as goal

pub loop-event-init : goal.loop-event-init
loop-event-init g c = record {
  goes = rw c.reserve.ensures.items (goes_none g.M.Member c.args.self.now c.args.events.now c.args.replies.now.items);
  world = c.arb-arb.ensures.rule;
  full = omega (arith, c.reserve.ensures.len);
  fits = omega (arith, c.in_ok-reserve.ensures.ok, c.reserve.ensures.len);
}

pub returns-in_err-reply-clause-run : goal.returns-in_err-reply-clause-run
returns-in_err-reply-clause-run g c =
    rw c.in_err-reply.ensures.err (goes_ran g.M.Member c.args.self.now c.loop-event.self c.args.events.now c.args.replies.now.items c.loop-event.replies.items c.loop-event.event-index c.loop-event.invariant.goes)

pub push_reserved-requires : goal.push_reserved-requires
push_reserved-requires g c = omega (arith, c.loop-event.invariant.fits, c.loop-event-test.true)

pub loop-event-preserved : goal.loop-event-preserved
loop-event-preserved g c = record {
  goes = rw c.push_reserved.ensures.items (goes_more g.M.Member c.args.self.now c.loop-event.self c.apply.new.self c.args.events.now c.args.replies.now.items c.loop-event.replies.items c.loop-event.event-index _ _ c.in_ok-reply.reply c.loop-event.invariant.goes c.loop-event-test.true refl c.in_ok-reply.ensures.step c.apply.ensures.rule);
  world = c.apply.ensures.rule;
  full = omega (arith, c.loop-event.invariant.full, c.push_reserved.ensures.len);
  fits = omega (arith, c.loop-event.invariant.fits, c.push_reserved.ensures.len, c.push_reserved.ensures.capacity);
}

pub returns-clause-run : goal.returns-clause-run
returns-clause-run g c = goes_ran g.M.Member c.args.self.now c.loop-event.self c.args.events.now c.args.replies.now.items c.loop-event.replies.items c.loop-event.event-index c.loop-event.invariant.goes

pub returns-clause-all : goal.returns-clause-all
returns-clause-all g c = omega (arith, c.loop-event.invariant.full, c.loop-event-test.false, c.loop-event.auto.event-index-end)

pub returns-clause-rule : goal.returns-clause-rule
returns-clause-rule g c = c.loop-event.invariant.world
