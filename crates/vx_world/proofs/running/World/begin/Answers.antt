use Rattle.std.proofs.Common.{sym, ◌∙◌}
use Rattle.vx_world.proofs.Changes.{seated}
use Rattle.vx_world.proofs.Requesting.{begin_tied, not_lacking_made, begun_made}
use Rattle.vx_world.proofs.running.World.begin.Goals as goal

pub begin_request-requires-clause-tied : goal.begin_request-requires-clause-tied
begin_request-requires-clause-tied g c =
    begin_tied g.M.Member _ c.args.self.now c.self.view_is c.args.job c.args.hint c.seat_in-place.result c.index.result.now c.self.invariant c.requires
    (seated g.M.Member c.self.inside.members.items c.deref.result.now c.args.job c.seat_in-place.result c.index.result.now c.deref.ensures.value c.seat_in-place.ensures.place c.index.ensures)

pub returns-in-None-clause-step : goal.returns-in-None-clause-step
returns-in-None-clause-step g c =
    not_lacking_made g.M.Member _ c.args.self.now c.self.view_is c.args.job c.args.hint c.seat_in-place.result c.index.result.now c.begin_request.new.self c.requires
    (seated g.M.Member c.self.inside.members.items c.deref.result.now c.args.job c.seat_in-place.result c.index.result.now c.deref.ensures.value c.seat_in-place.ensures.place c.index.ensures)
    (sym c.in-None.is ∙ c.in_ok-begin_request.ensures.request) c.in_ok-begin_request.ensures.books

pub returns-in-Some-clause-step : goal.returns-in-Some-clause-step
returns-in-Some-clause-step g c =
    begun_made g.M.Member _ c.args.self.now c.self.view_is c.args.job c.args.hint c.seat_in-place.result c.index.result.now c.in-Some.request c.begin_request.new.self c.requires
    (seated g.M.Member c.self.inside.members.items c.deref.result.now c.args.job c.seat_in-place.result c.index.result.now c.deref.ensures.value c.seat_in-place.ensures.place c.index.ensures)
    (sym c.in-Some.is ∙ c.in_ok-begin_request.ensures.request) c.in_ok-begin_request.ensures.books
