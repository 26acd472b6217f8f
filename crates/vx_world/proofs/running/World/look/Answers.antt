use Rattle.std.proofs.Common.{sym, ◌∙◌}
use Rattle.vx_world.proofs.Changes.{seated}
use Rattle.vx_world.proofs.Requesting.{look_live, look_made}
use Rattle.vx_world.proofs.running.World.look.Goals as goal

pub look-requires-clause-live : goal.look-requires-clause-live
look-requires-clause-live g c =
    look_live g.M.Member _ c.args.self.now c.self.view_is c.args.job c.seat_in-place.result c.index.result.now c.requires
    (seated g.M.Member c.self.inside.members.items c.deref.result.now c.args.job c.seat_in-place.result c.index.result.now c.deref.ensures.value c.seat_in-place.ensures.place c.index.ensures)

pub returns-clause-step : goal.returns-clause-step
returns-clause-step g c =
    look_made g.M.Member _ c.args.self.now c.self.view_is c.args.job c.seat_in-place.result c.index.result.now c.unwrap-request.result c.look.new.request c.look.new.self c.requires
    (seated g.M.Member c.self.inside.members.items c.deref.result.now c.args.job c.seat_in-place.result c.index.result.now c.deref.ensures.value c.seat_in-place.ensures.place c.index.ensures) (sym c.take.ensures.value ∙ c.unwrap-request.ensures)
    c.look.ensures.books c.look.ensures.request
