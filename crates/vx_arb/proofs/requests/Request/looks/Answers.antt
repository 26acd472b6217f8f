use Rattle.std.proofs.Common.{sym, subst}
use Rattle.vx_arb.specs.Unmet.{AreSingle}
use Rattle.vx_arb.proofs.requests.Request.looks.Goals as goal

pub returns-clause-single : goal.returns-clause-single
returns-clause-single c = subst AreSingle (sym c.deref.ensures.value) c.self.invariant.single
