use Rattle.std.proofs.Common.{◌≡◌, int_cmp}
use Rattle.std.proofs.Math.Facts.{to_z-of_z}
use Rattle.vx_value.proofs.OrderLemmas.{cmp_values-Int}
use Rattle.vx_eval.proofs.compare.passes.Goals as goal

pub returns : goal.returns
returns g c =
    let order : c.cmp.result ≡ int_cmp c.args.x c.args.y = rw (to_z-of_z c.ranges.x, to_z-of_z c.ranges.y) at c.cmp.ensures in
    rw (cmp_values-Int c.args.x c.args.y, ← order) c.of_order.ensures
