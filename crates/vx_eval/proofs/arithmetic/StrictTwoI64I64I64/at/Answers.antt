use Rattle.std.proofs.Common.{refl, ◌≡◌}
use Rattle.std.proofs.Math.Facts.{to_z-of_z}
use Rattle.vx_value.specs.declared.value.Value.TheVariants.{Int}
use Rattle.vx_expr.specs.Eval as eval
use Rattle.vx_eval.specs.Got.{got_under}
use Rattle.vx_eval.proofs.MarkLemmas.{strict_two}
use Rattle.vx_eval.proofs.arithmetic.StrictTwoI64I64I64.at.Goals as goal

pub returns : goal.returns
returns g c =
    let own : got_under c.at-value.result.1 (Int c.at-value.result.0) ≡ g.O.IntOp.meaning c.args.x c.args.y =
    rw (to_z-of_z c.ranges.x, to_z-of_z c.ranges.y) at c.at-value.ensures.got in
    rw (to_z-of_z c.at-value.ensures.fits, c.marked.ensures, c.strictest.ensures)
    (strict_two (eval.of_ints g.O.IntOp.meaning) (Int c.args.x) (Int c.args.y) (Int c.at-value.result.0) c.at-value.result.1 c.args.left c.args.right refl refl refl own)
