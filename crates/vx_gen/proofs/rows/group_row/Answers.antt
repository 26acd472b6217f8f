use Rattle.std.proofs.Common.{string_bytes, arith}
use Rattle.vx_gen.proofs.DrawLemmas.{short_name}
use Rattle.vx_gen.proofs.rows.group_row.Goals as goal

pub text-requires : goal.text-requires
text-requires c = short_name c.args.group (string_bytes c.in_ok-name.name) c.as_str.result.now c.as_str.ensures.value c.in_ok-name.ensures.ok (omega (arith, c.ranges.group.fits))
