use Rattle.std.proofs.Common.{rules}
use Rattle.vx_rows.proofs.NullLemmas.{sets, clears}
use Rattle.vx_rows.proofs.nulls.with_null.Goals as goal

pub returns-then-null : goal.returns-then-null
returns-then-null c = sets c.args.byte c.args.bit c.args.null c.requires (search rules) (search rules)

pub returns-else-null : goal.returns-else-null
returns-else-null c = clears c.args.byte c.args.bit c.args.null c.requires (search rules) (search rules)
