use Rattle.std.proofs.Common.{◌++◌}
use Rattle.vx_records.specs.Head.{head_of}
use Rattle.vx_records.proofs.Heading.{pushes}
use Rattle.vx_records.proofs.heads.push.Goals as goal

pub returns-clause-ok : goal.returns-clause-ok
returns-clause-ok c = pushes c.args.frames.now c.add.new.self c.fill.new.frames c.in_ok-number.number (head_of 0 1 ++ c.args.body.now) c.in_ok-number.ensures.ok c.in_ok-number.ensures.number c.fill.ensures
