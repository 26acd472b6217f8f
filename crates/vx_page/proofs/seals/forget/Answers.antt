use Rattle.std.proofs.Common.{[], arith}
use Rattle.vx_page.proofs.SealLaws.{set_same, set_other}
use Rattle.vx_page.proofs.seals.forget.Goals as goal

pub returns-then-file-len-clause-file : goal.returns-then-file-len-clause-file
returns-then-file-len-clause-file c = set_same c.args.files.now.items c.args.file c.clear.new.self [] (omega (arith, c.if-file-len.true, c.len.ensures)) c.clear.ensures.items

pub returns-then-file-len-clause-others : goal.returns-then-file-len-clause-others
returns-then-file-len-clause-others c = λ n other. set_other c.args.files.now.items c.args.file c.clear.new.self n other
