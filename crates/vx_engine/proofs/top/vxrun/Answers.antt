use Rattle.vx_engine.proofs.RunLaws.{unnamed, unnamed_only}
use Rattle.vx_engine.specs.Words.{asked}
use Rattle.vx_engine.proofs.top.vxrun.Goals as goal

-- words that name no file are those that are bad
pub returns-clause-bad_words : goal.returns-clause-bad_words
returns-clause-bad_words g c = λ status. unnamed_only (asked c.args.words.now) (c.run_words.ensures.run.bad_words status)

pub returns-clause-bad_words_always : goal.returns-clause-bad_words_always
returns-clause-bad_words_always g c = λ asks few. c.run_words.ensures.run.bad_words_always (unnamed (asked c.args.words.now) asks) few
