use Rattle.vx_vector.proofs.KindLemmas.{bools_no_text, ints_no_text, no_texts}
use Rattle.vx_vector.proofs.vector.Vector.holds_texts.Goals as goal

pub returns-in-Bool-clause-none : goal.returns-in-Bool-clause-none
returns-in-Bool-clause-none c = no_texts c.self.inside.form c.args.self.now c.self.view_is (bools_no_text _ c.in-Bool.ensures)

pub returns-in-Int-clause-none : goal.returns-in-Int-clause-none
returns-in-Int-clause-none c = no_texts c.self.inside.form c.args.self.now c.self.view_is (ints_no_text _ c.in-Int.ensures)
