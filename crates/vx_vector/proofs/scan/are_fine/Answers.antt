use Rattle.std.proofs.Common.{◌∙◌, ap}
use Rattle.std.specs.Prelude.{not}
use Rattle.vx_vector.proofs.MarkLemmas.{none_reach}
use Rattle.vx_vector.proofs.scan.are_fine.Goals as goal

pub returns : goal.returns
returns c = ap not c.reach.ensures ∙ none_reach c.args.marks.now
