use Rattle.std.proofs.Common.{◌∙◌, ap, arith, take_all}
use Rattle.std.specs.Prelude.{filter, flat_map}
use Rattle.vx_meaning.specs.Joins.{given, matches}
use Rattle.vx_meaning.specs.JoinWords.{on_of}
use Rattle.vx_meaning.proofs.JoinLemmas.{probed-fresh}
use Rattle.vx_meaning.proofs.joining.Joining.probed.Goals as goal

pub returns : goal.returns
returns c =
    let on = on_of c.args.self.now in
    c.loop-row.invariant
    ∙ ap (flat_map (λ left. given c.args.self.now.kind on left (filter (matches on left) c.args.right.now))) (take_all c.loop-row.row-index c.args.left.now (omega arith))
    ∙ probed-fresh c.args.self.now.kind on c.args.left.now c.args.right.now
