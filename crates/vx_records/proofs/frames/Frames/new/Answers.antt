use Rattle.std.proofs.Common.{ap, ◌∙◌}
use Rattle.vx_raw.specs.Region.{RegionModel}
use Rattle.vx_records.specs.Frame.{seen_in}
use Rattle.vx_records.proofs.Growing.{none_seen, none_are, per_is}
use Rattle.vx_records.proofs.frames.Frames.new.Goals as goal

pub invariant_of-result : goal.invariant_of-result
invariant_of-result c = rw c.new.ensures (none_are c.args.size _ c.requires.least c.requires.most (per_is c.args.size))

pub returns : goal.returns
returns c = ap (λ (r : RegionModel). seen_in c.args.size r 0) c.new.ensures ∙ none_seen c.args.size
