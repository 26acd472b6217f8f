use Rattle.std.proofs.Common.{◌∙◌, ap₂, replicate, leb, w8}
use lib.Lanes.{sel_l}
use Rattle.std.proofs.lemmas.Simd.{tops_compared, zip2_splat_left}
use Rattle.vx_vector.proofs.LaneLemmas.{picked_of_two}
use Rattle.vx_vector.proofs.marks.combined_lanes.Goals as goal

pub returns : goal.returns
returns c =
    let left = c.args.left in
    let right = c.args.right in
    ap₂ (λ ms ns. sel_l ms left (sel_l ns left right)) (tops_compared w8 leb (replicate 16 2) left ∙ zip2_splat_left leb 2 16 left c.requires.0) (tops_compared w8 leb right left)
    ∙ picked_of_two left right
