use Rattle.std.proofs.Common.{eqb, ap, ◌∙◌, arith, w8}
use lib.Count.{ones}
use Rattle.std.proofs.lemmas.Simd.{bitmask_splat, ones-mask_l}
use Rattle.vx_vector.proofs.scan.count_lanes.Goals as goal

pub returns : goal.returns
returns c =
    let marks = c.args.marks in
    let mark = c.args.mark in
    ap ones (bitmask_splat w8 eqb marks 16 mark c.requires (omega arith)) ∙ ones-mask_l (λ x. eqb x mark) marks
