use Rattle.std.proofs.Common.{◌≡◌, ℕ, ◌<◌, length, get_or, false, true}
use Rattle.vx_eval.proofs.MaskLemmas.{evaluates}
use Rattle.vx_eval.proofs.evaluation.eval.Goals as goal

pub returns : goal.returns
returns c =
    let all : (k : ℕ) → k < length c.args.rows.now → get_or c.as_slice.result.now k false ≡ true =
    λ (k : ℕ) (h : k < length c.args.rows.now).
    let inside : k < length c.places.result.now = rw c.places.ensures.places h in
    rw c.as_slice.ensures.value (c.in_ok-wanted.ensures.at k false inside) in
    evaluates c.args.e.now c.args.batch.now.columns c.args.rows.now c.as_slice.result.now c.in_ok-lanes.lanes c.of_lanes.result c.in_ok-faults.faults c.in_ok-lanes.ensures all c.of_lanes.ensures c.in_ok-faults.ensures.told c.in_ok-faults.ensures.others
