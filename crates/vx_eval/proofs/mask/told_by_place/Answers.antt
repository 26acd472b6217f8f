use Rattle.std.proofs.Common.{ℕ, arith, rules, refl}
use Rattle.vx_vector.specs.Lanes.{lane_at}
use Rattle.vx_eval.specs.Got.{fault_under}
use Rattle.vx_eval.proofs.MaskLemmas.{told_more, others_more}
use Rattle.vx_eval.proofs.mask.told_by_place.Goals as goal

pub loop-row-preserved : goal.loop-row-preserved
loop-row-preserved c = record {
  count = search rules;
  told = told_more c.loop-row.faults.items c.args.places.now (λ (k : ℕ). fault_under (lane_at c.args.lanes.now k).mark) c.loop-row.row c.fault_of.result c.requires.ascends (omega arith) (search rules) c.loop-row.invariant.told (rw c.fault_of.ensures (rw c.mark_at.ensures refl));
  others = others_more c.loop-row.faults.items c.args.places.now c.loop-row.row c.fault_of.result (search rules) c.loop-row.invariant.others;
}
