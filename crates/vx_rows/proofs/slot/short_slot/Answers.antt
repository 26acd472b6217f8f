use Rattle.std.proofs.Common.{ap, ◌∙◌, List, ℕ, replicate}
use Rattle.vx_raw.specs.Region.{written}
use Rattle.vx_rows.proofs.SlotLemmas.{short_written}
use Rattle.vx_rows.proofs.slot.short_slot.Goals as goal

pub returns : goal.returns
returns c = c.write-2.ensures.is ∙ (ap (λ b. written b 4 c.args.text.now) c.write.ensures.is ∙ (ap (λ (b : List ℕ). written (written (replicate 16 0) 0 b) 4 c.args.text.now) c.to_le_bytes.ensures ∙ short_written c.args.text.now c.requires))
