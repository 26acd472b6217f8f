use Rattle.std.proofs.Common.{ℤ, of_z, to_z-of_z, ap, ◌∙◌}
use Rattle.std.specs.Int.{w128, to_be_bytes}
use Rattle.vx_page.proofs.Steps.{byte_first}
use Rattle.vx_page.proofs.writing.push_wide.Goals as goal

pub returns-clause-ok : goal.returns-clause-ok
returns-clause-ok c =
    byte_first c.extend_from_slice-2.result c.args.bytes.now.items c.extend_from_slice.new.self.items c.to_be_bytes.result (to_be_bytes w128 (of_z w128 c.args.n)) c.extend_from_slice-2.new.self.items 4
    c.in_ok-extend_from_slice.ensures.items (c.to_be_bytes.ensures ∙ ap (λ (z : ℤ). to_be_bytes w128 (of_z w128 z)) (to_z-of_z {w = w128} c.ranges.n)) c.extend_from_slice-2.ensures.items
