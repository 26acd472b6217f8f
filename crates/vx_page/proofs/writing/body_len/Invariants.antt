use Rattle.std.proofs.Common.{◌≡◌, length, take}
use Rattle.vx_page.specs.Page.{body}
use Rattle.vx_page.proofs.writing.body_len.Given as goal

abbrev pub invariant-loop-row : goal.invariant-loop-row
invariant-loop-row l = l.size ≡ length (body (take l.row-index l.rows))
