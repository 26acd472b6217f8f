use Rattle.std.proofs.Common.{◌≡◌, ◌++◌, take}
use Rattle.std.specs.List.{enumerate_from, flat_map}
use Rattle.vx_report.specs.Logs.{entry_line}
use Rattle.vx_report.proofs.logs.push_entries.Given as goal

abbrev pub invariant-loop-number : goal.invariant-loop-number
invariant-loop-number l = l.text.items ≡ l.initial.text.items ++ flat_map entry_line (enumerate_from 0 (take l.number l.log))
