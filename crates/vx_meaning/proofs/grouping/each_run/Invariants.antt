use Rattle.std.proofs.Common.{◌≡◌, ◌++◌, map, length, Ok}
use Rattle.std.specs.List.Sorted.{IsSorted}
use Rattle.vx_value.specs.KeyBytes.{key_values}
use Rattle.vx_meaning.specs.Groups.{key_cmp, groups}
use Rattle.vx_meaning.proofs.grouping.each_run.Given as goal

abbrev pub invariant-loop-first : goal.invariant-loop-first
invariant-loop-first l = record {
  sorted : IsSorted (λ a b. key_cmp (key_values l.of.keys.now a) (key_values l.of.keys.now b)) l.rest;
  rows : map Ok l.rows.items ++ groups l.of.step l.of.keys.now l.of.aggregates.now l.rest ≡ groups l.of.step l.of.keys.now l.of.aggregates.now l.initial.rest;
}

abbrev pub decreases-loop-first : goal.decreases-loop-first
decreases-loop-first l = length l.rest
