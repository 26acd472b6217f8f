use Rattle.std.proofs.Common.{◌≡◌, drop, replicate, ℕ}
use Rattle.vx_page.specs.Reading.{in_turn, row_at}
use Rattle.vx_page.proofs.Turns.{behind}
use Rattle.vx_page.proofs.reading.all_rows_of.Given as goal

abbrev pub invariant-loop : goal.invariant-loop
invariant-loop l =
    behind l.rows.items (in_turn {A = ℕ} (λ turn. row_at l.bounds.whole l.bounds.end l.shape) (drop l.counter (replicate l.count 0)) l.rest)
    ≡ in_turn {A = ℕ} (λ turn. row_at l.bounds.whole l.bounds.end l.shape) (replicate l.count 0) l.bytes
