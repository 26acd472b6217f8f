use Rattle.std.proofs.Common.{ℕ, ◌<◌, ◌≤◌, length, replicate}
use Rattle.std.proofs.lemmas.Result.{err_from_is_err_and}
use Rattle.std.proofs.lemmas.List.{length-replicate, get_or-replicate}
use Rattle.vx_page.specs.Reading.{row_at, rows_at}
use Rattle.vx_page.proofs.Turns.{goes_on, ends, is_done}
use Rattle.vx_page.proofs.reading.all_rows_of.Goals as goal

pub returns-in_err-row : goal.returns-in_err-row
returns-in_err-row c =
    let zero : ℕ = 0 in
    let turns = replicate c.args.count zero in
    let p = err_from_is_err_and c.from_residual-in_err-row.result c.from_residual-in_err-row.ensures.1 in
    let lt : c.loop.counter < length turns = rw (length-replicate c.args.count zero) c.loop-test.true in
    rw (p.1, p.2) (ends (λ (turn : ℕ). row_at c.args.bounds.whole c.args.bounds.end c.args.shape.now) c.in_err-row.field-0.0 c.loop.rows.items turns c.loop.counter zero c.loop.rest.now (rows_at c.args.bounds.whole c.args.bounds.end c.args.shape.now c.args.count c.args.bytes.now) lt (get_or-replicate c.args.count c.loop.counter zero zero c.loop-test.true) c.in_err-row.ensures c.loop.invariant)

pub loop-preserved : goal.loop-preserved
loop-preserved c =
    let zero : ℕ = 0 in
    let turns = replicate c.args.count zero in
    let lt : c.loop.counter < length turns = rw (length-replicate c.args.count zero) c.loop-test.true in
    rw c.in_ok-push.ensures.items (goes_on (λ (turn : ℕ). row_at c.args.bounds.whole c.args.bounds.end c.args.shape.now) c.loop.rows.items turns c.loop.counter zero c.loop.rest.now c.in_ok-row.row c.in_ok-row.after.now (rows_at c.args.bounds.whole c.args.bounds.end c.args.shape.now c.args.count c.args.bytes.now) lt (get_or-replicate c.args.count c.loop.counter zero zero c.loop-test.true) c.in_ok-row.ensures c.loop.invariant)

pub returns : goal.returns
returns c =
    let zero : ℕ = 0 in
    let turns = replicate c.args.count zero in
    let le : length turns ≤ c.loop.counter = rw (length-replicate c.args.count zero) c.loop-test.false in
    is_done (λ (turn : ℕ). row_at c.args.bounds.whole c.args.bounds.end c.args.shape.now) c.loop.rows.items turns c.loop.counter c.loop.rest.now (rows_at c.args.bounds.whole c.args.bounds.end c.args.shape.now c.args.count c.args.bytes.now) le c.loop.invariant
