use Rattle.std.proofs.Common.{◌-◌, ◌<◌, ◌^◌, length, take, drop, sym, subst}
use Rattle.std.proofs.lemmas.Bool.{eqb-true}
use Rattle.vx_arena.specs.Text.{ArenaModel, GivesAll, TakesNothing}
use Rattle.vx_arena.proofs.Storing.{cut_slices, fits_taken, stores_none, can_follow, stores_more, nothing_rest, nothing_more, if_err}
use Rattle.vx_arena.proofs.arena.Arena.+store.Goals as goal

pub returns-then-is_empty-clause-ok : goal.returns-then-is_empty-clause-ok
returns-then-is_empty-clause-ok t c = stores_none c.args.self.now c.args.text.now (subst (λ (v : ArenaModel). v.taken < 2 ^ 64) c.self.view_is (fits_taken c.self.inside.blocks c.self.inside.taken c.self.inside.given c.self.invariant)) (eqb-true (length c.args.text.now) 0 (sym c.if-is_empty.ensures))

pub returns-in_err-next-clause-err : goal.returns-in_err-next-clause-err
returns-in_err-next-clause-err t c = if_err c.from_residual.result (TakesNothing c.args.self.now c.store.new.self c.args.text.now) (nothing_rest c.args.self.now c.store.new.self c.args.text.now (take c.min-count.result c.args.text.now) (take (length c.args.text.now - c.min-count.result) (drop c.min-count.result c.args.text.now)) (cut_slices c.args.text.now c.min-count.result c.if-is_empty.ensures c.min-count.ensures) c.in_err-next.ensures.err)

pub add_part-requires-clause-next : goal.add_part-requires-clause-next
add_part-requires-clause-next t c = can_follow c.args.self.now c.store.new.self c.in_ok-next.next (take (length c.args.text.now - c.min-count.result) (drop c.min-count.result c.args.text.now)) c.in_ok-next.ensures.ok

pub returns-in-Ok-clause-ok : goal.returns-in-Ok-clause-ok
returns-in-Ok-clause-ok t c = stores_more c.args.self.now c.store.new.self c.add_part.new.self c.args.text.now (take c.min-count.result c.args.text.now) (take (length c.args.text.now - c.min-count.result) (drop c.min-count.result c.args.text.now)) c.in-Ok.name c.in_ok-next.next (cut_slices c.args.text.now c.min-count.result c.if-is_empty.ensures c.min-count.ensures) c.in_ok-next.ensures.ok c.in-Ok.ensures.ok

pub returns-in-Err-clause-err : goal.returns-in-Err-clause-err
returns-in-Err-clause-err t c = nothing_more c.args.self.now c.store.new.self c.release.new.self c.args.text.now (take c.min-count.result c.args.text.now) (take (length c.args.text.now - c.min-count.result) (drop c.min-count.result c.args.text.now)) c.in_ok-next.next (cut_slices c.args.text.now c.min-count.result c.if-is_empty.ensures c.min-count.ensures) c.in_ok-next.ensures.ok (subst (λ (v : ArenaModel). GivesAll v c.release.new.self c.in_ok-next.next) c.in-Err.ensures.err c.release.ensures)
