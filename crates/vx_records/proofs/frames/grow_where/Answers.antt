use Rattle.vx_records.proofs.frames.grow_where.Goals as goal

pub returns-clause-ok : goal.returns-clause-ok
returns-clause-ok c = rw c.if-not-full.false (rw c.from-2.ensures at c.in_ok-grow.ensures.ok)
