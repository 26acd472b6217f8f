use Rattle.vx_arena.proofs.Texts.{stored_new, stored_text, stored_reads, stored_count, takes_keeps, nothing_keeps}
use Rattle.vx_arena.proofs.arena.Arena.take_text.Goals as goal

pub returns-in_err-first-clause-keeps : goal.returns-in_err-first-clause-keeps
returns-in_err-first-clause-keeps c = nothing_keeps c.args.self.now c.store.new.self c.args.text.now c.in_err-first.ensures.err

pub returns-clause-fresh : goal.returns-clause-fresh
returns-clause-fresh c = stored_new c.args.self.now c.store.new.self c.in_ok-first.first c.args.text.now c.place.result c.requires.least c.place.ensures.is c.in_ok-first.ensures.ok

pub returns-clause-there : goal.returns-clause-there
returns-clause-there c = stored_text c.args.self.now c.store.new.self c.in_ok-first.first c.args.text.now c.place.result c.requires.least c.requires.most c.place.ensures.near c.place.ensures.is c.in_ok-first.ensures.ok

pub returns-clause-reads : goal.returns-clause-reads
returns-clause-reads c = stored_reads c.args.self.now c.store.new.self c.in_ok-first.first c.args.text.now c.place.result c.requires.most c.place.ensures.is c.in_ok-first.ensures.ok

pub returns-clause-count : goal.returns-clause-count
returns-clause-count c = stored_count c.args.self.now c.store.new.self c.in_ok-first.first c.args.text.now c.place.result c.requires.most c.place.ensures.is c.in_ok-first.ensures.ok

pub returns-clause-keeps : goal.returns-clause-keeps
returns-clause-keeps c = takes_keeps c.args.self.now c.store.new.self c.in_ok-first.first c.args.text.now c.in_ok-first.ensures.ok
