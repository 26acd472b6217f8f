use Rattle.vx_page_cases.proofs.tests.calls_until_one_fails.Goals as goal

pub read-requires-clause-there : goal.read-requires-clause-there
read-requires-clause-there g c = c.append.ensures.keeps.there _ c.in-Ok.ensures.ready (λ none. none)

pub remove-requires : goal.remove-requires
remove-requires g c = c.read.ensures.keeps.there _ (c.append.ensures.keeps.there _ c.in-Ok.ensures.ready (λ none. none)) (λ none. none)
