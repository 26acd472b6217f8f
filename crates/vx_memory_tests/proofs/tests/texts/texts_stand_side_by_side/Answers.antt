use Rattle.std.proofs.Common.{sym}
use Rattle.vx_memory_tests.proofs.tests.texts.texts_stand_side_by_side.Goals as goal

pub equals-requires : goal.equals-requires
equals-requires g c = (c.give_text.ensures.keeps c.in_ok-second.second c.in_ok-second.ensures.there (λ e. c.in_ok-second.ensures.fresh c.in_ok-first.first c.in_ok-first.ensures.there (sym e))).there
