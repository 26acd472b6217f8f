use Rattle.vx_account.proofs.Moves.{starts}
use Rattle.vx_account.proofs.accounts.Accounts.new.Goals as goal

pub of_words-requires : goal.of_words-requires
of_words-requires c = starts c.args.accounts
