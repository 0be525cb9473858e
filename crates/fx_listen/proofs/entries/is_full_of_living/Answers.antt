use Rattle.std.proofs.Common.{arith}
use Rattle.fx_listen.proofs.Changes.{not_full}
use Rattle.fx_listen.proofs.entries.is_full_of_living.Goals as goal

pub returns-then-listeners-lt-MOST_LIVE : goal.returns-then-listeners-lt-MOST_LIVE
returns-then-listeners-lt-MOST_LIVE c = not_full c.args.owners.now.living _ (omega (arith, c.if-listeners-lt-MOST_LIVE.true))
