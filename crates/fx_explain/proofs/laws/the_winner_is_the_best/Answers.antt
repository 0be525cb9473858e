use Rattle.fx_explain.proofs.OrderLemmas.{winner-best, winner-same}
use Rattle.fx_explain.proofs.laws.the_winner_is_the_best.Goals as goal

pub returns : goal.returns
returns c = record { greatest = winner-best; same = winner-same }
