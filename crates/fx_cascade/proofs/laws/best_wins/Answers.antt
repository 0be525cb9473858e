use Rattle.fx_cascade.proofs.LawLemmas.{best-wins}
use Rattle.fx_cascade.proofs.laws.best_wins.Goals as goal

pub returns : goal.returns
returns c = best-wins
