use Rattle.fx_delta_runs.proofs.RunLemmas.{drawn_plays}
use Rattle.fx_delta_runs.proofs.laws.plays_are_drawn_runs.Goals as goal

pub returns : goal.returns
returns c = drawn_plays
