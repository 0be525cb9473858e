use Rattle.fx_delta_runs.proofs.BeginLemmas.{begins}
use Rattle.fx_delta_runs.proofs.laws.begun_games_are_tame.Goals as goal

pub returns : goal.returns
returns c = begins
