use Rattle.fx_delta_runs.proofs.RunLemmas.{runs_are_one}
use Rattle.fx_delta_runs.proofs.laws.runs_are_one.Goals as goal

pub returns : goal.returns
returns c = runs_are_one
