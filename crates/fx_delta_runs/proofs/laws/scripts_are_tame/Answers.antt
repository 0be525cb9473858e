use Rattle.fx_delta_runs.proofs.ScriptLemmas.{script_tame}
use Rattle.fx_delta_runs.proofs.laws.scripts_are_tame.Goals as goal

pub returns : goal.returns
returns c = script_tame
