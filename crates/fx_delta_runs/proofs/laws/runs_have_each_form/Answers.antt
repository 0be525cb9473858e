use Rattle.fx_delta_runs.proofs.RunLemmas.{runs_have_each_form}
use Rattle.fx_delta_runs.proofs.laws.runs_have_each_form.Goals as goal

pub returns : goal.returns
returns c = runs_have_each_form
