use Rattle.fx_delta_runs.proofs.DrawableLemmas.{drawable}
use Rattle.fx_delta_runs.proofs.laws.scenes_are_drawable.Goals as goal

pub returns : goal.returns
returns c = drawable
