use Rattle.fx_damage.proofs.OutsideLemmas.{same_outside}
use Rattle.fx_delta_laws.proofs.StreamLemmas.{shown-frames}
use Rattle.fx_delta_runs.proofs.LoadedLemmas.{files_are_shown}
use Rattle.fx_delta_runs.proofs.laws.runs_over_files_are_shown.Goals as goal

pub returns : goal.returns
returns c = files_are_shown same_outside shown-frames
