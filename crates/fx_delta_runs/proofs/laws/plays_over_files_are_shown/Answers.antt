use Rattle.fx_damage.proofs.OutsideLemmas.{same_outside}
use Rattle.fx_delta_laws.proofs.StreamLemmas.{shown-frames}
use Rattle.fx_delta_runs.proofs.LoadedLemmas.{plays_are_shown}
use Rattle.fx_delta_runs.proofs.laws.plays_over_files_are_shown.Goals as goal

pub returns : goal.returns
returns c = plays_are_shown same_outside shown-frames
