use Rattle.fx_damage.proofs.OutsideLemmas.{same_outside}
use Rattle.fx_delta_laws.proofs.StreamLemmas.{shown-frames}
use Rattle.fx_delta_runs.proofs.PlayedLemmas.{streams_are_shown}
use Rattle.fx_delta_runs.proofs.laws.streams_of_files_show_their_runs.Goals as goal

pub returns : goal.returns
returns c = streams_are_shown same_outside shown-frames
