use Rattle.fx_damage.proofs.OutsideLemmas.{same_outside}
use Rattle.fx_delta_laws.proofs.StreamLemmas.{shown-frames}
use Rattle.fx_delta_runs.proofs.RunLemmas.{streams_show_their_runs}
use Rattle.fx_delta_runs.proofs.laws.streams_show_their_runs.Goals as goal

pub returns : goal.returns
returns c = streams_show_their_runs same_outside shown-frames
