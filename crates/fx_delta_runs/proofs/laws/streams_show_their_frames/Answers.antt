use Rattle.fx_damage.proofs.OutsideLemmas.{same_outside}
use Rattle.fx_delta_laws.proofs.StreamLemmas.{shown-frames}
use Rattle.fx_delta_runs.proofs.StreamLemmas.{shown_frames}
use Rattle.fx_delta_runs.proofs.laws.streams_show_their_frames.Goals as goal

pub returns : goal.returns
returns c = shown_frames same_outside shown-frames
