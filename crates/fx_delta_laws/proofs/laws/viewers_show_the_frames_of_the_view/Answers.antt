use Rattle.fx_delta_laws.proofs.StreamLemmas.{shown-frames}
use Rattle.fx_delta_laws.proofs.laws.viewers_show_the_frames_of_the_view.Goals as goal

pub returns : goal.returns
returns c = shown-frames
