use Rattle.fx_delta_runs.proofs.ColorLemmas.{pixels_are}
use Rattle.fx_delta_runs.proofs.laws.bytes_make_pixels.Goals as goal

pub returns : goal.returns
returns c = pixels_are
