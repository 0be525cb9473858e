use Rattle.fx_pulse_model.proofs.FrameLemmas.{in_its_window}
use Rattle.fx_pulse_model.proofs.in_its_window.Goals as goal

pub returns : goal.returns
returns c = in_its_window
