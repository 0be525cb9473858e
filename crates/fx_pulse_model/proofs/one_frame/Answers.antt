use Rattle.fx_pulse_model.proofs.FrameLemmas.{one_frame}
use Rattle.fx_pulse_model.proofs.one_frame.Goals as goal

pub returns : goal.returns
returns c = one_frame
