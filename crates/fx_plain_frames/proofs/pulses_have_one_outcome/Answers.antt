use Rattle.fx_plain_frames.proofs.OneLemmas.{one_pulse}
use Rattle.fx_plain_frames.proofs.pulses_have_one_outcome.Goals as goal

pub returns : goal.returns
returns c = one_pulse
