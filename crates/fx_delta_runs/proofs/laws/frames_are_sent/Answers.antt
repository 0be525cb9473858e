use Rattle.fx_damage.proofs.OutsideLemmas.{same_outside}
use Rattle.fx_delta_runs.proofs.FrameLemmas.{sent}
use Rattle.fx_delta_runs.proofs.laws.frames_are_sent.Goals as goal

pub returns : goal.returns
returns c = sent same_outside
