use Rattle.fx_damage.proofs.OutsideLemmas.{same_outside}
use Rattle.fx_delta_laws.proofs.StreamLemmas.{shown-frames}
use Rattle.fx_delta_runs.proofs.TellingLemmas.{drawn_run}
use Rattle.fx_delta_runs.proofs.laws.drawn_runs_are_shown.Goals as goal

pub returns : goal.returns
returns c = drawn_run same_outside shown-frames
