use Rattle.fx_delta_runs.proofs.TellingLemmas.{tame_lines}
use Rattle.fx_delta_runs.proofs.laws.tame_lines_are_proper.Goals as goal

pub returns : goal.returns
returns c = tame_lines
