use Rattle.fx_delta_runs.proofs.WarningLemmas.{warnings_are}
use Rattle.fx_delta_runs.proofs.laws.warnings_are_lines.Goals as goal

pub returns : goal.returns
returns c = warnings_are
