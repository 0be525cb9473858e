use Rattle.fx_plain_laws.proofs.OutputLemmas.{one_output}
use Rattle.fx_plain_laws.proofs.laws.runs_write_one_output.Goals as goal

pub returns : goal.returns
returns c = one_output
