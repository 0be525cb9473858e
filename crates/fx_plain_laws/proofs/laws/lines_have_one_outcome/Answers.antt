use Rattle.fx_plain_laws.proofs.LineLemmas.{one_line}
use Rattle.fx_plain_laws.proofs.laws.lines_have_one_outcome.Goals as goal

pub returns : goal.returns
returns c = one_line
