use Rattle.fx_select.proofs.LawLemmas.{all-matched}
use Rattle.fx_select.proofs.index.all_matched.Goals as goal

pub returns : goal.returns
returns c = all-matched
