use Rattle.fx_lookup.proofs.LawLemmas.{one-color}
use Rattle.fx_lookup.proofs.laws.one_color.Goals as goal

pub returns : goal.returns
returns c = one-color
