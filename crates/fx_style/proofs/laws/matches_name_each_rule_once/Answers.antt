use Rattle.fx_style.proofs.OnceLemmas.{once_named}
use Rattle.fx_style.proofs.laws.matches_name_each_rule_once.Goals as goal

pub returns : goal.returns
returns c = once_named
