use Rattle.fx_plain_laws.proofs.ScriptLemmas.{one_script}
use Rattle.fx_plain_laws.proofs.laws.scripts_are_told_in_one_way.Goals as goal

pub returns : goal.returns
returns c = one_script
