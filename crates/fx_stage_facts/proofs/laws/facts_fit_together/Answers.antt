use Rattle.fx_stage_facts.proofs.LawLemmas.{facts_fit}
use Rattle.fx_stage_facts.proofs.laws.facts_fit_together.Goals as goal

pub returns : goal.returns
returns c = facts_fit
