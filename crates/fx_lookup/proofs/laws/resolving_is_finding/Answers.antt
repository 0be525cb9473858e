use Rattle.fx_lookup.proofs.LawLemmas.{leads_resolved, resolved_leads}
use Rattle.fx_lookup.proofs.laws.resolving_is_finding.Goals as goal

pub returns : goal.returns
returns c = λ chain name color. (resolved_leads chain name color, leads_resolved chain name color)
