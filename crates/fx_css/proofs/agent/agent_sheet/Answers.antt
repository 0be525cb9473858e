-- What is built is within the limits.
-- They are computed.
use Rattle.fx_css.proofs.AgentLemmas.{agent_kept}
use Rattle.fx_css.proofs.agent.agent_sheet.Goals as goal

pub returns-clause-within : goal.returns-clause-within
returns-clause-within c = agent_kept c.built.result c.built.ensures
