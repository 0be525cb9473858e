use Rattle.fx_stage_facts.proofs.DraftLemmas.{none_found}
use Rattle.fx_stage_facts.proofs.drafts.push_bare.Goals as goal

pub returns-clause-read : goal.returns-clause-read
returns-clause-read c = none_found c.args.stage.now c.args.key c.requires.here
