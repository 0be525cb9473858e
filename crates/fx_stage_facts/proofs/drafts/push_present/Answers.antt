use Rattle.fx_stage_facts.proofs.DraftLemmas.{found_read}
use Rattle.fx_stage_facts.proofs.FactsLemmas.{on_ok}
use Rattle.fx_stage_facts.proofs.drafts.push_present.Goals as goal

pub returns-clause-read : goal.returns-clause-read
returns-clause-read c =
    on_ok c.push_facts.result
    (found_read c.args.stage.now c.args.key c.args.node.now c.requires.here c.requires.read)
