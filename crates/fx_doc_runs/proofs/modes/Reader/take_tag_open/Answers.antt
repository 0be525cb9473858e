use Rattle.fx_doc_runs.proofs.Tagging.{open_taken}
use Rattle.fx_doc_runs.proofs.modes.Reader.take_tag_open.Goals as goal

pub take_tight-head-requires : goal.take_tight-head-requires
take_tight-head-requires c = (c.in-Tight.field-0, c.in-Tight.is)

pub returns-in-Ok-clause-took : goal.returns-in-Ok-clause-took
returns-in-Ok-clause-took c = λ p. open_taken c.args.self.now c.take_tight-head.new.self c.take_tight-head.result
    c.open.new.self c.args.rest.now c.in-Some.behind.now p c.take_tight-head.ensures.tag
    c.take_tight-head.ensures.inside c.in-Ok.ensures c.in-Some.ensures.some
