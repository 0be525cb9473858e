use Rattle.fx_doc_runs.proofs.Tagging.{leaf_taken}
use Rattle.fx_doc_runs.proofs.modes.Reader.take_tag_end.Goals as goal

pub take_tight-head-requires : goal.take_tight-head-requires
take_tight-head-requires c = (c.in-Tight.field-0, c.in-Tight.is)

pub returns-in-Ok-clause-took : goal.returns-in-Ok-clause-took
returns-in-Ok-clause-took c = λ p. leaf_taken c.args.self.now c.take_tight-head.new.self c.take_tight-head.result
    c.add_leaf.new.self c.args.rest.now c.in-Some.one.now c.in-Some-behind_byte.behind.now p
    c.take_tight-head.ensures.tag c.take_tight-head.ensures.inside c.in-Ok.ensures c.in-Some.ensures.some
    c.in-Some-behind_byte.ensures.some
