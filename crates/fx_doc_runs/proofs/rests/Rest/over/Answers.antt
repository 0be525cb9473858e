use Rattle.std.proofs.Common.{ap, ◌∙◌}
use Rattle.fx_base.specs.Positions.{after_bytes}
use Rattle.fx_doc_runs.proofs.Flowing.{low_after}
use Rattle.fx_doc_runs.proofs.rests.Rest.over.Goals as goal

pub returns-clause-position : goal.returns-clause-position
returns-clause-position c = c.after_bytes.ensures ∙ (ap (after_bytes c.args.self.position) c.as_bytes.ensures.value
    ∙ low_after c.args.part.now c.args.self.position c.requires.low)
