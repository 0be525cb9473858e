use Rattle.std.proofs.Common.{◌∙◌, sym, true≢false}
use Rattle.fx_kinds.specs.ConstraintRows.{constraint_entry}
use Rattle.fx_stage_words.proofs.ReadLemmas.{refused_value}
use Rattle.fx_stage_words.proofs.constraints.constraint_at.Goals as goal

pub returns-else-takes : goal.returns-else-takes
returns-else-takes c =
    refused_value (constraint_entry c.args.row.now) c.args.text.now c.in-Some.value (sym c.in-Some.is ∙ c.in_ok-read.ensures)
    (λ takes. true≢false (sym (c.takes.ensures.1 takes) ∙ c.if-takes.false))
