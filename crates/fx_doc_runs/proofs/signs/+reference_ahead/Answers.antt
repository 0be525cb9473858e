use Rattle.std.proofs.Common.{Some, sym, ◌∙◌, ap}
use Rattle.fx_doc_grammar.specs.Machine.{entity_step}
use Rattle.fx_doc_runs.proofs.Flowing.{low_flat}
use Rattle.fx_doc_runs.proofs.Signing.{refers_ends, refers_next}
use Rattle.fx_doc_runs.proofs.signs.+reference_ahead.Goals as goal

pub behind_byte-requires : goal.behind_byte-requires
behind_byte-requires t c = low_flat c.in_ok-byte.field-0.now (sym c.is_flat.ensures ∙ c.if-not-is_flat.false)

pub returns-in-Some-Whole : goal.returns-in-Some-Whole
returns-in-Some-Whole t c = refers_ends c.args.entity c.args.text.now c.in_ok-rest.rest.now c.in_ok-byte.field-0.now
    c.in-Some-Whole.found c.in_ok-rest.ensures.some (sym c.is_flat.ensures ∙ c.if-not-is_flat.false)
    (sym (c.step.ensures ∙ ap (entity_step c.args.entity) c.from.ensures)
    ∙ (c.in-Some-Whole.is ∙ ap Some c.in-Some-Whole.field-0-is))

pub returns-in-Some-Further : goal.returns-in-Some-Further
returns-in-Some-Further t c = refers_next c.reference_ahead.result (λ x. x.0)
    (λ x. x.1.now) c.args.entity c.in-Some-Further.next c.args.text.now c.in_ok-rest.rest.now c.in_ok-byte.field-0.now
    c.in_ok-rest.ensures.some (sym c.is_flat.ensures ∙ c.if-not-is_flat.false)
    (sym (c.step.ensures ∙ ap (entity_step c.args.entity) c.from.ensures)
    ∙ (c.in-Some-Further.is ∙ ap Some c.in-Some-Further.field-0-is)) c.reference_ahead.ensures
