use Rattle.std.proofs.Common.{sym, ◌∙◌}
use Rattle.fx_doc_runs.proofs.Signing.{reference_taken}
use Rattle.fx_doc_runs.proofs.modes.Reader.take_reference.Goals as goal

pub returns-in-Ok-clause-took : goal.returns-in-Ok-clause-took
returns-in-Ok-clause-took c = reference_taken c.args.self.now
    (record { held = c.add_sign.new.self; mode = c.args.self.now.mode }) c.args.rest.now c.in-Some.behind.now
    c.in-Some-reference_ahead.left.now c.in-Some-reference_ahead.found c.args.position c.requires c.requires
    (sym c.is_within.ensures ∙ c.if-not-is_within.false) c.in-Some.ensures.some c.in-Some-reference_ahead.ensures
    c.in-Ok.ensures.sign
