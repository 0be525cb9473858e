use Rattle.std.proofs.Common.{sym, ◌∙◌}
use Rattle.fx_doc_runs.proofs.Attributing.{head_took}
use Rattle.fx_doc_runs.proofs.modes.Head.take.Goals as goal

pub returns-clause-took : goal.returns-clause-took
returns-clause-took c = head_took c.args.self.now c.add.new.self c.args.rest.now c.in-Some.key.name.now
    c.in-Some.key.behind.now c.value_ahead.result.0.now c.value_ahead.result.1.now c.in-Some-behind_byte.behind.now
    c.in-Some.key.quote c.quote_byte-quote.result c.args.position c.in-Some.ensures (sym c.in_ok-is_new.ensures.fresh
    ∙ c.if-not-branch.false) c.quote_byte-quote.ensures
    c.value_ahead.ensures.run c.value_ahead.ensures.short c.in-Some-behind_byte.ensures.some c.in_ok-add.ensures.added
