use Rattle.std.proofs.Common.{sym, ◌∙◌}
use Rattle.fx_doc_runs.specs.Reached.{TookFlat}
use Rattle.fx_doc_runs.specs.Views.{view}
use Rattle.fx_doc_runs.specs.declared.modes.Mode.TheVariants as v
use Rattle.fx_doc_runs.proofs.Carried.{filled, turned}
use Rattle.fx_doc_runs.proofs.Signing.{name_taken}
use Rattle.fx_doc_runs.proofs.modes.Reader.take_name.Goals as goal

pub returns-clause-took : goal.returns-clause-took
returns-clause-took c = turned (TookFlat c.args.rest.now c.args.position (view c.args.self.now) c.gap_ahead.result.1.now)
    c.args.self.now.held (v.Spaced c.named.result) c.turn.new.self c.turn.ensures
    (name_taken c.args.self.now c.named.result c.args.rest.now c.args.behind.now c.in-Some.name.now
    c.in-Some.more.now c.gap_ahead.result.0.now c.gap_ahead.result.1.now c.in-Ok.name c.args.position c.requires.inside
    c.requires.begun
    (sym c.has_depth.ensures ∙ c.if-not-has_depth.false) (sym c.may_begin.ensures ∙ c.if-not-may_begin.false)
    c.in-Some.ensures c.gap_ahead.ensures (filled c.gap_ahead.result.0.now c.is_empty.result c.is_empty.ensures
    c.if-is_empty.false) c.in-Ok.ensures.ok c.named.ensures)
