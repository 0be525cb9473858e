use Rattle.std.proofs.Common.{List, ℕ, subst, arith, sym, ◌∙◌}
use Rattle.fx_doc_drafts.specs.Ahead.{is_text}
use Rattle.fx_doc_runs.specs.Reached.{IsRun}
use Rattle.fx_doc_runs.specs.Views.{level_view}
use Rattle.fx_doc_runs.proofs.Flowing.{text_all_low}
use Rattle.fx_doc_runs.proofs.Carried.{outside_took, inside_took}
use Rattle.fx_doc_runs.proofs.modes.Held.take_text.Goals as goal

pub returns-then-not-is_within : goal.returns-then-not-is_within
returns-then-not-is_within c = outside_took c.args.self.now c.args.at.text.now c.past_white.result.text.now
    c.args.at.position c.past_white.result.position (sym c.is_within.ensures ∙ c.if-not-is_within.true)
    c.past_white.ensures

pub add_run-requires-clause-low : goal.add_run-requires-clause-low
add_run-requires-clause-low c = text_all_low c.text_ahead.result.0.now c.text_ahead.ensures.run.each

pub over-requires-clause-low : goal.over-requires-clause-low
over-requires-clause-low c = text_all_low c.text_ahead.result.0.now c.text_ahead.ensures.run.each

pub returns : goal.returns
returns c = inside_took c.args.self.now (level_view c.add_run.new.self) c.args.at.text.now c.text_ahead.result.0.now
    c.over.result.text.now c.args.at.position c.over.result.position (sym c.is_within.ensures ∙
    c.if-not-is_within.false) (subst (λ (y : List ℕ). IsRun is_text c.args.at.text.now c.text_ahead.result.0.now y)
    (sym c.over.ensures.text) c.text_ahead.ensures.run)
    (omega (arith, c.text_ahead.ensures.short, c.args.self.now.level.run.short)) c.in_ok-add_run.ensures
    c.over.ensures.position
