use Rattle.std.proofs.Common.{sym, ◌∙◌, ap}
use Rattle.fx_css_marks.specs.Lengths.{is_bare}
use Rattle.fx_css_marks.proofs.Finds.{bare_from, bare_step}
use Rattle.fx_css_marks.proofs.finding.holds_nothing.Goals as goal

pub loop-first-init : goal.loop-first-init
loop-first-init c = ap is_bare c.from_stop-rest.ensures.from ∙ bare_from c.args.text.now

pub loop-first-preserved : goal.loop-first-preserved
loop-first-preserved c =
    bare_step c.loop-first.rest.now c.in-Some.behind.now c.from_stop-rest-in-Some.result.now c.in-Some.first.now
    c.in-Some.ensures.cases.0 (sym c.is_quote.ensures ∙ c.if-is_quote.false) (sym c.begins_comment.ensures ∙ c.if-begins_comment.false) c.from_stop-rest-in-Some.ensures.from
    ∙ c.loop-first.invariant
