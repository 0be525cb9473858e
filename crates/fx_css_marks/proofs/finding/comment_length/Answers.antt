use Rattle.std.proofs.Common.{◌≡◌, ◌+◌, length, sym, ◌∙◌, subst, arith}
use Rattle.fx_css_marks.specs.Lengths.{comment_length}
use Rattle.fx_css_marks.proofs.Finds.{comment_from, comment_step}
use Rattle.fx_css_marks.proofs.finding.comment_length.Goals as goal

pub loop-first-init : goal.loop-first-init
loop-first-init c = record {
  whole = subst (λ y. length c.args.text.now + comment_length y ≡ comment_length c.args.text.now + length y) (sym c.from_star-rest.ensures.from) (comment_from c.args.text.now);
  shorter = c.from_star-rest.ensures.within;
}

pub loop-first-preserved : goal.loop-first-preserved
loop-first-preserved c = record {
  whole = comment_step c.args.text.now c.loop-first.rest.now c.in-Some.behind.now c.from_star-rest-in-Some.result.now c.in-Some.first.now
      c.in-Some.ensures.cases.0 (sym c.ends_comment.ensures ∙ c.if-ends_comment.false) c.from_star-rest-in-Some.ensures.from c.loop-first.invariant.whole;
  shorter = let more = c.in-Some.ensures.cases.1 in omega (arith, more);
}
