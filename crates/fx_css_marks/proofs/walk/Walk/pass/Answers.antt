use Rattle.std.proofs.Common.{refl, sym, ◌∙◌, arith}
use Rattle.fx_css_marks.specs.Walks.{left}
use Rattle.fx_css_marks.proofs.Steps.{pass_more, pass_end}
use Rattle.fx_css_marks.proofs.walk.Walk.pass.Goals as goal

pub loop-passed-preserved : goal.loop-passed-preserved
loop-passed-preserved c = record {
  passed = pass_more (left c.args.self) (left c.loop-passed.walk) (left c.in-Some.behind) (left c.pass_run-more.result.0) c.in-Some.field-0-0 c.loop-passed.passed c.pass_run-more.result.1 _
      c.loop-passed.invariant.passed c.in-Some.ensures.some c.pass_run-more.ensures.passed refl;
  within = omega arith;
}

pub returns-in_default : goal.returns-in_default
returns-in_default c =
    c.in_default.ensures.none ∙ sym (pass_end (left c.args.self) c.loop-passed.passed c.args.count (sym c.loop-passed.invariant.passed ∙ c.in_default.ensures.none) c.loop-passed.invariant.within)
