-- one act more, one behind a fault, and no more
use Rattle.std.proofs.Common.{◌∙◌, arith}
use Rattle.fx_scene_course.specs.Views.{course_view, open_view}
use Rattle.fx_scene_course.proofs.ActLemmas.{ends, goes_on, stops}
use Rattle.fx_scene_course.proofs.making.do_acts.Goals as goal

pub returns-then-course-clause-done : goal.returns-then-course-clause-done
returns-then-course-clause-done g c = λ files e.
    stops files (open_view c.args.here.now) (course_view c.args.course.now) (course_view c.loop-act.course)
    c.args.acts.items c.loop-act.left.items (c.loop-act.invariant.completes files e) c.if-course.true

pub loop-act-preserved : goal.loop-act-preserved
loop-act-preserved g c = record {
  same = c.do_act.ensures.held ∙ c.loop-act.invariant.same;
  later = omega (arith, c.do_act.ensures.cause.later, c.loop-act.invariant.later);
  completes = λ files e.
      goes_on files (open_view c.args.here.now) (course_view c.args.course.now) (course_view c.loop-act.course)
      (course_view c.do_act.new.course) c.args.acts.items c.loop-act.left.items c.pop.new.self.items c.in-Some.act
      c.in-Some.ensures.items (c.loop-act.invariant.completes files e) c.if-course.false
      (c.in_ok-do_act.ensures.done files (c.loop-act.invariant.same ∙ e));
}

pub returns-clause-done : goal.returns-clause-done
returns-clause-done g c = λ files e.
    ends files (open_view c.args.here.now) (course_view c.args.course.now) (course_view c.loop-act.course)
    c.args.acts.items c.loop-act.left c.in_default.ensures.cases.0 (c.loop-act.invariant.completes files e)
