-- one property more has its value
use Rattle.std.proofs.Common.{◌≡◌, ◌∙◌, ◌≤◌, ◌+◌, ap, arith, subst, sym}
use Rattle.fx_base.specs.declared.work.Work.{Work}
use Rattle.fx_plain_steps.specs.Courses.{Course}
use Rattle.fx_plain_times.specs.Ticks.{after_set, all_animated, cost_of_sets}
use Rattle.fx_play_steps.specs.Traces.{course_of}
use Rattle.fx_stage_model.specs.Answers.{cost_of}
use Rattle.fx_stage_model.specs.Properties.{changed}
use Rattle.fx_stage_model.specs.World.{World}
use Rattle.fx_store_model.specs.declared.changes.Change.TheVariants.{Set}
use Rattle.fx_play_times.proofs.TimeLemmas.{animated_more, cost_more}
use Rattle.fx_play_times.proofs.ticking.set_all.Goals as goal

pub loop-set-preserved : goal.loop-set-preserved
loop-set-preserved g c =
    let start = course_of c.args.stage.now c.args.trace.now in
    let sets = c.loop-set.yielded in
    let set = c.in-Some.set in
    let here = c.loop-set.invariant.0 in
    let old = c.args.work.now.evaluated in
    let mid = c.loop-set.work.evaluated in
    let new = c.set_one.new.work.evaluated in
    let before : mid ≤ old + cost_of_sets sets start.world = c.loop-set.invariant.1 in
    let one : new ≤ mid + cost_of (changed (Set set.0 set.1) (all_animated sets start).world) =
    subst (λ (w : World). new ≤ mid + cost_of (changed (Set set.0 set.1) w)) (ap (λ (course : Course). course.world) here)
    c.in_ok-set_one.ensures.few in
    let sum = cost_more sets set start in (
      c.in_ok-set_one.ensures.done ∙ (ap (λ (course : Course). after_set course set) here ∙ sym (animated_more sets set start)),
      omega (arith, before, one, sum),
      c.in_ok-set_one.ensures.others
          ∙ ap (λ (w : Work g.row.L.Denot). record w { evaluated = c.set_one.new.work.evaluated }) c.loop-set.invariant.2,
    )
