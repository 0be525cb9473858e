-- one step more, one that is refused, and no more
use Rattle.std.proofs.Common.{◌∙◌, ◌≤◌, ap, arith}
use Rattle.fx_base.specs.declared.work.Work.{Work}
use Rattle.fx_scene_plan.specs.Plans.{standing_of}
use Rattle.fx_scene_build.proofs.StepLemmas.{ends, goes_on, none_left, told_on}
use Rattle.fx_scene_build.proofs.building.build_scene.Goals as goal

pub loop-step-preserved : goal.loop-step-preserved
loop-step-preserved g c = (
  goes_on (standing_of c.loop-step.stage c.loop-step.keys.items)
      (standing_of c.take_step.new.stage c.take_step.new.keys.items) c.loop-step.left.items c.pop.new.self.items
      c.in-Some.step c.args.stage.now c.args.plan.items c.in-Some.ensures.items c.loop-step.invariant.0
      c.in_ok-take_step.ensures.taken,
  c.in_ok-take_step.ensures.others ∙ ap (λ (w : Work g.row.L.Denot). record w { evaluated = c.take_step.new.work.evaluated }) c.loop-step.invariant.1,
  λ is.
      let before = c.loop-step.invariant.2 is in
      let after = c.in_ok-take_step.ensures.quiet before.1 in
      let first : c.loop-step.work.evaluated ≤ c.args.work.now.evaluated = before.0 in
      let more : c.take_step.new.work.evaluated ≤ c.loop-step.work.evaluated = after.0 in
      (omega (arith, first, more), after.1),
)

pub returns-in_err-take_step-clause-scene : goal.returns-in_err-take_step-clause-scene
returns-in_err-take_step-clause-scene g c =
    told_on (standing_of c.loop-step.stage c.loop-step.keys.items)
    (standing_of c.take_step.new.stage c.take_step.new.keys.items) c.loop-step.left.items c.pop.new.self.items
    c.in-Some.step c.args.stage.now c.take_step.new.stage c.args.plan.items c.in_err-take_step.field-0.0
    c.from_residual.result c.in-Some.ensures.items c.loop-step.invariant.0 c.in_err-take_step.ensures.taken
    c.from_residual.ensures.1

pub returns-clause-scene : goal.returns-clause-scene
returns-clause-scene g c =
    ends (standing_of c.loop-step.stage c.loop-step.keys.items) c.loop-step.left.items c.args.stage.now
    c.args.plan.items (none_left c.loop-step.left c.in_default.ensures.cases.0) c.loop-step.invariant.0
