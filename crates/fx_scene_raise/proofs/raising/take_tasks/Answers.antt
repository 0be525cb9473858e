-- one task more, one at fault, and no more
use Rattle.std.proofs.Common.{◌∙◌, ◌≤◌, ap, arith}
use Rattle.fx_base.specs.declared.work.Work.{Work}
use Rattle.fx_scene_plan.specs.Plans.{standing_of}
use Rattle.fx_scene_raise.proofs.TaskLemmas.{ends, goes_on, none_left, told_on}
use Rattle.fx_scene_raise.proofs.raising.take_tasks.Goals as goal

pub loop-task-preserved : goal.loop-task-preserved
loop-task-preserved g c = (
  goes_on (standing_of c.loop-task.stage c.loop-task.keys.items)
      (standing_of c.take_task.new.stage c.take_task.new.keys.items) c.loop-task.left.items c.pop.new.self.items
      c.in-Some.task c.args.stage.now c.args.tasks.items c.in-Some.ensures.items c.loop-task.invariant.0
      c.in_ok-take_task.ensures.taken,
  c.in_ok-take_task.ensures.others ∙ ap (λ (w : Work g.row.L.Denot). record w { evaluated = c.take_task.new.work.evaluated }) c.loop-task.invariant.1,
  λ is.
      let before = c.loop-task.invariant.2 is in
      let after = c.in_ok-take_task.ensures.quiet before.1 in
      let first : c.loop-task.work.evaluated ≤ c.args.work.now.evaluated = before.0 in
      let more : c.take_task.new.work.evaluated ≤ c.loop-task.work.evaluated = after.0 in
      (omega (arith, first, more), after.1),
)

pub returns-in_err-take_task-clause-raised : goal.returns-in_err-take_task-clause-raised
returns-in_err-take_task-clause-raised g c =
    told_on (standing_of c.loop-task.stage c.loop-task.keys.items)
    (standing_of c.take_task.new.stage c.take_task.new.keys.items) c.loop-task.left.items c.pop.new.self.items
    c.in-Some.task c.args.stage.now c.take_task.new.stage c.args.tasks.items c.in_err-take_task.field-0.0
    c.from_residual.result c.in-Some.ensures.items c.loop-task.invariant.0 c.in_err-take_task.ensures.taken
    c.from_residual.ensures.1

pub returns-clause-raised : goal.returns-clause-raised
returns-clause-raised g c =
    ends (standing_of c.loop-task.stage c.loop-task.keys.items) c.loop-task.left.items c.args.stage.now
    c.args.tasks.items (none_left c.loop-task.left c.in_default.ensures.cases.0) c.loop-task.invariant.0
