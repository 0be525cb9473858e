-- a step that is a task
use Rattle.std.proofs.Common.{sym, subst}
use Rattle.fx_scene_acts.specs.Acts.{task_of}
use Rattle.fx_scene_acts.specs.declared.tasks.Doing.{Doing}
use Rattle.fx_scene_plan.specs.Plans.{standing_of}
use Rattle.fx_scene_raise.specs.Raising.{IsTaskTaken}
use Rattle.fx_scene_raise.proofs.StepLemmas.{step_taken, told_so}
use Rattle.fx_scene_raise.proofs.raising.take_task.Goals as goal

pub returns-in-Step-clause-taken : goal.returns-in-Step-clause-taken
returns-in-Step-clause-taken g c =
    let before = standing_of c.args.stage.now c.args.keys.now.items in
    let now = standing_of c.take_step.new.stage c.take_step.new.keys.items in
    let IsTaken : Doing → Type 0 = λ d. IsTaskTaken (task_of c.args.task.place d) before now c.told.result in
    subst IsTaken (sym c.in-Step.is)
    (step_taken c.args.task.place c.in-Step.step before now c.take_step.result c.told.result c.take_step.ensures.taken c.told.ensures)

pub returns-in-Step-clause-quiet : goal.returns-in-Step-clause-quiet
returns-in-Step-clause-quiet g c = λ is.
    told_so _ c.args.task.place c.take_step.result c.told.result c.told.ensures (c.take_step.ensures.quiet is)
