-- what is told so far stands in front of what is told of the tasks that are left
use Rattle.std.proofs.Common.{◌≡◌, ◌++◌, drop}
use Rattle.fx_load.specs.Telling.{warnings_of}
use Rattle.fx_load.proofs.telling.warnings_of.Given as goal

abbrev pub invariant-loop-task : goal.invariant-loop-task
invariant-loop-task l = l.text.items ++ warnings_of l.files (drop l.task-index l.tasks) ≡ warnings_of l.files l.tasks
