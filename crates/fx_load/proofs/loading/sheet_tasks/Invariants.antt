-- the tasks of the sheets so far
use Rattle.std.proofs.Common.{◌≡◌, map}
use Rattle.fx_load.specs.Loading.{sheet_task}
use Rattle.fx_load.proofs.loading.sheet_tasks.Given as goal

abbrev pub invariant-loop-sheet : goal.invariant-loop-sheet
invariant-loop-sheet l = l.tasks.items ≡ map sheet_task l.yielded
