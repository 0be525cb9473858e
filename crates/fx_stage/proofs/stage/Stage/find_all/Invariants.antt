-- what was found of the paths from this place on
use Rattle.std.proofs.Common.{◌≡◌, ◌≤◌, drop, length, map}
use Rattle.fx_stage_model.specs.Answers.{all}
use Rattle.fx_stage_model.specs.Looking.{find}
use Rattle.fx_stage.specs.Finding.{found_last_first}
use Rattle.fx_stage.proofs.stage.Stage.find_all.Given as goal

abbrev pub invariant-loop-place : goal.invariant-loop-place
invariant-loop-place l =
    record {
      within : l.place ≤ length l.paths;
      found : found_last_first l.names.items l.word ≡ all (map (find l.self) (drop l.place l.paths));
    }

abbrev pub decreases-loop-place : goal.decreases-loop-place
decreases-loop-place l = l.place
