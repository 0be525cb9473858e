-- the birth numbers of the nodes so far rise
use Rattle.std.proofs.Common.{ℕ, ◌<◌, ◌+◌}
use Rattle.std.specs.Prelude.{slice_index}
use Rattle.fx_pulse_model.specs.Scenes.{births}
use Rattle.fx_pulse.proofs.checking.do_births_rise.Given as goal

abbrev pub invariant-loop-place : goal.invariant-loop-place
invariant-loop-place l =
    (k : ℕ) → k + 1 < l.place → slice_index (births l.boxes) k < slice_index (births l.boxes) (k + 1)
