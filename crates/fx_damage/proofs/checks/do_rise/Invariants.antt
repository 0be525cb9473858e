use Rattle.std.proofs.Common.{ℕ, ◌<◌, ◌+◌}
use Rattle.std.specs.Prelude.{slice_index}
use Rattle.fx_damage.specs.Edits.{places_of}
use Rattle.fx_damage.proofs.checks.do_rise.Given as goal

abbrev pub invariant-loop-at : goal.invariant-loop-at
invariant-loop-at l = (k : ℕ) → k + 1 < l.at → slice_index (places_of l.edits) k < slice_index (places_of l.edits) (k + 1)
