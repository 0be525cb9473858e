-- the marked places so far
use Rattle.std.proofs.Common.{◌≡◌}
use Rattle.std.specs.List.{filter, range_with_len}
use Rattle.fx_layout_sweeps.specs.Marks.{flag_in}
use Rattle.fx_pulse_touched.proofs.marks.listed_places.Given as goal

abbrev pub invariant-loop-place : goal.invariant-loop-place
invariant-loop-place l = l.places.items ≡ filter (flag_in l.marks) (range_with_len 0 l.place)
