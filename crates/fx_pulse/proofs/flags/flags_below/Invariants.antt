-- the flags of the nodes so far
use Rattle.std.proofs.Common.{◌≡◌}
use Rattle.fx_pulse_model.specs.Pictures.{shows}
use Rattle.fx_pulse.specs.Drawing.{drawn}
use Rattle.fx_pulse_touched.specs.Marks.{told}
use Rattle.fx_pulse.proofs.flags.flags_below.Given as goal

abbrev pub invariant-loop-place : goal.invariant-loop-place
invariant-loop-place l = l.flags.items ≡ told (shows (drawn l.laid)) l.place
