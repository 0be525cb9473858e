-- the other place stands on the line down to where the walk is exactly where it stands on the whole line
use Rattle.std.proofs.Common.{◌≡◌, ◌<◌, length}
use Rattle.fx_layout_sweeps.specs.Nodes.{parents}
use Rattle.fx_pulse_touched.specs.Marks.{is_on_line}
use Rattle.fx_pulse.proofs.checking.is_on_line.Given as goal

abbrev pub invariant-loop-at : goal.invariant-loop-at
invariant-loop-at l =
    (l.at < length l.boxes) × (is_on_line (parents l.boxes) l.at l.other ≡ is_on_line (parents l.boxes) l.place l.other)

abbrev pub decreases-loop-at : goal.decreases-loop-at
decreases-loop-at l = l.at
