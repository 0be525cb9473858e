-- the paths of the nodes so far, and how many children each node has among them
use Rattle.std.proofs.Common.{◌≡◌}
use Rattle.fx_layout_sweeps.specs.Nodes.{parents}
use Rattle.fx_pulse_model.specs.Lines.{path_of}
use Rattle.fx_pulse.specs.Drawing.{AreCounts}
use Rattle.fx_pulse_touched.specs.Marks.{told}
use Rattle.fx_pulse.proofs.paths.paths_of.Given as goal

abbrev pub invariant-loop-place : goal.invariant-loop-place
invariant-loop-place l =
    (l.paths.items ≡ told (path_of (parents l.boxes)) l.place) × AreCounts (parents l.boxes) l.counts.items l.place
