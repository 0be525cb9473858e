-- the entries of the nodes so far, and the paths of the others
use Rattle.std.proofs.Common.{◌≡◌, ◌≤◌, ◌<◌, ℕ, [], get_or, length}
use Rattle.std.specs.List.{AllZip}
use Rattle.fx_layout_sweeps.specs.Nodes.{parents}
use Rattle.fx_pulse_model.specs.Lines.{path_of}
use Rattle.fx_pulse_model.specs.Pictures.{IsEntry}
use Rattle.fx_pulse.specs.Drawing.{drawn, shown_below}
use Rattle.fx_pulse.proofs.entries.entries_of.Given as goal

abbrev pub invariant-loop-place : goal.invariant-loop-place
invariant-loop-place l = record {
  made : AllZip (IsEntry (drawn l.laid)) (shown_below (drawn l.laid) l.place) l.entries.items;
  each : length l.rest.items ≡ length l.laid.boxes.now;
  rest : (k : ℕ) → l.place ≤ k → k < length l.laid.boxes.now
      → get_or l.rest.items k [] ≡ path_of (parents l.laid.boxes.now) k;
}
