use Rattle.std.proofs.Common.{◌≡◌, length}
use Rattle.fx_layout_sweeps.specs.Nodes.{span_at}
use Rattle.fx_layout.specs.Updates.{from_corner}
use Rattle.fx_layout.proofs.lengths.spans_from.Given as goal

abbrev pub invariant-loop : goal.invariant-loop
invariant-loop l = (length l.spans.items ≡ l.counter) × (span_at l.spans.items 0 ≡ from_corner l.room)
