use Rattle.std.proofs.Common.{map}
use Rattle.fx_layout_sweeps.specs.Nodes.{span_at}
use Rattle.fx_layout_sweeps.proofs.Spreads.{IsPutTo}
use Rattle.fx_layout_sweeps.proofs.moving.put_kept.Given as goal

abbrev pub invariant-loop-k : goal.invariant-loop-k
invariant-loop-k l = IsPutTo l.places (map (span_at l.old) l.old_places) l.fn.spans.items l.spans.items l.k
