use Rattle.fx_layout_sweeps.proofs.Spreads.{IsPutTo}
use Rattle.fx_layout_sweeps.proofs.placing.put_spans.Given as goal

abbrev pub invariant-loop-k : goal.invariant-loop-k
invariant-loop-k l = IsPutTo l.places l.found l.fn.spans.items l.spans.items l.k
