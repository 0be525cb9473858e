use Rattle.fx_layout.proofs.Readds.{IsAddedTo}
use Rattle.fx_layout.proofs.rects.add_children.Given as goal

abbrev pub invariant-loop-k : goal.invariant-loop-k
invariant-loop-k l =
    IsAddedTo l.places l.outer l.halves.across.now l.halves.down.now l.fn.marks l.fn.rects.items l.marks l.rects.items l.k
