use Rattle.fx_layout.proofs.Catching.{IsAlikeUpTo}
use Rattle.fx_layout.proofs.spare.put_alike.Given as goal

abbrev pub invariant-loop-k : goal.invariant-loop-k
invariant-loop-k l = IsAlikeUpTo l.places l.from l.fn.to.items l.to.items l.k
