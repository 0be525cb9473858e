-- the copies are the items so far
use Rattle.std.proofs.Common.{◌≡◌, take}
use Rattle.fx_store_model.proofs.changes.copy_each_pair.Given as goal

abbrev pub invariant-loop-pair : goal.invariant-loop-pair
invariant-loop-pair l = l.copies.items ≡ take l.pair-index l.pairs
