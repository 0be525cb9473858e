use Rattle.std.proofs.Common.{◌≡◌, ◌++◌, take}
use Rattle.fx_base.specs.Names.{numbers}
use Rattle.fx_store_pairs.specs.Pairs.{pairs_of}
use Rattle.fx_store.specs.Watching.{ends_of}
use Rattle.fx_store.proofs.watching.push_ends.Given as goal

abbrev pub invariant-loop-pair : goal.invariant-loop-pair
invariant-loop-pair l =
    numbers l.names.items ≡ numbers l.fn.names.items ++ ends_of (pairs_of (take l.pair-index l.pairs))
