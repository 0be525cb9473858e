use Rattle.fx_listen.proofs.Changes.{IsByName-pruned}
use Rattle.fx_listen.proofs.entries.add.Goals as goal

pub insert-requires-clause-sorted : goal.insert-requires-clause-sorted
insert-requires-clause-sorted c =
    rw (c.prune.ensures.pruned, c.reserve.ensures.items) (IsByName-pruned c.args.owners.now.living _ c.requires.sorted)
