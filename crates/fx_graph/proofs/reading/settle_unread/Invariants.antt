use Rattle.std.proofs.Common.{◌≡◌}
use Rattle.fx_graph_model.proofs.Reading.{measure}
use Rattle.fx_graph.proofs.ReadLemmas.{Reads}
use Rattle.fx_graph.proofs.reading.settle_unread.Given as goal

abbrev pub invariant-loop-count : goal.invariant-loop-count
invariant-loop-count g l =
    Reads l.fn.lists.entries.items l.name l.fn.lists.unread.items l.lists.unread.items l.lists.cache.items l.lists.work.items l.count l.fn.work.evaluated l.work.evaluated
    × (l.lists ≡ record l.fn.lists { unread = l.lists.unread; cache = l.lists.cache; work = l.lists.work })
    × (l.work ≡ record l.fn.work { evaluated = l.work.evaluated })

abbrev pub decreases-loop-count : goal.decreases-loop-count
decreases-loop-count g l = measure l.lists.unread.items l.count
