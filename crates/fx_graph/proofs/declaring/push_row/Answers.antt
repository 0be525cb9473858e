use Rattle.std.proofs.Common.{refl}
use Rattle.fx_graph.proofs.StoreLemmas.{store_declared}
use Rattle.fx_graph.proofs.declaring.push_row.Goals as goal

pub returns-clause-holds : goal.returns-clause-holds
returns-clause-holds c =
    rw (c.push_reserved.ensures.items, c.push_reserved-2.ensures.items, c.push_reserved-3.ensures.items, c.push_reserved-4.ensures.items, c.push_reserved-5.ensures.items, c.push_reserved-6.ensures.items, c.push_reserved-7.ensures.items)
    (store_declared _ _ _ _ _ _ _ _ _ _ _ _ c.args.value _ _ c.requires.holds c.requires.few refl c.requires.kind c.new.ensures c.requires.kept)
