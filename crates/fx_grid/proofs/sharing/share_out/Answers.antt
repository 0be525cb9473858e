use Rattle.std.proofs.lemmas.List.{length-take-le}
use Rattle.fx_grid.proofs.SharingLemmas.{shared_out_is}
use Rattle.fx_grid.proofs.sharing.share_out.Goals as goal

pub returns : goal.returns
returns c =
    shared_out_is c.args.need _ _ c.args.lengths.now _ _ _ c.requires.need c.whole.ensures c.saturating_sub.ensures
    (length-take-le _ _ c.requires.few) c.share_evenly.ensures c.add.ensures
