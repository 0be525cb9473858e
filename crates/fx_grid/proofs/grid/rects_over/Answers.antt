use Rattle.fx_grid.proofs.StartLemmas.{rects_are}
use Rattle.fx_grid.proofs.grid.rects_over.Goals as goal

pub returns : goal.returns
returns g c =
    rects_are c.args.pane.now c.args.children.now c.args.across.length c.args.down.length _ _ c.placed.result
    c.fill_starts.ensures.value c.fill_starts-2.ensures.value c.placed.ensures
