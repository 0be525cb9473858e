use Rattle.fx_panes.specs.Anchor.{anchor_spans}
use Rattle.fx_panes.proofs.EachLemmas.{one_anchor, each_placed}
use Rattle.fx_panes.proofs.anchor.place.Goals as goal

pub returns-clause-each : goal.returns-clause-each
returns-clause-each g c =
    each_placed anchor_spans anchor_spans one_anchor one_anchor c.args.pane.now c.args.children.now _ _ c.rects.result c.rects.ensures
