use Rattle.std.proofs.Common.{◌∙◌, ap, length, sym}
use Rattle.std.proofs.lemmas.List.{length-map}
use Rattle.fx_boxes.specs.Panes.{free_rect}
use Rattle.fx_boxes.proofs.Outcomes.{if_ok}
use Rattle.fx_boxes.proofs.PaneRects.{free_rects}
use Rattle.fx_boxes.proofs.pane.place.Goals as goal

pub returns-clause-rects : goal.returns-clause-rects
returns-clause-rects g c = if_ok _ _ c.rects.result (λ rects same. same ∙ sym (free_rects c.args.pane.now c.args.children.now 0 0)) c.rects.ensures

pub returns-clause-each : goal.returns-clause-each
returns-clause-each g c =
    if_ok _ _ c.rects.result (λ rects same. ap length same ∙ length-map c.args.children.now free_rect) c.rects.ensures
