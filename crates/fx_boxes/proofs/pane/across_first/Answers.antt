use Rattle.std.proofs.lemmas.List.{length-map}
use Rattle.fx_panes_parts.proofs.PaneLemmas.{across_first}
use Rattle.fx_boxes.specs.Panes.{free_extent, free_span, free_spans}
use Rattle.fx_boxes.proofs.pane.across_first.Goals as goal

pub returns : goal.returns
returns c =
    across_first free_extent free_extent free_spans free_spans
    (λ pane cs n. length-map cs free_span) (λ pane cs n. length-map cs free_span)
