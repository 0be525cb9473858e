-- Each child of a pane has its rectangle by itself.
use Rattle.std.proofs.Common.{◌≡◌, ℕ, List, map}
use Rattle.std.proofs.lemmas.Simd.{map-map, zip2_of_maps}
use Rattle.fx_base.specs.declared.facts.ChildSize.{ChildSize}
use Rattle.fx_base.specs.declared.facts.PaneFacts.{PaneFacts}
use Rattle.fx_panes_parts.specs.declared.axes.Axis.TheVariants.{Across, Down}
use Rattle.fx_panes_parts.specs.Axes.{child_axis, rect_of}
use Rattle.fx_boxes.specs.Panes.{free_rect, free_span, pane_rects}

pub free_rects : (p : PaneFacts) (cs : List ChildSize) (w h : ℕ) → pane_rects p cs w h ≡ map free_rect cs
free_rects p cs w h =
    zip2_of_maps rect_of (λ c. free_span (child_axis Across c)) (λ c. free_span (child_axis Down c)) cs
    (map-map free_span (child_axis Across) cs) (map-map free_span (child_axis Down) cs)
