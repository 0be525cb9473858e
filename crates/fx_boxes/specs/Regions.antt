-- A region by itself, of which nothing but its insets is computed: JavaFX 21 API, javafx.scene.layout.Region.
-- Cited by src/region.rt.
use Rattle.std.specs.Prelude.{List, []}
use Rattle.fx_base.specs.declared.facts.PaneFacts.{PaneFacts}
use Rattle.fx_base.specs.declared.facts.Sizes.{Sizes}
use Rattle.fx_panes_parts.specs.declared.axes.ChildAxis.{ChildAxis}
use Rattle.fx_panes_parts.specs.declared.axes.Extent.{Extent}
use Rattle.fx_panes_parts.specs.declared.axes.PaneAxis.{PaneAxis}
use Rattle.fx_panes_parts.specs.Axes.{insets}
use Rattle.fx_panes_parts.specs.Panes.{measured}
use Rattle.fx_panes_parts.specs.Sizes.{pane_extent}

-- the computed minimum and preferred length are the insets
unfoldable pub region_extent : PaneAxis → List ChildAxis → Extent
region_extent region children = pane_extent region.own (insets region) (insets region)

abbrev pub region_sizes : PaneFacts → Sizes
region_sizes region = measured region_extent region_extent region []
