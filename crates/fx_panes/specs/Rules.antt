-- What the rules of these panes share along one axis: which length of a child counts, and the room between its margins.
-- Cited by every pane here and by grids.
use Rattle.std.specs.Prelude.{ℕ, ◌+◌, ◌-◌, List}
use Rattle.fx_panes_parts.specs.declared.axes.ChildAxis.{ChildAxis}
use Rattle.fx_panes_parts.specs.declared.axes.Extent.{Extent}
use Rattle.fx_panes_parts.specs.declared.axes.PaneAxis.{PaneAxis}
use Rattle.fx_panes_parts.specs.Parts.{outer}
use Rattle.fx_panes_parts.specs.Sizes.{pane_extent}
use Rattle.fx_panes.specs.declared.rules.Bound.{Bound}
use Rattle.fx_panes.specs.declared.rules.Bound.TheVariants.{Minimum, Preferred}

-- what is left of a length for a child between its margins
abbrev pub inner : ChildAxis → ℕ → ℕ
inner child length = length - (child.before + child.after)

-- the child's length of this kind
abbrev pub length_by : Bound → ChildAxis → ℕ
length_by Minimum child = child.extent.min
length_by Preferred child = child.extent.pref

-- the same with its margins
abbrev pub outer_by : Bound → ChildAxis → ℕ
outer_by bound child = outer child (length_by bound child)

-- a pane's extent, from what a rule computes for its minimum and for its preferred length
abbrev pub extent_by : (Bound → PaneAxis → List ChildAxis → ℕ) → PaneAxis → List ChildAxis → Extent
extent_by computed pane children =
    pane_extent pane.own (computed Minimum pane children) (computed Preferred pane children)
