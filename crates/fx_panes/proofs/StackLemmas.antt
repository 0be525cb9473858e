-- The children of a stack as parts.
use Rattle.std.proofs.Common.{◌≡◌, ℕ, ◌+◌, List, map, refl}
use Rattle.std.proofs.lemmas.Simd.{map-map}
use Rattle.fx_base.specs.declared.facts.ChildSize.{ChildSize}
use Rattle.fx_panes_parts.specs.declared.axes.Axis.{Axis}
use Rattle.fx_panes_parts.specs.declared.axes.Extent.{Extent}
use Rattle.fx_panes_parts.specs.declared.axes.PaneAxis.{PaneAxis}
use Rattle.fx_panes_parts.specs.declared.parts.Part.{Part}
use Rattle.fx_panes_parts.specs.Axes.{along, child_axis, insets}
use Rattle.fx_panes_parts.specs.Parts.{greatest_of, part_of}
use Rattle.fx_panes_parts.specs.Sizes.{pane_extent}
use Rattle.fx_panes.specs.Stack.{stack_extent}

-- what is worked out from the children as parts is the extent
pub stack_extent_is : (axis : Axis) (facts pane : PaneAxis) (children : List ChildSize) (around least wish : ℕ) (extent : Extent)
    → facts ≡ pane → around ≡ insets facts
    → least ≡ greatest_of (map (λ (part : Part). part.min) (map (λ (child : ChildSize). part_of (child_axis axis child)) children))
    → wish ≡ greatest_of (map (λ (part : Part). part.pref) (map (λ (child : ChildSize). part_of (child_axis axis child)) children))
    → extent ≡ pane_extent facts.own (around + least) (around + wish) → extent ≡ stack_extent pane (along axis children)
unfolding stack_extent
stack_extent_is axis facts pane children around least wish extent facts_is around_is least_is wish_is extent_is =
    rw (extent_is, around_is, least_is, wish_is, map-map part_of (child_axis axis) children, facts_is) refl
