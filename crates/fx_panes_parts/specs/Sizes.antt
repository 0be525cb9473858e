-- Sizes by the look, lengths of children that fill or don't, and children in areas, each along one axis.
-- Cited by src/sizes.rt and by every pane.
use Rattle.std.specs.Prelude.{ℕ, Bool, ℤ, pos, negsuc, ◌+◌, ◌-◌, ◌^◌, ◌≤◌, ◌==◌, max, min, if◌then◌else◌}
use Rattle.fx_panes_parts.specs.declared.axes.ChildAxis.{ChildAxis}
use Rattle.fx_panes_parts.specs.declared.axes.Extent.{Extent}
use Rattle.fx_panes_parts.specs.declared.axes.OwnLengths.{OwnLengths}
use Rattle.fx_panes_parts.specs.declared.axes.Span.{Span}
use Rattle.fx_panes_parts.specs.Lengths.{aligned, longest, pixels}

-- minimum, preferred and maximum don't fall, and are lengths
pub record IsExtent (e : Extent) : Type 0 where
  pub low : e.min ≤ e.pref
  pub high : e.pref ≤ e.max
  pub most : e.max ≤ longest

-- clamped between minimum and maximum
abbrev pub held : Extent → ℕ → ℕ
held e length = max (min length e.max) e.min

-- the length of a child in so much space, which it fills or not
abbrev pub filled_length : Bool → Extent → ℕ → ℕ
filled_length fill e space = if fill then held e space else max (min e.pref space) e.min

-- the preferred length before it is clamped: the look's, or where that is below 0 the computed one
abbrev pub preferred : ℤ → ℕ → ℕ
preferred (pos n) computed = min n longest
preferred (negsuc n) computed = min computed longest

-- a minimum or maximum: the look's, the preferred length for -Infinity, which is the least number, or the computed one
abbrev pub limited : ℤ → ℕ → ℕ → ℕ
limited (pos n) pref computed = min n longest
limited (negsuc n) pref computed = if n == 2 ^ 63 - 1 then pref else min computed longest

-- a maximum below the minimum becomes the minimum, and the preferred length is clamped between them
unfoldable pub resolved : OwnLengths → ℕ → ℕ → ℕ → Extent
resolved own pref computed_min computed_max =
    let low = limited own.min pref computed_min in
    let high = max (limited own.max pref computed_max) low in
    record { min = low; pref = max (min pref high) low; max = high }

-- of a pane or region, with the computed minimum and preferred length
abbrev pub pane_extent : OwnLengths → ℕ → ℕ → Extent
pane_extent own computed_min computed_pref = resolved own (preferred own.pref computed_pref) computed_min longest

-- of a control, whose computed maximum is its preferred length
abbrev pub control_extent : OwnLengths → ℕ → ℕ → Extent
control_extent own computed_min computed_pref =
    let pref = preferred own.pref computed_pref in resolved own pref computed_min pref

-- where a child of a length stands in an area with its margins
abbrev pub in_area : ℕ → ℕ → ℕ → ChildAxis → ℕ → Span
in_area how start area child length = record {
  start = pixels (start + child.before + aligned how length (area - (child.before + child.after)));
  length = length;
}
