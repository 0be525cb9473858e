-- A pane and a child along one axis. A `Pos` p is numbered by rows of three: it aligns as p % 3 across and p / 3 down.
-- Cited by src/axes.rt and by every pane.
use Rattle.std.specs.Prelude.{ℕ, ◌+◌, ◌-◌, ◌*◌, ◌≤◌, ◌/◌, ◌%◌, List, length, map}
use Rattle.std.specs.Option.{option_map}
use Rattle.fx_base.specs.declared.facts.ChildSize.{ChildSize}
use Rattle.fx_base.specs.declared.facts.PaneFacts.{PaneFacts}
use Rattle.fx_base.specs.declared.facts.Sizes.{Sizes}
use Rattle.fx_base.specs.declared.geometry.Rect.{Rect}
use Rattle.fx_panes_parts.specs.declared.axes.Axis.{Axis}
use Rattle.fx_panes_parts.specs.declared.axes.Axis.TheVariants.{Across, Down}
use Rattle.fx_panes_parts.specs.declared.axes.ChildAxis.{ChildAxis}
use Rattle.fx_panes_parts.specs.declared.axes.Extent.{Extent}
use Rattle.fx_panes_parts.specs.declared.axes.PaneAxis.{PaneAxis}
use Rattle.fx_panes_parts.specs.declared.axes.Span.{Span}
use Rattle.fx_panes_parts.specs.Lengths.{length_of, longest, pixels}

-- a child along an axis
unfoldable pub child_axis : Axis → ChildSize → ChildAxis
child_axis Across c = record {
  extent = record {
    min = length_of c.sizes.min_w;
    pref = length_of c.sizes.pref_w;
    max = length_of c.sizes.max_w;
  };
  before = length_of c.margin.left;
  after = length_of c.margin.right;
  grow = c.hgrow;
  alignment = option_map (λ number. number % 3) c.alignment;
  align = c.halign;
  low = c.left;
  high = c.right;
  index = c.column;
  span = c.column_span;
  fill = c.fill_width;
  edge = c.edge;
  layout = c.layout_x;
}
child_axis Down c = record {
  extent = record {
    min = length_of c.sizes.min_h;
    pref = length_of c.sizes.pref_h;
    max = length_of c.sizes.max_h;
  };
  before = length_of c.margin.top;
  after = length_of c.margin.bottom;
  grow = c.vgrow;
  alignment = option_map (λ number. number / 3) c.alignment;
  align = c.valign;
  low = c.top;
  high = c.bottom;
  index = c.row;
  span = c.row_span;
  fill = c.fill_height;
  edge = c.edge;
  layout = c.layout_y;
}

-- the children along an axis
abbrev pub along : Axis → List ChildSize → List ChildAxis
along axis children = map (child_axis axis) children

-- a pane along an axis
unfoldable pub pane_axis : Axis → PaneFacts → PaneAxis
pane_axis Across p = record {
  own = record { min = p.own.min_w; pref = p.own.pref_w; max = p.own.max_w };
  before = length_of p.insets.left;
  after = length_of p.insets.right;
  alignment = p.alignment % 3;
  spacing = length_of p.spacing;
  gap = length_of p.hgap;
  fill = p.fill_width;
}
pane_axis Down p = record {
  own = record { min = p.own.min_h; pref = p.own.pref_h; max = p.own.max_h };
  before = length_of p.insets.top;
  after = length_of p.insets.bottom;
  alignment = p.alignment / 3;
  spacing = length_of p.spacing;
  gap = length_of p.vgap;
  fill = p.fill_height;
}

-- no length of the child is greater than the longest
pub record IsChildAxis (c : ChildAxis) : Type 0 where
  pub min : c.extent.min ≤ longest
  pub pref : c.extent.pref ≤ longest
  pub max : c.extent.max ≤ longest
  pub before : c.before ≤ longest
  pub after : c.after ≤ longest

-- no length of the pane is greater than the longest
pub record IsPaneAxis (p : PaneAxis) : Type 0 where
  pub before : p.before ≤ longest
  pub after : p.after ≤ longest
  pub spacing : p.spacing ≤ longest
  pub gap : p.gap ≤ longest

-- the insets before and behind the content
abbrev pub insets : PaneAxis → ℕ
insets pane = pane.before + pane.after

-- the length of the content of a pane of this length
abbrev pub content : PaneAxis → ℕ → ℕ
content pane length = length - insets pane

-- the gaps between so many parts
abbrev pub gaps : ℕ → ℕ → ℕ
gaps gap count = gap * (count - 1)

-- the sizes of the extents along the two axes
abbrev pub joined : Extent → Extent → Sizes
joined across down = record {
  min_w = pixels across.min;
  pref_w = pixels across.pref;
  max_w = pixels across.max;
  min_h = pixels down.min;
  pref_h = pixels down.pref;
  max_h = pixels down.max;
}

-- the rectangle of the spans along the two axes
abbrev pub rect_of : Span → Span → Rect
rect_of across down = record {
  x = across.start;
  y = down.start;
  w = pixels across.length;
  h = pixels down.length;
}
