-- The layout of a scene by recursion over its tree of nodes. Each definition is asked with a depth that the tree below
-- a node doesn't pass.
-- Cited by src/laws.rt.
use Rattle.std.specs.Prelude.{◌≡◌, ℕ, zero, suc, ◌<◌, All, List, length, map, slice_index_or, Option}
use Rattle.fx_base.specs.declared.facts.ChildSize.{ChildSize}
use Rattle.fx_base.specs.declared.geometry.Rect.{Rect}
use Rattle.fx_kinds.specs.declared.facts.BoxFacts.{BoxFacts}
use Rattle.fx_look.specs.declared.looks.Look.{Look}
use Rattle.fx_panes_parts.specs.declared.axes.Axis.{Axis}
use Rattle.fx_panes_parts.specs.declared.axes.Axis.TheVariants.{Across, Down}
use Rattle.fx_panes_parts.specs.declared.axes.Extent.{Extent}
use Rattle.fx_panes_parts.specs.declared.axes.Span.{Span}
use Rattle.fx_layout_parts.specs.Children.{child_of}
use Rattle.fx_layout_parts.specs.Rules.{IsHigh, IsWide}
use Rattle.fx_layout_sweeps.specs.Nodes.{box_at, children_of, node_at, parents, span_at, unknown}
use Rattle.fx_layout_sweeps.specs.Sweeps.{fitted, held_length, spans_along}
use Rattle.fx_layout.specs.Updates.{corner, from_corner, rect_at, root_length, shifted, window_height, window_width}

-- the places of a node's children
abbrev pub kids : List BoxFacts → ℕ → List ℕ
kids nodes p = children_of (parents nodes) p

-- the children of a node as its pane sees them, where each has these lengths
abbrev pub seen_by : List BoxFacts → List Look → ℕ → (ℕ → Extent) → (ℕ → Extent) → List ChildSize
seen_by nodes looks p wide high =
    map (λ j. child_of (box_at nodes looks p).rule (node_at nodes j) (wide j) (high j)) (kids nodes p)

-- where a node's pane puts its children along an axis in a length of it
abbrev pub put_by : Axis → List BoxFacts → List Look → ℕ → (ℕ → Extent) → (ℕ → Extent) → ℕ → List Span
put_by axis nodes looks p wide high room =
    fitted (length (kids nodes p)) (spans_along axis (box_at nodes looks p) (seen_by nodes looks p wide high) room)

-- the heights of children that aren't known yet
abbrev pub no_heights : ℕ → Extent
no_heights j = unknown

-- The widths of a node are those that its pane measures over the widths of its children.
abbrev pub IsWideBy : ℕ → List BoxFacts → List Look → ℕ → Extent → Type 0
IsWideBy zero nodes looks p widths = ⊥
IsWideBy (suc deep) nodes looks p widths =
    (wide : ℕ → Extent)
    × All (λ j. IsWideBy deep nodes looks j (wide j)) (kids nodes p)
    × IsWide (box_at nodes looks p) (seen_by nodes looks p wide no_heights) widths

-- The heights of a node in a width are those that its pane measures there, over the heights that its children have in
-- the widths that the pane gives them.
abbrev pub IsHighBy : ℕ → List BoxFacts → List Look → ℕ → ℕ → Extent → Type 0
IsHighBy zero nodes looks p width heights = ⊥
IsHighBy (suc deep) nodes looks p width heights =
    (wide : ℕ → Extent) × (high : ℕ → Extent)
    × All (λ j. IsWideBy deep nodes looks j (wide j)) (kids nodes p)
    × ((k : ℕ) → k < length (kids nodes p) → IsHighBy deep nodes looks (slice_index_or (kids nodes p) k 0)
    (span_at (put_by Across nodes looks p wide no_heights width) k).length (high (slice_index_or (kids nodes p) k 0)))
    × IsHigh (box_at nodes looks p) (seen_by nodes looks p wide high) (held_length width) heights

-- The subtree of a node of a width and a height: the pane puts its children into its rectangle, and so on below them.
abbrev pub IsLaidBy : ℕ → List BoxFacts → List Look → List Rect → ℕ → ℕ → ℕ → Type 0
IsLaidBy zero nodes looks rects p width height = ⊥
IsLaidBy (suc deep) nodes looks rects p width height =
    (wide : ℕ → Extent) × (high : ℕ → Extent)
    × All (λ j. IsWideBy deep nodes looks j (wide j)) (kids nodes p)
    × ((k : ℕ) → k < length (kids nodes p) → IsHighBy deep nodes looks (slice_index_or (kids nodes p) k 0)
    (span_at (put_by Across nodes looks p wide no_heights width) k).length (high (slice_index_or (kids nodes p) k 0)))
    × ((k : ℕ) → k < length (kids nodes p) → rect_at rects (slice_index_or (kids nodes p) k 0)
    ≡ shifted (rect_at rects p) (span_at (put_by Across nodes looks p wide no_heights width) k)
    (span_at (put_by Down nodes looks p wide high height) k))
    × ((k : ℕ) → k < length (kids nodes p) → IsLaidBy deep nodes looks rects (slice_index_or (kids nodes p) k 0)
    (span_at (put_by Across nodes looks p wide no_heights width) k).length
    (span_at (put_by Down nodes looks p wide high height) k).length)

-- The rectangles of a scene: the root has the window's size, or its own, and stands in the corner.
pub record AreRectsBy (nodes : List BoxFacts) (looks : List Look) (window : Option (ℕ × ℕ)) (rects : List Rect)
    : Type 0 where
  pub each : length rects ≡ length nodes
  pub wide : Extent
  pub high : Extent
  pub is_wide : IsWideBy (length nodes) nodes looks 0 wide
  pub is_high : IsHighBy (length nodes) nodes looks 0 (root_length (window_width window) wide) high
  pub root : rect_at rects 0 ≡ shifted corner (from_corner (root_length (window_width window) wide))
      (from_corner (root_length (window_height window) high))
  pub below : IsLaidBy (length nodes) nodes looks rects 0 (root_length (window_width window) wide)
      (root_length (window_height window) high)
