-- What an update of the layout of a scene makes of what is kept.
-- Cited by `Layouts` and by what paints a scene.
use Rattle.std.specs.Prelude.{◌≡◌, ◌≢◌, ℕ, ℤ, pos, negsuc, ◌+◌, ◌*◌, ◌<◌, ◌+ℤ◌, Bool, false, ◌&&◌, ◌||◌, not, ◌==◌, nat_eq, List, [], AllPairs, length, map, max, min, slice_index_or, Option, Some, None}
use Rattle.std.specs.List.{list_any, position_or_len}
use Rattle.std.specs.Option.{option_map}
use Rattle.fx_base.specs.declared.geometry.Rect.{Rect}
use Rattle.fx_base.specs.declared.keys.NodeKey.{NodeKey}
use Rattle.fx_kinds.specs.declared.facts.BoxFacts.{BoxFacts}
use Rattle.fx_look.specs.declared.looks.Look.{Look}
use Rattle.fx_panes_parts.specs.declared.axes.Axis.{Axis}
use Rattle.fx_panes_parts.specs.declared.axes.Axis.TheVariants.{Across, Down}
use Rattle.fx_panes_parts.specs.declared.axes.Extent.{Extent}
use Rattle.fx_panes_parts.specs.declared.axes.Span.{Span}
use Rattle.fx_panes_parts.specs.Lengths.{pixels}
use Rattle.fx_layout_sweeps.specs.Marks.{flag_in}
use Rattle.fx_layout_sweeps.specs.Nodes.{children_lists, extent_at, keys, node_at, parents, span_at}
use Rattle.fx_layout_sweeps.specs.Sweeps.{AreMeasured, ArePlaced, is_worked, kept_in, last_in, old_at, tally}

-- What is kept of each node of the last update, in their order: its key, the places of its children, its lengths along
-- both axes, where it stands in its parent, and where it stands in the window.
pub record Kept : Type 0 where
  pub keys : List NodeKey
  pub children : List (List ℕ)
  pub widths : List Extent
  pub heights : List Extent
  pub across : List Span
  pub down : List Span
  pub rects : List Rect

abbrev pub is_key : NodeKey → NodeKey → Bool
is_key one other = (one.slot == other.slot) && (one.birth == other.birth)

-- the place that is kept for a key, or one past the end where none is
abbrev pub old_place : List NodeKey → NodeKey → ℕ
old_place old key = position_or_len (λ (one : NodeKey). is_key one key) old

-- the place that is kept for each node
abbrev pub old_places : List NodeKey → List BoxFacts → List ℕ
old_places old nodes = map (λ (node : BoxFacts). old_place old node.key) nodes

-- no two nodes have one key
abbrev pub AreDifferent : List NodeKey → Type 0
AreDifferent keys = AllPairs (λ (one other : NodeKey). one ≢ other) keys

abbrev pub is_listed : List ℕ → ℕ → Bool
is_listed places p = list_any (λ (place : ℕ). place == p) places

-- the lengths that are kept for a node
abbrev pub lengths_in : List ℕ → List Extent → ℕ → Extent
lengths_in olds lengths p = extent_at lengths (old_at olds p)

-- the length of the root: the window's, or without one the preferred length within 1 to 2,048 pixels
abbrev pub root_length : Option ℕ → Extent → ℕ
root_length (Some length) lengths = length
root_length None lengths = max 1 (min lengths.pref 2048)

abbrev pub window_width : Option (ℕ × ℕ) → Option ℕ
window_width window = option_map (λ (size : ℕ × ℕ). size.0) window

abbrev pub window_height : Option (ℕ × ℕ) → Option ℕ
window_height window = option_map (λ (size : ℕ × ℕ). size.1) window

-- the root stands in the corner
abbrev pub from_corner : ℕ → Span
from_corner length = record { start = pos 0; length = length }

-- the widths and heights that placing along an axis looks at, of the widths and of the lengths along it: across no
-- heights are known
abbrev pub widths_along : Axis → List Extent → List Extent → List Extent
widths_along Across widths lengths = lengths
widths_along Down widths lengths = widths

abbrev pub heights_along : Axis → List Extent → List Extent
heights_along Across lengths = []
heights_along Down lengths = lengths

-- a place in the window; none is farther than ten to the twelve pixels from its corner
abbrev pub reached : ℤ → ℤ
reached (pos n) = pos (min n 1000000000000)
reached (negsuc n) = negsuc (min n 999999999999)

-- the window's corner
abbrev pub corner : Rect
corner = record { x = pos 0; y = pos 0; w = pos 0; h = pos 0 }

abbrev pub rect_at : List Rect → ℕ → Rect
rect_at rects p = slice_index_or rects p corner

-- what a node stands in: its parent's rectangle, or the window
abbrev pub around : List Rect → Option ℕ → Rect
around rects None = corner
around rects (Some parent) = rect_at rects parent

-- a rectangle in the window, of what it stands in and where it stands there
abbrev pub shifted : Rect → Span → Span → Rect
shifted outer across down = record {
  x = reached (outer.x +ℤ across.start);
  y = reached (outer.y +ℤ down.start);
  w = pixels across.length;
  h = pixels down.length;
}

-- the places of the nodes, added up from the root
pub record AreRects (nodes : List BoxFacts) (across down : List Span) (rects : List Rect) : Type 0 where
  pub each : length rects ≡ length nodes
  pub placed : (p : ℕ) → p < length nodes
      → rect_at rects p ≡ shifted (around rects (node_at nodes p).parent) (span_at across p) (span_at down p)

-- A node is worked on from the second sweep on where it is listed or its width is another than the last.
abbrev pub is_wide_anew : List ℕ → List ℕ → List Span → List Span → ℕ → Bool
is_wide_anew listed olds old_across across p = is_worked (is_listed listed) (last_in olds old_across) across p

-- The four sweeps of an update, where it stands in the window what it answers for each node, and what it keeps: widths
-- from the leaves, places across from the root, heights at the new widths from the leaves, and places down from the
-- root. Each works on the listed nodes, and all but the first on those whose length is another than the last; every
-- other node keeps what is kept.
pub record IsUpdate (old : Kept) (nodes : List BoxFacts) (looks : List Look) (window : Option (ℕ × ℕ))
    (listed : List ℕ) (new : Kept) : Type 0 where
  pub keys : new.keys ≡ keys nodes
  pub children : new.children ≡ children_lists (parents nodes)
  pub widths : AreMeasured Across nodes looks new.children (is_listed listed) [] []
      (lengths_in (old_places old.keys nodes) old.widths) new.widths
  pub root_across : span_at new.across 0 ≡ from_corner (root_length (window_width window) (extent_at new.widths 0))
  pub across : ArePlaced Across nodes looks new.children (is_listed listed) new.widths []
      (last_in (old_places old.keys nodes) old.across)
      (kept_in (old_places old.keys nodes) old.children old.across) new.across
  pub heights : AreMeasured Down nodes looks new.children
      (is_wide_anew listed (old_places old.keys nodes) old.across new.across) new.widths new.across
      (lengths_in (old_places old.keys nodes) old.heights) new.heights
  pub root_down : span_at new.down 0 ≡ from_corner (root_length (window_height window) (extent_at new.heights 0))
  pub down : ArePlaced Down nodes looks new.children
      (is_wide_anew listed (old_places old.keys nodes) old.across new.across) new.widths new.heights
      (last_in (old_places old.keys nodes) old.down)
      (kept_in (old_places old.keys nodes) old.children old.down) new.down
  pub rects : AreRects nodes new.across new.down new.rects

-- the size of the root
abbrev pub root_size : Kept → ℕ × ℕ
root_size kept = ((span_at kept.across 0).length, (span_at kept.down 0).length)

-- a node whose width or height is another than the last
abbrev pub is_resized : Kept → List BoxFacts → Kept → ℕ → Bool
is_resized old nodes new p =
    not (nat_eq (span_at new.across p).length (last_in (old_places old.keys nodes) old.across p).length)
    || not (nat_eq (span_at new.down p).length (last_in (old_places old.keys nodes) old.down p).length)

abbrev pub resized : Kept → List BoxFacts → Kept → ℕ
resized old nodes new = tally (is_resized old nodes new) (length nodes)

-- how many calls of panes an update may need, of so many listed and so many resized nodes
abbrev pub laid_bound : ℕ → ℕ → ℕ
laid_bound listed resized = 4 * listed + 3 * resized

-- How many calls of panes an update makes, one for each node that a sweep works on: the first sweep works on the listed
-- nodes, the next two also on those whose width is another than the last, and the last one on the listed and resized.
abbrev pub laid_count : Kept → List BoxFacts → List ℕ → Kept → ℕ
laid_count old nodes listed new =
    tally (is_listed listed) (length nodes)
    + 2 * tally (is_wide_anew listed (old_places old.keys nodes) old.across new.across) (length nodes)
    + tally (λ p. is_listed listed p || is_resized old nodes new p) (length nodes)

-- Nodes are marked so that each one without a mark had its rectangle before the update too.
pub record AreTold (old : Kept) (nodes : List BoxFacts) (new : Kept) (marks : List Bool) : Type 0 where
  pub each : length marks ≡ length nodes
  pub there : (p : ℕ) → p < length nodes → flag_in marks p ≡ false
      → old_at (old_places old.keys nodes) p < length old.rects
  pub still : (p : ℕ) → p < length nodes → flag_in marks p ≡ false
      → rect_at new.rects p ≡ rect_at old.rects (old_at (old_places old.keys nodes) p)
