-- How what is kept of a scene fits together, and rectangles that are added up again.
-- Cited by the invariant of `Layouts` and by src/rects.rt.
use Rattle.std.specs.Prelude.{◌≡◌, ℕ, ◌<◌, Bool, false, List, All, length, Option}
use Rattle.fx_base.specs.declared.geometry.Rect.{Rect}
use Rattle.fx_kinds.specs.declared.facts.BoxFacts.{BoxFacts}
use Rattle.fx_look.specs.declared.looks.Look.{Look}
use Rattle.fx_panes_parts.specs.declared.axes.Extent.{Extent}
use Rattle.fx_panes_parts.specs.declared.axes.Span.{Span}
use Rattle.fx_layout_sweeps.specs.Marks.{flag_in}
use Rattle.fx_layout_sweeps.specs.Nodes.{children_lists, extent_at, keys, parents, places_at, span_at}
use Rattle.fx_layout.specs.Updates.{AreDifferent, AreRects, IsUpdate, Kept, rect_at, shifted}

-- the children of a place stand in this rectangle where their spans say
abbrev pub AreAdded : List (List ℕ) → List Span → List Span → List Rect → Rect → ℕ → Type 0
AreAdded children across down rects outer p =
    All (λ j. rect_at rects j ≡ shifted outer (span_at across j) (span_at down j)) (places_at children p)

-- What is kept of nodes fits together: no two have one key, there is something of each of them, and the rectangles of
-- the children of each stand in its own where their spans say.
pub record IsWhole (kept : Kept) : Type 0 where
  pub keys : AreDifferent kept.keys
  pub widths : length kept.widths ≡ length kept.children
  pub heights : length kept.heights ≡ length kept.children
  pub across : length kept.across ≡ length kept.children
  pub down : length kept.down ≡ length kept.children
  pub rects : length kept.rects ≡ length kept.children
  pub added : (p : ℕ) → p < length kept.children
      → AreAdded kept.children kept.across kept.down kept.rects (rect_at kept.rects p) p

-- what is kept of nodes, of what was made of them
abbrev pub kept_of : List BoxFacts → List Extent → List Extent → List Span → List Span → List Rect → Kept
kept_of nodes widths heights across down rects = record {
  keys = keys nodes;
  children = children_lists (parents nodes);
  widths = widths;
  heights = heights;
  across = across;
  down = down;
  rects = rects;
}

-- two rectangles have the same four numbers
abbrev pub AreAlike : Rect → Rect → Type 0
AreAlike one other = (one.x ≡ other.x) × (one.y ≡ other.y) × (one.w ≡ other.w) × (one.h ≡ other.h)

-- What the sweeps of an update made of the nodes of the last one: it is an update with any rectangles that are added up
-- of it, of each node that isn't marked the lengths and the places of the children are those that were kept, and its
-- children stand in the last rectangles where their spans say.
pub record AreSwept (old : Kept) (nodes : List BoxFacts) (looks : List Look) (window : Option (ℕ × ℕ))
    (listed : List ℕ) (widths heights : List Extent) (across down : List Span) (marks : List Bool) : Type 0 where
  pub each_width : length widths ≡ length nodes
  pub each_height : length heights ≡ length nodes
  pub each_across : length across ≡ length nodes
  pub each_down : length down ≡ length nodes
  pub each_mark : length marks ≡ length nodes
  pub update : (rects : List Rect) → AreRects nodes across down rects
      → IsUpdate old nodes looks window listed (kept_of nodes widths heights across down rects)
  pub quiet : (p : ℕ) → p < length nodes → flag_in marks p ≡ false
      → AreAdded (children_lists (parents nodes)) across down old.rects (rect_at old.rects p) p
  pub still_width : (p : ℕ) → p < length nodes → flag_in marks p ≡ false
      → extent_at old.widths p ≡ extent_at widths p
  pub still_height : (p : ℕ) → p < length nodes → flag_in marks p ≡ false
      → extent_at old.heights p ≡ extent_at heights p
  pub still_across : (p : ℕ) → p < length nodes → flag_in marks p ≡ false
      → All (λ j. span_at old.across j ≡ span_at across j) (places_at (children_lists (parents nodes)) p)
  pub still_down : (p : ℕ) → p < length nodes → flag_in marks p ≡ false
      → All (λ j. span_at old.down j ≡ span_at down j) (places_at (children_lists (parents nodes)) p)
