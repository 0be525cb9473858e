-- The layout of a scene from nothing, and what ties updates to it.
-- Cited by src/laws.rt.
use Rattle.std.specs.Prelude.{◌≡◌, ℕ, ◌<◌, false, List, [], length, map, Option, None}
use Rattle.fx_kinds.specs.declared.facts.BoxFacts.{BoxFacts}
use Rattle.fx_look.specs.declared.looks.Look.{Look}
use Rattle.fx_panes_parts.specs.declared.axes.Axis.TheVariants.{Across, Down}
use Rattle.fx_layout_sweeps.specs.Nodes as tree
use Rattle.fx_layout_sweeps.specs.Sweeps.{IsMeasured, fitted, spans_along}
use Rattle.fx_layout.specs.Updates.{AreRects, Kept, from_corner, is_listed, old_place, root_length, window_height, window_width}

-- The layout of a scene: the lengths of each node are those that its pane measures over the lengths of its children,
-- its heights in the width that it has; the root has the window's size, or its own; and the children of each node
-- stand where its pane puts them in its size.
pub record IsLayout (nodes : List BoxFacts) (looks : List Look) (window : Option (ℕ × ℕ)) (all : Kept)
    : Type 0 where
  pub keys : all.keys ≡ tree.keys nodes
  pub children : all.children ≡ tree.children_lists (tree.parents nodes)
  pub widths : (p : ℕ) → p < length nodes → IsMeasured Across (tree.box_at nodes looks p)
      (tree.seen (tree.box_at nodes looks p).rule nodes all.widths [] (tree.places_at all.children p)) 0
      (tree.extent_at all.widths p)
  pub root_across : tree.span_at all.across 0
      ≡ from_corner (root_length (window_width window) (tree.extent_at all.widths 0))
  pub across : (p : ℕ) → p < length nodes → map (tree.span_at all.across) (tree.places_at all.children p)
      ≡ fitted (length (tree.places_at all.children p)) (spans_along Across (tree.box_at nodes looks p)
      (tree.seen (tree.box_at nodes looks p).rule nodes all.widths [] (tree.places_at all.children p))
      (tree.span_at all.across p).length)
  pub heights : (p : ℕ) → p < length nodes → IsMeasured Down (tree.box_at nodes looks p)
      (tree.seen (tree.box_at nodes looks p).rule nodes all.widths all.heights (tree.places_at all.children p))
      (tree.span_at all.across p).length (tree.extent_at all.heights p)
  pub root_down : tree.span_at all.down 0
      ≡ from_corner (root_length (window_height window) (tree.extent_at all.heights 0))
  pub down : (p : ℕ) → p < length nodes → map (tree.span_at all.down) (tree.places_at all.children p)
      ≡ fitted (length (tree.places_at all.children p)) (spans_along Down (tree.box_at nodes looks p)
      (tree.seen (tree.box_at nodes looks p).rule nodes all.widths all.heights (tree.places_at all.children p))
      (tree.span_at all.down p).length)
  pub rects : AreRects nodes all.across all.down all.rects

-- a node without its parent's place
abbrev pub apart : BoxFacts → BoxFacts
apart node = record node { parent = None }

-- A node is as it was: nothing of it changed but where its parent stands in the list, it has the same children, and
-- none of these is listed.
pub record IsSame (olds : List BoxFacts) (old_looks : List Look) (nodes : List BoxFacts) (looks : List Look)
    (listed : List ℕ) (p q : ℕ) : Type 0 where
  pub there : q < length olds
  pub facts : apart (tree.node_at nodes p) ≡ apart (tree.node_at olds q)
  pub box : tree.box_at nodes looks p ≡ tree.box_at olds old_looks q
  pub children : map (λ (j : ℕ). (tree.node_at nodes j).key) (tree.children_of (tree.parents nodes) p)
      ≡ map (λ (j : ℕ). (tree.node_at olds j).key) (tree.children_of (tree.parents olds) q)
  pub below : (j : ℕ) → j < length nodes → (tree.node_at nodes j).parent ≡ Option.Some p
      → is_listed listed j ≡ false

-- each node that isn't listed is as it was where its key stood
abbrev pub AreSame : List BoxFacts → List Look → List BoxFacts → List Look → List ℕ → Type 0
AreSame olds old_looks nodes looks listed =
    (p : ℕ) → p < length nodes → is_listed listed p ≡ false
    → IsSame olds old_looks nodes looks listed p (old_place (tree.keys olds) (tree.node_at nodes p).key)
