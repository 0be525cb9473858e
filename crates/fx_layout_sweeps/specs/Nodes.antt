-- The nodes of a scene as one list in pre-order, in which each node but the first has its parent before it.
-- Cited by the sweeps and by `Layouts`.
use Rattle.std.specs.Prelude.{◌≡◌, ℕ, pos, ◌<◌, ◌≤◌, Bool, false, nat_eq, if◌then◌else◌, ◌++◌, All, List, [], ◌∷◌, filter, length, map, slice_index_or, Option, Some, None}
use Rattle.std.specs.List.{range_with_len}
use Rattle.fx_base.specs.declared.keys.NodeKey.{NodeKey}
use Rattle.fx_base.specs.declared.facts.ChildSize.{ChildSize}
use Rattle.fx_kinds.specs.declared.classes.Class.TheVariants as class
use Rattle.fx_kinds.specs.declared.facts.BoxFacts.{BoxFacts}
use Rattle.fx_look.specs.declared.looks.Look.{Look}
use Rattle.fx_look.specs.Looks.{initial_look}
use Rattle.fx_panes_parts.specs.declared.axes.Extent.{Extent}
use Rattle.fx_panes_parts.specs.declared.axes.Span.{Span}
use Rattle.fx_layout_parts.specs.declared.rules.NodeBox.{NodeBox}
use Rattle.fx_layout_parts.specs.declared.rules.Rule.{Rule}
use Rattle.fx_layout_parts.specs.Boxes.{box_of}
use Rattle.fx_layout_parts.specs.Children.{child_of}

abbrev pub Parents : Type 0
Parents = List (Option ℕ)

abbrev pub parents : List BoxFacts → Parents
parents nodes = map (λ (node : BoxFacts). node.parent) nodes

abbrev pub keys : List BoxFacts → List NodeKey
keys nodes = map (λ (node : BoxFacts). node.key) nodes

abbrev pub parent_at : Parents → ℕ → Option ℕ
parent_at ups j = slice_index_or ups j None

abbrev pub is_place : ℕ → Option ℕ → Bool
is_place p None = false
is_place p (Some q) = nat_eq p q

-- the places of the children of a place, in order
abbrev pub children_of : Parents → ℕ → List ℕ
children_of ups p = filter (λ j. is_place p (parent_at ups j)) (range_with_len 0 (length ups))

-- the children of each place
abbrev pub children_lists : Parents → List (List ℕ)
children_lists ups = map (children_of ups) (range_with_len 0 (length ups))

-- children with a place behind them, where it is a child's
abbrev pub hung_at : List (List ℕ) → Option ℕ → ℕ → ℕ → List ℕ
hung_at lists parent place p =
    if is_place p parent then slice_index_or lists p [] ++ place ∷ [] else slice_index_or lists p []

abbrev pub places_at : List (List ℕ) → ℕ → List ℕ
places_at lists p = slice_index_or lists p []

-- the first node has no parent, and each other one has a parent that stands before it
pub record IsTree (ups : Parents) : Type 0 where
  pub root : parent_at ups 0 ≡ None
  pub below : (j : ℕ) → 0 < j → j < length ups → (p : ℕ) × (parent_at ups j ≡ Some p) × (p < j)

-- a node that stands for none
abbrev pub no_node : BoxFacts
no_node = record {
  key = record { slot = 0; birth = 0 };
  parent = None;
  class = class.Region;
  constraints = [];
  edge = None;
  columns = [];
  rows = [];
  text = [];
  layout_x = pos 0;
  layout_y = pos 0;
  focus_traversable = false;
}

abbrev pub node_at : List BoxFacts → ℕ → BoxFacts
node_at nodes p = slice_index_or nodes p no_node

abbrev pub look_at : List Look → ℕ → Look
look_at looks p = slice_index_or looks p (initial_look 0)

-- what a node is laid out by
abbrev pub box_at : List BoxFacts → List Look → ℕ → NodeBox
box_at nodes looks p = box_of (node_at nodes p) (look_at looks p)

-- the lengths of a node that aren't known, and a place that isn't
abbrev pub unknown : Extent
unknown = record { min = 0; pref = 0; max = 0 }

abbrev pub nowhere : Span
nowhere = record { start = pos 0; length = 0 }

abbrev pub extent_at : List Extent → ℕ → Extent
extent_at extents p = slice_index_or extents p unknown

abbrev pub span_at : List Span → ℕ → Span
span_at spans p = slice_index_or spans p nowhere

-- a child at a place as a pane of a rule sees it, by what is known of its widths and heights
abbrev pub child_at : Rule → List BoxFacts → List Extent → List Extent → ℕ → ChildSize
child_at pane nodes widths heights j = child_of pane (node_at nodes j) (extent_at widths j) (extent_at heights j)

-- children at these places
abbrev pub seen : Rule → List BoxFacts → List Extent → List Extent → List ℕ → List ChildSize
seen pane nodes widths heights places = map (child_at pane nodes widths heights) places

-- Nodes can be laid out: they are a tree, and there are few enough of them and of each one's columns and rows.
pub record AreNodes (nodes : List BoxFacts) : Type 0 where
  pub tree : IsTree (parents nodes)
  pub few : length nodes ≤ 4096
  pub columns : All (λ (node : BoxFacts). length node.columns ≤ 256) nodes
  pub rows : All (λ (node : BoxFacts). length node.rows ≤ 256) nodes
