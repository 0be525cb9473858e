-- The picture of a scene whose nodes have their looks and rectangles.
use Rattle.std.specs.Prelude.{◌≡◌, ℕ, Bool, false, List, filter, length, slice_index_or, Option, Some, None, if◌then◌else◌}
use Rattle.std.specs.List.{AllZip, list_all, list_any, range_with_len}
use Rattle.fx_base.specs.declared.geometry.Rect.{Rect}
use Rattle.fx_kinds.specs.Classes.{is_control}
use Rattle.fx_kinds.specs.declared.facts.BoxFacts.{BoxFacts}
use Rattle.fx_look.specs.declared.looks.Look.{Look}
use Rattle.fx_layout.specs.Updates.{rect_at}
use Rattle.fx_layout_sweeps.specs.Nodes.{look_at, node_at, parents}
use Rattle.fx_picture.specs.declared.entries.Entry.{Entry}
use Rattle.fx_shapes.specs.Drawings.{IsDrawing}
use Rattle.fx_pulse_model.specs.Lines.{line_to, path_of}

-- nodes with the look and the rectangle of each, and whether each is disabled itself
pub record Drawn : Type 0 where
  pub boxes : List BoxFacts
  pub looks : List Look
  pub rects : List Rect
  pub disabled : List Bool

-- the places from the root down to a node
abbrev pub line_of : Drawn → ℕ → List ℕ
line_of d k = line_to (parents d.boxes) k

-- a node shows where it is visible and so are its ancestors
abbrev pub shows : Drawn → ℕ → Bool
shows d k = list_all (λ (p : ℕ). (look_at d.looks p).visibility) (line_of d k)

-- a node is disabled where it is so itself or an ancestor is
abbrev pub is_disabled : Drawn → ℕ → Bool
is_disabled d k = list_any (λ (p : ℕ). slice_index_or d.disabled p false) (line_of d k)

-- the text of a node, if its class shows one
abbrev pub text_of : BoxFacts → Option (List ℕ)
text_of node = if is_control node.class then Some node.text else None

pub record IsEntry (d : Drawn) (k : ℕ) (entry : Entry) : Type 0 where
  pub key : entry.key ≡ (node_at d.boxes k).key
  pub path : entry.path ≡ path_of (parents d.boxes) k
  pub rect : entry.rect ≡ rect_at d.rects k
  pub shapes : IsDrawing (look_at d.looks k) (rect_at d.rects k) (text_of (node_at d.boxes k)) entry.shapes
  pub disabled : entry.disabled ≡ is_disabled d k
  pub focusable : entry.focusable ≡ (node_at d.boxes k).focus_traversable

-- the places of the nodes that show, in order
abbrev pub shown_places : Drawn → List ℕ
shown_places d = filter (shows d) (range_with_len 0 (length d.boxes))

-- the entries of the nodes that show, in order
abbrev pub IsPicture : Drawn → List Entry → Type 0
IsPicture d entries = AllZip (IsEntry d) (shown_places d) entries
