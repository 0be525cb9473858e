-- Marks of the nodes of a tree: what is below a marked node, what is above one, and the places that are marked.
use Rattle.std.specs.Prelude.{◌≡◌, ℕ, ◌<◌, ◌≤◌, ◌==◌, Bool, true, false, ◌&&◌, List, filter, length, map, slice_index_or, slice_set, Option, Some, None, if◌then◌else◌}
use Rattle.std.specs.List.{list_any, range_with_len}
use Rattle.fx_layout_sweeps.specs.Marks.{flag_in}
use Rattle.fx_layout_sweeps.specs.Nodes.{Parents, parent_at}
use Rattle.fx_pulse_model.specs.Lines.{line_to}

-- what is told of each of the first nodes
abbrev pub told : {A : Type 0} → (ℕ → A) → ℕ → List A
told tell n = map tell (range_with_len 0 n)

-- what is told of the parent of a node, and for the root what is given
abbrev pub told_above : List Bool → Option ℕ → Bool → Bool
told_above flags None root = root
told_above flags (Some p) root = slice_index_or flags p false

-- a node is marked, or one of its ancestors is
abbrev pub is_below : Parents → List Bool → ℕ → Bool
is_below ups marks k = list_any (flag_in marks) (line_to ups k)

-- a place stands on the line from the root down to a node
abbrev pub is_on_line : Parents → ℕ → ℕ → Bool
is_on_line ups j k = list_any (λ (p : ℕ). p == k) (line_to ups j)

-- a node passes a test, or one below it does
abbrev pub is_above : Parents → (ℕ → Bool) → ℕ → Bool
is_above ups test k = list_any (λ (j : ℕ). test j && is_on_line ups j k) (range_with_len 0 (length ups))

-- the parent of each marked node is marked
abbrev pub IsClosed : Parents → List Bool → Type 0
IsClosed ups marks =
    (j p : ℕ) → j < length ups → parent_at ups j ≡ Some p → flag_in marks j ≡ true → flag_in marks p ≡ true

-- the places that are marked
abbrev pub places_of : List Bool → List ℕ
places_of marks = filter (flag_in marks) (range_with_len 0 (length marks))

-- marks on their way up from the last node: those from a place on have marked their parents
pub record AreHandedUp (ups : Parents) (first marks : List Bool) (from : ℕ) : Type 0 where
  pub each : length marks ≡ length ups
  pub kept : (k : ℕ) → flag_in first k ≡ true → flag_in marks k ≡ true
  pub closed : (j p : ℕ) → from ≤ j → j < length ups → parent_at ups j ≡ Some p → flag_in marks j ≡ true
      → flag_in marks p ≡ true
  pub only : (k : ℕ) → flag_in marks k ≡ true → is_above ups (flag_in first) k ≡ true

-- marks with one more for the parent of a node, if it has one and is marked itself
abbrev pub marked_up : Option ℕ → Bool → List Bool → List Bool
marked_up None flag marks = marks
marked_up (Some p) flag marks = if flag then slice_set marks p true else marks
