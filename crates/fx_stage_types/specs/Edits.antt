-- What a node has of its own at first, and what edits make of it.
use Rattle.std.specs.Prelude.{ℕ, Bool, not, List, [], ◌∷◌, ◌++◌, filter, position, remove, slice_set, Option, Some, None, if◌then◌else◌}
use Rattle.std.specs.Option.{option_map_or}
use Rattle.std.specs.List.{list_any}
use Rattle.std.specs.Str.{bytes_eq}
use Rattle.fx_base.specs.declared.facts.Track.{Track}
use Rattle.fx_css_types.specs.declared.sheets.Sheet.{Sheet}
use Rattle.fx_kinds.specs.declared.classes.Class.{Class}
use Rattle.fx_kinds.specs.declared.facts.Constraint.{Constraint}
use Rattle.fx_kinds.specs.Classes.{birth_style}
use Rattle.fx_stage_types.specs.declared.edits.NodeEdit.{NodeEdit}
use Rattle.fx_stage_types.specs.declared.edits.NodeEdit.TheVariants as edit
use Rattle.fx_stage_types.specs.declared.node_data.NodeData.{NodeData}

-- what a node of the class has at first, its properties numbered from here on
abbrev pub born_data : Class → ℕ → NodeData
born_data class first =
    record {
      class = class;
      first = first;
      edge = None;
      classes = option_map_or (λ (style : List ℕ). style ∷ []) (birth_style class) [];
      pseudos = [];
      inline = None;
      sheets = [];
      constraints = [];
      columns = [];
      rows = [];
    }

abbrev pub with_edge : Option ℕ → NodeData → NodeData
with_edge edge node = record node { edge = edge }

-- these words but for the first that is this one
abbrev pub without_first : List ℕ → List (List ℕ) → List (List ℕ)
without_first word words =
    option_map_or (λ (place : ℕ). remove words place) (position (λ (other : List ℕ). bytes_eq other word) words) words

abbrev pub has_word : List (List ℕ) → List ℕ → Bool
has_word words word = list_any (λ (other : List ℕ). bytes_eq other word) words

-- with this word, once
abbrev pub with_word : List ℕ → List (List ℕ) → List (List ℕ)
with_word word words = if has_word words word then words else words ++ word ∷ []

abbrev pub is_named : List ℕ → Constraint → Bool
is_named name constraint = bytes_eq constraint.name name

-- in the place of the one of its name, or last
abbrev pub put_constraint : Constraint → List Constraint → List Constraint
put_constraint new constraints =
    option_map_or (λ (place : ℕ). slice_set constraints place new) (position (is_named new.name) constraints)
    (constraints ++ new ∷ [])

abbrev pub without_constraint : List ℕ → List Constraint → List Constraint
without_constraint name constraints =
    filter (λ (constraint : Constraint). not (is_named name constraint)) constraints

unfoldable pub edited : NodeEdit → NodeData → NodeData
edited (edit.AddClass name) node = record node { classes = node.classes ++ name ∷ [] }
edited (edit.RemoveClass name) node = record node { classes = without_first name node.classes }
edited (edit.AddPseudo name) node = record node { pseudos = with_word name node.pseudos }
edited (edit.RemovePseudo name) node = record node { pseudos = without_first name node.pseudos }
edited (edit.SetInline sheet) node = record node { inline = Some sheet }
edited (edit.AddSheet sheet) node = record node { sheets = node.sheets ++ sheet ∷ [] }
edited (edit.PutConstraint constraint) node =
    record node { constraints = put_constraint constraint node.constraints }
edited (edit.RemoveConstraint name) node = record node { constraints = without_constraint name node.constraints }
edited (edit.SetTracks columns rows) node = record node { columns = columns; rows = rows }
