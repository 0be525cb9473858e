-- The names of several documents: a name of an included document stands behind the name of its root, as `menu.open`.
use Rattle.std.specs.Prelude.{ℕ, Bool, ◌==◌, List, [], ◌∷◌, Option, Some, None}
use Rattle.std.specs.List.{find}
use Rattle.std.specs.Option.{option_and_then, option_map}
use Rattle.fx_scene_things.specs.Names.{Names, node_called}
use Rattle.fx_scene_things.specs.declared.things.Named.{Named}

-- a document that was read: the number of its file, and its names
pub record Space : Type 0 where
  pub file : ℕ
  pub names : Names

abbrev pub space_of : ℕ → Names → Space
space_of file names = record { file = file; names = names }

abbrev pub is_of : ℕ → Space → Bool
is_of file space = space.file == file

-- the names of the document in the file of this number
abbrev pub names_in : List Space → ℕ → Option Names
names_in spaces file = option_map (λ (space : Space). space.names) (find (is_of file) spaces)

abbrev pub names_by : List Space → Option ℕ → Option Names
names_by spaces None = None
names_by spaces (Some file) = names_in spaces file

-- the names that stand behind that of a node
abbrev pub names_inside : List Space → Option Named → Option Names
names_inside spaces None = None
names_inside spaces (Some named) = names_by spaces named.inside

abbrev pub along : List Space → (Names → Option Named) → Option Named → List (List ℕ) → Option Named
along spaces go named [] = named
along spaces go named (name ∷ rest) = option_and_then go (names_inside spaces named)

-- the node to which a path of names leads, from these names on
unfoldable pub node_along : List Space → Names → List (List ℕ) → Option Named
node_along spaces names [] = None
node_along spaces names (name ∷ rest) =
    along spaces (λ inner. node_along spaces inner rest) (node_called names name) rest
