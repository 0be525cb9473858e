-- Lists by names: as a map from names to vectors holds them, and as they are seen.
use Rattle.std.specs.Prelude.{ℕ, List, [], map, unwrap_or}
use Rattle.std.specs.Option.{option_map_or}
use Rattle.std.specs.Map.{lookup}
use Rattle.std.specs.Str.{bytes_eq}
use Rattle.std.specs.String.{string_bytes}
use Rattle.std.specs.HashMap.{HashMap, get_by_text}
use Rattle.std.specs.declared.string.String.{String}
use Rattle.std.specs.declared.vec.Vec.{Vec}

-- the list of a name, empty where there is none
abbrev pub under : {X : Type 0} → List (List ℕ × List X) → List ℕ → List X
under lists name = unwrap_or (lookup (bytes_eq name) lists) []

-- the entries of a map, by the bytes of their keys and the items of their vectors
abbrev pub entries_of : {X Y Z S : Type 0} → HashMap (String Y) (Vec X Z) S → List (List ℕ × List X)
entries_of m = map (λ e. (string_bytes e.0, e.1.items)) m.entries

-- the items that a map has at a name
abbrev pub grouped : {X Y Z S : Type 0} → HashMap (String Y) (Vec X Z) S → List ℕ → List X
grouped m name = option_map_or (λ list. list.items) (get_by_text m name) []
