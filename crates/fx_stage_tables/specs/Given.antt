-- Paths as they are kept.
use Rattle.std.specs.Prelude.{ℕ, List, Vec, map}
use Rattle.std.specs.Global.{Global}
use Rattle.fx_base.specs.declared.keys.NodeKey.{NodeKey}
use Rattle.fx_stage_types.specs.Tables.{Paths}

abbrev pub path_of : Vec (List ℕ) Global × NodeKey → List (List ℕ) × NodeKey
path_of entry = (entry.0.items, entry.1)

abbrev pub paths_of : List (Vec (List ℕ) Global × NodeKey) → Paths
paths_of entries = map path_of entries
