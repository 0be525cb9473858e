-- What the texts of a document are read with.
use Rattle.std.specs.Prelude.{ℕ, List}
use Rattle.fx_scene_things.specs.Settled.{Settled}

-- a document: the name of its file, the texts of its imports, and the nodes that were read already of the definitions
-- within the value that is read
pub record Scope : Type 0 where
  pub file : List ℕ
  pub imports : List (List ℕ)
  pub settled : List Settled

abbrev pub scope_of : List ℕ → List (List ℕ) → List Settled → Scope
scope_of file imports settled = record { file = file; imports = imports; settled = settled }
