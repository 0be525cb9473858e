-- Ways down through a scene.
-- Cited by src/laws.rt.
use Rattle.std.specs.Prelude.{◌≡◌, ℕ, ◌+◌, ◌<◌, List, length, slice_index_or, Some}
use Rattle.fx_base.specs.declared.keys.NodeKey.{NodeKey}
use Rattle.fx_tree.specs.Scene.{Node, parent_of}

-- each of these nodes is the parent of the next one
abbrev pub AreSteps : List Node → List NodeKey → Type 0
AreSteps nodes keys =
    (i : ℕ) (other : NodeKey) → i + 1 < length keys
    → parent_of nodes (slice_index_or keys (i + 1) other) ≡ Some (slice_index_or keys i other)
