-- A node and its ancestors in a list of facts, where each node names its parent by a place.
use Rattle.std.specs.Prelude.{ℕ, zero, suc, ◌≡◌, ◌<◌, List, [], ◌∷◌, length, slice_get, Option, Some, None}
use Rattle.fx_kinds.specs.declared.facts.StyleFacts.{StyleFacts}

-- each parent stands before its children
abbrev pub ParentsStandBefore : List StyleFacts → Type 0
ParentsStandBefore facts =
    (place parent : ℕ) (node : StyleFacts) → slice_get facts place ≡ Some node → node.parent ≡ Some parent
    → parent < place

-- a node, and what stands above it by its parent
abbrev pub onto_parents : Option StyleFacts → (Option ℕ → List StyleFacts) → List StyleFacts
onto_parents None above = []
onto_parents (Some node) above = node ∷ above node.parent

-- from a place up by parents, at most so many nodes
unfoldable pub upward_in : ℕ → List StyleFacts → Option ℕ → List StyleFacts
upward_in zero facts place = []
upward_in (suc most) facts None = []
upward_in (suc most) facts (Some at) = onto_parents (slice_get facts at) (upward_in most facts)

-- the node at this place, its parent, the parent's parent and so on; nothing without a place
unfoldable pub upward : List StyleFacts → Option ℕ → List StyleFacts
upward facts place = upward_in (length facts) facts place

-- a node and its ancestors, the nearest first
abbrev pub chain : List StyleFacts → ℕ → List StyleFacts
chain facts at = upward facts (Some at)
