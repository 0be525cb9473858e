-- Nodes of two scenes whose subtrees are alike.
-- Cited by src/laws.rt.
use Rattle.std.specs.Prelude.{◌≡◌, ℕ, ◌<◌, Bool, true, List, length, slice_index_or, None}
use Rattle.fx_kinds.specs.declared.facts.BoxFacts.{BoxFacts}
use Rattle.fx_look.specs.declared.looks.Look.{Look}
use Rattle.fx_layout_sweeps.specs.Nodes.{box_at, children_of, no_node, node_at, parents}

-- a node apart from its key and from where its parent stands in the list
abbrev pub bare : BoxFacts → BoxFacts
bare node = record node { key = no_node.key; parent = None }

-- these places are as many, and alike one by one
abbrev pub AreMatched : (ℕ → ℕ → Bool) → List ℕ → List ℕ → Type 0
AreMatched alike ones others =
    (length ones ≡ length others)
    × ((k : ℕ) → k < length ones → alike (slice_index_or ones k 0) (slice_index_or others k 0) ≡ true)

-- A test tells nodes of two scenes alike: where it holds of two places, both are there, have the same facts and are
-- laid out by the same box, and it holds of their children one by one.
pub record AreAlike (alike : ℕ → ℕ → Bool) (ones : List BoxFacts) (one_looks : List Look) (others : List BoxFacts)
    (other_looks : List Look) : Type 0 where
  pub there : (i j : ℕ) → alike i j ≡ true → (i < length ones) × (j < length others)
  pub facts : (i j : ℕ) → alike i j ≡ true → bare (node_at ones i) ≡ bare (node_at others j)
  pub boxes : (i j : ℕ) → alike i j ≡ true → box_at ones one_looks i ≡ box_at others other_looks j
  pub below : (i j : ℕ) → alike i j ≡ true
      → AreMatched alike (children_of (parents ones) i) (children_of (parents others) j)
