-- Nodes that come from outside, and whether they can be laid out.
-- Cited by src/nodes.rt.
use Rattle.std.specs.Prelude.{◌≡◌, ℕ, ◌<◌, false, List, Option, Some, None}
use Rattle.fx_kinds.specs.declared.facts.BoxFacts.{BoxFacts}
use Rattle.fx_layout_sweeps.specs.Nodes.{node_at}
use Rattle.fx_layout.specs.Updates.{is_key}

-- the first node has no parent, and each other one has a parent that stands before it
abbrev pub StandsBehind : Option ℕ → ℕ → Type 0
StandsBehind None place = place ≡ 0
StandsBehind (Some parent) place = parent < place

-- the first nodes have other keys than the one at a place
abbrev pub AreOthers : List BoxFacts → ℕ → ℕ → Type 0
AreOthers nodes count place =
    (i : ℕ) → i < count → is_key (node_at nodes i).key (node_at nodes place).key ≡ false
