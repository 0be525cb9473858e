-- Properties whose values are kept, since a frame has read them.
use Rattle.std.specs.Prelude.{ℕ, ◌≡◌, ◌≤◌, ◌+◌, false, All, Contains, List, Some}
use Rattle.fx_base.specs.declared.keys.NodeKey.{NodeKey}
use Rattle.fx_graph_model.specs.Unread.{marked}
use Rattle.fx_graph_model.specs.Uses.{unknown_in}
use Rattle.fx_store_model.specs.Stored.{Stored}
use Rattle.fx_stage_types.specs.declared.node_data.NodeData.{NodeData}
use Rattle.fx_stage_types.specs.Tables.{data_of}
use Rattle.fx_stage_model.specs.World.{World}
use Rattle.fx_stage_facts.specs.declared.places.Styled.{Styled}
use Rattle.fx_stage_facts.specs.Attached.{displayed_in}

-- what a frame reads of a node is known and isn't unread, and its numbers are small
pub record IsRead (store : Stored) (node : NodeData) : Type 0 where
  pub low : node.first ≤ 4000000
  pub known : (name : ℕ) → Contains (displayed_in (Some node)) name → unknown_in store.entries name ≡ false
  pub read : (name : ℕ) → Contains (displayed_in (Some node)) name → marked store.unread name ≡ false

abbrev pub IsReadAt : World → NodeKey → Type 0
IsReadAt world key = (node : NodeData) → data_of world.graph.table key ≡ Some node → IsRead world.store node

abbrev pub AreRead : World → List NodeKey → Type 0
AreRead world keys = All (IsReadAt world) keys

-- a property that a declaration styles, where the first one has this number
pub record IsStyledRead (store : Stored) (first : ℕ) (row : Styled) : Type 0 where
  pub low : first + row.place ≤ 4001000
  pub known : unknown_in store.entries (first + row.place) ≡ false
  pub read : marked store.unread (first + row.place) ≡ false

abbrev pub AreStyledRead : Stored → ℕ → List Styled → Type 0
AreStyledRead store first styled = All (IsStyledRead store first) styled
