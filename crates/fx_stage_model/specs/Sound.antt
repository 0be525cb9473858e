-- What is true of every world that lines and steps lead to.
use Rattle.std.specs.Prelude.{◌≡◌, ◌≤◌, ℕ, false, List, Contains, Some}
use Rattle.std.specs.Map.{lookup}
use Rattle.std.specs.Str.{bytes_eq}
use Rattle.fx_base.specs.declared.keys.Name.{Name}
use Rattle.fx_base.specs.declared.keys.NodeKey.{NodeKey}
use Rattle.fx_graph_model.specs.declared.entries.Entry.{Entry}
use Rattle.fx_graph_model.specs.Uses.{unknown_in}
use Rattle.fx_stage_types.specs.declared.node_data.NodeData.{NodeData}
use Rattle.fx_stage_types.specs.Tables.{NodeTable, data_of}
use Rattle.fx_stage_model.specs.Looking.{properties_in}

pub record IsSound (entries : List Entry) (table : NodeTable) (free : List (List ℕ × Name)) : Type 0 where
  -- the properties of nodes are known, and no two nodes have one
  pub owned : (key : NodeKey) (name : ℕ) → Contains (properties_in (data_of table key)) name
      → unknown_in entries name ≡ false
  pub apart : (one other : NodeKey) (name : ℕ) → Contains (properties_in (data_of table one)) name
      → Contains (properties_in (data_of table other)) name → one ≡ other
  -- their numbers are small
  pub low : (key : NodeKey) (node : NodeData) → data_of table key ≡ Some node → node.first ≤ 4000000
  -- free properties are known, and are no node's
  pub declared : (name : List ℕ) (property : Name) → lookup (bytes_eq name) free ≡ Some property
      → unknown_in entries property.0 ≡ false
  pub unowned : (name : List ℕ) (property : Name) (key : NodeKey) → lookup (bytes_eq name) free ≡ Some property
      → Contains (properties_in (data_of table key)) property.0 → ⊥
