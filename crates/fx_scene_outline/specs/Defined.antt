-- The nodes in the definitions within a value or a property element, in document order. What stands in such a node
-- belongs to that.
use Rattle.std.specs.Prelude.{Bool, false, ◌&&◌, List, [], ◌∷◌, ◌++◌, if◌then◌else◌}
use Rattle.fx_doc_grammar.specs.Grammar.{Head, Nodes, Nothing, Letters, Node}
use Rattle.fx_scene_outline.specs.Nodes.{is_define, is_defined_node}
use Rattle.fx_scene_outline.specs.Pieces.{Piece, Property, Value}

-- an element with its content
pub record Defined : Type 0 where
  pub head : Head
  pub content : Nodes

abbrev pub defined : Head → Nodes → Defined
defined head content = record { head = head; content = content }

-- an element right in a definition, or elsewhere
abbrev pub element_nodes : (Bool → List Defined) → Bool → Head → Nodes → List Defined
element_nodes inside in_definition head inner =
    if in_definition && is_defined_node head then defined head inner ∷ [] else inside (is_define head.name)

-- the nodes of some content, which is that of a definition or not
unfoldable pub nodes_within : Bool → Nodes → List Defined
nodes_within in_definition Nothing = []
nodes_within in_definition (Letters before text spot) = nodes_within in_definition before
nodes_within in_definition (Node before head inner) =
    nodes_within in_definition before
    ++ element_nodes (λ is_definition. nodes_within is_definition inner) in_definition head inner

-- those of a piece
abbrev pub defined_nodes : Piece → List Defined
defined_nodes (Value head content) = nodes_within false content
defined_nodes (Property owner class head content) = nodes_within false content
defined_nodes _ = []
