-- Pieces and parts of a document as definitions have them.
use Rattle.std.specs.Prelude.{◌≡◌, ℕ, Bool, List, [], ◌∷◌, ◌++◌, map, Option, Result, Ok, Err}
use Rattle.std.specs.Borrow.{Bor}
use Rattle.fx_doc.specs.Views.{attr_view, nodes_of}
use Rattle.fx_doc_runs.specs.declared.document.Content.TheViews.{out-Element}
use Rattle.fx_doc_runs.specs.declared.document.Element.{Element}
use Rattle.fx_doc_grammar.specs.Grammar.{Head, Nodes, Nothing, Letters, Node}
use Rattle.fx_scene_flaws.specs.declared.flaws.Flaw.TheVariants as flaw
use Rattle.fx_scene_outline.specs.Defined.{Defined, defined, element_nodes, nodes_within}
use Rattle.fx_scene_outline.specs.Edges.{behind_element, behind_text}
use Rattle.fx_scene_outline.specs.Entries.{Entry, entry}
use Rattle.fx_scene_outline.specs.Outlines.{inside_of, pieces, with_content}
use Rattle.fx_scene_outline.specs.Pieces.{Piece as PlainPiece, Include, Instance, Property, Reference, Value, Wrong}
use Rattle.fx_scene_outline.specs.declared.edges.Earlier.{Earlier}
use Rattle.fx_scene_outline.specs.declared.pieces.Piece.{Piece}
use Rattle.fx_scene_outline.specs.declared.pieces.Piece.TheVariants as piece
use Rattle.fx_scene_outline.specs.declared.pieces.Room.{Room}

-- the tag of an element
abbrev pub head_of : Element → Head
head_of e = record {
  name = (out-Element e).name;
  attributes = map attr_view (out-Element e).attributes;
  position = (out-Element e).position;
}

abbrev pub content_of : Element → Nodes
content_of e = nodes_of (out-Element e).content.items

abbrev pub piece_view : Piece → PlainPiece
piece_view (piece.Instance seat e) = Instance seat (head_of e.now)
piece_view (piece.Reference seat e) = Reference seat (head_of e.now)
piece_view (piece.Include seat e) = Include seat (head_of e.now)
piece_view (piece.Value e) = Value (head_of e.now) (content_of e.now)
piece_view (piece.Property owner class e) = Property owner class (head_of e.now) (content_of e.now)
piece_view (piece.Flaw flaw place) = Wrong flaw place

abbrev pub shown : List Piece → List PlainPiece
shown pieces = map piece_view pieces

-- one part of content by itself, in a room behind what stands there before it
abbrev pub part_pieces : Room → ℕ → Earlier → Nodes → List PlainPiece
part_pieces room count earlier Nothing = []
part_pieces room count earlier (Letters before text spot) = Wrong flaw.Child spot ∷ []
part_pieces room count earlier (Node before head inner) =
    with_content (λ inside behind. pieces inside behind inner) count head inner (entry count room earlier head inner)

-- what stands before the next part
abbrev pub behind_part : Nodes → Earlier → Earlier
behind_part Nothing earlier = earlier
behind_part (Letters before text spot) earlier = behind_text earlier
behind_part (Node before head inner) earlier = behind_element head.name earlier

-- an element that was entered so, behind so many pieces
abbrev pub element_pieces : ℕ → Element → Entry → List PlainPiece
element_pieces count e entered =
    with_content (λ inside behind. pieces inside behind (content_of e)) count (head_of e) (content_of e) entered

-- its content, behind so many pieces
abbrev pub inside_pieces : ℕ → Element → Option Room → List PlainPiece
inside_pieces count e room =
    inside_of (λ inside behind. pieces inside behind (content_of e)) count (head_of e).position (content_of e) room

-- what an element adds before its content was added, and this is the room of its content; want of memory says nothing
abbrev pub Entered : {E : Type 0} → Entry → List Piece → List Piece → Result (Option Room) E → Type 0
Entered entered old new (Ok room) = (shown new ≡ shown old ++ entered.front) × (room ≡ entered.room)
Entered entered old new (Err error) = Unit {0}

-- an element as a node of a definition
abbrev pub defined_view : Element → Defined
defined_view e = defined (head_of e) (content_of e)

abbrev pub defined_shown : List (Bor Element) → List Defined
defined_shown elements = map (λ (e : Bor Element). defined_view e.now) elements

-- the nodes of one part of some content
abbrev pub part_nodes : Bool → Nodes → List Defined
part_nodes in_definition Nothing = []
part_nodes in_definition (Letters before text spot) = []
part_nodes in_definition (Node before head inner) =
    element_nodes (λ is_definition. nodes_within is_definition inner) in_definition head inner
