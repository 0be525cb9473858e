-- The outline of a document: what stands in it, in document order, each piece known by its place in the list.
use Rattle.std.specs.Prelude.{ℕ, ◌+◌, Bool, false, List, [], ◌∷◌, ◌++◌, length, Option, Some, None, if◌then◌else◌}
use Rattle.fx_base.specs.declared.positions.Position.{Position}
use Rattle.fx_doc_grammar.specs.Grammar.{Head, Nodes, Nothing, Letters, Node, Reading}
use Rattle.fx_doc_grammar.specs.Machine.{is_nothing}
use Rattle.fx_scene_flaws.specs.declared.flaws.Flaw.TheVariants as flaw
use Rattle.fx_scene_outline.specs.Edges.{earlier_in}
use Rattle.fx_scene_outline.specs.Entries.{Entry, entry, listed}
use Rattle.fx_scene_outline.specs.Pieces.{Piece, Wrong}
use Rattle.fx_scene_outline.specs.declared.pieces.Room.{Room}
use Rattle.fx_scene_outline.specs.declared.pieces.Room.TheVariants.{Listed}
use Rattle.fx_scene_outline.specs.declared.pieces.Seat.TheVariants as seat
use Rattle.fx_scene_outline.specs.declared.pieces.Slot.TheVariants as slot

-- an edge is taken by something
abbrev pub lacks_content : Room → Bool → Bool
lacks_content (Listed (slot.Edge owner edge)) empty = empty
lacks_content _ empty = false

abbrev pub edge_flaws : Room → Position → Nodes → List Piece
edge_flaws room place content =
    if lacks_content room (is_nothing content) then Wrong flaw.Value place ∷ [] else []

-- the content of an element that was entered behind so many pieces, and what is wrong where it lacks some
abbrev pub inside_of : (Room → ℕ → List Piece) → ℕ → Position → Nodes → Option Room → List Piece
inside_of content count place inner None = []
inside_of content count place inner (Some room) = content room count ++ edge_flaws room place inner

-- an element behind so many pieces: what it adds before its content, and its content
abbrev pub with_content : (Room → ℕ → List Piece) → ℕ → Head → Nodes → Entry → List Piece
with_content content count head inner e =
    e.front ++ inside_of content (count + length e.front) head.position inner e.room

-- the pieces of content in a room, behind so many pieces; a text may stand in none
unfoldable pub pieces : Room → ℕ → Nodes → List Piece
pieces room count Nothing = []
pieces room count (Letters before text spot) = pieces room count before ++ (Wrong flaw.Child spot ∷ [])
pieces room count (Node before head inner) =
    pieces room count before
    ++ with_content (λ inside behind. pieces inside behind inner) (count + length (pieces room count before)) head inner
    (entry (count + length (pieces room count before)) room (earlier_in before) head inner)

-- the root stands where nothing else does
abbrev pub root_pieces : Nodes → List Piece
root_pieces Nothing = []
root_pieces (Letters before text spot) = []
root_pieces (Node before head inner) =
    with_content (λ inside behind. pieces inside behind inner) 0 head inner (listed 0 seat.Root head inner)

-- what stands in a document
unfoldable pub outline : Reading → List Piece
outline document = root_pieces document.root

-- what stands in an element of a definition within a value, which is a node
unfoldable pub aside_outline : Head → Nodes → List Piece
aside_outline head inner =
    with_content (λ inside behind. pieces inside behind inner) 0 head inner (listed 0 seat.Aside head inner)
