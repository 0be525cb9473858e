-- An element in a room: what it adds before its content, and which room its content is in.
use Rattle.std.specs.Prelude.{ℕ, Bool, true, false, ◌||◌, List, [], ◌∷◌, codes, Option, Some, None, if◌then◌else◌}
use Rattle.std.specs.Str.{bytes_eq}
use Rattle.fx_base.specs.declared.positions.Position.{Position}
use Rattle.fx_doc_grammar.specs.Grammar.{Attr, Head, Nodes}
use Rattle.fx_kinds.specs.Classes.{takes_children}
use Rattle.fx_kinds.specs.declared.classes.Class.{Class}
use Rattle.fx_kinds.specs.declared.classes.Class.TheVariants as class
use Rattle.fx_scene_flaws.specs.declared.flaws.Flaw.{Flaw}
use Rattle.fx_scene_flaws.specs.declared.flaws.Flaw.TheVariants as flaw
use Rattle.fx_scene_names.specs.Names.{class_named, is_instance}
use Rattle.fx_scene_outline.specs.Edges.{edge_named, has_edge}
use Rattle.fx_scene_outline.specs.Nodes.{is_define, is_include, is_reference, is_scene_node}
use Rattle.fx_scene_outline.specs.Pieces.{Piece, Include, Instance, Property, Reference, Value, Wrong}
use Rattle.fx_scene_outline.specs.declared.edges.Earlier.{Earlier}
use Rattle.fx_scene_outline.specs.declared.pieces.Room.{Room}
use Rattle.fx_scene_outline.specs.declared.pieces.Room.TheVariants.{Closed, Inside, Listed}
use Rattle.fx_scene_outline.specs.declared.pieces.Seat.{Seat}
use Rattle.fx_scene_outline.specs.declared.pieces.Seat.TheVariants as seat
use Rattle.fx_scene_outline.specs.declared.pieces.Slot.{Slot}
use Rattle.fx_scene_outline.specs.declared.pieces.Slot.TheVariants as slot

-- what an element adds before its content, and the room of its content, if that is gone through
pub record Entry : Type 0 where
  pub front : List Piece
  pub room : Option Room

-- where instances are seated

abbrev pub is_border : Class → Bool
is_border class.BorderPane = true
is_border _ = false

-- instances right in a pane are its children; a `BorderPane` has none there, nor has a class without children
abbrev pub child_slot : Class → ℕ → Slot
child_slot class owner =
    if is_border class then slot.Nowhere
    else (if takes_children class then slot.Children owner else slot.Nowhere)

-- an edge that has an element takes no other
abbrev pub edge_slot : ℕ → Earlier → ℕ → Slot
edge_slot owner earlier edge = if has_edge earlier.taken edge then slot.Nowhere else slot.Edge owner edge

abbrev pub edge_slot_if : ℕ → Earlier → Option ℕ → Option Slot
edge_slot_if owner earlier None = None
edge_slot_if owner earlier (Some edge) = Some (edge_slot owner earlier edge)

abbrev pub children_slot : Class → ℕ → Option Slot
children_slot class owner = if takes_children class then Some (child_slot class owner) else None

abbrev pub border_slot : Class → ℕ → Earlier → List ℕ → Option Slot
border_slot class owner earlier name =
    if is_border class then edge_slot_if owner earlier (edge_named name) else None

-- what the property element of this name holds, if it holds instances
unfoldable pub slot_named : Class → ℕ → Earlier → List ℕ → Option Slot
slot_named class owner earlier name =
    if bytes_eq name (codes "children") then children_slot class owner else border_slot class owner earlier name

-- an edge is taken by the first
abbrev pub edge_seat : ℕ → ℕ → Bool → Seat
edge_seat owner edge first = if first then seat.Edge owner edge else seat.Nowhere

-- the seat of an instance in a slot
unfoldable pub seat_in : Slot → Bool → Seat
seat_in (slot.Children owner) first = seat.Child owner
seat_in (slot.Edge owner edge) first = edge_seat owner edge first
seat_in slot.Aside first = seat.Aside
seat_in slot.Nowhere first = seat.Nowhere

-- entries

abbrev pub only : Piece → Entry
only piece = record { front = piece ∷ []; room = None }

abbrev pub wrong : Flaw → Position → Entry
wrong flaw place = only (Wrong flaw place)

abbrev pub room_of : ℕ → Option Class → Option Room
room_of owner None = None
room_of owner (Some class) = Some (Inside class owner)

-- an instance behind so many pieces; its content is gone through where a class has its name
abbrev pub instance : ℕ → Seat → Head → Entry
instance count seat head = record {
  front = Instance seat head ∷ [];
  room = room_of count (class_named head.name);
}

-- an instance in a definition, which is a node or a value
abbrev pub defined : ℕ → Head → Nodes → Bool → Entry
defined count head content is_node = if is_node then instance count seat.Aside head else only (Value head content)

abbrev pub aside_if : ℕ → Head → Nodes → Option Class → Entry
aside_if count head content None = instance count seat.Aside head
aside_if count head content (Some class) = defined count head content (is_scene_node class head.attributes)

-- an instance where instances are listed; in a definition it may be a value
abbrev pub seated : ℕ → Seat → Head → Nodes → Entry
seated count seat.Aside head content = aside_if count head content (class_named head.name)
seated count place head content = instance count place head

-- an element that may have no content
abbrev pub closed : Piece → Entry
closed piece = record { front = piece ∷ []; room = Some Closed }

-- an instance of before, by its name, or the root of another document
abbrev pub insert : Seat → Head → Entry
insert seat head = if is_reference head.name then closed (Reference seat head) else closed (Include seat head)

abbrev pub is_insert : List ℕ → Bool
is_insert name = is_reference name || is_include name

-- a property element that holds instances has no attributes
abbrev pub attribute_flaws : List Attr → List Piece
attribute_flaws [] = []
attribute_flaws (a ∷ others) = Wrong flaw.Property a.position ∷ []

abbrev pub list_in : Slot → Head → Entry
list_in slot head = record { front = attribute_flaws head.attributes; room = Some (Listed slot) }

abbrev pub property : ℕ → Class → Head → Nodes → Entry
property owner class head content = only (Property owner class head content)

abbrev pub list_if : Class → ℕ → Head → Nodes → Option Slot → Entry
list_if class owner head content None = property owner class head content
list_if class owner head content (Some slot) = list_in slot head

-- an element in the content of an instance of the class
unfoldable pub inside : ℕ → Class → ℕ → Earlier → Head → Nodes → Entry
inside count class owner earlier head content =
    if is_instance head.name then instance count (seat_in (child_slot class owner) true) head
    else (if is_insert head.name then insert (seat_in (child_slot class owner) true) head
    else (if is_define head.name then list_in slot.Aside head
    else list_if class owner head content (slot_named class owner earlier head.name)))

-- an element where instances are listed
unfoldable pub listed : ℕ → Seat → Head → Nodes → Entry
listed count place head content =
    if is_instance head.name then seated count place head content
    else (if is_insert head.name then insert place head
    else (if is_define head.name then wrong flaw.Child head.position else wrong flaw.Property head.position))

abbrev pub entry : ℕ → Room → Earlier → Head → Nodes → Entry
entry count (Inside class owner) earlier head content = inside count class owner earlier head content
entry count (Listed slot) earlier head content = listed count (seat_in slot earlier.first) head content
entry count Closed earlier head content = wrong flaw.Child head.position
