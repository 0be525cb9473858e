-- A document piece by piece, in the order of work: an include is read where it stands, and behind its document its
-- attributes are those of that document's root. A node that is defined within a value is read behind what stands before
-- it in the value, and what stands behind it knows its names. The first fault ends all. Behind all documents, if
-- nothing is wrong, the bindings are resolved in the order in which they were met.
use Rattle.std.specs.Prelude.{◌≡◌, ℕ, ◌+◌, Bool, true, false, List, [], ◌∷◌, ◌++◌, drop, length, map, slice_get, Option, Some, None, Ok, Err, if◌then◌else◌}
use Rattle.fx_base.specs.declared.positions.Place.{Place}
use Rattle.fx_base.specs.declared.positions.Position.{Position}
use Rattle.fx_doc_grammar.specs.Grammar.{Attr, Head, Reading}
use Rattle.fx_kinds.specs.declared.classes.Class.{Class}
use Rattle.fx_load_parts.specs.Faults.{Fault}
use Rattle.fx_port.specs.Files.{Files}
use Rattle.fx_scene_acts.specs.Acts.{task_of}
use Rattle.fx_scene_acts.specs.declared.acts.Act.{Act}
use Rattle.fx_scene_acts.specs.declared.tasks.Doing.{Doing}
use Rattle.fx_scene_acts.specs.declared.tasks.Doing.TheVariants as doing
use Rattle.fx_scene_acts.specs.declared.tasks.Task.{Task}
use Rattle.fx_scene_bindings.specs.Bindings.{bound}
use Rattle.fx_scene_bindings.specs.Names.{named_by}
use Rattle.fx_scene_elements.specs.Elements.{Told}
use Rattle.fx_scene_elements.specs.declared.lanes.Lane.{Lane}
use Rattle.fx_scene_flaws.specs.declared.flaws.Flaw.{Flaw}
use Rattle.fx_scene_flaws.specs.declared.flaws.Flaw.TheVariants as flaw
use Rattle.fx_scene_load.specs.Asking.{asked_of}
use Rattle.fx_scene_course.specs.Courses.{Course, has_id, place_in, with_class, with_fault_in, with_file, with_flaw, with_space, with_task}
use Rattle.fx_scene_load.specs.Documents.{document_in}
use Rattle.fx_scene_course.specs.Making.{AreActsDone, acts_before, acts_between}
use Rattle.fx_scene_course.specs.Opens.{Open, inner, outermost, scope_in}
use Rattle.fx_scene_load.specs.declared.asking.Asked.TheVariants.{Misplaced, Refused, Wanted}
use Rattle.fx_scene_course.specs.declared.courses.Waiting.{Waiting}
use Rattle.fx_scene_names.specs.Names.{class_named}
use Rattle.fx_scene_outline.specs.Defined.{Defined, defined_nodes}
use Rattle.fx_scene_outline.specs.Outlines.{aside_outline, outline}
use Rattle.fx_scene_outline.specs.Pieces.{Piece, Include, Instance}
use Rattle.fx_scene_outline.specs.declared.pieces.Seat.{Seat}
use Rattle.fx_scene_read.specs.Opening.{stand_at}
use Rattle.fx_scene_read.specs.Pieces.{piece_told, root_acts}
use Rattle.fx_scene_read.specs.declared.opening.Stand.{Stand}
use Rattle.fx_scene_read.specs.declared.opening.Stand.TheVariants as stand
use Rattle.fx_scene_things.specs.Names.{Names, nothing}
use Rattle.fx_scene_things.specs.Settled.{Settled, settled_of}
use Rattle.fx_scene_things.specs.Spaces.{Space, names_in}
use Rattle.fx_scene_things.specs.declared.things.Named.{Named}

-- what is known in a document so far: its names, the constraints of its grids, its pieces, and for each of these the
-- ordinal of the next node in front of it
pub record Desk : Type 0 where
  pub names : Names
  pub lanes : List Lane
  pub before : List Piece
  pub nodes : List ℕ

abbrev pub empty_desk : Desk
empty_desk = record { names = nothing; lanes = []; before = []; nodes = [] }

-- a desk on which these names are known
abbrev pub desk_with : Names → Desk
desk_with names = record empty_desk { names = names }

abbrev pub desk_behind : Desk → Piece → ℕ → Names → List Lane → Desk
desk_behind desk piece node names lanes =
    record {
      names = names;
      lanes = desk.lanes ++ lanes;
      before = desk.before ++ (piece ∷ []);
      nodes = desk.nodes ++ (node ∷ []);
    }

-- what a piece that is no include asks for, which is the node of this ordinal where it is an instance, where these
-- nodes of definitions within it were read
abbrev pub told_in : Open → Desk → List Settled → ℕ → Piece → Told
told_in here desk settled node piece =
    piece_told (scope_in here settled) desk.names desk.lanes desk.before desk.nodes node piece

abbrev pub is_include : Piece → Bool
is_include (Include seat head) = true
is_include _ = false

-- the class of the node that a piece is
abbrev pub class_of : Piece → Option Class
class_of (Instance seat head) = class_named head.name
class_of _ = None

-- includes

-- the root of an included document stands where the include stands
abbrev pub stand_in : Open → Stand → Stand
stand_in here stand.Root = here.stand
stand_in here other = other

abbrev pub include_stand : Open → Desk → Seat → Stand
include_stand here desk seat = stand_in here (stand_at desk.before desk.nodes seat)

-- before a document is fetched there has to be room for its root
abbrev pub with_room : Course → Place → Stand → Course
with_room course place (stand.Below owner spot) = with_task course place (doing.Room owner)
with_room course place _ = course

abbrev pub roomed : Open → Desk → Course → Seat → Head → Course
roomed here desk course seat head =
    with_room course (place_in here.file head.position) (include_stand here desk seat)

abbrev pub root_acts_if : Open → Desk → Course → ℕ → Head → Option Class → List Act
root_acts_if here desk course node head None = []
root_acts_if here desk course node head (Some class) =
    root_acts (scope_in here []) desk.names class node (has_id course node) head.attributes

-- what the attributes of an include ask for of the node that is the root of its document
abbrev pub include_acts : Open → Desk → Course → ℕ → Head → List Act
include_acts here desk course node head = root_acts_if here desk course node head (slice_get course.classes node)

abbrev pub root_of : ℕ → ℕ → Class → Named
root_of node file class = record { node = node; class = class; inside = Some file }

abbrev pub root_names : Names → ℕ → ℕ → List Attr → Option Class → Names
root_names names node file attributes None = names
root_names names node file attributes (Some class) = named_by names (root_of node file class) attributes

-- the names of the document in that file stand behind the name of an include
abbrev pub include_names : Desk → Course → ℕ → ℕ → Head → Names
include_names desk course node file head =
    root_names desk.names node file head.attributes (slice_get course.classes node)

-- Documents aren't deeper, so no more nodes stand in definitions within the values of each other.
abbrev pub most_levels : ℕ
most_levels = 128

mutual
  -- a document, whose names are known behind it
  pub data IsDocumentRead (files : Files) : Open → Course → Reading → Course → Type 0 where
    document_read : (here : Open) (course last : Course) (document : Reading) (names : Names)
        → ArePiecesRead files here most_levels empty_desk course (outline document) names last
        → IsDocumentRead files here course document (with_space last here.file names)

  -- pieces of a document, with room for so many levels of nodes in definitions within values, and the names that are
  -- known behind them
  pub data ArePiecesRead (files : Files) : Open → ℕ → Desk → Course → List Piece → Names → Course → Type 0 where
    no_pieces : (here : Open) (room : ℕ) (desk : Desk) (course : Course)
        → ArePiecesRead files here room desk course [] desk.names course
    pieces_end : (here : Open) (room : ℕ) (desk : Desk) (course : Course) (pieces : List Piece)
        → course.at_fault ≡ true → ArePiecesRead files here room desk course pieces desk.names course
    one_piece : (here : Open) (room : ℕ) (desk further : Desk) (course next last : Course) (piece : Piece)
        (pieces : List Piece) (names : Names) → course.at_fault ≡ false
        → IsPieceRead files here room desk course piece further next
        → ArePiecesRead files here room further next pieces names last
        → ArePiecesRead files here room desk course (piece ∷ pieces) names last

  pub data IsPieceRead (files : Files) : Open → ℕ → Desk → Course → Piece → Desk → Course → Type 0 where
    plain_piece : (here : Open) (room : ℕ) (desk : Desk) (course next : Course) (piece : Piece) (told : Told)
        → is_include piece ≡ false
        → IsToldRead files here room desk (length course.classes) piece [] 0 course (defined_nodes piece) told next
        → IsPieceRead files here room desk course piece
        (desk_behind desk piece (length course.classes) told.names told.lanes) (with_class next (class_of piece))
    include_piece : (here : Open) (room : ℕ) (desk : Desk) (course next : Course) (seat : Seat) (head : Head)
        (names : Names) → IsIncludeRead files here desk course seat head names next
        → IsPieceRead files here room desk course (Include seat head)
        (desk_behind desk (Include seat head) (length course.classes) names []) next

  -- A piece that is no include, of which these nodes of definitions were read and so many acts are done, with the nodes
  -- that are left: it is read up to the next of them, then that node is, and so on. What it asks for is told at last.
  pub data IsToldRead (files : Files)
      : Open → ℕ → Desk → ℕ → Piece → List Settled → ℕ → Course → List Defined → Told → Course → Type 0 where
    told_whole : (here : Open) (room : ℕ) (desk : Desk) (node : ℕ) (piece : Piece) (settled : List Settled) (done : ℕ)
        (course next : Course)
        → AreActsDone files here course (drop done (told_in here desk settled node piece).acts) next
        → IsToldRead files here room desk node piece settled done course [] (told_in here desk settled node piece) next
    told_up_to : (here : Open) (room : ℕ) (desk : Desk) (node : ℕ) (piece : Piece) (settled : List Settled) (done : ℕ)
        (course middle next last : Course) (defined : Defined) (others : List Defined) (names : Names) (told : Told)
        → AreActsDone files here course (acts_between done (told_in here desk settled node piece).acts) middle
        → IsDefinedRead files here room (told_in here desk settled node piece).names middle defined names next
        → IsToldRead files here room desk node piece (settled ++ (settled_of defined.head.position names ∷ []))
        (acts_before (told_in here desk settled node piece).acts) next others told last
        → IsToldRead files here room desk node piece settled done course (defined ∷ others) told last

  -- a node in a definition within a value, and the names that are known behind it
  pub data IsDefinedRead (files : Files) : Open → ℕ → Names → Course → Defined → Names → Course → Type 0 where
    too_deep : (here : Open) (names : Names) (course : Course) (defined : Defined)
        → IsDefinedRead files here 0 names course defined names
        (with_flaw course (place_in here.file defined.head.position) flaw.Limit)
    defined_read : (here : Open) (room : ℕ) (names behind : Names) (course last : Course) (defined : Defined)
        → ArePiecesRead files here room (desk_with names) course (aside_outline defined.head defined.content) behind
        last
        → IsDefinedRead files here (room + 1) names course defined behind last

  -- an include, and the names that are known behind it
  pub data IsIncludeRead (files : Files) : Open → Desk → Course → Seat → Head → Names → Course → Type 0 where
    misplaced : (here : Open) (desk : Desk) (course : Course) (seat : Seat) (head : Head) (mistake : Flaw)
        → asked_of here seat head (length course.files) ≡ Misplaced mistake
        → IsIncludeRead files here desk course seat head desk.names
        (with_flaw course (place_in here.file head.position) mistake)
    refused : (here : Open) (desk : Desk) (course : Course) (seat : Seat) (head : Head) (mistake : Flaw)
        (place : Position) → asked_of here seat head (length course.files) ≡ Refused mistake place
        → IsIncludeRead files here desk course seat head desk.names
        (with_flaw (roomed here desk course seat head) (place_in here.file place) mistake)
    wanted : (here : Open) (desk : Desk) (course last : Course) (seat : Seat) (head : Head) (target : List ℕ)
        (names : Names) → asked_of here seat head (length course.files) ≡ Wanted target
        → IsWantedRead files here desk (include_stand here desk seat) (roomed here desk course seat head) head target
        names last
        → IsIncludeRead files here desk course seat head names last

  -- the document that an include asks for, whose root comes to stand there
  pub data IsWantedRead (files : Files) : Open → Desk → Stand → Course → Head → List ℕ → Names → Course → Type 0 where
    unread : (here : Open) (desk : Desk) (spot : Stand) (course : Course) (head : Head) (target : List ℕ)
        (fault : Fault) → document_in files (length course.files) target ≡ Err fault
        → IsWantedRead files here desk spot course head target desk.names
        (with_fault_in (with_file course target) (length course.files) fault)
    included : (here : Open) (desk : Desk) (spot : Stand) (course middle last : Course) (head : Head)
        (target : List ℕ) (document : Reading) → document_in files (length course.files) target ≡ Ok document
        → IsDocumentRead files
        (inner here desk.names head.attributes spot (length course.files) target document)
        (with_file course target) document middle
        → AreActsDone files here middle (include_acts here desk middle (length course.classes) head) last
        → IsWantedRead files here desk spot course head target
        (include_names desk middle (length course.classes) (length course.files) head) last

-- bindings

abbrev pub bound_over : List Space → Waiting → Option Names → Doing
bound_over spaces waiting None = bound spaces nothing waiting.binding
bound_over spaces waiting (Some names) = bound spaces names waiting.binding

-- what is done for a binding, over the names of the document in its file
abbrev pub bound_task : List Space → Waiting → Task
bound_task spaces waiting =
    task_of waiting.place (bound_over spaces waiting (names_in spaces waiting.place.file))

-- all tasks, behind which the bindings are resolved if nothing is wrong
abbrev pub all_tasks : Course → List Task
all_tasks course =
    if course.at_fault then course.tasks else course.tasks ++ map (bound_task course.spaces) course.bindings

-- the tasks of a scene, the file of this number and name, behind what is done before it, and the files that are fetched
pub data IsSceneRead (files : Files) (file : ℕ) (name : List ℕ) (first : Course) (document : Reading)
    : List Task → List (List ℕ) → Type 0 where
  scene_read : (last : Course) → IsDocumentRead files (outermost file name document) first document last
      → IsSceneRead files file name first document (all_tasks last) last.files
