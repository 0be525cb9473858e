-- Pieces of a document, one after another, and its includes.
use Rattle.std.proofs.Common.{Bor, ◌≡◌, ◌<◌, ◌≤◌, ℕ, ◌+◌, List, [], ◌∷◌, ◌++◌, Option, Some, None, Result, Ok, Err, Bool, true, false, refl, sym, ◌∙◌, ap, subst, length, get_or, drop, take, append-nil}
use Rattle.std.specs.Prelude.{nat_le, nat_lt, if◌then◌else◌, OnOk}
use Rattle.std.proofs.lemmas.Bool.{leb-false, ltb-false}
use Rattle.std.proofs.lemmas.List.{at_drop_all, drop_more, map-append, take_more}
use Rattle.fx_base.specs.declared.positions.Place.{Place}
use Rattle.fx_base.specs.declared.positions.Position.{Position}
use Rattle.fx_doc_runs.specs.declared.document.Element.{Element}
use Rattle.fx_doc_grammar.specs.Grammar.{Attr, Head, Reading as Document}
use Rattle.fx_load_parts.specs.Says.{LoadSays}
use Rattle.fx_load_parts.specs.Views.{fault_of}
use Rattle.fx_load_parts.specs.declared.files.LoadError.{LoadError}
use Rattle.fx_load_parts.specs.declared.files.LoadError.TheVariants as load
use Rattle.fx_port.specs.Files.{Files}
use Rattle.fx_port.specs.declared.files.FetchError.{FetchError}
use Rattle.fx_scene_acts.specs.declared.acts.Act.{Act}
use Rattle.fx_scene_elements.specs.Elements.{Told}
use Rattle.fx_scene_elements.specs.declared.lanes.Lane.{Lane}
use Rattle.fx_scene_flaws.specs.declared.flaws.Flaw.{Flaw}
use Rattle.fx_scene_flaws.specs.declared.flaws.Flaw.TheVariants as flaw
use Rattle.fx_scene_load.specs.Asking.{asked_by, asked_of, is_nowhere, is_open, located, source_flaw, source_of, wanted_if}
use Rattle.fx_scene_course.specs.Courses.{Course, place_in, with_class, with_fault_in, with_file, with_flaw, with_space}
use Rattle.fx_scene_load.specs.Documents.{document_in}
use Rattle.fx_scene_load.specs.Made.{AreDefinedRead, IsFaultKept, IsInnerRead, IsNextRead}
use Rattle.fx_scene_course.specs.Making.{AreActsDone, acts_before, acts_between}
use Rattle.fx_scene_course.specs.Opens.{Open, inner, inner_path}
use Rattle.fx_scene_load.specs.Reading.{ArePiecesRead, Desk, IsDefinedRead, IsDocumentRead, IsIncludeRead, IsPieceRead, IsToldRead, IsWantedRead, class_of, defined_read, desk_behind, desk_with, document_read, empty_desk, include_acts, include_names, include_piece, include_stand, included, is_include, misplaced, most_levels, no_pieces, one_piece, pieces_end, plain_piece, refused, roomed, told_in, told_up_to, told_whole, too_deep, unread, wanted, with_room}
use Rattle.fx_scene_load.specs.Views.{desk_view}
use Rattle.fx_scene_load.specs.declared.asking.Asked.TheVariants.{Misplaced, Refused, Wanted}
use Rattle.fx_scene_load.specs.declared.desks.Desk.{Desk as Held}
use Rattle.fx_scene_outline.specs.Defined.{Defined, defined_nodes}
use Rattle.fx_scene_outline.specs.Outlines.{aside_outline, outline}
use Rattle.fx_scene_read.specs.Opening.{AreCounted}
use Rattle.fx_scene_outline.specs.Pieces.{Piece as PlainPiece, Include}
use Rattle.fx_scene_outline.specs.Views.{defined_shown, defined_view, piece_view, shown}
use Rattle.fx_scene_outline.specs.declared.pieces.Piece.{Piece}
use Rattle.fx_scene_outline.specs.declared.pieces.Seat.{Seat}
use Rattle.fx_scene_places.specs.Places.{joined}
use Rattle.fx_scene_read.specs.declared.opening.Stand.{Stand}
use Rattle.fx_scene_read.specs.declared.opening.Stand.TheVariants as stand
use Rattle.fx_scene_things.specs.Names.{Names}
use Rattle.fx_scene_things.specs.Settled.{Settled, settled_of}

-- what is read of the pieces that are left completes what is read of all
abbrev pub Completes : Files → Open → ℕ → Desk → Course → List Piece → Desk → Course → ℕ → Type 0
Completes files here room first_desk first pieces desk now i =
    (names : Names) (last : Course) → ArePiecesRead files here room desk now (shown (drop i pieces)) names last
    → ArePiecesRead files here room first_desk first (shown pieces) names last

pub goes_on : (files : Files) (here : Open) (room : ℕ) (first_desk desk further : Desk) (first now next : Course)
    (pieces : List Piece) (i : ℕ) (x : Piece) → i < length pieces → x ≡ get_or pieces i x
    → Completes files here room first_desk first pieces desk now i → now.at_fault ≡ false
    → IsPieceRead files here room desk now (piece_view x) further next
    → Completes files here room first_desk first pieces further next (i + 1)
goes_on files here room first_desk desk further first now next pieces i x h is completes calm one names last more =
    let split : drop i pieces ≡ x ∷ drop (i + 1) pieces =
    drop_more pieces i x h ∙ ap (λ (y : Piece). y ∷ drop (i + 1) pieces) (sym is) in
    completes names last
    (subst (λ (ps : List Piece). ArePiecesRead files here room desk now (shown ps) names last) (sym split)
    (one_piece here room desk further now next last (piece_view x) (shown (drop (i + 1) pieces)) names calm one more))

shown_more : (pieces : List Piece) (i : ℕ) (x : Piece) → i < length pieces → x ≡ get_or pieces i x
    → shown (take (i + 1) pieces) ≡ shown (take i pieces) ++ (piece_view x ∷ [])
shown_more pieces i x h is =
    ap shown (take_more pieces i x h ∙ ap (λ (y : Piece). take i pieces ++ (y ∷ [])) (sym is))
    ∙ map-append piece_view (take i pieces) (x ∷ [])

-- the pieces in front of one and this one are counted
pub counted_on : (pieces earlier : List Piece) (i : ℕ) (x : Piece) (counts : List ℕ) → i < length pieces
    → x ≡ get_or pieces i x → earlier ≡ take i pieces → AreCounted (shown earlier ++ (piece_view x ∷ [])) counts
    → AreCounted (shown (take (i + 1) pieces)) counts
counted_on pieces earlier i x counts h is front are =
    subst (λ (before : List PlainPiece). AreCounted before counts)
    (ap (λ (ps : List Piece). shown ps ++ (piece_view x ∷ [])) front ∙ sym (shown_more pieces i x h is)) are

-- the pieces in front of one are those that were taken
pub steps_on : (files : Files) (here : Open) (room : ℕ) (first_desk : Desk) (desk more : Held) (first now next : Course)
    (pieces earlier : List Piece) (i : ℕ) (x : Piece) → i < length pieces → x ≡ get_or pieces i x
    → earlier ≡ take i pieces
    → Completes files here room first_desk first pieces (desk_view (shown (take i pieces)) desk) now i
    → now.at_fault ≡ false
    → IsPieceRead files here room (desk_view (shown earlier) desk) now (piece_view x)
    (desk_view (shown earlier ++ (piece_view x ∷ [])) more) next
    → Completes files here room first_desk first pieces (desk_view (shown (take (i + 1) pieces)) more) next (i + 1)
steps_on files here room first_desk desk more first now next pieces earlier i x h is front completes calm one =
    let IsOne : List PlainPiece → List PlainPiece → Type 0 =
    λ before behind. IsPieceRead files here room (desk_view before desk) now (piece_view x) (desk_view behind more) next in
    let IsBehind : List Piece → Type 0 = λ ps. IsOne (shown ps) (shown ps ++ (piece_view x ∷ [])) in
    goes_on files here room first_desk (desk_view (shown (take i pieces)) desk)
    (desk_view (shown (take (i + 1) pieces)) more) first now next pieces i x h is completes calm
    (subst (IsOne (shown (take i pieces))) (sym (shown_more pieces i x h is)) (subst IsBehind front one))

pub stops : (files : Files) (here : Open) (room : ℕ) (first_desk desk : Desk) (first now : Course) (pieces : List Piece)
    (i : ℕ) → Completes files here room first_desk first pieces desk now i → now.at_fault ≡ true
    → ArePiecesRead files here room first_desk first (shown pieces) desk.names now
stops files here room first_desk desk first now pieces i completes fault =
    completes desk.names now (pieces_end here room desk now (shown (drop i pieces)) fault)

pub ends : (files : Files) (here : Open) (room : ℕ) (first_desk desk : Desk) (first now : Course) (pieces : List Piece)
    (i : ℕ) → length pieces ≤ i → Completes files here room first_desk first pieces desk now i
    → ArePiecesRead files here room first_desk first (shown pieces) desk.names now
ends files here room first_desk desk first now pieces i h completes =
    completes desk.names now
    (subst (λ (ps : List PlainPiece). ArePiecesRead files here room desk now ps desk.names now)
    (sym (at_drop_all shown pieces i h)) (no_pieces here room desk now))

-- an include asks for a document only where there is room for one more

abbrev IsRoomy : Open → ℕ → Type 0
IsRoomy here count = (length here.around ≤ 16) × (count < 63)

by_tests : (here : Open) (count : ℕ) (again deep many : Bool) → nat_lt 16 (length here.around) ≡ deep
    → nat_le 63 count ≡ many
    → None ≡ (if again then Some flaw.IncludeCycle
    else (if deep then Some flaw.Limit else (if many then Some flaw.Limit else None)))
    → IsRoomy here count
by_tests here count true deep many d m e = absurd (cc)
by_tests here count false true many d m e = absurd (cc)
by_tests here count false false true d m e = absurd (cc)
by_tests here count false false false d m e = (ltb-false 16 (length here.around) d, leb-false 63 count m)

by_flaw : (here : Open) (count : ℕ) (position : Position) (name target : List ℕ) (mistake : Option Flaw)
    → mistake ≡ source_flaw here.around count name → Wanted target ≡ wanted_if position name mistake
    → IsRoomy here count
by_flaw here count position name target (Some mistake) is e = absurd (cc)
by_flaw here count position name target None is e =
    by_tests here count (is_open here.around name) (nat_lt 16 (length here.around)) (nat_le 63 count) refl refl is

by_place : (here : Open) (count : ℕ) (position : Position) (target : List ℕ) (found : Option (List ℕ))
    → Wanted target ≡ located here.around count position found → IsRoomy here count
by_place here count position target None e = absurd (cc)
by_place here count position target (Some name) e =
    by_flaw here count position name target (source_flaw here.around count name) refl e

by_seat : (here : Open) (count : ℕ) (source : Attr) (target : List ℕ) (nowhere : Bool)
    → Wanted target ≡ (if nowhere then Misplaced flaw.Child
    else located here.around count source.position (joined here.name source.value))
    → IsRoomy here count
by_seat here count source target true e = absurd (cc)
by_seat here count source target false e =
    by_place here count source.position target (joined here.name source.value) e

by_source : (here : Open) (place : Seat) (count : ℕ) (target : List ℕ) (source : Option Attr)
    → Wanted target ≡ asked_by here place count source → IsRoomy here count
by_source here place count target None e = absurd (cc)
by_source here place count target (Some source) e = by_seat here count source target (is_nowhere place) e

pub asked_is_roomy : (here : Open) (place : Seat) (head : Head) (count : ℕ) (target : List ℕ)
    → Wanted target ≡ asked_of here place head count → (length here.around ≤ 16) × (count < 63)
unfolding asked_of
asked_is_roomy here place head count target e = by_source here place count target (source_of head) e

-- includes

pub told_misplaced : (files : Files) (here : Open) (desk : Desk) (course next : Course) (place : Seat) (head : Head)
    (mistake : Flaw) → Misplaced mistake ≡ asked_of here place head (length course.files)
    → next ≡ with_flaw course (place_in here.file head.position) mistake
    → IsIncludeRead files here desk course place head desk.names next
told_misplaced files here desk course next place head mistake asked e =
    subst (λ (c : Course). IsIncludeRead files here desk course place head desk.names c) (sym e)
    (misplaced here desk course place head mistake (sym asked))

pub told_refused : (files : Files) (here : Open) (desk : Desk) (course middle next : Course) (place : Seat) (head : Head)
    (mistake : Flaw) (source : Position) → Refused mistake source ≡ asked_of here place head (length course.files)
    → middle ≡ roomed here desk course place head → next ≡ with_flaw middle (place_in here.file source) mistake
    → IsIncludeRead files here desk course place head desk.names next
told_refused files here desk course middle next place head mistake source asked room e =
    subst (λ (c : Course). IsIncludeRead files here desk course place head desk.names c)
    (sym (e ∙ ap (λ (c : Course). with_flaw c (place_in here.file source) mistake) room))
    (refused here desk course place head mistake source (sym asked))

pub told_wanted : (files : Files) (here : Open) (desk : Desk) (course middle last : Course) (place : Seat) (head : Head)
    (target : List ℕ) (names : Names) → Wanted target ≡ asked_of here place head (length course.files)
    → middle ≡ roomed here desk course place head
    → IsWantedRead files here desk (include_stand here desk place) middle head target names last
    → IsIncludeRead files here desk course place head names last
told_wanted files here desk course middle last place head target names asked room read =
    wanted here desk course last place head target names (sym asked)
    (subst (λ (c : Course). IsWantedRead files here desk (include_stand here desk place) c head target names last) room read)

-- room takes no file
pub files_roomed : (course middle : Course) (place : Place) (spot : Stand) → middle ≡ with_room course place spot
    → length middle.files ≡ length course.files
files_roomed course middle place (stand.Below owner where_to) e = ap (λ (c : Course). length c.files) e
files_roomed course middle place stand.Root e = ap (λ (c : Course). length c.files) e
files_roomed course middle place stand.Aside e = ap (λ (c : Course). length c.files) e

pub told_unread : {A : Type 0} (files : Files) (here : Open) (desk : Desk) (spot : Stand) (course middle next : Course)
    (head : Head) (target : List ℕ) (count : ℕ) (seen : A → Document) (error : LoadError)
    → count ≡ length course.files → LoadSays {A = A} seen (Err error) (document_in files count target)
    → middle ≡ with_file course target → IsFaultKept {T = Unit {0}} count error middle next (Ok tt)
    → IsWantedRead files here desk spot course head target desk.names next
told_unread files here desk spot course middle next head target count seen (load.Fault fault) counted says filed e =
    let told : document_in files (length course.files) target ≡ Err (fault_of fault) =
    ap (λ (n : ℕ). document_in files n target) (sym counted) ∙ says in
    subst (λ (c : Course). IsWantedRead files here desk spot course head target desk.names c)
    (sym (e ∙ (ap (λ (c : Course). with_fault_in c count (fault_of fault)) filed
    ∙ ap (λ (n : ℕ). with_fault_in (with_file course target) n (fault_of fault)) counted)))
    (unread here desk spot course head target (fault_of fault) told)
told_unread files here desk spot course middle next head target count seen load.Failed counted says filed e = absurd e
told_unread files here desk spot course middle next head target count seen load.Memory counted says filed e = absurd e

pub told_included : (files : Files) (here : Open) (desk : Desk) (spot : Stand) (course middle last : Course) (head : Head)
    (target : List ℕ) (count : ℕ) (document : Document) (names : Names) → count ≡ length course.files
    → document_in files count target ≡ Ok document → middle ≡ with_file course target
    → IsInnerRead files here desk spot count target middle head document names last
    → IsWantedRead files here desk spot course head target names last
told_included files here desk spot course middle last head target count document names counted says filed read =
    let told : document_in files (length course.files) target ≡ Ok document =
    ap (λ (n : ℕ). document_in files n target) (sym counted) ∙ says in
    let IsAll : ℕ → Course → Type 0 =
    λ n c. IsDocumentRead files (inner here desk.names head.attributes spot n target document) c document read.middle in
    let whole : IsAll (length course.files) (with_file course target) =
    subst (λ (n : ℕ). IsAll n (with_file course target)) counted (subst (IsAll count) filed read.whole) in
    let same : length middle.classes ≡ length course.classes = ap (λ (c : Course). length c.classes) filed in
    let rest : AreActsDone files here read.middle (include_acts here desk read.middle (length course.classes) head) last =
    subst (λ (n : ℕ). AreActsDone files here read.middle (include_acts here desk read.middle n head) last) same read.rest in
    subst (λ (ns : Names). IsWantedRead files here desk spot course head target ns last)
    (sym (read.named ∙ (ap (λ (n : ℕ). include_names desk read.middle n count head) same
    ∙ ap (λ (n : ℕ). include_names desk read.middle (length course.classes) n head) counted)))
    (included here desk spot course read.middle last head target document told whole rest)

pub told_unread_on : {A : Type 0} (files : Files) (here : Open) (desk : Desk) (spot : Stand) (course middle next : Course)
    (head : Head) (target : List ℕ) (count : ℕ) (seen : A → Document) (error : LoadError)
    (done : Result (Unit {0}) FetchError) → count ≡ length course.files
    → LoadSays {A = A} seen (Err error) (document_in files count target) → middle ≡ with_file course target
    → IsFaultKept count error middle next done
    → OnOk done (IsWantedRead files here desk spot course head target desk.names next)
told_unread_on files here desk spot course middle next head target count seen error (Ok tt) counted says filed e =
    told_unread files here desk spot course middle next head target count seen error counted says filed e
told_unread_on files here desk spot course middle next head target count seen error (Err other) counted says filed e = tt

abbrev pub open_of : ℕ → List ℕ → List (List ℕ) → List (List ℕ) → Option (List (List ℕ)) → Stand → Open
open_of file name imports around path spot =
    record { file = file; name = name; imports = imports; around = around; path = path; stand = spot }

pub inner_whole : (files : Files) (here : Open) (names : Names) (attributes : List Attr) (spot : Stand) (file : ℕ)
    (target : List ℕ) (document : Document) (course middle : Course) (imports around : List (List ℕ))
    (path : Option (List (List ℕ))) → imports ≡ document.imports → around ≡ here.around ++ (target ∷ [])
    → path ≡ inner_path here names attributes
    → IsDocumentRead files (open_of file target imports around path spot) course document middle
    → IsDocumentRead files (inner here names attributes spot file target document) course document middle
inner_whole files here names attributes spot file target document course middle imports around path same longer behind read =
    let seen : open_of file target imports around path spot ≡ inner here names attributes spot file target document =
    λ i. open_of file target (same i) (longer i) (behind i) spot in
    subst (λ (o : Open). IsDocumentRead files o course document middle) seen read

pub inner_read : (files : Files) (here : Open) (desk : Desk) (spot : Stand) (file : ℕ) (target : List ℕ)
    (course middle last : Course) (head : Head) (document : Document) (names : Names) (node : ℕ)
    → node ≡ length course.classes
    → IsDocumentRead files (inner here desk.names head.attributes spot file target document) course document middle
    → names ≡ include_names desk middle node file head
    → AreActsDone files here middle (include_acts here desk middle node head) last
    → IsInnerRead files here desk spot file target course head document names last
inner_read files here desk spot file target course middle last head document names node counted whole named rest = record {
  middle = middle;
  whole = whole;
  rest = subst (λ (n : ℕ). AreActsDone files here middle (include_acts here desk middle n head) last) counted rest;
  named = named ∙ ap (λ (n : ℕ). include_names desk middle n file head) counted;
}

pub whole_read : (files : Files) (here : Open) (course last next : Course) (document : Document) (names : Names)
    (desk : Desk) (pieces : List PlainPiece) → desk ≡ empty_desk → pieces ≡ outline document
    → next ≡ with_space last here.file names → ArePiecesRead files here most_levels desk course pieces names last
    → IsDocumentRead files here course document next
whole_read files here course last next document names desk pieces bare all e read =
    let IsRead : Desk → List PlainPiece → Type 0 = λ d ps. ArePiecesRead files here most_levels d course ps names last in
    subst (λ (c : Course). IsDocumentRead files here course document c) (sym e)
    (document_read here course last document names (subst (IsRead empty_desk) all (subst (λ (d : Desk). IsRead d pieces) bare read)))

-- a piece

abbrev pub desk_of : Names → List Lane → List PlainPiece → List ℕ → Desk
desk_of names lanes before nodes = record { names = names; lanes = lanes; before = before; nodes = nodes }

pub plain_read : (files : Files) (here : Open) (room : ℕ) (desk : Desk) (course middle done last : Course)
    (piece : PlainPiece) (node : ℕ) (settled : List Settled) (count : ℕ) (names : Names) (lanes : List Lane)
    (nodes : List ℕ) → is_include piece ≡ false → node ≡ length course.classes
    → AreDefinedRead files here room desk node piece (defined_nodes piece) course settled count middle
    → names ≡ (told_in here desk settled node piece).names
    → lanes ≡ desk.lanes ++ (told_in here desk settled node piece).lanes → nodes ≡ desk.nodes ++ (node ∷ [])
    → AreActsDone files here middle (drop count (told_in here desk settled node piece).acts) done
    → last ≡ with_class done (class_of piece)
    → IsPieceRead files here room desk course piece (desk_of names lanes (desk.before ++ (piece ∷ [])) nodes) last
plain_read files here room desk course middle done last piece node settled count names lanes nodes plain counted defined known longer more made e =
    let told = told_in here desk settled node piece in
    let IsSo : Desk → Course → Type 0 = λ d c. IsPieceRead files here room desk course piece d c in
    let IsTold : ℕ → Type 0 = λ n. IsToldRead files here room desk n piece [] 0 course (defined_nodes piece) told done in
    let read : IsTold node = defined told done (told_whole here room desk node piece settled count middle done made) in
    let same : desk_behind desk piece (length course.classes) told.names told.lanes
    ≡ desk_of names lanes (desk.before ++ (piece ∷ [])) nodes =
    ap (λ (n : ℕ). desk_behind desk piece n told.names told.lanes) (sym counted)
    ∙ (λ i. desk_of (sym known i) (sym longer i) (desk.before ++ (piece ∷ [])) (sym more i)) in
    subst (λ (d : Desk). IsSo d last) same
    (subst (IsSo (desk_behind desk piece (length course.classes) told.names told.lanes)) (sym e)
    (plain_piece here room desk course done piece told plain (subst IsTold counted read)))

pub included_read : (files : Files) (here : Open) (room : ℕ) (desk : Desk) (course last : Course) (place : Seat)
    (head : Head) (node : ℕ) (names : Names) (lanes : List Lane) (nodes : List ℕ) → node ≡ length course.classes
    → lanes ≡ desk.lanes → nodes ≡ desk.nodes ++ (node ∷ [])
    → IsIncludeRead files here desk course place head names last
    → IsPieceRead files here room desk course (Include place head)
    (desk_of names lanes (desk.before ++ (Include place head ∷ [])) nodes) last
included_read files here room desk course last place head node names lanes nodes counted kept more read =
    let same : desk_behind desk (Include place head) (length course.classes) names []
    ≡ desk_of names lanes (desk.before ++ (Include place head ∷ [])) nodes =
    ap (λ (n : ℕ). desk_behind desk (Include place head) n names []) (sym counted)
    ∙ (λ i. desk_of names ((append-nil desk.lanes ∙ sym kept) i) (desk.before ++ (Include place head ∷ [])) (sym more i)) in
    subst (λ (d : Desk). IsPieceRead files here room desk course (Include place head) d last) same
    (include_piece here room desk course last place head names read)

-- nodes in the definitions within a piece

-- the next of them, and those that are left
pub defined_more : (files : Files) (here : Open) (room : ℕ) (desk : Desk) (node : ℕ) (piece : PlainPiece)
    (elements : List (Bor Element)) (i : ℕ) (x : Bor Element) (settled more : List Settled) (done count : ℕ)
    (now next : Course) (told : Told) (last : Course) → i < length elements → x ≡ get_or elements i x
    → IsNextRead files here room desk node piece (defined_view x.now) settled done now more count next
    → IsToldRead files here room desk node piece more count next (defined_shown (drop (i + 1) elements)) told last
    → IsToldRead files here room desk node piece settled done now (defined_shown (drop i elements)) told last
defined_more files here room desk node piece elements i x settled more done count now next told last h is one rest =
    let split : drop i elements ≡ x ∷ drop (i + 1) elements =
    drop_more elements i x h ∙ ap (λ (y : Bor Element). y ∷ drop (i + 1) elements) (sym is) in
    let others = defined_shown (drop (i + 1) elements) in
    let IsLeft : List Settled → ℕ → Type 0 =
    λ nodes n. IsToldRead files here room desk node piece nodes n next others told last in
    let left : IsLeft (settled ++ (settled_of (defined_view x.now).head.position one.names ∷ []))
    (acts_before (told_in here desk settled node piece).acts) =
    subst (IsLeft (settled ++ (settled_of (defined_view x.now).head.position one.names ∷ []))) one.counts
    (subst (λ (nodes : List Settled). IsLeft nodes count) one.settles rest) in
    subst (λ (es : List (Bor Element)). IsToldRead files here room desk node piece settled done now (defined_shown es) told last)
    (sym split)
    (told_up_to here room desk node piece settled done now one.middle next last (defined_view x.now) others one.names told
    one.before one.read left)

pub none_defined : (files : Files) (here : Open) (room : ℕ) (desk : Desk) (node : ℕ) (piece : PlainPiece)
    (elements : List (Bor Element)) (i : ℕ) (settled : List Settled) (done : ℕ) (now : Course) (told : Told)
    (last : Course) → length elements ≤ i → IsToldRead files here room desk node piece settled done now [] told last
    → IsToldRead files here room desk node piece settled done now (defined_shown (drop i elements)) told last
none_defined files here room desk node piece elements i settled done now told last h read =
    subst (λ (nodes : List Defined). IsToldRead files here room desk node piece settled done now nodes told last)
    (sym (at_drop_all defined_shown elements i h)) read

-- what is done up to the next of them, as it is told of a copy of the desk
pub next_read : (files : Files) (here : Open) (room : ℕ) (desk trial : Desk) (node : ℕ) (piece : PlainPiece)
    (defined : Defined) (settled more : List Settled) (done count : ℕ) (course middle next : Course)
    (acts between : List Act) (names behind : Names) → trial ≡ desk
    → acts ≡ (told_in here trial settled node piece).acts → names ≡ (told_in here trial settled node piece).names
    → count ≡ acts_before acts → between ≡ drop done (take count acts) → AreActsDone files here course between middle
    → IsDefinedRead files here room names middle defined behind next
    → more ≡ settled ++ (settled_of defined.head.position behind ∷ [])
    → IsNextRead files here room desk node piece defined settled done course more count next
next_read files here room desk trial node piece defined settled more done count course middle next acts between names behind same told known counted cut made read settles =
    let asked : acts ≡ (told_in here desk settled node piece).acts =
    told ∙ ap (λ (d : Desk). (told_in here d settled node piece).acts) same in
    record {
      middle = middle;
      names = behind;
      before = subst (λ (l : List Act). AreActsDone files here course l middle)
          (cut ∙ (ap (λ n. drop done (take n acts)) counted ∙ ap (acts_between done) asked)) made;
      read = subst (λ (ns : Names). IsDefinedRead files here room ns middle defined behind next)
          (known ∙ ap (λ (d : Desk). (told_in here d settled node piece).names) same) read;
      settles = settles;
      counts = counted ∙ ap acts_before asked;
    }

pub deep_read : (files : Files) (here : Open) (room : ℕ) (names : Names) (course next : Course) (defined : Defined)
    → room ≡ 0 → next ≡ with_flaw course (place_in here.file defined.head.position) flaw.Limit
    → IsDefinedRead files here room names course defined names next
deep_read files here room names course next defined none e =
    let IsRead : ℕ → Course → Type 0 = λ n c. IsDefinedRead files here n names course defined names c in
    subst (λ (n : ℕ). IsRead n next) (sym none) (subst (IsRead 0) (sym e) (too_deep here names course defined))

pub inside_read : (files : Files) (here : Open) (room less : ℕ) (names behind : Names) (desk : Desk) (course last : Course)
    (defined : Defined) (pieces : List PlainPiece) → room ≡ less + 1 → desk ≡ desk_with names
    → pieces ≡ aside_outline defined.head defined.content
    → ArePiecesRead files here less desk course pieces behind last
    → IsDefinedRead files here room names course defined behind last
inside_read files here room less names behind desk course last defined pieces more with_names all read =
    let IsRead : Desk → List PlainPiece → Type 0 = λ d ps. ArePiecesRead files here less d course ps behind last in
    subst (λ (n : ℕ). IsDefinedRead files here n names course defined behind last) (sym more)
    (defined_read here less names behind course last defined
    (subst (IsRead (desk_with names)) all (subst (λ (d : Desk). IsRead d pieces) with_names read)))
