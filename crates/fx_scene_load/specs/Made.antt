-- What is answered of single steps.
use Rattle.std.specs.Prelude.{◌≡◌, ℕ, List, [], ◌∷◌, ◌++◌, length, Result, Ok, Err}
use Rattle.fx_doc_grammar.specs.Grammar.{Head, Reading as Document}
use Rattle.fx_load_parts.specs.Views.{fault_of}
use Rattle.fx_load_parts.specs.declared.files.LoadError.{LoadError}
use Rattle.fx_load_parts.specs.declared.files.LoadError.TheVariants as load
use Rattle.fx_port.specs.Files.{Files}
use Rattle.fx_port.specs.declared.files.FetchError.{FetchError}
use Rattle.fx_scene_course.specs.Courses.{Course, with_fault_in}
use Rattle.fx_scene_course.specs.Made.{IsToldOn}
use Rattle.fx_scene_course.specs.Making.{AreActsDone, acts_before, acts_between}
use Rattle.fx_scene_course.specs.Opens.{Open, inner}
use Rattle.fx_scene_load.specs.Reading.{Desk, IsDefinedRead, IsDocumentRead, IsToldRead, include_acts, include_names, told_in}
use Rattle.fx_scene_elements.specs.Elements.{Told}
use Rattle.fx_scene_outline.specs.Defined.{Defined}
use Rattle.fx_scene_outline.specs.Pieces.{Piece}
use Rattle.fx_scene_read.specs.declared.opening.Stand.{Stand}
use Rattle.fx_scene_things.specs.Names.{Names}
use Rattle.fx_scene_things.specs.Settled.{Settled, settled_of}

-- the fault of a file that was fetched is kept, or nothing was fetched
abbrev pub IsFaultKept : {T : Type 0} → ℕ → LoadError → Course → Course → Result T FetchError → Type 0
IsFaultKept file (load.Fault fault) old new (Ok done) = new ≡ with_fault_in old file (fault_of fault)
IsFaultKept file _ old new (Ok done) = ⊥
IsFaultKept file error old new (Err other) = IsToldOn error other

-- the document of an include, in the file of this number and name, with what its attributes ask for
pub record IsInnerRead (files : Files) (here : Open) (desk : Desk) (spot : Stand) (file : ℕ) (target : List ℕ)
    (course : Course) (head : Head) (document : Document) (names : Names) (last : Course) : Type 0 where
  pub middle : Course
  pub whole :
      IsDocumentRead files (inner here desk.names head.attributes spot file target document) course document middle
  pub rest : AreActsDone files here middle (include_acts here desk middle (length course.classes) head) last
  pub named : names ≡ include_names desk middle (length course.classes) file head

-- the next node in a definition within a piece is read, behind what stands before it
pub record IsNextRead (files : Files) (here : Open) (room : ℕ) (desk : Desk) (node : ℕ) (piece : Piece)
    (defined : Defined) (settled : List Settled) (done : ℕ) (course : Course) (more : List Settled) (count : ℕ)
    (next : Course) : Type 0 where
  pub middle : Course
  pub names : Names
  pub before :
      AreActsDone files here course (acts_between done (told_in here desk settled node piece).acts) middle
  pub read : IsDefinedRead files here room (told_in here desk settled node piece).names middle defined names next
  pub settles : more ≡ settled ++ (settled_of defined.head.position names ∷ [])
  pub counts : count ≡ acts_before (told_in here desk settled node piece).acts

-- these nodes in the definitions within a piece are read, so the piece is where it is read as a whole behind them
abbrev pub AreDefinedRead : Files → Open → ℕ → Desk → ℕ → Piece → List Defined → Course → List Settled → ℕ
    → Course → Type 0
AreDefinedRead files here room desk node piece defined course settled done next =
    (told : Told) (last : Course) → IsToldRead files here room desk node piece settled done next [] told last
    → IsToldRead files here room desk node piece [] 0 course defined told last
