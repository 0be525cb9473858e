-- A scene, once its documents are read.
use Rattle.std.proofs.Common.{◌≡◌, ℕ, List, [], ◌∷◌, Option, Some, sym, subst}
use Rattle.fx_doc_grammar.specs.Grammar.{Reading as Document}
use Rattle.fx_port.specs.Files.{Files}
use Rattle.fx_scene_acts.specs.declared.tasks.Task.{Task}
use Rattle.fx_scene_course.specs.Courses.{Course}
use Rattle.fx_scene_course.specs.Opens.{Open, outermost}
use Rattle.fx_scene_load.specs.Reading.{IsDocumentRead, IsSceneRead, all_tasks, scene_read}
use Rattle.fx_scene_load.proofs.ReadLemmas.{open_of}
use Rattle.fx_scene_read.specs.declared.opening.Stand.TheVariants as stand

pub scene_done : (files : Files) (file : ℕ) (name : List ℕ) (begun first last : Course) (document : Document)
    (tasks : List Task) (fetched imports around : List (List ℕ)) (path : Option (List (List ℕ))) → begun ≡ first
    → imports ≡ document.imports → around ≡ name ∷ [] → path ≡ Some [] → tasks ≡ all_tasks last → fetched ≡ last.files
    → IsDocumentRead files (open_of file name imports around path stand.Root) begun document last
    → IsSceneRead files file name first document tasks fetched
scene_done files file name begun first last document tasks fetched imports around path starts same alone whole all names read =
    let IsRead : Open → Course → Type 0 = λ here course. IsDocumentRead files here course document last in
    let seen : open_of file name imports around path stand.Root ≡ outermost file name document =
    λ i. open_of file name (same i) (alone i) (whole i) stand.Root in
    let IsMade : List Task → List (List ℕ) → Type 0 = IsSceneRead files file name first document in
    subst (λ (ts : List Task). IsMade ts fetched) (sym all)
    (subst (IsMade (all_tasks last)) (sym names)
    (scene_read last
    (subst (λ (o : Open). IsRead o first) seen
    (subst (IsRead (open_of file name imports around path stand.Root)) starts read))))
