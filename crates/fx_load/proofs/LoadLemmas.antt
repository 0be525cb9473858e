-- Loading step by step: what each step says is told on.
use Rattle.std.proofs.Common.{◌≡◌, ℕ, ◌+◌, List, [], ◌∷◌, ◌++◌, Result, Ok, Err, IsErrAnd, map, length, sym, subst}
use Rattle.std.specs.Prelude.{IfErr, IfOk}
use Rattle.fx_css_types.specs.declared.sheets.Sheet.{Sheet}
use Rattle.fx_doc_grammar.specs.Grammar.{Reading}
use Rattle.fx_load.specs.Loading.{IsElaborated, Loaded, all_read, course_before, loaded_by, scene_refused, script_refused, sheet_refused, sheet_task}
use Rattle.fx_load.specs.Loads.{loaded_of}
use Rattle.fx_load.specs.declared.loading.Loaded.{Loaded as Held}
use Rattle.fx_load_parts.specs.Faults.{Fault}
use Rattle.fx_load_parts.specs.Files.{Run}
use Rattle.fx_load_parts.specs.Says.{LoadSays, SaysSuch, load_error}
use Rattle.fx_load_parts.specs.Scripts.{script_in}
use Rattle.fx_load_parts.specs.Sheets.{AreSheets}
use Rattle.fx_load_parts.specs.Views.{fault_of}
use Rattle.fx_load_parts.specs.declared.files.LoadError.{LoadError}
use Rattle.fx_load_parts.specs.declared.files.LoadError.TheVariants as load
use Rattle.fx_port.specs.Files.{Files}
use Rattle.fx_port.specs.declared.files.FetchError.{FetchError}
use Rattle.fx_port.specs.declared.files.FetchError.TheVariants as fetch
use Rattle.fx_scene_acts.specs.declared.tasks.Task.{Task}
use Rattle.fx_scene_course.specs.Courses.{Course, first_course}
use Rattle.fx_scene_load.specs.Documents.{document_in}
use Rattle.fx_scene_load.specs.Reading.{IsSceneRead}
use Rattle.fx_script_commands.specs.Requests.{Numbered}

-- such is the fault, if it is one
abbrev FaultSays : (Fault → Type 0) → LoadError → Type 0
FaultSays IsSuch (load.Fault fault) = IsSuch (fault_of fault)
FaultSays IsSuch load.Failed = Unit {0}
FaultSays IsSuch load.Memory = Unit {0}

by_answer : {A B : Type 0} (seen : A → B) (answer : Result B Fault) (error : LoadError)
    → LoadSays {A = A} seen (Err error) answer → FaultSays (λ f. answer ≡ Err f) error
by_answer seen answer (load.Fault fault) says = says
by_answer seen answer load.Failed says = says
by_answer seen answer load.Memory says = says

by_relation : {A B : Type 0} (seen : A → B) (IsSuch : Result B Fault → Type 0) (error : LoadError)
    → SaysSuch {A = A} seen IsSuch (Err error) → FaultSays (λ f. IsSuch (Err f)) error
by_relation seen IsSuch (load.Fault fault) says = says
by_relation seen IsSuch load.Failed says = says
by_relation seen IsSuch load.Memory says = says

-- a fault of a step is one of the whole
told_on : (run : Run) (files : Files) (IsSuch : Fault → Type 0) (error : LoadError) (result : Result Held LoadError)
    → FaultSays IsSuch error → ((fault : Fault) → IsSuch fault → IsElaborated run files (Err fault))
    → IsErrAnd result (λ e. e ≡ error) → SaysSuch loaded_of (IsElaborated run files) result
told_on run files IsSuch error (Ok loaded) says leads at = absurd at
told_on run files IsSuch error (Err other) says leads at =
    let IsTold : LoadError → Type 0 = λ e. SaysSuch {A = Held} loaded_of (IsElaborated run files) (Err e) in
    subst IsTold (sym at) (by_error error says)
  where
    by_error : (e : LoadError) → FaultSays IsSuch e → SaysSuch {A = Held} loaded_of (IsElaborated run files) (Err e)
    by_error (load.Fault fault) says = leads (fault_of fault) says
    by_error load.Failed says = says
    by_error load.Memory says = says

pub script_stops : {A : Type 0} (run : Run) (files : Files) (seen : A → List Numbered) (error : LoadError)
    (result : Result Held LoadError) → LoadSays {A = A} seen (Err error) (script_in files run.script)
    → IsErrAnd result (λ e. e ≡ error) → SaysSuch loaded_of (IsElaborated run files) result
script_stops run files seen error result says at =
    told_on run files (λ f. script_in files run.script ≡ Err f) error result
    (by_answer seen (script_in files run.script) error says) (λ fault is. script_refused fault is) at

pub sheets_stop : {A : Type 0} (run : Run) (files : Files) (lines : List Numbered) (seen : A → List Sheet)
    (error : LoadError) (result : Result Held LoadError) → script_in files run.script ≡ Ok lines
    → SaysSuch {A = A} seen (AreSheets files run.sheets) (Err error) → IsErrAnd result (λ e. e ≡ error)
    → SaysSuch loaded_of (IsElaborated run files) result
sheets_stop run files lines seen error result script says at =
    told_on run files (λ f. AreSheets files run.sheets (Err f)) error result
    (by_relation seen (AreSheets files run.sheets) error says) (λ fault is. sheet_refused lines fault script is) at

pub scene_stops : {A : Type 0} (run : Run) (files : Files) (lines : List Numbered) (sheets : List Sheet)
    (seen : A → Reading) (error : LoadError) (result : Result Held LoadError) → script_in files run.script ≡ Ok lines
    → AreSheets files run.sheets (Ok sheets)
    → LoadSays {A = A} seen (Err error) (document_in files (length run.sheets) run.scene)
    → IsErrAnd result (λ e. e ≡ error) → SaysSuch loaded_of (IsElaborated run files) result
scene_stops run files lines sheets seen error result script read says at =
    told_on run files (λ f. document_in files (length run.sheets) run.scene ≡ Err f) error result
    (by_answer seen (document_in files (length run.sheets) run.scene) error says)
    (λ fault is. scene_refused lines sheets fault script read is) at

-- a fetch that gave nothing says nothing
pub fetch_stops : (run : Run) (files : Files) (error : FetchError) (result : Result Held LoadError)
    → IsErrAnd result (λ e. e ≡ load_error error) → SaysSuch loaded_of (IsElaborated run files) result
fetch_stops run files error (Ok loaded) at = absurd at
fetch_stops run files fetch.Failed (Err e) at =
    subst (λ (x : LoadError). SaysSuch {A = Held} loaded_of (IsElaborated run files) (Err x)) (sym at) tt
fetch_stops run files fetch.Memory (Err e) at =
    subst (λ (x : LoadError). SaysSuch {A = Held} loaded_of (IsElaborated run files) (Err x)) (sym at) tt

pub all_loaded : (run : Run) (files : Files) (lines : List Numbered) (sheets : List Sheet) (document : Reading)
    (loaded : Loaded) (names now : List (List ℕ)) (before tasks : List Task) → script_in files run.script ≡ Ok lines
    → AreSheets files run.sheets (Ok sheets) → document_in files (length run.sheets) run.scene ≡ Ok document
    → names ≡ run.sheets ++ (run.scene ∷ []) → before ≡ map sheet_task sheets
    → IsSceneRead files (length run.sheets) run.scene (first_course before names) document tasks now
    → loaded ≡ loaded_by tasks now lines → IsElaborated run files (Ok loaded)
all_loaded run files lines sheets document loaded names now before tasks script read scene named begun made is =
    let begins : IsSceneRead files (length run.sheets) run.scene (course_before run sheets) document tasks now =
    subst (λ (c : Course). IsSceneRead files (length run.sheets) run.scene c document tasks now)
    (λ i. first_course (begun i) (named i)) made in
    subst (λ (l : Loaded). IsElaborated run files (Ok l)) (sym is)
    (all_read lines sheets document tasks now script read scene begins)

pub all_told : (run : Run) (files : Files) (lines : List Numbered) (sheets : List Sheet) (document : Reading)
    (names now : List (List ℕ)) (before tasks : List Task) (result : Result Held LoadError)
    → script_in files run.script ≡ Ok lines → AreSheets files run.sheets (Ok sheets)
    → document_in files (length run.sheets) run.scene ≡ Ok document → names ≡ run.sheets ++ (run.scene ∷ [])
    → before ≡ map sheet_task sheets
    → IsSceneRead files (length run.sheets) run.scene (first_course before names) document tasks now
    → IfOk result (λ (held : Held). loaded_of held ≡ loaded_by tasks now lines)
    → IfErr result (λ (error : LoadError). error ≡ load.Memory) → SaysSuch loaded_of (IsElaborated run files) result
all_told run files lines sheets document names now before tasks (Ok held) script read scene named begun made is at =
    all_loaded run files lines sheets document (loaded_of held) names now before tasks script read scene named begun made is
all_told run files lines sheets document names now before tasks (Err error) script read scene named begun made is at =
    subst (λ (x : LoadError). SaysSuch {A = Held} loaded_of (IsElaborated run files) (Err x)) (sym at) tt
