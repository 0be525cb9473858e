-- Two outputs of a run that keep what they make in the same slots are one.
use Rattle.std.proofs.Common.{◌≡◌, ◌∙◌, ℕ, List, [], ◌++◌, refl, sym, ap, subst, Result, Ok, Err}
use Rattle.std.proofs.lemmas.List.{append-nil}
use Rattle.fx_load.specs.Loading.{Loaded}
use Rattle.fx_load_parts.specs.Files.{Run}
use Rattle.fx_plain.specs.CommandLine.{Plays, PlaysDemo, ShowsUsage}
use Rattle.fx_plain.specs.Demos.{demo_files, demo_run}
use Rattle.fx_plain.specs.PlainPlayer.{Extent, IsOutputOfLoaded, IsOutputOfRun, Output, files_at_fault, files_loaded, lines_in, refused_with, scene_at_fault, scene_fault, script_played}
use Rattle.fx_plain.specs.declared.answers.Status.TheVariants.{Done}
use Rattle.fx_plain_frames.specs.Games.{begun}
use Rattle.fx_plain_runs.specs.Runs.{in_window, written_of}
use Rattle.fx_plain_runs.specs.declared.manners.Manner.{Manner}
use Rattle.fx_port.specs.Files.{Files}
use Rattle.fx_scene_acts.specs.Acts.{IsActedFrom, acted, all_done, one_done, one_ends}
use Rattle.fx_scene_acts.specs.declared.tasks.SceneFault.{SceneFault}
use Rattle.fx_scene_acts.specs.declared.tasks.Task.{Task}
use Rattle.fx_scene_plan.specs.Plans.{Standing, unbuilt}
use Rattle.fx_stage_model.specs.World.{nowhere}
use Rattle.fx_plain_laws.specs.Outputs.{FilesInOrder, OneOutput, OutputInOrder, slots_of_files, slots_of_output, slots_of_tasks}
use Rattle.fx_plain_laws.specs.Scripts.{slots_of_script}
use Rattle.fx_plain_laws.proofs.AnswerLemmas.{both_err, both_ok, ok_err}
use Rattle.fx_plain_laws.proofs.LineLemmas.{all_slots}
use Rattle.fx_plain_laws.proofs.LoadLemmas.{one_loading}
use Rattle.fx_plain_laws.proofs.ScriptLemmas.{script_one}
use Rattle.fx_plain_laws.proofs.SlotLemmas.{first_or, nothing_there, others_of}

ends_well : {X Y : Type 0} (x : X) (y : Y) (found other : Result X Y) → found ≡ Ok x → other ≡ Err y → found ≡ other → ⊥
ends_well x y found other good wrong same = absurd (cc)

ok_or : {X Y : Type 0} → X → Result X Y → X
ok_or default (Ok x) = x
ok_or default (Err y) = default

pub tasks_one : (standing start : Standing) (tasks others : List Task) (answer reply : Result Standing SceneFault)
    (one : IsActedFrom standing tasks answer) (other : IsActedFrom start others reply) → standing ≡ start → tasks ≡ others
    → (rest left : List ℕ)
    → slots_of_tasks standing tasks answer one ++ rest ≡ slots_of_tasks start others reply other ++ left
    → (answer ≡ reply) × (rest ≡ left)
unfolding ok_or
tasks_one standing start tasks others answer reply (all_done s) (all_done t) here all rest left slots =
    ((λ i. Ok (here i)), slots)
tasks_one standing start tasks others answer reply (all_done s) (one_ends k t task more fault is) here all rest left slots =
    absurd (nothing_there task more all)
tasks_one standing start tasks others answer reply (all_done s) (one_done k t next task more after is done) here all rest left slots =
    absurd (nothing_there task more all)
tasks_one standing start tasks others answer reply (one_ends k t task more fault is) (all_done s) here all rest left slots =
    absurd (nothing_there task more (sym all))
tasks_one standing start tasks others answer reply (one_done k t next task more after is done) (all_done s) here all rest left slots =
    absurd (nothing_there task more (sym all))
tasks_one standing start tasks others answer reply (one_ends k t task more fault is) (one_ends l s job jobs flaw also) here all rest left slots =
    let slot : k ≡ l = ap (first_or k) slots in
    let one : task ≡ job = ap (first_or task) all in
    (sym is ∙ ((λ i. acted (slot i) (one i) (here i)) ∙ also), ap others_of slots)
tasks_one standing start tasks others answer reply (one_ends k t task more fault is) (one_done l s next job jobs after also done) here all rest left slots =
    let slot : k ≡ l = ap (first_or k) slots in
    let one : task ≡ job = ap (first_or task) all in
    absurd (ends_well next fault (acted l job s) (acted k task t) also is (λ i. acted (sym slot i) (sym one i) (sym here i)))
tasks_one standing start tasks others answer reply (one_done k t next task more after is done) (one_ends l s job jobs flaw also) here all rest left slots =
    let slot : k ≡ l = ap (first_or k) slots in
    let one : task ≡ job = ap (first_or task) all in
    absurd (ends_well next flaw (acted k task t) (acted l job s) is also (λ i. acted (slot i) (one i) (here i)))
tasks_one standing start tasks others answer reply (one_done k t next task more after is done) (one_done l s goes job jobs then_reply also did) here all rest left slots =
    let slot : k ≡ l = ap (first_or k) slots in
    let one : task ≡ job = ap (first_or task) all in
    let stands : next ≡ goes = ap (ok_or next) (sym is ∙ ((λ i. acted (slot i) (one i) (here i)) ∙ also)) in
    tasks_one next goes more jobs after then_reply done did stands (ap others_of all) rest left (ap others_of slots)

fault_or : {X Y : Type 0} → Y → Result X Y → Y
fault_or default (Ok x) = default
fault_or default (Err y) = y

loaded_one : (manner : Manner) (extent : Extent) (loaded : Loaded) (out told : Output)
    (one : IsOutputOfLoaded manner extent loaded out) (other : IsOutputOfLoaded manner extent loaded told)
    → OutputInOrder manner extent loaded out one
    → slots_of_output manner extent loaded out one ≡ slots_of_output manner extent loaded told other → out ≡ told
unfolding ok_or fault_or
loaded_one manner extent loaded out told (scene_at_fault fault faulty) (scene_at_fault flaw wrong) order slots =
    let all = tasks_one (unbuilt nowhere) (unbuilt nowhere) loaded.tasks loaded.tasks (Err fault) (Err flaw) faulty wrong refl refl
    [] [] (all_slots slots) in
    ap (λ (f : SceneFault). refused_with (scene_fault loaded.files f)) (ap (fault_or fault) all.0)
loaded_one manner extent loaded out told (scene_at_fault fault faulty) (script_played first bytes begins written) order slots =
    let more = slots_of_script manner.form first (lines_in extent loaded.lines) written.tolds written.played in
    let all = tasks_one (unbuilt nowhere) (unbuilt nowhere) loaded.tasks loaded.tasks (Err fault) (Ok begins.standing) faulty
    begins.built refl refl [] more (append-nil (slots_of_tasks (unbuilt nowhere) loaded.tasks (Err fault) faulty) ∙ slots) in
    absurd (ends_well begins.standing fault (Ok begins.standing) (Err fault) refl refl (sym all.0))
loaded_one manner extent loaded out told (script_played first bytes begins written) (scene_at_fault fault faulty) order slots =
    let more = slots_of_script manner.form first (lines_in extent loaded.lines) written.tolds written.played in
    let all = tasks_one (unbuilt nowhere) (unbuilt nowhere) loaded.tasks loaded.tasks (Ok begins.standing) (Err fault) begins.built
    faulty refl refl more [] (slots ∙ sym (append-nil (slots_of_tasks (unbuilt nowhere) loaded.tasks (Err fault) faulty))) in
    absurd (ends_well begins.standing fault (Ok begins.standing) (Err fault) refl refl all.0)
loaded_one manner extent loaded out told (script_played first bytes begins written) (script_played start text starts wrote) order
    slots =
    let lines = lines_in extent loaded.lines in
    let more = slots_of_script manner.form first lines written.tolds written.played in
    let left = slots_of_script manner.form start lines wrote.tolds wrote.played in
    let all = tasks_one (unbuilt nowhere) (unbuilt nowhere) loaded.tasks loaded.tasks (Ok begins.standing) (Ok starts.standing)
    begins.built starts.built refl refl more left slots in
    let standing : begins.standing ≡ starts.standing = ap (ok_or begins.standing) all.0 in
    let game : first ≡ start =
    begins.begins ∙ (ap (λ (s : Standing). begun (in_window manner.window s.world)) standing ∙ sym starts.begins) in
    let tolds = script_one manner.form first start lines lines written.tolds wrote.tolds written.played wrote.played game refl
    order [] [] (all_slots all.1) in
    ap (λ (b : List ℕ). record { bytes = b; status = Done })
    (written.written ∙ (ap (written_of manner loaded.warnings) tolds.0 ∙ sym wrote.written))

-- what is written of loaded files is one, whatever the two are called
Writes : (manner : Manner) (extent : Extent) (loaded : Loaded) (out : Output) → IsOutputOfLoaded manner extent loaded out
    → Loaded → Type 0
Writes manner extent loaded out one there =
    (told : Output) (other : IsOutputOfLoaded manner extent there told)
    → slots_of_output manner extent loaded out one ≡ slots_of_output manner extent there told other → out ≡ told

files_one : (run : Run) (manner : Manner) (files : Files) (extent : Extent) (out told : Output)
    (one : IsOutputOfRun run manner files extent out) (other : IsOutputOfRun run manner files extent told)
    → FilesInOrder run manner files extent out one
    → slots_of_files run manner files extent out one ≡ slots_of_files run manner files extent told other → out ≡ told
unfolding Writes
files_one run manner files extent out told (files_at_fault fault is) (files_at_fault bad also) order slots =
    ap refused_with (both_err fault bad (one_loading run files (Err fault) (Err bad) is also))
files_one run manner files extent out told (files_at_fault fault is) (files_loaded loaded words also wrote) order slots =
    absurd (ok_err loaded fault (one_loading run files (Ok loaded) (Err fault) also is))
files_one run manner files extent out told (files_loaded loaded words is wrote) (files_at_fault bad also) order slots =
    absurd (ok_err loaded bad (one_loading run files (Ok loaded) (Err bad) is also))
files_one run manner files extent out told (files_loaded loaded words is wrote) (files_loaded read text also writes) order slots =
    let same : loaded ≡ read = both_ok loaded read (one_loading run files (Ok loaded) (Ok read) is also) in
    let here : Writes manner extent loaded words wrote loaded =
    λ told other slots. loaded_one manner extent loaded words told wrote other order slots in
    subst (Writes manner extent loaded words wrote) same here text writes slots

pub one_output : OneOutput
one_output (Plays run manner) files extent out told one other order slots =
    files_one run manner files extent out told one other order slots
one_output (PlaysDemo number manner) files extent out told one other order slots =
    files_one demo_run manner (demo_files number) extent out told one other order slots
one_output ShowsUsage files extent out told one other order slots = one ∙ sym other
