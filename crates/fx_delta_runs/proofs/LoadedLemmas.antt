-- The lines of a run whose files were loaded are tame, and a run of them whose frames were drawn is shown.
use Rattle.std.proofs.Common.{◌≡◌, ◌≤◌, ℕ, Bool, true, false, cond, List, ◌++◌, length, refl, sym, ap, ◌∙◌, subst, arith}
use Rattle.std.specs.Prelude.{IfOk, Result, Ok, Err, nat_le}
use Rattle.std.specs.Str.{is_utf8}
use Rattle.std.specs.Str.Lines.{lines}
use Rattle.std.proofs.lemmas.Bool.Decides.{nat_tests}
use Rattle.fx_damage.specs.Laws.{SameOutside}
use Rattle.fx_delta.specs.Stream.{shown}
use Rattle.fx_frame_text.specs.declared.forms.Form.TheVariants.{Delta, Text}
use Rattle.fx_load.specs.Loading.{IsElaborated, Loaded, all_read, scene_refused, script_refused, sheet_refused}
use Rattle.fx_load.specs.Telling.{warnings_of}
use Rattle.fx_load_parts.specs.Faults.{Fault}
use Rattle.fx_load_parts.specs.Files.{Run, bytes_of}
use Rattle.fx_load_parts.specs.Scripts.{script_in, script_of, script_of_bytes, script_of_lines}
use Rattle.fx_plain_frames.specs.Games.{Game}
use Rattle.fx_plain_runs.specs.Runs.{IsBegun}
use Rattle.fx_plain_runs.specs.declared.manners.Manner.{Manner}
use Rattle.fx_plain_steps.specs.Told.{Told, texts_of}
use Rattle.fx_port.specs.Files.{Files}
use Rattle.fx_script_commands.specs.Requests.{Numbered}
use Rattle.fx_script_commands.specs.Scripts.{lines_from}
use Rattle.fx_delta_runs.specs.Frames.{AreDrawn, AreLines, Telling}
use Rattle.fx_delta_runs.specs.Runs.{AreShown, IsPlayedDrawn, IsRun, IsShownAs, written_in}
use Rattle.fx_delta_runs.specs.Tame.{AreNames, AreTameLines}
use Rattle.fx_delta_runs.proofs.BeginLemmas.{begins}
use Rattle.fx_delta_runs.proofs.RunLemmas.{drawn_plays, from_first}
use Rattle.fx_delta_runs.proofs.ScriptLemmas.{few_lines, file_tame}
use Rattle.fx_delta_runs.proofs.StreamLemmas.{ViewersShow}
use Rattle.fx_delta_runs.proofs.TellingLemmas.{drawn_run}
use Rattle.fx_delta_runs.proofs.WarningLemmas.{warnings_are}

-- ---- the script
-- lines that are tame, and at most 100,000
record IsTameScript (read : List Numbered) : Type 0 where
  tame : AreTameLines read
  few : length read ≤ 100000

-- where one of two is read if a test passes, and else there is a fault
if_read : (t : Bool) (read : Result (List Numbered) Fault) (fault : Fault) → (t ≡ true → IfOk read IsTameScript)
    → IfOk (cond t read (Err fault)) IsTameScript
if_read true read fault is = is refl
if_read false read fault is = tt

lines_read : (name bytes : List ℕ) → IfOk (script_of_lines name (lines bytes)) IsTameScript
lines_read name bytes =
    if_read (nat_le (length (lines bytes)) 100000) (Ok (lines_from false 1 (lines bytes))) _ (λ e.
    let all : length (lines bytes) ≤ 100000 = most (length (lines bytes)) e in
    let fewer : length (lines_from false 1 (lines bytes)) ≤ length (lines bytes) = few_lines false 1 (lines bytes) in
    record { tame = file_tame bytes; few = omega (arith, all, fewer) })
  where
    most : (n : ℕ) → nat_le n 100000 ≡ true → n ≤ 100000
    most n e = grind (arith, nat_tests)

file_read : (name bytes : List ℕ) → IfOk (script_of name bytes) IsTameScript
unfolding script_of
file_read name bytes = if_read (is_utf8 bytes) (script_of_lines name (lines bytes)) _ (λ e. lines_read name bytes)

script_read : (files : Files) (name : List ℕ) → IfOk (script_in files name) IsTameScript
script_read files name = by (bytes_of files name)
  where
    by : (found : Result (List ℕ) Fault) → IfOk (script_of_bytes name found) IsTameScript
    by (Ok bytes) = file_read name bytes
    by (Err fault) = tt

-- ---- what was loaded
record IsTameLoaded (loaded : Loaded) : Type 0 where
  script : IsTameScript loaded.lines
  warned : loaded.warnings ≡ warnings_of loaded.files loaded.tasks

all_loaded : (run : Run) (files : Files) (answer : Result Loaded Fault) → IsElaborated run files answer
    → IfOk answer IsTameLoaded
all_loaded run files answer (script_refused fault e) = tt
all_loaded run files answer (sheet_refused read fault e sheets) = tt
all_loaded run files answer (scene_refused read sheets fault e are refused) = tt
all_loaded run files answer (all_read read sheets document tasks names e are d scene) =
    record {
      script = subst (λ (answer : Result (List Numbered) Fault). IfOk answer IsTameScript) e
          (script_read files run.script);
      warned = refl;
    }

loaded_tame : (run : Run) (files : Files) (loaded : Loaded) → IsElaborated run files (Ok loaded)
    → IsTameLoaded loaded
loaded_tame run files loaded is = all_loaded run files (Ok loaded) is

pub loaded_lines : (run : Run) (files : Files) (loaded : Loaded) → IsElaborated run files (Ok loaded)
    → AreTameLines loaded.lines × (length loaded.lines ≤ 100000)
loaded_lines run files loaded is =
    let all : IsTameLoaded loaded = loaded_tame run files loaded is in
    (all.script.tame, all.script.few)

pub loaded_warnings : (run : Run) (files : Files) (loaded : Loaded) → IsElaborated run files (Ok loaded)
    → AreNames loaded.files → AreLines loaded.warnings
loaded_warnings run files loaded is names =
    subst AreLines (sym (loaded_tame run files loaded is).warned) (warnings_are loaded.files loaded.tasks names)

-- ---- a run of it
pub files_are_shown : SameOutside → ViewersShow → (run : Run) (files : Files) (loaded : Loaded) (manner : Manner)
    (first : Game) (tellings : List Telling) → IsElaborated run files (Ok loaded) → AreNames loaded.files
    → IsBegun manner.window loaded.tasks first → IsRun first loaded.lines tellings → AreDrawn tellings
    → AreShown manner loaded.warnings first loaded.lines tellings
files_are_shown outside viewer run files loaded manner first tellings is names begun ran drawn =
    let read = loaded_lines run files loaded is in
    let few = read.1 in
    let start = begins manner.window loaded.tasks first begun in
    drawn_run outside viewer manner loaded.warnings first loaded.lines tellings start.0 start.1 (omega (arith, few))
    read.0 (loaded_warnings run files loaded is names) ran drawn

-- what a player told of it
pub plays_are_shown : SameOutside → ViewersShow → (run : Run) (files : Files) (loaded : Loaded) (manner : Manner)
    (first : Game) (tolds : List Told) → IsElaborated run files (Ok loaded) → AreNames loaded.files
    → IsBegun manner.window loaded.tasks first → IsPlayedDrawn Delta first loaded.lines tolds
    → (text : List ℕ)
    × IsShownAs manner loaded.warnings first loaded.lines (loaded.warnings ++ texts_of tolds) text
plays_are_shown outside viewer run files loaded manner first tolds is names begun played =
    let one = drawn_plays Delta first loaded.lines tolds played in
    let start = begins manner.window loaded.tasks first begun in
    let are : AreShown manner loaded.warnings first loaded.lines one.0 =
    files_are_shown outside viewer run files loaded manner first one.0 is names begun one.1 one.3 in (
      written_in Text loaded.warnings one.0,
      record {
        written = are.text;
        shows = ap (λ (l : List Told). shown (loaded.warnings ++ texts_of l))
            (one.2 ∙ from_first Delta first one.0 start.0) ∙ are.shows;
      },
    )
