-- Listeners that were told while a line was taken, and the actions that they run behind it.
use Rattle.std.specs.Prelude.{◌≡◌, ℕ, suc, ◌+◌, List, [], ◌∷◌, ◌++◌, drop, Option, Some, None}
use Rattle.fx_base.specs.declared.keys.Name.{Name}
use Rattle.fx_plain_steps.specs.Courses.{Course}
use Rattle.fx_script_commands.specs.Requests.{Numbered}
use Rattle.fx_stage_model.specs.Running.{run_by}
use Rattle.fx_stage_model.specs.World.{World}
use Rattle.fx_stage_text.specs.Printing.{overrun_line}
use Rattle.fx_plain_dispatch.specs.Running.{AreRun}

-- the place of a listener among those that were told, and the lines that it runs
abbrev pub Run : Type 0
Run = ℕ × List Numbered

abbrev pub or_later : ℕ → Option (List Numbered) → Option Run → Option Run
or_later place (Some lines) later = Some (place, lines)
or_later place None later = later

-- the first of these listeners that is living still and runs an action that is defined
abbrev pub first_run : World → ℕ → List (Name × ℕ) → Option Run
first_run world place [] = None
first_run world place (one ∷ others) = or_later place (run_by world one.0 one.1) (first_run world (place + 1) others)

-- the next one from this place on
abbrev pub next_run : ℕ → Course → Option Run
next_run place course = first_run course.world place (drop place course.heard)

abbrev pub overrun : ℕ → Course → Course
overrun number course = record course { text = course.text ++ overrun_line number }

-- All listeners from this place on run their actions in the order in which they were told, those too who are told by
-- these actions; where there are more than so many runs, the rest is left out, and this is told of the script's line.
pub data IsSettled (number : ℕ) : ℕ → ℕ → Course → Course → ℕ → Type 0 where
  all_ran : (left place : ℕ) (course : Course) → next_run place course ≡ None
      → IsSettled number left place course course 0
  one_ran : (left place : ℕ) (run : Run) (course next now : Course) (cost more : ℕ)
      → next_run place course ≡ Some run → AreRun run.1 course next cost
      → IsSettled number left (run.0 + 1) next now more → IsSettled number (suc left) place course now (cost + more)
  too_many : (place : ℕ) (run : Run) (course : Course) → next_run place course ≡ Some run
      → IsSettled number 0 place course (overrun number course) 0

-- a line of a script has so many runs
abbrev pub IsSettledWhole : ℕ → Course → Course → ℕ → Type 0
IsSettledWhole number course now = IsSettled number 1000 0 course now
