-- Actions, line by line, and how many expressions they evaluate at most.
use Rattle.std.specs.Prelude.{ℕ, ◌+◌, ◌||◌, List, [], ◌∷◌, unwrap_or}
use Rattle.fx_plain_steps.specs.Courses.{Course, after}
use Rattle.fx_plain_steps.specs.Lines.{inner_step, is_consume}
use Rattle.fx_script_commands.specs.Requests.{Numbered}
use Rattle.fx_stage_model.specs.Answers.{cost_of}
use Rattle.fx_stage_model.specs.Lines.{taken}
use Rattle.fx_stage_model.specs.Running.{action_in}
use Rattle.fx_stage_model.specs.World.{World}

-- behind a line of an action; what the line makes anew is kept in this slot
abbrev pub behind : ℕ → Numbered → Course → Course
behind slot line course =
    record (after (inner_step slot line.number line.request course.world) course) {
      consumed = is_consume line.request || course.consumed;
    }

-- these lines run, one after another, and evaluate so much
pub data AreRun : List Numbered → Course → Course → ℕ → Type 0 where
  no_line : (course : Course) → AreRun [] course course 0
  one_line : (slot : ℕ) (line : Numbered) (lines : List Numbered) (course now : Course) (cost : ℕ)
      → AreRun lines (behind slot line course) now cost
      → AreRun (line ∷ lines) course now (cost_of (taken slot line.request course.world) + cost)

-- an action that isn't defined has no lines
abbrev pub lines_of : World → List ℕ → List Numbered
lines_of world name = unwrap_or (action_in world name) []

-- the actions of these names run, one after another
pub data AreCalled : List (List ℕ) → Course → Course → ℕ → Type 0 where
  no_call : (course : Course) → AreCalled [] course course 0
  one_call : (name : List ℕ) (names : List (List ℕ)) (course next now : Course) (cost more : ℕ)
      → AreRun (lines_of course.world name) course next cost → AreCalled names next now more
      → AreCalled (name ∷ names) course now (cost + more)
