-- What a line on timelines makes, where the definition makes this.
use Rattle.std.specs.Prelude.{◌≡◌, ◌⊎◌, ℕ, List, [], Result, Ok, Err, OnOk}
use Rattle.std.specs.declared.alloc.AllocError.{AllocError}
use Rattle.fx_plain_steps.specs.Courses.{Course, after}
use Rattle.fx_plain_steps.specs.Lines.{answered}
use Rattle.fx_plain_times.specs.Clocks.{Clock}
use Rattle.fx_plain_times.specs.Lines.{Passed}
use Rattle.fx_play_steps.specs.Traces.{course_of}
use Rattle.fx_play_steps.specs.declared.traces.Trace.{Trace}
use Rattle.fx_stage_model.specs.World.{World}
use Rattle.fx_stage_types.specs.declared.answers.StageError.{StageError}
use Rattle.fx_stage_types.specs.declared.answers.StageError.TheVariants.{Refused, Memory}
use Rattle.fx_stage_types.specs.declared.refusals.Refusal.{Refusal}

abbrev pub passed_as : Clock → Course → Passed
passed_as clock course = record { clock = clock; course = course }

-- the line is done, unless memory is wanting
abbrev pub HasPassed : Passed → Passed → Result (Unit {0}) AllocError → Type 0
HasPassed passed now result = OnOk result (now ≡ passed)

-- what isn't refused is made, and what is refused changes nothing, unless memory is wanting
abbrev pub IsAnswered : {T : Type 0} → Result T Refusal → T → T → Result (Unit {0}) StageError → Type 0
IsAnswered (Ok made) before now (Ok tt) = now ≡ made
IsAnswered (Ok made) before now (Err error) = error ≡ Memory
IsAnswered (Err word) before now (Ok tt) = ⊥
IsAnswered (Err word) before now (Err error) = (error ≡ Memory) ⊎ ((error ≡ Refused word) × (now ≡ before))

abbrev pub IsKept : Result Clock Refusal → Clock → Clock → Result (Unit {0}) StageError → Type 0
IsKept = IsAnswered

abbrev pub IsTimed : Result Passed Refusal → Passed → Passed → Result (Unit {0}) StageError → Type 0
IsTimed = IsAnswered

-- what is printed of an answer: the word that refuses the line
abbrev pub IsPrinted : ℕ → Result (Unit {0}) StageError → Trace → Trace → Result (Unit {0}) AllocError → Type 0
IsPrinted number (Ok tt) before now result = (now ≡ before) × (result ≡ Ok tt)
IsPrinted number (Err (Refused word)) before now result =
    (world : World)
    → OnOk result (course_of world now ≡ after (answered number [] (Err word) world) (course_of world before))
IsPrinted number (Err Memory) before now result = OnOk result ⊥
