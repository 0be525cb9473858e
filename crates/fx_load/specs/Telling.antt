-- What is told of the sheets and inline styles of a scene of which something was dropped.
use Rattle.std.specs.Prelude.{ℕ, List, []}
use Rattle.std.specs.List.{flat_map}
use Rattle.fx_base.specs.declared.positions.Place.{Place}
use Rattle.fx_load_parts.specs.Files.{name_in}
use Rattle.fx_load_parts.specs.Warnings.{warn_line}
use Rattle.fx_scene_acts.specs.declared.tasks.Doing.{Doing}
use Rattle.fx_scene_acts.specs.declared.tasks.Doing.TheVariants as doing
use Rattle.fx_scene_acts.specs.declared.tasks.Task.{Task}
use Rattle.fx_scene_plan.specs.declared.steps.PlannedStep.{PlannedStep}
use Rattle.fx_scene_plan.specs.declared.steps.PlannedStep.TheVariants as planned

-- `warn FILE LINE COLUMN`, in one of these files
abbrev pub line_at : List (List ℕ) → Place → List ℕ
line_at files place = warn_line (name_in files place.file) place

-- a line at the style for each part that was dropped of it
abbrev pub style_lines : List (List ℕ) → Place → List Place → List ℕ
style_lines files place dropped = flat_map (λ (part : Place). line_at files place) dropped

-- a line for each part that was dropped of a sheet, where it stands
abbrev pub sheet_lines : List (List ℕ) → List Place → List ℕ
sheet_lines files dropped = flat_map (line_at files) dropped

abbrev pub step_lines : List (List ℕ) → Place → PlannedStep → List ℕ
step_lines files place (planned.Inline node sheet) = style_lines files place sheet.warnings
step_lines files place (planned.Sheet owner sheet) = sheet_lines files sheet.warnings
step_lines files place _ = []

abbrev pub doing_lines : List (List ℕ) → Place → Doing → List ℕ
doing_lines files place (doing.Step step) = step_lines files place step
doing_lines files place (doing.Fault kind) = []
doing_lines files place (doing.Room node) = []

unfoldable pub task_lines : List (List ℕ) → Task → List ℕ
task_lines files task = doing_lines files task.place task.doing

-- those of tasks, in their order
abbrev pub warnings_of : List (List ℕ) → List Task → List ℕ
warnings_of files tasks = flat_map (task_lines files) tasks
