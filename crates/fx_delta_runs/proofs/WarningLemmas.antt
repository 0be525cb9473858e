-- What is told of what was dropped of sheets is whole lines, where no name of a file holds a line feed.
use Rattle.std.proofs.Common.{◌∙◌, ℕ, zero, suc, List, [], ◌∷◌, ◌++◌, Option, Some, None, refl, ap}
use Rattle.std.specs.Prelude.{IfSome, codes, slice_get}
use Rattle.std.specs.Fmt.{decimal}
use Rattle.std.proofs.lemmas.List.Elements.{All-head, All-tail}
use Rattle.fx_text.specs.Characters.{space}
use Rattle.fx_base.specs.declared.positions.Place.{Place}
use Rattle.fx_delta.specs.Items.{ended}
use Rattle.fx_load.specs.Telling.{doing_lines, line_at, step_lines, task_lines, warnings_of}
use Rattle.fx_load_parts.specs.Files.{name_if, name_in}
use Rattle.fx_load_parts.specs.Warnings.{warn_line}
use Rattle.fx_scene_acts.specs.declared.tasks.Doing.{Doing}
use Rattle.fx_scene_acts.specs.declared.tasks.Doing.TheVariants as doing
use Rattle.fx_scene_acts.specs.declared.tasks.Task.{Task}
use Rattle.fx_scene_plan.specs.declared.steps.PlannedStep.{PlannedStep}
use Rattle.fx_scene_plan.specs.declared.steps.PlannedStep.TheVariants as planned
use Rattle.fx_delta_runs.specs.Frames.{AreLines}
use Rattle.fx_delta_runs.specs.Tame.{AreNames, IsOneLine}
use Rattle.fx_delta_runs.proofs.PrintLemmas.{lines_flat, no_lines, one_append, one_decimal, one_known, one_line, one_none, one_space, two_ended}

-- the name of one of these files
name_one : (files : List (List ℕ)) (file : ℕ) → AreNames files → IsOneLine (name_in files file)
unfolding name_in
name_one files file all = by (slice_get files file) (got files file all)
  where
    got : (files : List (List ℕ)) (file : ℕ) → AreNames files → IfSome (slice_get files file) IsOneLine
    got [] file all = tt
    got (name ∷ names) zero all = All-head IsOneLine name names all
    got (name ∷ names) (suc file) all = got names file (All-tail IsOneLine name names all)

    by : (found : Option (List ℕ)) → IfSome found IsOneLine → IsOneLine (name_if found)
    by None one = one_none
    by (Some name) one = one

warned : (name : List ℕ) (place : Place) → IsOneLine name → AreLines (warn_line name place)
unfolding warn_line
warned name place one =
    let line : List ℕ = decimal place.position.line in
    let column : List ℕ = decimal place.position.column in
    let rest : List ℕ = name ++ (space ∷ (line ++ (space ∷ column))) in
    one_line (codes "warn " ++ rest) (codes "warn " ++ (name ++ (space ∷ (line ++ (space ∷ ended column)))))
    (ap (λ (l : List ℕ). codes "warn " ++ (name ++ (space ∷ l))) (two_ended line column)
    ∙ ap (λ (l : List ℕ). codes "warn " ++ l) (two_ended name (line ++ (space ∷ column))))
    (record {
      one = one_append (codes "warn ") rest (one_known (codes "warn ") refl)
          (one_append name (space ∷ (line ++ (space ∷ column))) one
          (one_space (line ++ (space ∷ column))
          (one_append line (space ∷ column) (one_decimal place.position.line)
          (one_space column (one_decimal place.position.column)))));
      no_frame = refl;
      no_row = refl;
      no_end = refl;
    })

part_warned : (files : List (List ℕ)) (place : Place) → AreNames files → AreLines (line_at files place)
part_warned files place all = warned (name_in files place.file) place (name_one files place.file all)

step_warned : (files : List (List ℕ)) (place : Place) (step : PlannedStep) → AreNames files
    → AreLines (step_lines files place step)
step_warned files place (planned.Inline node sheet) all =
    lines_flat (λ (part : Place). line_at files place) sheet.warnings (λ part. part_warned files place all)
step_warned files place (planned.Sheet owner sheet) all =
    lines_flat (line_at files) sheet.warnings (λ part. part_warned files part all)
step_warned files place other all = no_lines

doing_warned : (files : List (List ℕ)) (place : Place) (one : Doing) → AreNames files
    → AreLines (doing_lines files place one)
doing_warned files place (doing.Step step) all = step_warned files place step all
doing_warned files place (doing.Fault kind) all = no_lines
doing_warned files place (doing.Room node) all = no_lines

task_warned : (files : List (List ℕ)) (task : Task) → AreNames files → AreLines (task_lines files task)
unfolding task_lines
task_warned files task all = doing_warned files task.place task.doing all

pub warnings_are : (files : List (List ℕ)) (tasks : List Task) → AreNames files → AreLines (warnings_of files tasks)
warnings_are files tasks all = lines_flat (task_lines files) tasks (λ task. task_warned files task all)
