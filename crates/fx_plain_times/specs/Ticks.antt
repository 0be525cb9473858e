-- What a tick sets, and who is told of it.
use Rattle.std.specs.Prelude.{ℕ, ◌+◌, List, [], ◌∷◌, fold, Result, Ok, Err}
use Rattle.fx_base.specs.declared.keys.Name.{Name}
use Rattle.fx_base.specs.declared.values.Value.{Value}
use Rattle.fx_plain_steps.specs.Courses.{Course, after}
use Rattle.fx_plain_steps.specs.Lines.{Step, heard_in, printing}
use Rattle.fx_stage_model.specs.Answers.{Taken, cost_of}
use Rattle.fx_stage_model.specs.Properties.{changed}
use Rattle.fx_stage_model.specs.World.{World}
use Rattle.fx_stage_text.specs.Printing.{notice_lines}
use Rattle.fx_stage_types.specs.declared.refusals.Refusal.{Refusal}
use Rattle.fx_store_model.specs.declared.changes.Change.TheVariants.{Set}

-- what was made, and who is told of it; where it was refused, nothing
abbrev pub told_of : World → Result Taken Refusal → Step
told_of world (Ok taken) =
    record {
      text = notice_lines taken.world.names.written taken.notices;
      heard = heard_in taken.notices;
      world = taken.world;
    }
told_of world (Err word) = printing [] world

-- A property takes this value, if it can be set: one that is bound by now, or gone, is passed over.
unfoldable pub animated : Name × Value → World → Step
animated set world = told_of world (changed (Set set.0 set.1) world)

abbrev pub after_set : Course → Name × Value → Course
after_set course set = after (animated set course.world) course

-- properties take these values, one after another
abbrev pub all_animated : List (Name × Value) → Course → Course
all_animated sets course = fold after_set course sets

-- how many expressions are evaluated at most while they do
unfoldable pub cost_of_sets : List (Name × Value) → World → ℕ
cost_of_sets [] world = 0
cost_of_sets (set ∷ sets) world =
    cost_of (changed (Set set.0 set.1) world) + cost_of_sets sets (animated set world).world
