-- What a line will make of a world, before it is made.
use Rattle.std.specs.Prelude.{◌≡◌, ◌⊎◌, Result, Ok, Err}
use Rattle.std.specs.declared.alloc.AllocError.{AllocError}
use Rattle.fx_stage_graph.specs.Pointing.{pointed}
use Rattle.fx_stage_model.specs.World.{World}
use Rattle.fx_stage_types.specs.declared.answers.StageError.{StageError}
use Rattle.fx_stage_types.specs.declared.answers.StageError.TheVariants.{Memory, Refused}
use Rattle.fx_stage_types.specs.declared.refusals.Refusal.{Refusal}
use Rattle.fx_event_lines.specs.Started.{Started}
use Rattle.fx_event_lines.specs.declared.effects.Effect.{Effect}

abbrev pub made_of : Effect → World → World
made_of effect world =
    record world {
      pointer = effect.pointer;
      button = effect.button;
      graph = pointed effect.pointing world.graph;
    }

abbrev pub started_by : Effect → World → Started
started_by effect world = record { world = made_of effect world; events = effect.events.items }

-- the effect is what the definition starts, unless memory is wanting
abbrev pub IsEffect : Result Started Refusal → World → Result Effect StageError → Type 0
IsEffect (Ok started) world (Ok effect) = started_by effect world ≡ started
IsEffect (Ok started) world (Err error) = error ≡ Memory
IsEffect (Err word) world (Ok effect) = ⊥
IsEffect (Err word) world (Err error) = (error ≡ Refused word) ⊎ (error ≡ Memory)

-- want of memory, as a stage tells it
abbrev pub made_as : Result Effect AllocError → Result Effect StageError
made_as (Ok effect) = Ok effect
made_as (Err error) = Err Memory
