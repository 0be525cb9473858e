-- A listener that is added, and what is kept of it beside the store.
use Rattle.std.specs.Prelude.{ℕ, ◌+◌, List, [], ◌∷◌, ◌++◌, Option, option_to_list, Result, Ok}
use Rattle.fx_store_model.specs.declared.changes.Change.{Change}
use Rattle.fx_store_model.specs.declared.changes.Change.TheVariants.{Listen}
use Rattle.fx_stage_types.specs.declared.refusals.Refusal.{Refusal}
use Rattle.fx_stage_model.specs.Answers.{Taken, and_then}
use Rattle.fx_stage_model.specs.Properties.{changed}
use Rattle.fx_stage_model.specs.World.{World}

abbrev pub IsListen : Change → Type 0
IsListen (Listen name kind owner tag) = Unit {0}
IsListen change = ⊥

-- the listener of this number was asked for by this path, and runs this action if that is a new one
abbrev pub noted : ℕ → List (List ℕ) → Option (List ℕ) → World → World
noted number asked runs world =
    record world {
      names = record world.names {
        run = world.names.run ++ option_to_list runs;
        written = world.names.written ++ (number, asked) ∷ [];
      };
    }

abbrev pub all_noted : ℕ → List (List ℕ) → Option (List ℕ) → Taken → Taken
all_noted number asked runs taken =
    record taken { made = noted number asked runs taken.made; world = noted number asked runs taken.world }

-- a change that adds a listener
abbrev pub added : Change → List (List ℕ) → Option (List ℕ) → World → Result Taken Refusal
added change asked runs world =
    and_then (changed change world) (λ (taken : Taken). Ok (all_noted (world.store.given + 1) asked runs taken))
