-- What the stage keeps, and what of it contracts see.
use Rattle.std.specs.Prelude.{ℕ, ℤ, ◌≤◌, All, Bool, List, Option}
use Rattle.fx_base.specs.declared.keys.Name.{Name}
use Rattle.fx_handles.specs.declared.Owner.{Owner}
use Rattle.fx_script_commands.specs.Requests.{Numbered}
use Rattle.fx_store_model.specs.Stored.{Stored}
use Rattle.fx_stage_types.specs.Tables.{NodeTable}
use Rattle.fx_stage_model.specs.Graphs.{Graph}
use Rattle.fx_stage_model.specs.Sound.{IsSound}
use Rattle.fx_stage_model.specs.World.{World, names_of, still_written, world_of}

-- only of living listeners anything is seen
abbrev pub seen : Stored → Graph → List (List ℕ × Name) → List (List ℕ × Owner)
    → List (List ℕ × List Numbered) → List (List ℕ) → List (ℕ × List (List ℕ)) → Option (ℤ × ℤ)
    → Bool → Option (ℕ × ℕ) → World
seen store graph free labels actions run written pointer button window =
    world_of store graph
    (names_of free labels actions run (still_written store.listeners written)) pointer button window

-- What is true of what is kept: the world is sound, and what is written is of listeners whose numbers were given.
pub record IsKept
    (store : Stored) (table : NodeTable) (free : List (List ℕ × Name)) (written : List (ℕ × List (List ℕ)))
    : Type 0 where
  pub sound : IsSound store.entries table free
  pub numbered : All (λ (entry : ℕ × List (List ℕ)). entry.0 ≤ store.given) written
