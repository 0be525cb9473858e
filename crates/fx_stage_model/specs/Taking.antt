-- What a stage answers of a line and makes of its world, where the definition makes this of the world before.
use Rattle.std.specs.Prelude.{◌≡◌, ◌⊎◌, ◌++◌, false, length, replicate, List, [], Option, Result, Ok, Err}
use Rattle.fx_base.specs.declared.keys.NodeKey.{NodeKey}
use Rattle.fx_graph_model.specs.declared.entries.Entry.{Entry}
use Rattle.fx_store_model.specs.Stored.{Stored}
use Rattle.fx_store_model.specs.Step.{IsReadSome as IsReadSomeIn}
use Rattle.fx_stage_types.specs.declared.answers.Outcome.{Outcome}
use Rattle.fx_stage_types.specs.declared.answers.StageError.{StageError}
use Rattle.fx_stage_types.specs.declared.answers.StageError.TheVariants.{Refused, Memory}
use Rattle.fx_stage_types.specs.declared.refusals.Refusal.{Refusal}
use Rattle.fx_stage_model.specs.Answers.{Taken}
use Rattle.fx_stage_model.specs.World.{World}

-- more entries behind the others, none of them unread
abbrev pub with_more : List Entry → Stored → Stored
with_more others stored =
    record stored {
      entries = stored.entries ++ others;
      unread = stored.unread ++ replicate (length others) false;
    }

-- some properties were read, and nothing else changed
pub record IsReadSome (before now : World) : Type 0 where
  pub rest : now ≡ record before { store = now.store }
  pub store : IsReadSomeIn before.store now.store

-- nothing is made, but some numbers of names are given to properties that nobody has
pub record IsPassedOver (before now : World) : Type 0 where
  pub others : List Entry
  pub rest : now ≡ record before { store = with_more others before.store }

-- nothing is made, or all is made, but some watched properties may be unread; in either case some may have been read
abbrev pub IsUnfinished : Taken → World → World → Type 0
IsUnfinished taken before now = (IsReadSome before now ⊎ IsReadSome taken.made now) ⊎ IsPassedOver before now

abbrev pub outcome_of : Taken → Outcome
outcome_of taken =
    record { value = taken.value; notices = taken.notices; warnings = taken.warnings; events = [] }

-- what isn't refused is made and told, unless memory is wanting; what is refused changes nothing
abbrev pub IsTaken : Result Taken Refusal → World → World → Result Outcome StageError → Type 0
IsTaken (Ok taken) before now (Ok outcome) = (now ≡ taken.world) × (outcome ≡ outcome_of taken)
IsTaken (Ok taken) before now (Err error) = (error ≡ Memory) × IsUnfinished taken before now
IsTaken (Err word) before now (Ok outcome) = ⊥
IsTaken (Err word) before now (Err error) = (now ≡ before) × ((error ≡ Refused word) ⊎ (error ≡ Memory))

-- the same of a step, which answers the node that it makes, if it makes one
abbrev pub IsBuilt : Result Taken Refusal → Option NodeKey → World → World
    → Result (Option NodeKey) StageError → Type 0
IsBuilt (Ok taken) made before now (Ok key) = (now ≡ taken.world) × (key ≡ made)
IsBuilt (Ok taken) made before now (Err error) = (error ≡ Memory) × IsUnfinished taken before now
IsBuilt (Err word) made before now (Ok key) = ⊥
IsBuilt (Err word) made before now (Err error) = (now ≡ before) × ((error ≡ Refused word) ⊎ (error ≡ Memory))
