-- What is answered of tasks.
use Rattle.std.specs.Prelude.{◌≡◌, ℕ, List, Result, Ok, Err, Vec}
use Rattle.std.specs.Global.{Global}
use Rattle.fx_base.specs.declared.keys.NodeKey.{NodeKey}
use Rattle.fx_base.specs.declared.positions.Place.{Place}
use Rattle.fx_scene_acts.specs.Acts.{IsActed, acted, fault_at, flaw_of}
use Rattle.fx_scene_acts.specs.declared.tasks.Task.{Task}
use Rattle.fx_scene_flaws.specs.declared.flaws.FaultKind.TheVariants.{Flawed}
use Rattle.fx_scene_plan.specs.Plans.{Standing, standing_of}
use Rattle.fx_stage_model.specs.World.{World}
use Rattle.fx_stage_types.specs.declared.answers.StageError.{StageError}
use Rattle.fx_stage_types.specs.declared.answers.StageError.TheVariants as stage
use Rattle.fx_scene_raise.specs.declared.errors.RaiseError.{RaiseError}
use Rattle.fx_scene_raise.specs.declared.errors.RaiseError.TheVariants.{Fault, Memory}

-- All tasks are done, with these nodes, or this is the fault of the first that has one. Of want of memory nothing is
-- said.
abbrev pub IsRaised : List Task → World → World → Result (Vec NodeKey Global) RaiseError → Type 0
IsRaised tasks before now (Ok keys) = IsActed tasks before (Ok (standing_of now keys.items))
IsRaised tasks before now (Err (Fault fault)) = IsActed tasks before (Err fault)
IsRaised tasks before now (Err Memory) = Unit {0}

-- the task makes what now stands, or has this fault; want of memory says nothing
abbrev pub IsTaskTaken : {T : Type 0} → Task → Standing → Standing → Result T RaiseError → Type 0
IsTaskTaken task before now (Ok done) = (slot : ℕ) × (acted slot task before ≡ Ok now)
IsTaskTaken task before now (Err (Fault fault)) = (slot : ℕ) × (acted slot task before ≡ Err fault)
IsTaskTaken task before now (Err Memory) = Unit {0}

-- the word by which a step is refused is a flaw at its place
abbrev pub IsErrorTold : Place → StageError → RaiseError → Type 0
IsErrorTold place (stage.Refused word) error = error ≡ Fault (fault_at place (Flawed (flaw_of word)))
IsErrorTold place stage.Memory error = error ≡ Memory

abbrev pub IsTold : {T : Type 0} → Place → Result T StageError → Result T RaiseError → Type 0
IsTold place (Ok done) (Ok other) = Unit {0}
IsTold place (Err error) (Err other) = IsErrorTold place error other
IsTold place _ _ = ⊥
