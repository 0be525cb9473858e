-- What tasks make of a world: each is a step of building, a fault, or a look for room. The first fault ends them, and
-- so does the first step that is refused, whose word is a flaw at its place.
use Rattle.std.specs.Prelude.{◌≡◌, ℕ, Bool, true, false, List, [], ◌∷◌, Result, Ok, Err}
use Rattle.fx_base.specs.declared.positions.Place.{Place}
use Rattle.fx_base.specs.declared.positions.Position.{Position}
use Rattle.fx_scene_plan.specs.Plans.{Standing, World, roomy, stepped, unbuilt}
use Rattle.fx_stage_types.specs.declared.refusals.Refusal.{Refusal}
use Rattle.fx_stage_types.specs.declared.refusals.Refusal.TheVariants as word
use Rattle.fx_scene_acts.specs.declared.acts.Act.{Act}
use Rattle.fx_scene_acts.specs.declared.acts.Deed.{Deed}
use Rattle.fx_scene_acts.specs.declared.acts.Deed.TheVariants as deed
use Rattle.fx_scene_acts.specs.declared.tasks.Doing.{Doing}
use Rattle.fx_scene_acts.specs.declared.tasks.Doing.TheVariants as doing
use Rattle.fx_scene_acts.specs.declared.tasks.SceneFault.{SceneFault}
use Rattle.fx_scene_acts.specs.declared.tasks.Task.{Task}
use Rattle.fx_scene_flaws.specs.declared.flaws.FaultKind.{FaultKind}
use Rattle.fx_scene_flaws.specs.declared.flaws.FaultKind.TheVariants.{Flawed}
use Rattle.fx_scene_flaws.specs.declared.flaws.Flaw.{Flaw}
use Rattle.fx_scene_flaws.specs.declared.flaws.Flaw.TheVariants as flaw

-- What is wrong with a document where a step of building is refused by a word. Documents give no step that is refused
-- by `stale`, `bound`, `mixed`, `same`, `used` or `button`.
unfoldable pub flaw_of : Refusal → Flaw
flaw_of word.Syntax = flaw.Expression
flaw_of word.Unknown = flaw.Name
flaw_of word.Property = flaw.Property
flaw_of word.ReadOnly = flaw.ReadOnly
flaw_of word.Stale = flaw.Name
flaw_of word.Kinds = flaw.Kinds
flaw_of word.Value = flaw.Value
flaw_of word.Exists = flaw.Duplicate
flaw_of word.Bound = flaw.Value
flaw_of word.Mixed = flaw.Value
flaw_of word.Same = flaw.Value
flaw_of word.Cycle = flaw.Cycle
flaw_of word.WouldLoop = flaw.Child
flaw_of word.Parent = flaw.Child
flaw_of word.Attached = flaw.Child
flaw_of word.Place = flaw.Child
flaw_of word.Depth = flaw.Limit
flaw_of word.Used = flaw.Value
flaw_of word.Button = flaw.Value
flaw_of word.Full = flaw.Limit

-- what a place of a document asks for
abbrev pub act_of : Position → Deed → Act
act_of place deed = record { place = place; deed = deed }

abbrev pub is_node_deed : Deed → Bool
is_node_deed deed.Node = true
is_node_deed _ = false

-- a node is read before anything behind the act
abbrev pub is_node_act : Act → Bool
is_node_act act = is_node_deed act.deed

-- what is done at a place of a file
abbrev pub task_of : Place → Doing → Task
task_of place doing = record { place = place; doing = doing }

abbrev pub fault_at : Place → FaultKind → SceneFault
fault_at place kind = record { kind = kind; place = place }

-- what a step makes, or the flaw that its word is
abbrev pub told : Place → Result Standing Refusal → Result Standing SceneFault
told place (Ok standing) = Ok standing
told place (Err word) = Err (fault_at place (Flawed (flaw_of word)))

abbrev pub done : ℕ → Place → Doing → Standing → Result Standing SceneFault
done slot place (doing.Step step) standing = told place (stepped slot step standing)
done slot place (doing.Fault kind) standing = Err (fault_at place kind)
done slot place (doing.Room node) standing = told place (roomy standing node)

-- what one task makes of what stands, or its fault; what it makes anew is kept in this slot
unfoldable pub acted : ℕ → Task → Standing → Result Standing SceneFault
acted slot task standing = done slot task.place task.doing standing

-- What tasks make of what stands, one after another, or the fault of the first that has one. Each node is kept in some
-- slot.
pub data IsActedFrom : Standing → List Task → Result Standing SceneFault → Type 0 where
  all_done : (standing : Standing) → IsActedFrom standing [] (Ok standing)
  one_ends : (slot : ℕ) (standing : Standing) (task : Task) (tasks : List Task) (fault : SceneFault)
      → acted slot task standing ≡ Err fault → IsActedFrom standing (task ∷ tasks) (Err fault)
  one_done : (slot : ℕ) (standing next : Standing) (task : Task) (tasks : List Task)
      (answer : Result Standing SceneFault) → acted slot task standing ≡ Ok next → IsActedFrom next tasks answer
      → IsActedFrom standing (task ∷ tasks) answer

-- what tasks make of a world in which none of their nodes is made yet
abbrev pub IsActed : List Task → World → Result Standing SceneFault → Type 0
IsActed tasks world answer = IsActedFrom (unbuilt world) tasks answer
