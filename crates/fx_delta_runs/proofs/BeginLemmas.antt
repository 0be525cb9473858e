-- A scene's steps neither listen nor define actions, so a game begins tame.
use Rattle.std.proofs.Common.{ℕ, List, Option, Some, None, Ok, Err, sym, ap, subst}
use Rattle.std.specs.Prelude.{IfOk, Result, is_some, length, nat_lt, not, ◌||◌}
use Rattle.std.proofs.lemmas.List.Elements.{All-nil}
use Rattle.fx_base.specs.declared.keys.NodeKey.{NodeKey}
use Rattle.fx_events.specs.declared.kinds.Phase.TheVariants.{Convenience}
use Rattle.fx_kinds.specs.Classes.{is_node}
use Rattle.fx_kinds.specs.Constraints.{constraint_named}
use Rattle.fx_plain_frames.specs.Games.{Game}
use Rattle.fx_plain_runs.specs.Runs.{IsBegun, in_window}
use Rattle.fx_scene_acts.specs.Acts.{IsActedFrom, acted, all_done, done, one_done, one_ends, told}
use Rattle.fx_scene_acts.specs.declared.tasks.Doing.{Doing}
use Rattle.fx_scene_acts.specs.declared.tasks.Doing.TheVariants as doing
use Rattle.fx_scene_acts.specs.declared.tasks.SceneFault.{SceneFault}
use Rattle.fx_scene_acts.specs.declared.tasks.Task.{Task}
use Rattle.fx_base.specs.declared.positions.Place.{Place}
use Rattle.fx_scene_plan.specs.Plans.{Standing, after_built, built_on, key_in, resolved, room_below, roomy, stepped}
use Rattle.fx_scene_plan.specs.declared.steps.PlannedStep.{PlannedStep}
use Rattle.fx_script_commands.specs.Requests.{Numbered}
use Rattle.fx_stage_model.specs.Answers.{Taken, and_then, or_word}
use Rattle.fx_stage_model.specs.Building as building
use Rattle.fx_stage_model.specs.Building.{built, living}
use Rattle.fx_stage_model.specs.Dressing.{is_full_of_classes}
use Rattle.fx_stage_model.specs.Graphs.{registration}
use Rattle.fx_stage_model.specs.Nodes.{has_no_room, with_node}
use Rattle.fx_stage_model.specs.World.{World, nowhere}
use Rattle.fx_stage_types.specs.Tables.{node_at}
use Rattle.fx_stage_types.specs.declared.refusals.Refusal.{Refusal}
use Rattle.fx_stage_types.specs.declared.refusals.Refusal.TheVariants as word
use Rattle.fx_stage_types.specs.declared.steps.BuildStep.{BuildStep}
use Rattle.fx_stage_types.specs.declared.steps.BuildStep.TheVariants as step
use Rattle.fx_delta_runs.specs.Runs.{IsFirst}
use Rattle.fx_delta_runs.specs.Tame.{AreTameLines, IsOnePath, IsTameWorld}
use Rattle.fx_delta_runs.proofs.WorldLemmas.{Keeps, by_tree_keeps, changed_keeps, registered_keeps, then_keeps, unless_keeps}

-- ---- a step of building
built_keeps : (slot : ℕ) (one : BuildStep) (world : World) → IsTameWorld world → Keeps (built slot one world)
unfolding built building.make building.name building.root building.constrain building.class building.dress
    building.inline building.convenience building.tracks with_node
built_keeps slot (step.Node class) world is =
    unless_keeps (not (is_node class)) word.Value _
    (unless_keeps (has_no_room class world) word.Full _ (record { written = is.written; actions = is.actions }))
built_keeps slot (step.Named key path) world is =
    then_keeps (living world key) _ (λ there.
    unless_keeps (is_some (node_at world.graph.paths path)) word.Exists _
    (record { written = is.written; actions = is.actions }))
built_keeps slot (step.Root key) world is = by_tree_keeps _ _ world is
built_keeps slot (step.Child pane child spot) world is = by_tree_keeps _ _ world is
built_keeps slot (step.Code name value) world is = changed_keeps _ world is
built_keeps slot (step.Bind name formula operands) world is = changed_keeps _ world is
built_keeps slot (step.Constraint key name value) world is =
    then_keeps (living world key) _ (λ there.
    then_keeps (or_word word.Property (constraint_named name)) _ (λ entry.
    unless_keeps (not (building.takes entry value)) word.Value _
    (record { written = is.written; actions = is.actions })))
built_keeps slot (step.Class key name) world is =
    then_keeps (living world key) _ (λ there.
    unless_keeps (is_full_of_classes world.graph.table there) word.Full _
    (record { written = is.written; actions = is.actions }))
built_keeps slot (step.Inline key sheet) world is =
    then_keeps (living world key) _ (λ there. record { written = is.written; actions = is.actions })
built_keeps slot (step.Sheet None sheet) world is = record { written = is.written; actions = is.actions }
built_keeps slot (step.Sheet (Some key) sheet) world is =
    then_keeps (living world key) _ (λ there. record { written = is.written; actions = is.actions })
built_keeps slot (step.Convenience key on action) world is =
    then_keeps (living world key) _ (λ there. registered_keeps there (registration on Convenience action) world is)
built_keeps slot (step.Tracks key columns rows) world is =
    then_keeps (living world key) _ (λ there.
    unless_keeps (nat_lt 256 (length columns) || nat_lt 256 (length rows)) word.Full _
    (record { written = is.written; actions = is.actions }))

-- ---- tasks
abbrev StandsTame : {E : Type 0} → Result Standing E → Type 0
StandsTame answer = IfOk answer (λ (s : Standing). IsTameWorld s.world)

built_stands : (slot : ℕ) (standing : Standing) (one : BuildStep) → IsTameWorld standing.world
    → StandsTame (built_on slot standing one)
built_stands slot standing one is = by (built slot one standing.world) (built_keeps slot one standing.world is)
  where
    by : (answer : Result Taken Refusal) → Keeps answer
        → StandsTame (and_then answer (λ (taken : Taken). Ok (after_built slot one standing taken)))
    by (Ok taken) keeps = keeps
    by (Err refusal) keeps = tt

stepped_stands : (slot : ℕ) (planned : PlannedStep) (standing : Standing) → IsTameWorld standing.world
    → StandsTame (stepped slot planned standing)
unfolding stepped
stepped_stands slot planned standing is = by (resolved standing planned)
  where
    by : (answer : Result BuildStep Refusal) → StandsTame (and_then answer (built_on slot standing))
    by (Ok one) = built_stands slot standing one is
    by (Err refusal) = tt

roomy_stands : (standing : Standing) (node : ℕ) → IsTameWorld standing.world → StandsTame (roomy standing node)
unfolding roomy
roomy_stands standing node is = by (key_in standing.keys node)
  where
    inner : (answer : Result NodeKey Refusal) → StandsTame (and_then answer (λ (there : NodeKey). Ok standing))
    inner (Ok there) = is
    inner (Err refusal) = tt

    by : (answer : Result NodeKey Refusal)
        → StandsTame
        (and_then answer (λ (key : NodeKey).
        and_then (room_below standing.world key) (λ (there : NodeKey). Ok standing)))
    by (Ok key) = inner (room_below standing.world key)
    by (Err refusal) = tt

told_stands : (place : Place) (answer : Result Standing Refusal) → StandsTame answer → StandsTame (told place answer)
told_stands place (Ok standing) is = is
told_stands place (Err refusal) is = tt

done_stands : (slot : ℕ) (place : Place) (doing : Doing) (standing : Standing) → IsTameWorld standing.world
    → StandsTame (done slot place doing standing)
done_stands slot place (doing.Step one) standing is =
    told_stands place (stepped slot one standing) (stepped_stands slot one standing is)
done_stands slot place (doing.Fault kind) standing is = tt
done_stands slot place (doing.Room node) standing is =
    told_stands place (roomy standing node) (roomy_stands standing node is)

acted_stands : (slot : ℕ) (task : Task) (standing : Standing) → IsTameWorld standing.world
    → StandsTame (acted slot task standing)
unfolding acted
acted_stands slot task standing is = done_stands slot task.place task.doing standing is

all_stand : (standing : Standing) (tasks : List Task) (answer : Result Standing SceneFault)
    → IsTameWorld standing.world → IsActedFrom standing tasks answer → StandsTame answer
all_stand standing tasks answer is (all_done s) = is
all_stand standing tasks answer is (one_ends slot s task rest fault e) = tt
all_stand standing tasks answer is (one_done slot s next task rest a e more) =
    all_stand next rest a
    (subst (λ (r : Result Standing SceneFault). StandsTame r) e (acted_stands slot task s is)) more

-- ---- a game
in_window_tame : (window : Option (ℕ × ℕ)) (world : World) → IsTameWorld world → IsTameWorld (in_window window world)
in_window_tame None world is = is
in_window_tame (Some size) world is = record { written = is.written; actions = is.actions }

nowhere_tame : IsTameWorld nowhere
nowhere_tame =
    record {
      written = All-nil (λ (entry : ℕ × List (List ℕ)). IsOnePath entry.1);
      actions = All-nil (λ (entry : List ℕ × List Numbered). AreTameLines entry.1);
    }

pub begins : (window : Option (ℕ × ℕ)) (tasks : List Task) (first : Game) → IsBegun window tasks first
    → (IsFirst first) × (IsTameWorld first.world)
begins window tasks first is = (
  record {
    none = ap (λ (game : Game). game.frames) is.begins;
    last = ap (λ (game : Game). game.last) is.begins;
  },
  subst (λ (game : Game). IsTameWorld game.world) (sym is.begins)
      (in_window_tame window is.standing.world (all_stand _ tasks (Ok is.standing) nowhere_tame is.built)),
)
