-- What a plan makes of a world: each of its steps is a step of building, once the ordinals of nodes are keys.
use Rattle.std.specs.Prelude.{◌≡◌, ℕ, nat_lt, not, List, [], ◌∷◌, ◌++◌, length, slice_get, Option, Some, None, Result, Ok, Err, Vec}
use Rattle.std.specs.Global.{Global}
use Rattle.std.specs.Option.{option_map, option_to_list}
use Rattle.fx_base.specs.Names.{name_of}
use Rattle.fx_base.specs.declared.keys.Name.{Name}
use Rattle.fx_base.specs.declared.keys.NodeKey.{NodeKey}
use Rattle.fx_expr.specs.Tree.{Tree, is_within}
use Rattle.fx_stage_types.specs.Tables.{data_of}
use Rattle.fx_stage_types.specs.declared.answers.StageError.{StageError}
use Rattle.fx_stage_types.specs.declared.answers.StageError.TheVariants.{Refused, Memory}
use Rattle.fx_stage_types.specs.declared.refusals.Refusal.{Refusal}
use Rattle.fx_stage_types.specs.declared.refusals.Refusal.TheVariants as word
use Rattle.fx_stage_types.specs.declared.steps.BuildStep.{BuildStep}
use Rattle.fx_stage_types.specs.declared.steps.BuildStep.TheVariants as step
use Rattle.fx_stage_model.specs.Answers.{Taken, and_then, or_word, unless}
use Rattle.fx_stage_model.specs.Building.{built, living, node_made}
use Rattle.fx_stage_model.specs.Looking.{property_in}
pub use Rattle.fx_stage_model.specs.World.{World}
use Rattle.fx_tree.specs.Scene.{path}
use Rattle.fx_scene_plan.specs.declared.steps.PlannedProperty.{PlannedProperty}
use Rattle.fx_scene_plan.specs.declared.steps.PlannedStep.{PlannedStep}
use Rattle.fx_scene_plan.specs.declared.steps.PlannedStep.TheVariants as planned

-- a world, and the nodes that a plan has made of it so far, by their ordinals
pub record Standing : Type 0 where
  pub world : World
  pub keys : List NodeKey

abbrev pub standing_of : World → List NodeKey → Standing
standing_of world keys = record { world = world; keys = keys }

-- the node of an ordinal, or the word for why there is none
abbrev pub key_in : List NodeKey → ℕ → Result NodeKey Refusal
key_in keys node = or_word word.Unknown (slice_get keys node)

-- the node of an ordinal, if there is one
abbrev pub key_if : List NodeKey → Option ℕ → Result (Option NodeKey) Refusal
key_if keys None = Ok None
key_if keys (Some node) = and_then (key_in keys node) (λ (key : NodeKey). Ok (Some key))

-- the name of a property, or the word for why there is none
unfoldable pub property_at : Standing → PlannedProperty → Result Name Refusal
property_at standing planned =
    and_then (key_in standing.keys planned.node) (λ (key : NodeKey).
    or_word word.Property (option_map name_of (property_in (data_of standing.world.graph.table key) planned.property)))

-- the names of all of them, or the first word
unfoldable pub properties_at : Standing → List PlannedProperty → Result (List Name) Refusal
properties_at standing [] = Ok []
properties_at standing (one ∷ others) =
    and_then (property_at standing one) (λ (name : Name).
    and_then (properties_at standing others) (λ (names : List Name). Ok (name ∷ names)))

-- a step on a node
abbrev pub on_node : Standing → ℕ → (NodeKey → BuildStep) → Result BuildStep Refusal
on_node standing node step = and_then (key_in standing.keys node) (λ (key : NodeKey). Ok (step key))

-- a binding has an operand for each place of its formula
abbrev pub binding : Name → Tree → List Name → Result BuildStep Refusal
binding name formula operands =
    unless (not (is_within formula (length operands))) word.Syntax (Ok (step.Bind name formula operands))

abbrev pub bound : Standing → PlannedProperty → Tree → List PlannedProperty → Result BuildStep Refusal
bound standing property formula operands =
    and_then (property_at standing property) (λ (name : Name).
    and_then (properties_at standing operands) (λ (names : List Name). binding name formula names))

-- a planned step by the keys and names that are meant, or the word for why one isn't there
unfoldable pub resolved : Standing → PlannedStep → Result BuildStep Refusal
resolved standing (planned.Node class) = Ok (step.Node class)
resolved standing (planned.Named node path) = on_node standing node (λ (key : NodeKey). step.Named key path)
resolved standing (planned.Root node) = on_node standing node (λ (key : NodeKey). step.Root key)
resolved standing (planned.Child pane child spot) =
    and_then (key_in standing.keys pane) (λ (parent : NodeKey).
    on_node standing child (λ (key : NodeKey). step.Child parent key spot))
resolved standing (planned.Code property value) =
    and_then (property_at standing property) (λ (name : Name). Ok (step.Code name value))
resolved standing (planned.Bind property formula operands) = bound standing property formula operands
resolved standing (planned.Constraint node name value) =
    on_node standing node (λ (key : NodeKey). step.Constraint key name value)
resolved standing (planned.Class node name) = on_node standing node (λ (key : NodeKey). step.Class key name)
resolved standing (planned.Inline node sheet) = on_node standing node (λ (key : NodeKey). step.Inline key sheet)
resolved standing (planned.Sheet node sheet) =
    and_then (key_if standing.keys node) (λ (key : Option NodeKey). Ok (step.Sheet key sheet))
resolved standing (planned.Convenience node on action) =
    on_node standing node (λ (key : NodeKey). step.Convenience key on action)
resolved standing (planned.Tracks node columns rows) =
    on_node standing node (λ (key : NodeKey). step.Tracks key columns rows)

abbrev pub after_built : ℕ → BuildStep → Standing → Taken → Standing
after_built slot step standing taken =
    record {
      world = taken.world;
      keys = standing.keys ++ option_to_list (node_made slot step standing.world);
    }

abbrev pub built_on : ℕ → Standing → BuildStep → Result Standing Refusal
built_on slot standing step =
    and_then (built slot step standing.world) (λ (taken : Taken). Ok (after_built slot step standing taken))

-- what one step makes of what stands, or the word that refuses it; what it makes anew is kept in this slot
unfoldable pub stepped : ℕ → PlannedStep → Standing → Result Standing Refusal
stepped slot planned standing = and_then (resolved standing planned) (built_on slot standing)

-- a node below which a tree of at most 64 levels has room, or the word for why there is none
unfoldable pub room_below : World → NodeKey → Result NodeKey Refusal
room_below world key =
    and_then (living world key) (λ (there : NodeKey).
    unless (nat_lt 63 (length (path world.graph.tree.nodes key))) word.Depth (Ok key))

-- A further node has room under the one of this ordinal, in a tree of at most 64 levels, or this word tells why not.
-- Nothing is made.
unfoldable pub roomy : Standing → ℕ → Result Standing Refusal
roomy standing node =
    and_then (key_in standing.keys node) (λ (key : NodeKey).
    and_then (room_below standing.world key) (λ (there : NodeKey). Ok standing))

-- What the steps make of what stands, one after another, or the word that refuses the first of them that is refused.
-- Each node is kept in some slot.
pub data IsBuiltFrom : Standing → List PlannedStep → Result Standing Refusal → Type 0 where
  all_built : (standing : Standing) → IsBuiltFrom standing [] (Ok standing)
  one_refused : (slot : ℕ) (standing : Standing) (step : PlannedStep) (steps : List PlannedStep) (word : Refusal)
      → stepped slot step standing ≡ Err word → IsBuiltFrom standing (step ∷ steps) (Err word)
  one_built : (slot : ℕ) (standing next : Standing) (step : PlannedStep) (steps : List PlannedStep)
      (answer : Result Standing Refusal) → stepped slot step standing ≡ Ok next → IsBuiltFrom next steps answer
      → IsBuiltFrom standing (step ∷ steps) answer

-- nothing is made yet
abbrev pub unbuilt : World → Standing
unbuilt world = standing_of world []

-- what a whole plan makes of a world
abbrev pub IsPlanBuilt : List PlannedStep → World → Result Standing Refusal → Type 0
IsPlanBuilt plan world answer = IsBuiltFrom (unbuilt world) plan answer

-- What is answered of a plan: all of it is built, with these nodes, or a step is refused by this word. Of want of
-- memory nothing is said.
abbrev pub IsScene : List PlannedStep → World → World → Result (Vec NodeKey Global) StageError → Type 0
IsScene plan before now (Ok keys) = IsPlanBuilt plan before (Ok (standing_of now keys.items))
IsScene plan before now (Err (Refused word)) = IsPlanBuilt plan before (Err word)
IsScene plan before now (Err Memory) = Unit {0}

-- what is found, or the word; want of memory says nothing
abbrev pub Says : {A B : Type 0} → (A → B) → Result B Refusal → Result A StageError → Type 0
Says seen answer (Ok found) = answer ≡ Ok (seen found)
Says seen answer (Err (Refused word)) = answer ≡ Err word
Says seen answer (Err Memory) = Unit {0}
