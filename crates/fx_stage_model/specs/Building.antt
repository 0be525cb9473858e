-- What each step of building a scene makes of the world, and when it is refused: by the words of lines, in their order.
use Rattle.std.specs.Prelude.{◌≡◌, ℕ, ◌+◌, Bool, true, false, not, nat_lt, ◌||◌, List, [], ◌∷◌, ◌++◌, codes, length, map, Option, Some, None, Result, Ok, Err, is_some, if◌then◌else◌}
use Rattle.std.specs.FinMap as map_of
use Rattle.std.specs.Option.{option_map, option_map_or}
use Rattle.fx_base.specs.declared.keys.Name.{Name}
use Rattle.fx_base.specs.declared.keys.NodeKey.{NodeKey}
use Rattle.fx_base.specs.declared.values.Value.{Value}
use Rattle.fx_base.specs.declared.facts.Track.{Track}
use Rattle.fx_base.specs.Printing.{kind_of}
use Rattle.fx_css_types.specs.declared.sheets.Sheet.{Sheet}
use Rattle.fx_events.specs.declared.kinds.EventKind.{EventKind}
use Rattle.fx_events.specs.declared.kinds.Phase.TheVariants.{Convenience}
use Rattle.fx_expr.specs.Tree.{is_within}
use Rattle.fx_graph_model.specs.Equality.{same_kind}
use Rattle.fx_kinds.specs.declared.classes.Class.{Class}
use Rattle.fx_kinds.specs.Classes.{is_node}
use Rattle.fx_kinds.specs.Constraints.{ConstraintEntry, constraint_named, is_in_range}
use Rattle.fx_store_model.specs.declared.changes.Change.{Change}
use Rattle.fx_store_model.specs.declared.changes.Change.TheVariants.{Set, Bind}
use Rattle.fx_tree.specs.Refusals.{root_refusal}
use Rattle.fx_tree.specs.Scene.{is_alive}
use Rattle.fx_stage_types.specs.declared.edits.NodeEdit.TheVariants as edit
use Rattle.fx_stage_types.specs.Tables.{node_at}
use Rattle.fx_stage_types.specs.declared.refusals.Refusal.{Refusal}
use Rattle.fx_stage_types.specs.declared.refusals.Refusal.TheVariants as word
use Rattle.fx_stage_types.specs.declared.steps.BuildStep.{BuildStep}
use Rattle.fx_stage_types.specs.declared.steps.BuildStep.TheVariants as step
use Rattle.fx_stage_model.specs.Answers.{Taken, and_then, or_word, silently, unless}
use Rattle.fx_stage_model.specs.Dressing.{edited_in, is_full_of_classes, registered}
use Rattle.fx_stage_model.specs.Graphs.{attached, child_refusal, registration, rooted, with_handler, with_sheet}
use Rattle.fx_stage_model.specs.Nodes.{by_tree, has_no_room, next_key, with_name, with_node}
use Rattle.fx_stage_model.specs.Properties.{changed}
use Rattle.fx_stage_model.specs.World.{World, with_graph}

-- a node that is alive, or the word for why it isn't there
abbrev pub living : World → NodeKey → Result NodeKey Refusal
living world key = if is_alive world.graph.tree.nodes key then Ok key else Err word.Unknown

unfoldable pub make : ℕ → Class → World → Result Taken Refusal
make slot class world =
    unless (not (is_node class)) word.Value
    (unless (has_no_room class world) word.Full
    (silently (with_node class (next_key slot world) world)))

unfoldable pub name : NodeKey → List (List ℕ) → World → Result Taken Refusal
name key path world =
    and_then (living world key) (λ (key : NodeKey).
    unless (is_some (node_at world.graph.paths path)) word.Exists (silently (with_name path key world)))

unfoldable pub root : NodeKey → World → Result Taken Refusal
root key world = by_tree (root_refusal world.graph.tree key) (rooted key world.graph) world

-- the constraint's name and the value are those of the table
abbrev pub takes : ConstraintEntry → Value → Bool
takes entry value = if same_kind (kind_of value) entry.kind then is_in_range entry.range value else false

unfoldable pub constrain : NodeKey → List ℕ → Value → World → Result Taken Refusal
constrain key name value world =
    and_then (living world key) (λ (key : NodeKey).
    and_then (or_word word.Property (constraint_named name)) (λ (entry : ConstraintEntry).
    unless (not (takes entry value)) word.Value
    (silently (edited_in key (edit.PutConstraint (record { name = name; value = value })) world))))

unfoldable pub class : NodeKey → List ℕ → World → Result Taken Refusal
class key name world =
    and_then (living world key) (λ (key : NodeKey).
    unless (is_full_of_classes world.graph.table key) word.Full (silently (edited_in key (edit.AddClass name) world)))

unfoldable pub dress : Option NodeKey → Sheet → World → Result Taken Refusal
dress None sheet world = silently (with_graph (with_sheet sheet world.graph) world)
dress (Some key) sheet world =
    and_then (living world key) (λ (key : NodeKey). silently (edited_in key (edit.AddSheet sheet) world))

unfoldable pub inline : NodeKey → Sheet → World → Result Taken Refusal
inline key sheet world =
    and_then (living world key) (λ (key : NodeKey). silently (edited_in key (edit.SetInline sheet) world))

unfoldable pub convenience : NodeKey → EventKind → List ℕ → World → Result Taken Refusal
convenience key on action world =
    and_then (living world key) (λ (key : NodeKey). registered key (registration on Convenience action) world)

unfoldable pub tracks : NodeKey → List Track → List Track → World → Result Taken Refusal
tracks key columns rows world =
    and_then (living world key) (λ (key : NodeKey).
    unless (nat_lt 256 (length columns) || nat_lt 256 (length rows)) word.Full
    (silently (edited_in key (edit.SetTracks columns rows) world)))

-- a step, which keeps what it makes anew in this slot
unfoldable pub built : ℕ → BuildStep → World → Result Taken Refusal
built slot (step.Node class) world = make slot class world
built slot (step.Named key path) world = name key path world
built slot (step.Root key) world = root key world
built slot (step.Child pane child spot) world =
    by_tree (child_refusal pane child spot world.graph) (attached pane child spot world.graph) world
built slot (step.Code name value) world = changed (Set name value) world
built slot (step.Bind name formula operands) world = changed (Bind name formula operands) world
built slot (step.Constraint key name value) world = constrain key name value world
built slot (step.Class key name) world = class key name world
built slot (step.Inline key sheet) world = inline key sheet world
built slot (step.Sheet key sheet) world = dress key sheet world
built slot (step.Convenience key on action) world = convenience key on action world
built slot (step.Tracks key columns rows) world = tracks key columns rows world

-- the node that a step makes, which is kept in this slot
abbrev pub node_made : ℕ → BuildStep → World → Option NodeKey
node_made slot (step.Node class) world = Some (next_key slot world)
node_made slot other world = None

-- what a step needs of its words: a binding has an operand for each place of its formula
abbrev pub IsFitStep : BuildStep → Type 0
IsFitStep (step.Bind name formula operands) = is_within formula (length operands) ≡ true
IsFitStep other = Unit {0}
