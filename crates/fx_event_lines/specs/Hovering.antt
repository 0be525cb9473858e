-- Moving the pointer: which nodes it is over, and which of them are told.
-- Source: JavaFX 21 (javafx.scene.input.MouseEvent, on entered and exited); their order between nodes is own.
use Rattle.std.specs.Prelude.{ℕ, ℤ, List, [], ◌++◌, reverse, Option, Some, None, Result, Ok, if◌then◌else◌}
use Rattle.fx_base.specs.declared.keys.NodeKey.{NodeKey}
use Rattle.fx_events.specs.declared.kinds.EventKind.TheVariants.{MouseDragged, MouseEntered, MouseExited, MouseMoved}
use Rattle.fx_focus.specs.Hover.{missing}
use Rattle.fx_focus.specs.Picks.{pick}
use Rattle.fx_picture.specs.declared.entries.Entry.{Entry}
use Rattle.fx_stage_model.specs.Answers.{and_then, or_word}
use Rattle.fx_stage_model.specs.World.{World, with_graph}
use Rattle.fx_stage_types.specs.declared.refusals.Refusal.{Refusal}
use Rattle.fx_stage_types.specs.declared.refusals.Refusal.TheVariants.{Value}
use Rattle.fx_tree.specs.Scene.{Scene, path}
use Rattle.fx_event_lines.specs.Coordinates.{coordinate_of}
use Rattle.fx_event_lines.specs.Started.{Started, sent_if, sent_to}
use Rattle.fx_event_lines.specs.declared.events.Event.{Event}

abbrev pub picked_at : Scene → List Entry → Option (ℤ × ℤ) → Option NodeKey
picked_at scene entries None = None
picked_at scene entries (Some point) = pick scene entries point.0 point.1

-- the node of the last picture under the pointer; none before the pointer was ever moved
abbrev pub picked : List Entry → World → Option NodeKey
picked entries world = picked_at world.graph.tree entries world.pointer

-- a node and its ancestors, from the outermost
abbrev pub chain_of : Scene → Option NodeKey → List NodeKey
chain_of scene None = []
chain_of scene (Some key) = path scene.nodes key

-- the nodes that the pointer is over: the picked one and its ancestors
abbrev pub under_pointer : List Entry → World → List NodeKey
under_pointer entries world = chain_of world.graph.tree (picked entries world)

abbrev pub hovered : List Entry → World → World
hovered entries world = with_graph (record world.graph { hover = under_pointer entries world }) world

-- those that the pointer left are told, the deepest first, and then those that it came to, the outermost first
abbrev pub crossings : List NodeKey → List NodeKey → List Event
crossings old new = sent_to MouseExited (reverse (missing old new)) ++ sent_to MouseEntered (missing new old)

abbrev pub crossed : List Entry → World → List Event
crossed entries world = crossings world.graph.hover (under_pointer entries world)

-- the button is down: only the node that was pressed is told, and the pointer is over what it was over
abbrev pub dragged : World → Started
dragged world = record { world = world; events = sent_if MouseDragged world.graph.target }

-- the button is up: the node under the pointer is told last
abbrev pub roamed : List Entry → World → Started
roamed entries world =
    record {
      world = hovered entries world;
      events = crossed entries world ++ sent_if MouseMoved (picked entries world);
    }

abbrev pub moved : List Entry → World → Started
moved entries world = if world.button then dragged world else roamed entries world

abbrev pub pointed_at : World → ℤ → ℤ → World
pointed_at world x y = record world { pointer = Some (x, y) }

unfoldable pub move_to : List Entry → List ℕ → List ℕ → World → Result Started Refusal
move_to entries x y world =
    and_then (or_word Value (coordinate_of x)) (λ (x : ℤ).
    and_then (or_word Value (coordinate_of y)) (λ (y : ℤ).
    Ok (moved entries (pointed_at world x y))))
