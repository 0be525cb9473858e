-- The button of the pointer goes down and up.
-- Source: JavaFX 21 (javafx.scene.input.MouseEvent). Own: who takes the focus, that a click is on one node alone, and
-- that the pointer's button fires a Button behind its click.
use Rattle.std.specs.Prelude.{Bool, true, false, not, ◌&&◌, List, [], ◌∷◌, ◌++◌, Option, Some, None, Result, Ok, if◌then◌else◌}
use Rattle.std.specs.List.{find, list_any}
use Rattle.fx_base.specs.declared.keys.NodeKey.{NodeKey}
use Rattle.fx_events.specs.declared.kinds.EventKind.TheVariants.{Action, MouseClicked, MousePressed, MouseReleased}
use Rattle.fx_base.specs.Answers.{or_else}
use Rattle.fx_picture.specs.declared.entries.Entry.{Entry}
use Rattle.fx_stage_model.specs.Answers.{unless}
use Rattle.fx_stage_model.specs.Graphs.{Graph}
use Rattle.fx_stage_model.specs.World.{World}
use Rattle.fx_stage_types.specs.Tables.{NodeTable}
use Rattle.fx_stage_types.specs.declared.refusals.Refusal.{Refusal}
use Rattle.fx_stage_types.specs.declared.refusals.Refusal.TheVariants.{Button}
use Rattle.fx_tree.specs.Refusals.{is_held}
use Rattle.fx_tree.specs.Scene.{Node, is_same, line, path}
use Rattle.fx_event_lines.specs.Hovering.{crossed, hovered, picked}
use Rattle.fx_event_lines.specs.Keys.{button_at}
use Rattle.fx_event_lines.specs.Started.{Started, quietly, sent, sent_if}
use Rattle.fx_event_lines.specs.declared.events.Event.{Event}

-- an entry of the picture that can take the focus
abbrev pub is_focusable : List Entry → NodeKey → Bool
is_focusable entries key = list_any (λ (entry : Entry). is_same entry.key key && entry.focusable) entries

-- the nearest node that can take the focus, from this one up
abbrev pub nearest_focusable : List Entry → List Node → NodeKey → Option NodeKey
nearest_focusable entries nodes key = find (is_focusable entries) (line nodes key)

-- the button holds the node and its ancestors
abbrev pub held_from : List Entry → NodeKey → Graph → Graph
held_from entries key graph =
    record graph {
      pressed = path graph.tree.nodes key;
      target = Some key;
      focus = or_else (nearest_focusable entries graph.tree.nodes key) graph.focus;
    }

abbrev pub pressed_nowhere : World → Started
pressed_nowhere world = quietly (record world { button = true })

abbrev pub pressed_at : List Entry → NodeKey → World → Started
pressed_at entries key world =
    record {
      world = record world { button = true; graph = held_from entries key world.graph };
      events = sent MousePressed key ∷ [];
    }

abbrev pub pressed_on : List Entry → Option NodeKey → World → Started
pressed_on entries None world = pressed_nowhere world
pressed_on entries (Some key) world = pressed_at entries key world

unfoldable pub press : List Entry → World → Result Started Refusal
press entries world = unless world.button Button (Ok (pressed_on entries (picked entries world) world))

-- the pressed node is clicked if the pointer is still on it, and a click fires a Button
abbrev pub click_on : NodeTable → Option NodeKey → NodeKey → List Event
click_on table under key =
    if is_held under key then sent MouseClicked key ∷ sent_if Action (button_at table (Some key)) else []

-- what the pressed node is told, if there is one
abbrev pub release_events : NodeTable → Option NodeKey → Option NodeKey → List Event
release_events table under None = []
release_events table under (Some key) = sent MouseReleased key ∷ click_on table under key

-- the button holds no node
abbrev pub let_go : World → World
let_go world = record world { button = false; graph = record world.graph { pressed = []; target = None } }

abbrev pub released : List Entry → World → Started
released entries world =
    record {
      world = hovered entries (let_go world);
      events = release_events world.graph.table (picked entries world) world.graph.target ++ crossed entries world;
    }

unfoldable pub release : List Entry → World → Result Started Refusal
release entries world = unless (not world.button) Button (Ok (released entries world))
