-- Keys, and the button that a key fires.
-- Source: JavaFX 21 (javafx.scene.Scene, key events; the space key fires a focused Button).
use Rattle.std.specs.Prelude.{ℕ, Bool, true, false, List, ◌++◌, codes, Option, Some, None, if◌then◌else◌}
use Rattle.std.specs.Str.{bytes_eq}
use Rattle.fx_base.specs.declared.keys.NodeKey.{NodeKey}
use Rattle.fx_events.specs.declared.kinds.EventKind.TheVariants.{Action, KeyPressed}
use Rattle.fx_base.specs.Answers.{or_else}
use Rattle.fx_kinds.specs.declared.classes.Class.{Class}
use Rattle.fx_kinds.specs.declared.classes.Class.TheVariants as class
use Rattle.fx_stage_model.specs.Graphs.{Graph}
use Rattle.fx_stage_model.specs.World.{World}
use Rattle.fx_stage_types.specs.declared.node_data.NodeData.{NodeData}
use Rattle.fx_stage_types.specs.Tables.{NodeTable, data_of}
use Rattle.fx_event_lines.specs.Started.{Started, sent_if}

abbrev pub is_button_class : Class → Bool
is_button_class class.Button = true
is_button_class _ = false

abbrev pub is_button : Option NodeData → Bool
is_button None = false
is_button (Some node) = is_button_class node.class

-- the node, if it is a Button
abbrev pub button_at : NodeTable → Option NodeKey → Option NodeKey
button_at table None = None
button_at table (Some key) = if is_button (data_of table key) then Some key else None

-- the Button that a key fires: with SPACE the one that has the focus
abbrev pub fired_by : List ℕ → Graph → Option NodeKey
fired_by word graph = if bytes_eq word (codes "SPACE") then button_at graph.table graph.focus else None

-- the node that has the focus is told, and else the root
unfoldable pub key_pressed : List ℕ → World → Started
key_pressed word world =
    record {
      world = world;
      events = sent_if KeyPressed (or_else world.graph.focus world.graph.tree.root)
          ++ sent_if Action (fired_by word world.graph);
    }
