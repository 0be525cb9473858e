-- Lines that move the focus.
-- Source: JavaFX 21 (javafx.scene.Node, requestFocus; focus traversal), with what the last picture says of each node.
use Rattle.std.specs.Prelude.{ℕ, Bool, not, ◌&&◌, List, Option, Some, Result, Ok, if◌then◌else◌}
use Rattle.std.specs.List.{list_any}
use Rattle.fx_base.specs.declared.keys.NodeKey.{NodeKey}
use Rattle.fx_focus.specs.Attached.{is_attached}
use Rattle.fx_base.specs.Answers.{or_else}
use Rattle.fx_focus.specs.Focus.{next_focus}
use Rattle.fx_picture.specs.declared.entries.Entry.{Entry}
use Rattle.fx_stage_model.specs.Answers.{and_then}
use Rattle.fx_stage_model.specs.Looking.{find_node}
use Rattle.fx_stage_model.specs.World.{World, with_graph}
use Rattle.fx_stage_types.specs.declared.refusals.Refusal.{Refusal}
use Rattle.fx_tree.specs.Scene.{Scene, is_same}
use Rattle.fx_event_lines.specs.Started.{Started, quietly}

abbrev pub with_focus : Option NodeKey → World → World
with_focus key world = with_graph (record world.graph { focus = key }) world

-- an entry of the picture that isn't disabled
abbrev pub is_active : List Entry → NodeKey → Bool
is_active entries key = list_any (λ (entry : Entry). is_same entry.key key && not entry.disabled) entries

-- it is one, and the node still stands in the scene
abbrev pub may_have_focus : Scene → List Entry → NodeKey → Bool
may_have_focus scene entries key = is_active entries key && is_attached scene key

abbrev pub focused_on : List Entry → World → NodeKey → Started
focused_on entries world key =
    if may_have_focus world.graph.tree entries key then quietly (with_focus (Some key) world) else quietly world

unfoldable pub focus_on : List Entry → List (List ℕ) → World → Result Started Refusal
focus_on entries path world =
    and_then (find_node world path) (λ (key : NodeKey). Ok (focused_on entries world key))

-- the next node takes the focus, or the one before it; nothing where none can
unfoldable pub traversed : List Entry → Bool → World → Started
traversed entries back world =
    quietly
    (with_focus (or_else (next_focus world.graph.tree entries world.graph.focus back) world.graph.focus) world)
