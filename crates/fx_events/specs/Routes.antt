-- Which nodes an event passes.
-- Source: JavaFX 21 (javafx.event.EventDispatchChain, and MouseEvent on entered and exited).
use Rattle.std.specs.Prelude.{Bool, true, false, if◌then◌else◌, List, [], ◌∷◌}
use Rattle.fx_base.specs.declared.keys.NodeKey.{NodeKey}
use Rattle.fx_tree.specs.Scene.{Node, is_alive, path}
use Rattle.fx_events.specs.declared.kinds.EventKind.{EventKind}
use Rattle.fx_events.specs.declared.kinds.EventKind.TheVariants.{MouseEntered, MouseExited}

-- the pointer enters and leaves each node by itself
abbrev pub is_of_one_node : EventKind → Bool
is_of_one_node MouseEntered = true
is_of_one_node MouseExited = true
is_of_one_node others = false

-- from the topmost ancestor down to the target, where the target is alive
abbrev pub route_of : List Node → EventKind → NodeKey → List NodeKey
route_of nodes on target =
    if is_alive nodes target then (if is_of_one_node on then target ∷ [] else path nodes target) else []
