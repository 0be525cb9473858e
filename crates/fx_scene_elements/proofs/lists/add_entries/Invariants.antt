-- what the parts so far ask for, the names that are known, and whether a node is read first
use Rattle.std.proofs.Common.{◌≡◌, ◌++◌, take}
use Rattle.fx_doc.specs.Views.{nodes_of}
use Rattle.fx_scene_elements.specs.Added.{stops}
use Rattle.fx_scene_elements.specs.Lists.{list_asked}
use Rattle.fx_scene_things.specs.Known.{known}
use Rattle.fx_scene_values.specs.Views.{scope_view}
use Rattle.fx_scene_elements.proofs.lists.add_entries.Given as goal

abbrev pub invariant-loop-item : goal.invariant-loop-item
invariant-loop-item l =
    (l.acts.items ≡ l.fn.acts.items
    ++ (list_asked l.entry (scope_view l.scope) (known l.fn.names) l.node (nodes_of (take l.item-index l.content))).acts)
    × (known l.names
    ≡ (list_asked l.entry (scope_view l.scope) (known l.fn.names) l.node (nodes_of (take l.item-index l.content))).names)
    × (l.stopped ≡ stops
    (list_asked l.entry (scope_view l.scope) (known l.fn.names) l.node (nodes_of (take l.item-index l.content))).acts)
