-- what the parts so far ask for, the names that are known, and whether the next part is the first
use Rattle.std.proofs.Common.{◌≡◌, ◌++◌, take}
use Rattle.fx_doc.specs.Views.{nodes_of}
use Rattle.fx_doc_grammar.specs.Machine.{is_nothing}
use Rattle.fx_scene_elements.specs.Held.{held_asked}
use Rattle.fx_scene_elements.specs.Views.{target_view}
use Rattle.fx_scene_things.specs.Known.{known}
use Rattle.fx_scene_values.specs.Views.{scope_view}
use Rattle.fx_scene_elements.proofs.held.add_held.Given as goal

abbrev pub invariant-loop-item : goal.invariant-loop-item
invariant-loop-item l =
    (l.acts.items ≡ l.fn.acts.items ++ (held_asked (scope_view l.scope) l.node l.name (target_view l.target)
    (known l.fn.names) (nodes_of (take l.item-index l.content))).acts)
    × (known l.names ≡ (held_asked (scope_view l.scope) l.node l.name (target_view l.target) (known l.fn.names)
    (nodes_of (take l.item-index l.content))).names)
    × (l.first ≡ is_nothing (nodes_of (take l.item-index l.content)))
