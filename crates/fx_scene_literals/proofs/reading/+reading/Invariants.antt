-- what is made of the parts so far, the names that are known, and whether the next part is the first
use Rattle.std.proofs.Common.{◌≡◌, take}
use Rattle.fx_doc.specs.Views.{nodes_of}
use Rattle.fx_doc_grammar.specs.Machine.{is_nothing}
use Rattle.fx_scene_literals.specs.Literals.{read_in}
use Rattle.fx_scene_things.specs.Known.{known}
use Rattle.fx_scene_values.specs.Views.{scope_view}
use Rattle.fx_scene_literals.proofs.reading.+reading.Given as goal

abbrev pub invariant-read_content-loop-item : goal.invariant-read_content-loop-item
invariant-read_content-loop-item l =
    (l.found ≡ (read_in (scope_view l.scope) l.part l.fn.made (known l.fn.names) (nodes_of (take l.item-index l.content))).found)
    × (known l.names ≡ (read_in (scope_view l.scope) l.part l.fn.made (known l.fn.names) (nodes_of (take l.item-index l.content))).names)
    × (l.first ≡ is_nothing (nodes_of (take l.item-index l.content)))
