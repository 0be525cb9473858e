-- the items so far
use Rattle.std.proofs.Common.{◌≡◌, ◌++◌, map, take, List, ℕ, Bor}
use Rattle.fx_scene_read.specs.Sheets.{item_deeds}
use Rattle.fx_scene_things.specs.Known.{known}
use Rattle.fx_scene_values.specs.Views.{scope_view}
use Rattle.fx_scene_read.proofs.sheets.add_items.Given as goal

abbrev pub invariant-loop-item : goal.invariant-loop-item
invariant-loop-item l =
    l.deeds.items ≡ l.fn.deeds.items ++ item_deeds (scope_view l.scope) (known l.names) l.node (map (λ (item : Bor (List ℕ)). item.now) (take l.item-index l.items))
