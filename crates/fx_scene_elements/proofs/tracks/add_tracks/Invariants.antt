-- what is told of the parts so far
use Rattle.std.proofs.Common.{◌≡◌, ◌++◌, length, take}
use Rattle.fx_doc.specs.Views.{nodes_of}
use Rattle.fx_scene_elements.specs.Added.{stops}
use Rattle.fx_scene_elements.specs.Tracks.{tracks_told}
use Rattle.fx_scene_things.specs.Known.{known}
use Rattle.fx_scene_values.specs.Views.{scope_view}
use Rattle.fx_scene_elements.proofs.tracks.add_tracks.Given as goal

abbrev pub invariant-loop-item : goal.invariant-loop-item
invariant-loop-item l =
    (l.acts.items ≡ l.fn.acts.items ++ (tracks_told (scope_view l.scope) l.want (length l.earlier) (known l.fn.names)
    (nodes_of (take l.item-index l.content))).acts)
    × (l.tracks.items ≡ (tracks_told (scope_view l.scope) l.want (length l.earlier) (known l.fn.names)
    (nodes_of (take l.item-index l.content))).tracks)
    × (known l.names ≡ (tracks_told (scope_view l.scope) l.want (length l.earlier) (known l.fn.names)
    (nodes_of (take l.item-index l.content))).names)
    × (l.stopped ≡ stops (tracks_told (scope_view l.scope) l.want (length l.earlier) (known l.fn.names)
    (nodes_of (take l.item-index l.content))).acts)
