-- The node that takes the focus next (JavaFX, focus traversal in the order of the picture).
use Rattle.std.specs.Prelude.{ℕ, ◌+◌, Bool, ◌&&◌, not, List, ◌++◌, reverse, take, drop, Option, Some, None, position, if◌then◌else◌}
use Rattle.std.specs.List.{find}
use Rattle.std.specs.Option.{option_map}
use Rattle.fx_base.specs.declared.keys.NodeKey.{NodeKey}
use Rattle.fx_tree.specs.Scene.{Scene, is_same}
use Rattle.fx_picture.specs.declared.entries.Entry.{Entry}
use Rattle.fx_focus.specs.Attached.{is_attached}

abbrev pub takes_focus : Scene → Entry → Bool
takes_focus scene entry = (entry.focusable && not entry.disabled) && is_attached scene entry.key

-- where the node with the focus stands
abbrev pub place_of : List Entry → Option NodeKey → Option ℕ
place_of entries None = None
place_of entries (Some key) = position (λ (entry : Entry). is_same entry.key key) entries

-- the order in which others are asked: behind the one at this place, and then from the first up to it
abbrev pub onward : List Entry → Option ℕ → List Entry
onward entries None = entries
onward entries (Some place) = drop (place + 1) entries ++ take (place + 1) entries

-- before the one at this place, and then from the last down to it
abbrev pub backward : List Entry → Option ℕ → List Entry
backward entries None = reverse entries
backward entries (Some place) = reverse (take place entries) ++ reverse (drop place entries)

-- the first that takes the focus
abbrev pub first_key : Scene → List Entry → Option NodeKey
first_key scene entries = option_map (λ (entry : Entry). entry.key) (find (takes_focus scene) entries)

abbrev pub next_focus : Scene → List Entry → Option NodeKey → Bool → Option NodeKey
next_focus scene entries now back =
    first_key scene (if back then backward entries (place_of entries now) else onward entries (place_of entries now))
