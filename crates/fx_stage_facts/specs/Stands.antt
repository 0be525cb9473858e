-- Where nodes stand in a list of nodes, and whether they are disabled.
use Rattle.std.specs.Prelude.{ℕ, ◌≡◌, Bool, true, false, ◌||◌, List, [], ◌∷◌, ◌++◌, map, slice_get, Option, Some, None}
use Rattle.std.specs.List.{position}
use Rattle.std.specs.Option.{option_map_or}
use Rattle.fx_base.specs.declared.keys.NodeKey.{NodeKey}
use Rattle.fx_tree.specs.Scene.{is_once, is_same, parent_of}
use Rattle.fx_stage_model.specs.World.{World}
use Rattle.fx_stage_facts.specs.declared.stands.Stand.{Stand}
use Rattle.fx_stage_facts.specs.Attached.{attached_keys}
use Rattle.fx_stage_facts.specs.Values.{is_set_disabled}

abbrev pub keys_of : List Stand → List NodeKey
keys_of stands = map (λ (stand : Stand). stand.key) stands

-- no node stands twice among these
abbrev pub AreOnce : List Stand → Type 0
AreOnce stands = is_once (keys_of stands) ≡ true

-- the place of a node among these
abbrev pub place_of : List Stand → Option NodeKey → Option ℕ
place_of stands None = None
place_of stands (Some key) = position (λ (stand : Stand). is_same stand.key key) stands

abbrev pub is_disabled_at : List Stand → Option ℕ → Bool
is_disabled_at stands None = false
is_disabled_at stands (Some place) = option_map_or (λ (stand : Stand). stand.disabled) (slice_get stands place) false

abbrev pub stand_below : World → List Stand → NodeKey → Option ℕ → Stand
stand_below world stands key parent =
    record { key = key; parent = parent; disabled = is_set_disabled world key || is_disabled_at stands parent }

-- A node behind these: its parent is one of them, by its place, and it is disabled where it is so itself or its parent
-- is.
abbrev pub stand_of : World → List Stand → NodeKey → Stand
stand_of world stands key = stand_below world stands key (place_of stands (parent_of world.graph.tree.nodes key))

-- these, and the nodes of these keys behind them
abbrev pub stands_from : World → List Stand → List NodeKey → List Stand
stands_from world stands [] = stands
stands_from world stands (key ∷ keys) = stands_from world (stands ++ stand_of world stands key ∷ []) keys

-- the nodes that stand in the scene
abbrev pub stands_of : World → List Stand
stands_of world = stands_from world [] (attached_keys world)
