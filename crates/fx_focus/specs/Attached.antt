-- Which nodes stand in the scene.
use Rattle.std.specs.Prelude.{Bool, false, Option, Some, None}
use Rattle.fx_base.specs.declared.keys.NodeKey.{NodeKey}
use Rattle.fx_tree.specs.Scene.{Scene, is_within}

abbrev pub is_attached_at : Scene → Option NodeKey → NodeKey → Bool
is_attached_at scene None key = false
is_attached_at scene (Some root) key = is_within scene.nodes root key

-- the node is the root or stands below it
unfoldable pub is_attached : Scene → NodeKey → Bool
is_attached scene key = is_attached_at scene scene.root key
