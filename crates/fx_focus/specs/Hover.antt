-- What the pointer left, and what it came to.
use Rattle.std.specs.Prelude.{Bool, not, List, filter}
use Rattle.std.specs.List.{list_any}
use Rattle.fx_base.specs.declared.keys.NodeKey.{NodeKey}
use Rattle.fx_tree.specs.Scene.{is_same}

abbrev pub has_key : List NodeKey → NodeKey → Bool
has_key keys key = list_any (λ (other : NodeKey). is_same other key) keys

-- the keys that the others don't have
abbrev pub missing : List NodeKey → List NodeKey → List NodeKey
missing keys others = filter (λ (key : NodeKey). not (has_key others key)) keys
