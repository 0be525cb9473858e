-- What is true over all calls on a tree.
use Rattle.std.specs.Prelude.{ℕ, ◌+◌, ◌≡◌, ◌≤◌, true, false, List, [], ◌∷◌, ◌++◌, length, map}
use Rattle.std.specs.List.{range_with_len}
use Rattle.fx_base.specs.declared.keys.NodeKey.{NodeKey}
use Rattle.fx_tree.specs.Scene as spec

-- calls lead from the first scene to this one, and these nodes were made on the way
pub data LeadsTo (first : spec.Scene) : List NodeKey → spec.Scene → Type 0 where
  none : LeadsTo first [] first
  made : {keys : List NodeKey} {scene : spec.Scene} (key : NodeKey)
      → key.birth ≡ scene.born + 1 → LeadsTo first keys scene
      → LeadsTo first (keys ++ key ∷ []) (spec.after_make scene key)
  rooted : {keys : List NodeKey} {scene : spec.Scene} (key : NodeKey)
      → LeadsTo first keys scene → LeadsTo first keys (spec.after_set_root scene key)
  attached : {keys : List NodeKey} {scene : spec.Scene} (parent child : NodeKey) (place : ℕ)
      → LeadsTo first keys scene → LeadsTo first keys (spec.after_attach scene parent child place)
  detached : {keys : List NodeKey} {scene : spec.Scene} (child : NodeKey)
      → LeadsTo first keys scene → LeadsTo first keys (spec.after_detach scene child)
  dropped : {keys : List NodeKey} {scene : spec.Scene} (key : NodeKey)
      → LeadsTo first keys scene → LeadsTo first keys (spec.after_drop scene key)

-- the nodes that are made from the start on have the birth numbers 1, 2, 3 and so on
abbrev pub EachBirthOnce : Type 0
EachBirthOnce =
    (keys : List NodeKey) (scene : spec.Scene) → LeadsTo spec.nothing keys scene
    → map (λ (key : NodeKey). key.birth) keys ≡ range_with_len 1 (length keys)

-- a node whose birth number was given and who isn't alive is never alive again
abbrev pub DeadStayDead : Type 0
DeadStayDead =
    (first later : spec.Scene) (keys : List NodeKey) (key : NodeKey) → LeadsTo first keys later
    → key.birth ≤ first.born → spec.is_alive first.nodes key ≡ false → spec.is_alive later.nodes key ≡ false

-- no node stands twice on the path to a node
abbrev pub PathsMeetOnce : Type 0
PathsMeetOnce = (scene : spec.Scene) (key : NodeKey) → spec.IsSound scene → spec.is_once (spec.path scene.nodes key)
    ≡ true

-- no node stands twice in a subtree
abbrev pub SubtreesMeetOnce : Type 0
SubtreesMeetOnce = (scene : spec.Scene) (key : NodeKey) → spec.IsSound scene
    → spec.is_once (spec.subtree scene.nodes key) ≡ true
