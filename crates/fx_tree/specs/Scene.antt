-- The scene as contracts see it: its living nodes with their children, and its root. Source: the scene
-- graph of JavaFX 21 (javafx.scene.Node, javafx.scene.Parent).
use Rattle.std.specs.Prelude.{ℕ, zero, suc, ◌+◌, ◌==◌, ◌≡◌, ◌≢◌, ◌<◌, ◌≤◌, nat_lt, Bool, true, false, if◌then◌else◌, ◌&&◌, ◌||◌, not, List, [], ◌∷◌, ◌++◌, length, map, filter, reverse, insert, All, AllPairs, Contains, Option, Some, None, is_some, unwrap_or}
use Rattle.std.specs.Option.{option_map}
use Rattle.std.specs.List.{find, list_any, flat_map}
use Rattle.fx_base.specs.declared.keys.NodeKey.{NodeKey}

-- a living node: its key, and its children in their order
pub record Node : Type 0 where
  pub key : NodeKey
  pub children : List NodeKey

-- the living nodes in order of birth, the root if there is one, and the last birth number that was given
pub record Scene : Type 0 where
  pub nodes : List Node
  pub root : Option NodeKey
  pub born : ℕ

-- both have one slot and one birth number
abbrev pub is_same : NodeKey → NodeKey → Bool
is_same one other = (one.slot == other.slot) && (one.birth == other.birth)

-- the key is one of these
unfoldable pub has : List NodeKey → NodeKey → Bool
has [] key = false
has (first ∷ rest) key = is_same first key || has rest key

-- these keys without this one
abbrev pub without : NodeKey → List NodeKey → List NodeKey
without key keys = filter (λ (other : NodeKey). not (is_same other key)) keys

-- the children of a living node
unfoldable pub children_of : List Node → NodeKey → Option (List NodeKey)
children_of nodes key = option_map (λ (node : Node). node.children) (find (λ (node : Node). is_same node.key key) nodes)

-- the node that has this one as a child
unfoldable pub parent_of : List Node → NodeKey → Option NodeKey
parent_of nodes key = option_map (λ (node : Node). node.key) (find (λ (node : Node). has node.children key) nodes)

abbrev pub is_alive : List Node → NodeKey → Bool
is_alive nodes key = is_some (children_of nodes key)

-- from a node up by parents, at most so many nodes
unfoldable pub line_in : ℕ → (NodeKey → Option NodeKey) → Option NodeKey → List NodeKey
line_in zero up key = []
line_in (suc most) up None = []
line_in (suc most) up (Some key) = key ∷ line_in most up (up key)

-- a node and all its ancestors, from the node up to the topmost
unfoldable pub line : List Node → NodeKey → List NodeKey
line nodes key = line_in 64 (parent_of nodes) (Some key)

-- these are the node, its parent, the parent's parent and so on, and the last one has no parent
unfoldable pub IsLine : (NodeKey → Option NodeKey) → Option NodeKey → List NodeKey → Type 0
IsLine up None [] = Unit {0}
IsLine up None (first ∷ rest) = ⊥
IsLine up (Some key) [] = ⊥
IsLine up (Some key) (first ∷ rest) = (first ≡ key) × IsLine up (up first) rest

-- the nodes from the topmost ancestor to this one
abbrev pub path : List Node → NodeKey → List NodeKey
path nodes key = reverse (line nodes key)

-- the node is the upper one or stands below it
abbrev pub is_within : List Node → NodeKey → NodeKey → Bool
is_within nodes upper key = has (line nodes key) upper

-- a path through the parent to a node of the child's subtree would have over 64 nodes
unfoldable pub is_too_deep : List Node → NodeKey → NodeKey → Bool
is_too_deep nodes parent child =
    list_any
    (λ (node : Node).
    is_within nodes child node.key && nat_lt 64 (length (line nodes parent) + length (line nodes node.key)))
    nodes

-- a node, and then the subtrees of its children in their order, of at most so many levels
unfoldable pub subtree_in : ℕ → (NodeKey → List NodeKey) → NodeKey → List NodeKey
subtree_in zero below key = []
subtree_in (suc levels) below key = key ∷ flat_map (subtree_in levels below) (below key)

-- the children, none of a node that isn't alive
abbrev pub children_or_none : List Node → NodeKey → List NodeKey
children_or_none nodes key = unwrap_or (children_of nodes key) []

-- a node and all that stand below it, in pre-order
abbrev pub subtree : List Node → NodeKey → List NodeKey
subtree nodes key = subtree_in 64 (children_or_none nodes) key

-- nothing is alive, and no birth number was given
abbrev pub nothing : Scene
nothing = record { nodes = []; root = None; born = 0 }

-- a node without parent and children is alive too
abbrev pub after_make : Scene → NodeKey → Scene
after_make scene key =
    record { nodes = scene.nodes ++ record { key = key; children = [] } ∷ []; root = scene.root; born = key.birth }

abbrev pub after_set_root : Scene → NodeKey → Scene
after_set_root scene key = record { nodes = scene.nodes; root = Some key; born = scene.born }

-- the parent has the child at this place, and what stood there and behind it after it
abbrev pub with_child : NodeKey → NodeKey → ℕ → Node → Node
with_child parent child place node =
    record {
      key = node.key;
      children = if is_same node.key parent then insert node.children place child else node.children;
    }

abbrev pub after_attach : Scene → NodeKey → NodeKey → ℕ → Scene
after_attach scene parent child place =
    record { nodes = map (with_child parent child place) scene.nodes; root = scene.root; born = scene.born }

abbrev pub without_child : NodeKey → Node → Node
without_child child node = record { key = node.key; children = without child node.children }

-- no node has this child
abbrev pub after_detach : Scene → NodeKey → Scene
after_detach scene child =
    record { nodes = map (without_child child) scene.nodes; root = scene.root; born = scene.born }

-- the node and all below it aren't alive, and all others stay as they were
abbrev pub after_drop : Scene → NodeKey → Scene
after_drop scene key =
    record {
      nodes = filter (λ (node : Node). not (is_within scene.nodes key node.key)) scene.nodes;
      root = scene.root;
      born = scene.born;
    }

-- no key stands twice among these
unfoldable pub is_once : List NodeKey → Bool
is_once [] = true
is_once (first ∷ rest) = not (has rest first) && is_once rest

-- what is true of every scene
pub record IsSound (scene : Scene) : Type 0 where
  -- birth numbers rise from 1 on, and none is above the last one given
  pub rising : AllPairs (λ (one other : Node). one.key.birth < other.key.birth) scene.nodes
  pub given : All (λ (node : Node). node.key.birth ≤ scene.born) scene.nodes
  pub born : All (λ (node : Node). 0 < node.key.birth) scene.nodes
  -- slots differ
  pub apart : AllPairs (λ (one other : Node). one.key.slot ≢ other.key.slot) scene.nodes
  pub few : length scene.nodes ≤ 4096
  -- children are alive
  pub alive : (node : Node) (key : NodeKey) → Contains scene.nodes node → has node.children key ≡ true
      → is_alive scene.nodes key ≡ true
  -- no node stands in two lists, nor twice in one
  pub one_list : (one other : Node) (key : NodeKey) → Contains scene.nodes one → Contains scene.nodes other
      → has one.children key ≡ true → has other.children key ≡ true → one ≡ other
  pub once : (node : Node) → Contains scene.nodes node → is_once node.children ≡ true
  -- the root is alive and has no parent
  pub topmost : (key : NodeKey) → scene.root ≡ Some key
      → (is_alive scene.nodes key ≡ true) × (parent_of scene.nodes key ≡ None)
  -- a node's line of at most 64 nodes ends at its topmost ancestor
  pub lines : (key : NodeKey) → is_alive scene.nodes key ≡ true
      → IsLine (parent_of scene.nodes) (Some key) (line scene.nodes key)
  -- and where a line may have more nodes than that, it is still this one
  pub shallow : (key : NodeKey) (most : ℕ) → is_alive scene.nodes key ≡ true → 64 ≤ most
      → line_in most (parent_of scene.nodes) (Some key) ≡ line scene.nodes key
