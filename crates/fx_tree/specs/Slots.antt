-- How the living nodes stand in slots, each with a link to its parent.
use Rattle.std.specs.Prelude.{ℕ, zero, suc, ◌-◌, ◌==◌, ◌≡◌, ◌<◌, ◌≤◌, nat_lt, Bool, true, false, if◌then◌else◌, ◌&&◌, ◌||◌, not, List, [], length, insert, Option, Some, None, is_some, count_by, slice_index_or, position}
use Rattle.std.specs.List.{filter_map, range_with_len, list_all}
use Rattle.fx_base.specs.declared.keys.NodeKey.{NodeKey}
use Rattle.fx_tree.specs.declared.TreeError.{TreeError}
use Rattle.fx_tree.specs.declared.TreeError.TheVariants.{StaleKey, WouldLoop, HasParent, Attached, Place, Depth}
use Rattle.fx_tree.specs.declared.nodes.Stored.{Stored}
use Rattle.fx_tree.specs.Scene.{Node, Scene, is_same, has, without, is_once, line_in, IsLine}
use Rattle.fx_tree.specs.Refusals.{refused, is_held}

-- what the slot holds, if it is of this birth
abbrev pub of_birth : ℕ → Option Stored → Option Stored
of_birth birth None = None
of_birth birth (Some stored) = if stored.birth == birth then Some stored else None

-- what is kept of the node with this key
unfoldable pub node_at : List (Option Stored) → NodeKey → Option Stored
node_at slots key = of_birth key.birth (slice_index_or slots key.slot None)

unfoldable pub alive_at : List (Option Stored) → NodeKey → Bool
alive_at slots key = is_some (node_at slots key)

abbrev pub parent_in : Option Stored → Option NodeKey
parent_in None = None
parent_in (Some stored) = stored.parent

abbrev pub children_in : Option Stored → List NodeKey
children_in None = []
children_in (Some stored) = stored.children

unfoldable pub up_at : List (Option Stored) → NodeKey → Option NodeKey
up_at slots key = parent_in (node_at slots key)

unfoldable pub below_at : List (Option Stored) → NodeKey → List NodeKey
below_at slots key = children_in (node_at slots key)

abbrev pub line_at : List (Option Stored) → NodeKey → List NodeKey
line_at slots key = line_in 64 (up_at slots) (Some key)

-- the subtree has at most so many levels
unfoldable pub fits_in : ℕ → (NodeKey → List NodeKey) → NodeKey → Bool
fits_in zero below key = false
fits_in (suc levels) below key = list_all (fits_in levels below) (below key)

-- the node in a slot
abbrev pub seen : ℕ → Option Stored → Option Node
seen slot None = None
seen slot (Some stored) =
    Some (record { key = record { slot = slot; birth = stored.birth }; children = stored.children })

unfoldable pub seen_at : List (Option Stored) → ℕ → Option Node
seen_at slots slot = seen slot (slice_index_or slots slot None)

-- the slot holds this birth number
abbrev pub holds_birth : ℕ → Option Stored → Bool
holds_birth birth None = false
holds_birth birth (Some stored) = stored.birth == birth

abbrev pub seen_in : List (Option Stored) → Option ℕ → Option Node
seen_in slots None = None
seen_in slots (Some slot) = seen_at slots slot

-- the node of this birth number, if a slot holds it
unfoldable pub node_born : List (Option Stored) → ℕ → Option Node
node_born slots birth = seen_in slots (position (holds_birth birth) slots)

-- the nodes in order of birth, where this is the last birth number
unfoldable pub nodes_in : List (Option Stored) → ℕ → List Node
nodes_in slots born = filter_map (node_born slots) (range_with_len 1 born)

abbrev pub scene_of : List (Option Stored) → Option NodeKey → ℕ → Scene
scene_of slots root born = record { nodes = nodes_in slots born; root = root; born = born }

-- links to parents and lists of children agree, and lead up to a topmost node
pub record IsForest (slots : List (Option Stored)) : Type 0 where
  pub single : (one other : ℕ) (a b : Node) → seen_at slots one ≡ Some a → seen_at slots other ≡ Some b
      → a.key.birth ≡ b.key.birth → one ≡ other
  pub up : (key parent : NodeKey) → up_at slots key ≡ Some parent → has (below_at slots parent) key ≡ true
  pub down : (key parent : NodeKey) → has (below_at slots parent) key ≡ true → up_at slots key ≡ Some parent
  pub held : (key parent : NodeKey) → has (below_at slots parent) key ≡ true → alive_at slots key ≡ true
  pub once : (key : NodeKey) → is_once (below_at slots key) ≡ true
  pub lines : (key : NodeKey) → (keys : List NodeKey) × (length keys ≤ 64) × IsLine (up_at slots) (Some key) keys

-- the birth numbers were given, and as many nodes are listed as slots are filled
pub record IsNumbered (slots : List (Option Stored)) (born : ℕ) : Type 0 where
  pub given : (slot : ℕ) (node : Node) → seen_at slots slot ≡ Some node → (0 < node.key.birth) × (node.key.birth ≤ born)
  pub counted : length (nodes_in slots born) ≡ count_by is_some slots

-- the root is alive and has no parent
abbrev pub IsTopmost : List (Option Stored) → Option NodeKey → Type 0
IsTopmost slots root =
    (key : NodeKey) → root ≡ Some key → (alive_at slots key ≡ true) × (up_at slots key ≡ None)

-- what is true of the slots, the root and the last birth number
pub record IsTree (slots : List (Option Stored)) (root : Option NodeKey) (born : ℕ) : Type 0 where
  pub forest : IsForest slots
  pub numbered : IsNumbered slots born
  pub topmost : IsTopmost slots root
  pub few : count_by is_some slots ≤ 4096

-- when a node may not be attached, by what is kept of it
unfoldable pub attach_refused : List (Option Stored) → Option NodeKey → NodeKey → NodeKey → ℕ → Option TreeError
attach_refused slots root parent child place =
    refused (not (alive_at slots parent) || not (alive_at slots child)) StaleKey
    (refused (has (line_at slots parent) child) WouldLoop
    (refused (is_some (up_at slots child)) HasParent
    (refused (is_held root child) Attached
    (refused (nat_lt (length (below_at slots parent)) place) Place
    (refused (not (fits_in (64 - length (line_at slots parent)) (below_at slots) child)) Depth None)))))

-- the child has this parent, and stands at this place of its list
pub record IsLinked (old new : List (Option Stored)) (parent child : NodeKey) (place : ℕ) : Type 0 where
  pub up : (key : NodeKey) → up_at new key ≡ (if is_same key child then Some parent else up_at old key)
  pub below : (key : NodeKey)
      → below_at new key ≡ (if is_same key parent then insert (below_at old key) place child else below_at old key)
  pub alive : (key : NodeKey) → alive_at new key ≡ alive_at old key

-- the child has no parent, and stands in no list
pub record IsUnlinked (old new : List (Option Stored)) (child : NodeKey) : Type 0 where
  pub up : (key : NodeKey) → up_at new key ≡ (if is_same key child then None else up_at old key)
  pub below : (key : NodeKey) → below_at new key ≡ without child (below_at old key)
  pub alive : (key : NodeKey) → alive_at new key ≡ alive_at old key

-- the node isn't alive, and all others stay as they were
pub record IsFreed (old new : List (Option Stored)) (key : NodeKey) : Type 0 where
  pub up : (other : NodeKey) → up_at new other ≡ (if is_same other key then None else up_at old other)
  pub below : (other : NodeKey) → below_at new other ≡ (if is_same other key then [] else below_at old other)
  pub alive : (other : NodeKey) → alive_at new other ≡ (alive_at old other && not (is_same other key))

-- the node and all below it aren't alive, and all others stay as they were
pub record IsPruned (old new : List (Option Stored)) (top : NodeKey) : Type 0 where
  pub forest : IsForest new
  pub gone : (slot : ℕ) (node : Node) → seen_at old slot ≡ Some node → has (line_at old node.key) top ≡ true
      → seen_at new slot ≡ None
  pub kept : (slot : ℕ)
      → ((node : Node) → seen_at old slot ≡ Some node → has (line_at old node.key) top ≡ false)
      → seen_at new slot ≡ seen_at old slot
  pub topmost : (root : Option NodeKey) → is_held root top ≡ false → IsTopmost old root → IsTopmost new root
  pub numbered : (born : ℕ) → IsNumbered old born → IsNumbered new born
  pub fewer : count_by is_some new ≤ count_by is_some old
