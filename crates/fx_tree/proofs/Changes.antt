-- What each call leaves: that it is a tree, and which scene it is.
use Rattle.std.proofs.Common.{◌≡◌, ℕ, ◌-◌, ◌≤◌, Bool, true, false, not, cond, ◌||◌, List, length, map, filter, Option, Some, None, is_some, count_by, refl, sym, ◌∙◌, ap, inl, inr, ◌⊎◌, arith}
use Rattle.std.specs.Option.{option_map}
use Rattle.std.specs.List.{insert}
use Rattle.std.proofs.lemmas.Bool.{cases_Bool, both_ways, or_parts, not-false, ltb-false}
use Rattle.std.proofs.lemmas.Option.{none-some, same_Some}
use Rattle.fx_base.specs.declared.keys.NodeKey.{NodeKey}
use Rattle.fx_tree.specs.declared.nodes.Stored.{Stored}
use Rattle.fx_tree.specs.declared.TreeError.TheVariants.{StaleKey, HasParent, Attached, NoParent}
use Rattle.fx_tree.specs.Scene.{Node, is_same, has, without, is_alive, parent_of, children_of, line, with_child, without_child}
use Rattle.fx_tree.specs.Refusals.{refused, is_held, stale, root_refusal, detach_refusal, drop_refusal}
use Rattle.fx_tree.specs.Slots.{alive_at, up_at, below_at, node_at, children_in, line_at, fits_in, seen_at, nodes_in, scene_of, IsTree, IsLinked, IsUnlinked, IsPruned, attach_refused}
use Rattle.fx_tree.proofs.Keys.{is_same-refl}
use Rattle.fx_tree.proofs.Listing.{through, nodes_in-changed, filter_map-test, children_of-slots}
use Rattle.fx_tree.proofs.Forest.{nodes_in-edited, IsNumbered-edited, IsForest-linked, IsTopmost-linked, IsForest-unlinked, IsTopmost-unlinked}
use Rattle.fx_tree.proofs.Views.{none_from, refused-None, alive-slots, parent-slots, line-slots, fits_lines}

-- what is known where the child may be attached
pub record IsAllowed (slots : List (Option Stored)) (root : Option NodeKey) (parent child : NodeKey) (place : ℕ) : Type 0 where
  pub parent_alive : alive_at slots parent ≡ true
  pub child_alive : alive_at slots child ≡ true
  pub no_loop : has (line_at slots parent) child ≡ false
  pub topmost : up_at slots child ≡ None
  pub no_root : is_held root child ≡ false
  pub within : place ≤ length (below_at slots parent)
  pub fits : fits_in (64 - length (line_at slots parent)) (below_at slots) child ≡ true

pub allowed : (slots : List (Option Stored)) (root : Option NodeKey) (parent child : NodeKey) (place : ℕ)
    → attach_refused slots root parent child place ≡ None → IsAllowed slots root parent child place
unfolding attach_refused
allowed slots root parent child place free =
    let one = refused-None _ _ _ free in
    let two = refused-None _ _ _ one.1 in
    let three = refused-None _ _ _ two.1 in
    let four = refused-None _ _ _ three.1 in
    let five = refused-None _ _ _ four.1 in
    let six = refused-None _ _ _ five.1 in
    let alive = or_parts (not (alive_at slots parent)) (not (alive_at slots child)) one.0 in
    record {
      parent_alive = not-false (alive_at slots parent) alive.0;
      child_alive = not-false (alive_at slots child) alive.1;
      no_loop = two.0;
      topmost = none_from (up_at slots child) three.0;
      no_root = four.0;
      within = ltb-false (length (below_at slots parent)) place five.0;
      fits = not-false (fits_in (64 - length (line_at slots parent)) (below_at slots) child) six.0;
    }

held_not : (root : Option NodeKey) (key : NodeKey) → is_held root key ≡ false → root ≡ Some key → ⊥
held_not root key apart is = both_ways _ apart (ap (λ (o : Option NodeKey). is_held o key) is ∙ is_same-refl key)

module _ (old new : List (Option Stored)) (root : Option NodeKey) (born : ℕ) (tree : IsTree old root born) where
  pub IsTree-linked : (parent child : NodeKey) (place : ℕ) → IsAllowed old root parent child place → IsLinked old new parent child place
      → count_by is_some new ≡ count_by is_some old → IsTree new root born
  IsTree-linked parent child place is linked count =
      record {
        forest =
            IsForest-linked old new parent child place tree.forest linked is.topmost is.parent_alive is.child_alive is.no_loop
            (fits_lines old root born tree parent child is.topmost is.fits);
        numbered =
            IsNumbered-edited old new (λ n l. cond (is_same n parent) (insert l place child) l) linked.alive linked.below tree.forest.single born count tree.numbered;
        topmost =
            IsTopmost-linked old new parent child place tree.forest linked is.topmost is.parent_alive is.child_alive is.no_loop
            (fits_lines old root born tree parent child is.topmost is.fits) root (held_not root child is.no_root) tree.topmost;
        few = omega (arith, tree.few, count);
      }

  pub nodes_in-linked : (parent child : NodeKey) (place : ℕ) → IsLinked old new parent child place
      → nodes_in new born ≡ map (with_child parent child place) (nodes_in old born)
  nodes_in-linked parent child place linked =
      nodes_in-edited old new (λ n l. cond (is_same n parent) (insert l place child) l) linked.alive linked.below tree.forest.single born

  pub IsTree-unlinked : (child : NodeKey) → IsUnlinked old new child → count_by is_some new ≡ count_by is_some old → IsTree new root born
  IsTree-unlinked child unlinked count =
      record {
        forest = IsForest-unlinked old new child tree.forest unlinked;
        numbered = IsNumbered-edited old new (λ n l. without child l) unlinked.alive unlinked.below tree.forest.single born count tree.numbered;
        topmost = IsTopmost-unlinked old new child tree.forest unlinked root tree.topmost;
        few = omega (arith, tree.few, count);
      }

  pub nodes_in-unlinked : (child : NodeKey) → IsUnlinked old new child → nodes_in new born ≡ map (without_child child) (nodes_in old born)
  nodes_in-unlinked child unlinked =
      nodes_in-edited old new (λ n l. without child l) unlinked.alive unlinked.below tree.forest.single born

  pub IsTree-pruned : (key : NodeKey) → is_held root key ≡ false → IsPruned old new key → IsTree new root born
  IsTree-pruned key apart pruned =
      record {
        forest = pruned.forest;
        numbered = pruned.numbered born tree.numbered;
        topmost = pruned.topmost root apart tree.topmost;
        few = omega (arith, tree.few, pruned.fewer);
      }

  pub nodes_in-pruned : (key : NodeKey) → IsPruned old new key
      → nodes_in new born ≡ filter (λ node. not (has (line (nodes_in old born) node.key) key)) (nodes_in old born)
  nodes_in-pruned key pruned =
      nodes_in-changed (λ node. cond (not (has (line (nodes_in old born) node.key) key)) (Some node) None) old new tree.forest.single pruned.forest.single
      (λ node changed gives. keeps node changed (not (has (line (nodes_in old born) node.key) key)) gives)
      (λ slot. by_old slot (seen_at old slot) refl) born
      ∙ filter_map-test (λ node. not (has (line (nodes_in old born) node.key) key)) (nodes_in old born)
    where
      keeps : (node changed : Node) (b : Bool) → cond b (Some node) None ≡ Some changed → changed.key ≡ node.key
      keeps node changed true gives = ap (λ (n : Node). n.key) (sym (same_Some _ _ gives))
      keeps node changed false gives = absurd (none-some changed gives)

      by_test : (slot : ℕ) (node : Node) → seen_at old slot ≡ Some node → (has (line_at old node.key) key ≡ true) ⊎ (has (line_at old node.key) key ≡ false)
          → seen_at new slot ≡ cond (not (has (line (nodes_in old born) node.key) key)) (Some node) None
      by_test slot node was (inl within) =
          pruned.gone slot node was within
          ∙ sym (ap (λ (b : Bool). cond (not b) (Some node) None) (ap (λ (l : List NodeKey). has l key) (line-slots old root born tree node.key) ∙ within))
      by_test slot node was (inr apart) =
          pruned.kept slot
          (λ other is. ap (λ (n : Node). has (line_at old n.key) key) (same_Some _ _ (sym is ∙ was)) ∙ apart)
          ∙ was
          ∙ sym (ap (λ (b : Bool). cond (not b) (Some node) None) (ap (λ (l : List NodeKey). has l key) (line-slots old root born tree node.key) ∙ apart))

      by_old : (slot : ℕ) (o : Option Node) → seen_at old slot ≡ o
          → seen_at new slot ≡ through (λ node. cond (not (has (line (nodes_in old born) node.key) key)) (Some node) None) o
      by_old slot None was = pruned.kept slot (λ node is. absurd (none-some node (sym was ∙ is))) ∙ was
      by_old slot (Some node) was = by_test slot node was (cases_Bool (has (line_at old node.key) key))

-- the other refusals

module _ (slots : List (Option Stored)) (root : Option NodeKey) (born : ℕ) (tree : IsTree slots root born) (key : NodeKey) where
  alive_is : (b : Bool) → alive_at slots key ≡ b → is_alive (nodes_in slots born) key ≡ b
  alive_is b is = alive-slots slots root born tree key ∙ is

  parent_is : (b : Bool) → is_some (up_at slots key) ≡ b → is_some (parent_of (nodes_in slots born) key) ≡ b
  parent_is b is = ap is_some (parent-slots slots root born tree key) ∙ is

  pub stale-dead : alive_at slots key ≡ false → stale (scene_of slots root born) key ≡ Some StaleKey
  unfolding stale
  stale-dead dead = ap (λ (b : Bool). refused (not b) StaleKey None) (alive_is false dead)

  pub stale-alive : alive_at slots key ≡ true → stale (scene_of slots root born) key ≡ None
  unfolding stale
  stale-alive alive = ap (λ (b : Bool). refused (not b) StaleKey None) (alive_is true alive)

  root_by : (a p : Bool) → alive_at slots key ≡ a → is_some (up_at slots key) ≡ p
      → root_refusal (scene_of slots root born) key ≡ refused (not a) StaleKey (refused p HasParent (refused (is_some root) Attached None))
  unfolding root_refusal
  root_by a p alive parent =
      ap (λ (b : Bool). refused (not b) StaleKey (refused (is_some (parent_of (nodes_in slots born) key)) HasParent (refused (is_some root) Attached None))) (alive_is a alive)
      ∙ ap (λ (b : Bool). refused (not a) StaleKey (refused b HasParent (refused (is_some root) Attached None))) (parent_is p parent)

  pub root-stale : alive_at slots key ≡ false → root_refusal (scene_of slots root born) key ≡ Some StaleKey
  root-stale dead = root_by false (is_some (up_at slots key)) dead refl

  pub root-parent : alive_at slots key ≡ true → is_some (up_at slots key) ≡ true → root_refusal (scene_of slots root born) key ≡ Some HasParent
  root-parent alive parent = root_by true true alive parent

  pub root-attached : alive_at slots key ≡ true → is_some (up_at slots key) ≡ false → is_some root ≡ true
      → root_refusal (scene_of slots root born) key ≡ Some Attached
  root-attached alive parent there = root_by true false alive parent ∙ ap (λ (b : Bool). refused b Attached None) there

  pub root-free : alive_at slots key ≡ true → is_some (up_at slots key) ≡ false → is_some root ≡ false
      → root_refusal (scene_of slots root born) key ≡ None
  root-free alive parent there = root_by true false alive parent ∙ ap (λ (b : Bool). refused b Attached None) there

  pub IsTree-rooted : alive_at slots key ≡ true → is_some (up_at slots key) ≡ false → IsTree slots (Some key) born
  IsTree-rooted alive parent =
      record {
        forest = tree.forest;
        numbered = tree.numbered;
        topmost = λ other is.
            let e : key ≡ other = same_Some _ _ is in
            (ap (alive_at slots) (sym e) ∙ alive, ap (up_at slots) (sym e) ∙ none_from (up_at slots key) parent);
        few = tree.few;
      }

  detach_by : (a p : Bool) → alive_at slots key ≡ a → is_some (up_at slots key) ≡ p
      → detach_refusal (scene_of slots root born) key ≡ refused (not a) StaleKey (refused (not p) NoParent None)
  unfolding detach_refusal
  detach_by a p alive parent =
      ap (λ (b : Bool). refused (not b) StaleKey (refused (not (is_some (parent_of (nodes_in slots born) key))) NoParent None)) (alive_is a alive)
      ∙ ap (λ (b : Bool). refused (not a) StaleKey (refused (not b) NoParent None)) (parent_is p parent)

  pub detach-stale : alive_at slots key ≡ false → detach_refusal (scene_of slots root born) key ≡ Some StaleKey
  detach-stale dead = detach_by false (is_some (up_at slots key)) dead refl

  pub detach-none : alive_at slots key ≡ true → is_some (up_at slots key) ≡ false → detach_refusal (scene_of slots root born) key ≡ Some NoParent
  detach-none alive parent = detach_by true false alive parent

  pub detach-free : alive_at slots key ≡ true → is_some (up_at slots key) ≡ true → detach_refusal (scene_of slots root born) key ≡ None
  detach-free alive parent = detach_by true true alive parent

  drop_by : (a p : Bool) → alive_at slots key ≡ a → is_some (up_at slots key) ≡ p
      → drop_refusal (scene_of slots root born) key ≡ refused (not a) StaleKey (refused (p || is_held root key) Attached None)
  unfolding drop_refusal
  drop_by a p alive parent =
      ap (λ (b : Bool). refused (not b) StaleKey (refused (is_some (parent_of (nodes_in slots born) key) || is_held root key) Attached None)) (alive_is a alive)
      ∙ ap (λ (b : Bool). refused (not a) StaleKey (refused (b || is_held root key) Attached None)) (parent_is p parent)

  pub drop-stale : alive_at slots key ≡ false → drop_refusal (scene_of slots root born) key ≡ Some StaleKey
  drop-stale dead = drop_by false (is_some (up_at slots key)) dead refl

  pub drop-parent : alive_at slots key ≡ true → is_some (up_at slots key) ≡ true → drop_refusal (scene_of slots root born) key ≡ Some Attached
  drop-parent alive parent = drop_by true true alive parent

  pub drop-root : alive_at slots key ≡ true → is_some (up_at slots key) ≡ false → is_held root key ≡ true
      → drop_refusal (scene_of slots root born) key ≡ Some Attached
  drop-root alive parent held = drop_by true false alive parent ∙ ap (λ (b : Bool). refused b Attached None) held

  pub drop-free : alive_at slots key ≡ true → is_some (up_at slots key) ≡ false → is_held root key ≡ false
      → drop_refusal (scene_of slots root born) key ≡ None
  drop-free alive parent held = drop_by true false alive parent ∙ ap (λ (b : Bool). refused b Attached None) held

  pub children-node : children_of (nodes_in slots born) key ≡ option_map (λ (stored : Stored). stored.children) (node_at slots key)
  unfolding alive_at below_at
  children-node = children_of-slots slots born tree.forest tree.numbered key ∙ by_node (node_at slots key)
    where
      by_node : (o : Option Stored) → cond (is_some o) (Some (children_in o)) None ≡ option_map (λ (stored : Stored). stored.children) o
      by_node None = refl
      by_node (Some stored) = refl
