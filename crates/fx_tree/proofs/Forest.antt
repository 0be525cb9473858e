-- A forest stays one where a link is made or cut, and where a single node is freed.
use Rattle.std.proofs.Common.{◌≡◌, ℕ, ◌+◌, ◌≤◌, Bool, true, false, not, cond, ◌||◌, List, [], ◌++◌, length, map, Option, Some, None, is_some, count_by, refl, sym, ◌∙◌, ap, subst, inl, inr, ◌⊎◌, arith, length-append}
use Rattle.std.specs.Option.{option_map}
use Rattle.std.specs.List.{insert}
use Rattle.std.proofs.lemmas.Bool.{cases_Bool, both_ways, or_cases, or_left, or_right, and_parts, and_from, false_from_ne_true, not-true, not_from_false}
use Rattle.std.proofs.lemmas.List.{length-map, append-nil}
use Rattle.std.proofs.lemmas.Option.{none-some, same_Some}
use Rattle.fx_base.specs.declared.keys.NodeKey.{NodeKey}
use Rattle.fx_tree.specs.declared.nodes.Stored.{Stored}
use Rattle.fx_tree.specs.Scene.{Node, is_same, has, without, is_once, IsLine}
use Rattle.fx_tree.specs.Slots.{alive_at, up_at, below_at, line_at, seen_at, node_born, nodes_in, IsForest, IsNumbered, IsTopmost, IsLinked, IsUnlinked, IsFreed}
use Rattle.fx_tree.proofs.Given.{length-given_less}
use Rattle.fx_tree.proofs.Keys.{is_same-refl, is_same-true, is_same-false, is_same-sym, has-insert, has-without, is_once-insert, is_once-without}
use Rattle.fx_tree.proofs.Lines.{line_is, IsLine-same, IsLine-joined, IsLine-cut}
use Rattle.fx_tree.proofs.Listing.{IsSingle, through, nodes_in-changed, node_born-changed, node_born-Some, node_born-there, filter_map-Some, seen_at-slot, seen_alive, alive_seen}
use Rattle.fx_tree.proofs.Edits.{seen-changed}

choice-true : {X : Type 0} (b : Bool) (x y : X) → b ≡ true → cond b x y ≡ x
choice-true {X} b x y passing = ap (λ (t : Bool). cond t x y) passing

choice-false : {X : Type 0} (b : Bool) (x y : X) → b ≡ false → cond b x y ≡ y
choice-false {X} b x y failing = ap (λ (t : Bool). cond t x y) failing

-- the line of a node, as the function gives it
pub line_known : (slots : List (Option Stored)) → IsForest slots → (key : NodeKey) → IsLine (up_at slots) (Some key) (line_at slots key)
line_known slots forest key =
    let found = forest.lines key in
    let P : List NodeKey → Type 0 = λ keys. IsLine (up_at slots) (Some key) keys in
    subst P (sym (line_is 64 (up_at slots) (Some key) found.0 found.2 found.1)) found.2

-- who is seen keeps the key and may have other children
module _ (old new : List (Option Stored)) (children : NodeKey → List NodeKey → List NodeKey)
    (alive : (k : NodeKey) → alive_at new k ≡ alive_at old k)
    (below : (k : NodeKey) → below_at new k ≡ children k (below_at old k)) where
  seen_before : (slot : ℕ) (node : Node) → seen_at new slot ≡ Some node → (was : Node) × (seen_at old slot ≡ Some was) × (was.key ≡ node.key)
  seen_before slot node is =
      let lives = (alive_seen new slot node is).0 in
      let there = seen_alive old node.key (sym (alive node.key) ∙ lives) in
      (record { key = node.key; children = below_at old node.key }, ap (seen_at old) (sym (seen_at-slot new slot node is)) ∙ there, refl)

  pub IsSingle-changed : IsSingle old → IsSingle new
  IsSingle-changed single one other a b first second same =
      let was_a = seen_before one a first in
      let was_b = seen_before other b second in
      single one other was_a.0 was_b.0 was_a.1 was_b.1
      (ap (λ (k : NodeKey). k.birth) was_a.2 ∙ same ∙ sym (ap (λ (k : NodeKey). k.birth) was_b.2))

  pub nodes_in-edited : IsSingle old → (born : ℕ)
      → nodes_in new born ≡ map (λ (node : Node). record { key = node.key; children = children node.key node.children }) (nodes_in old born)
  nodes_in-edited single born =
      nodes_in-changed (λ node. Some (record { key = node.key; children = children node.key node.children })) old new single (IsSingle-changed single)
      (λ node changed gives. ap (λ (n : Node). n.key) (sym (same_Some _ _ gives)))
      (λ slot. seen-changed old new children alive below slot ∙ by_option (seen_at old slot)) born
      ∙ filter_map-Some (λ node. record { key = node.key; children = children node.key node.children }) (nodes_in old born)
    where
      by_option : (o : Option Node)
          → option_map (λ (node : Node). record { key = node.key; children = children node.key node.children }) o
          ≡ through (λ node. Some (record { key = node.key; children = children node.key node.children })) o
      by_option None = refl
      by_option (Some node) = refl

  pub IsNumbered-edited : IsSingle old → (born : ℕ) → count_by is_some new ≡ count_by is_some old → IsNumbered old born → IsNumbered new born
  IsNumbered-edited single born count numbered =
      record {
        given = λ slot node is.
            let was = seen_before slot node is in
            let bounds = numbered.given slot was.0 was.1 in
            let e : was.0.key.birth ≡ node.key.birth = ap (λ (k : NodeKey). k.birth) was.2 in
            (omega (arith, bounds.0, e), omega (arith, bounds.1, e));
        counted =
            ap length (nodes_in-edited single born)
            ∙ length-map (nodes_in old born) (λ (node : Node). record { key = node.key; children = children node.key node.children })
            ∙ numbered.counted ∙ sym count;
      }

-- a node that has no parent is attached

module _ (old new : List (Option Stored)) (parent child : NodeKey) (place : ℕ)
    (forest : IsForest old) (linked : IsLinked old new parent child place)
    (topmost : up_at old child ≡ None)
    (parent_alive : alive_at old parent ≡ true) (child_alive : alive_at old child ≡ true)
    (no_loop : has (line_at old parent) child ≡ false)
    (fits : (key : NodeKey) → has (line_at old key) child ≡ true → length (line_at old key) + length (line_at old parent) ≤ 64) where
  up_child : (key : NodeKey) → is_same key child ≡ true → up_at new key ≡ Some parent
  up_child key same = linked.up key ∙ choice-true (is_same key child) (Some parent) (up_at old key) same

  up_other : (key : NodeKey) → is_same key child ≡ false → up_at new key ≡ up_at old key
  up_other key apart = linked.up key ∙ choice-false (is_same key child) (Some parent) (up_at old key) apart

  -- who has a parent isn't the child
  not_child : (key p : NodeKey) → up_at old key ≡ Some p → is_same key child ≡ false
  not_child key p is = is_same-false key child (λ e. none-some p (sym topmost ∙ ap (up_at old) (sym e) ∙ is))

  fresh : has (below_at old parent) child ≡ false
  fresh = false_from_ne_true _ (λ there. none-some parent (sym topmost ∙ forest.down child parent there))

  has_new : (key p : NodeKey) → has (below_at new p) key ≡ true → ((is_same child key ≡ true) × (is_same p parent ≡ true)) ⊎ (has (below_at old p) key ≡ true)
  has_new key p there =
      elim (cases_Bool (is_same p parent)) [
        | inl same ↦
            let inserted : (is_same child key || has (below_at old p) key) ≡ true =
            sym (has-insert place (below_at old p) child key)
            ∙ sym (ap (λ (l : List NodeKey). has l key) (linked.below p ∙ choice-true (is_same p parent) _ (below_at old p) same)) ∙ there in
            elim (or_cases _ _ inserted) [ inl here ↦ inl (here, same) | inr before ↦ inr before ]
        | inr apart ↦
            inr (sym (ap (λ (l : List NodeKey). has l key) (linked.below p ∙ choice-false (is_same p parent) (insert (below_at old p) place child) (below_at old p) apart)) ∙ there)
      ]

  has_still : (key p : NodeKey) → has (below_at old p) key ≡ true → has (below_at new p) key ≡ true
  has_still key p there =
      elim (cases_Bool (is_same p parent)) [
        | inl same ↦
            ap (λ (l : List NodeKey). has l key) (linked.below p ∙ choice-true (is_same p parent) (insert (below_at old p) place child) (below_at old p) same)
            ∙ has-insert place (below_at old p) child key ∙ or_right (is_same child key) (has (below_at old p) key) there
        | inr apart ↦
            ap (λ (l : List NodeKey). has l key) (linked.below p ∙ choice-false (is_same p parent) (insert (below_at old p) place child) (below_at old p) apart) ∙ there
      ]

  has_child : has (below_at new parent) child ≡ true
  has_child =
      ap (λ (l : List NodeKey). has l child)
      (linked.below parent ∙ choice-true (is_same parent parent) (insert (below_at old parent) place child) (below_at old parent) (is_same-refl parent))
      ∙ has-insert place (below_at old parent) child child ∙ or_left (is_same child child) (has (below_at old parent) child) (is_same-refl child)

  linked_up : (key p : NodeKey) → up_at new key ≡ Some p → has (below_at new p) key ≡ true
  linked_up key p is =
      elim (cases_Bool (is_same key child)) [
        | inl same ↦
            let e : parent ≡ p = same_Some _ _ (sym (up_child key same) ∙ is) in
            let f : child ≡ key = sym (is_same-true key child same) in
            ap (λ (n : NodeKey). has (below_at new n) key) (sym e) ∙ ap (has (below_at new parent)) (sym f) ∙ has_child
        | inr apart ↦ has_still key p (forest.up key p (sym (up_other key apart) ∙ is))
      ]

  linked_down : (key p : NodeKey) → has (below_at new p) key ≡ true → up_at new key ≡ Some p
  linked_down key p there =
      elim (has_new key p there) [
        | inl here ↦
            up_child key (is_same-sym key child ∙ here.0) ∙ ap Some (sym (is_same-true p parent here.1))
        | inr before ↦
            let is = forest.down key p before in
            up_other key (not_child key p is) ∙ is
      ]

  linked_held : (key p : NodeKey) → has (below_at new p) key ≡ true → alive_at new key ≡ true
  linked_held key p there =
      elim (has_new key p there) [
        | inl here ↦ linked.alive key ∙ ap (alive_at old) (sym (is_same-true child key here.0)) ∙ child_alive
        | inr before ↦ linked.alive key ∙ forest.held key p before
      ]

  linked_once : (key : NodeKey) → is_once (below_at new key) ≡ true
  linked_once key =
      elim (cases_Bool (is_same key parent)) [
        | inl same ↦
            let absent : has (below_at old key) child ≡ false = ap (λ (n : NodeKey). has (below_at old n) child) (is_same-true key parent same) ∙ fresh in
            ap is_once (linked.below key ∙ choice-true (is_same key parent) (insert (below_at old key) place child) (below_at old key) same)
            ∙ is_once-insert place (below_at old key) child absent (forest.once key)
        | inr apart ↦
            ap is_once (linked.below key ∙ choice-false (is_same key parent) (insert (below_at old key) place child) (below_at old key) apart)
            ∙ forest.once key
      ]

  line_above : IsLine (up_at new) (Some parent) (line_at old parent)
  line_above =
      IsLine-same (up_at old) (up_at new) (Some parent) (line_at old parent)
      (λ key there.
      up_other key (is_same-false key child (λ e. both_ways _ no_loop (ap (has (line_at old parent)) (sym e) ∙ there))))
      (line_known old forest parent)

  joined_line : (key : NodeKey) → IsLine (up_at new) (Some key) (line_at old key ++ cond (has (line_at old key) child) (line_at old parent) [])
  joined_line key =
      IsLine-joined (up_at old) (up_at new) child up_other parent (line_at old parent) topmost (up_child child (is_same-refl child)) line_above
      (Some key) (line_at old key) (line_known old forest key)

  short : (key : NodeKey) → length (line_at old key) ≤ 64
  short key =
      let found = forest.lines key in
      let few : length found.0 ≤ 64 = found.1 in
      let e : length (line_at old key) ≡ length found.0 = ap length (line_is 64 (up_at old) (Some key) found.0 found.2 few) in
      omega (arith, few, e)

  joined_short : (key : NodeKey) → length (line_at old key ++ cond (has (line_at old key) child) (line_at old parent) []) ≤ 64
  joined_short key =
      elim (cases_Bool (has (line_at old key) child)) [
        | inl within ↦
            let e : length (line_at old key ++ cond (has (line_at old key) child) (line_at old parent) []) ≡ length (line_at old key) + length (line_at old parent) =
            ap (λ (b : Bool). length (line_at old key ++ cond b (line_at old parent) [])) within ∙ length-append (line_at old key) (line_at old parent) in
            let few : length (line_at old key) + length (line_at old parent) ≤ 64 = fits key within in
            omega (arith, e, few)
        | inr outside ↦
            let e : length (line_at old key ++ cond (has (line_at old key) child) (line_at old parent) []) ≡ length (line_at old key) =
            ap (λ (b : Bool). length (line_at old key ++ cond b (line_at old parent) [])) outside ∙ ap length (append-nil (line_at old key)) in
            let few : length (line_at old key) ≤ 64 = short key in
            omega (arith, e, few)
      ]

  pub IsForest-linked : IsForest new
  IsForest-linked =
      record {
        single = IsSingle-changed old new (λ n l. cond (is_same n parent) (insert l place child) l) linked.alive linked.below forest.single;
        up = linked_up;
        down = linked_down;
        held = linked_held;
        once = linked_once;
        lines = λ key. (line_at old key ++ cond (has (line_at old key) child) (line_at old parent) [], joined_short key, joined_line key);
      }

  pub IsTopmost-linked : (root : Option NodeKey) → (root ≡ Some child → ⊥) → IsTopmost old root → IsTopmost new root
  IsTopmost-linked root other was key is =
      let before = was key is in
      (linked.alive key ∙ before.0, up_other key (is_same-false key child (λ e. other (is ∙ ap Some e))) ∙ before.1)

-- a node is taken out of its parent's list

module _ (old new : List (Option Stored)) (child : NodeKey) (forest : IsForest old) (unlinked : IsUnlinked old new child) where
  cut_other : (key : NodeKey) → is_same key child ≡ false → up_at new key ≡ up_at old key
  cut_other key apart = unlinked.up key ∙ choice-false (is_same key child) None (up_at old key) apart

  cut_child : (key : NodeKey) → is_same key child ≡ true → up_at new key ≡ None
  cut_child key same = unlinked.up key ∙ choice-true (is_same key child) None (up_at old key) same

  has_less : (key p : NodeKey) → has (below_at new p) key ≡ true → (has (below_at old p) key ≡ true) × (is_same key child ≡ false)
  has_less key p there =
      let parts = and_parts (has (below_at old p) key) (not (is_same child key))
      (sym (has-without child (below_at old p) key) ∙ sym (ap (λ (l : List NodeKey). has l key) (unlinked.below p)) ∙ there) in
      (parts.0, is_same-sym key child ∙ not-true (is_same child key) parts.1)

  unlinked_up : (key p : NodeKey) → up_at new key ≡ Some p → has (below_at new p) key ≡ true
  unlinked_up key p is =
      elim (cases_Bool (is_same key child)) [
        | inl same ↦ absurd (none-some p (sym (cut_child key same) ∙ is))
        | inr apart ↦
            ap (λ (l : List NodeKey). has l key) (unlinked.below p) ∙ has-without child (below_at old p) key
            ∙ and_from (has (below_at old p) key) (not (is_same child key))
            (forest.up key p (sym (cut_other key apart) ∙ is)) (not_from_false (is_same child key) (is_same-sym child key ∙ apart))
      ]

  pub IsForest-unlinked : IsForest new
  IsForest-unlinked =
      record {
        single = IsSingle-changed old new (λ n l. without child l) unlinked.alive unlinked.below forest.single;
        up = unlinked_up;
        down = λ key p there.
            let less = has_less key p there in
            cut_other key less.1 ∙ forest.down key p less.0;
        held = λ key p there. unlinked.alive key ∙ forest.held key p (has_less key p there).0;
        once = λ key. ap is_once (unlinked.below key) ∙ is_once-without child (below_at old key) (forest.once key);
        lines = λ key.
            let found = forest.lines key in
            let less = IsLine-cut (up_at old) (up_at new) child cut_other (cut_child child (is_same-refl child)) (Some key) found.0 found.2 in
            let few : length found.0 ≤ 64 = found.1 in
            let fewer : length less.0 ≤ length found.0 = less.1 in
            (less.0, omega (arith, few, fewer), less.2);
      }

  pub IsTopmost-unlinked : (root : Option NodeKey) → IsTopmost old root → IsTopmost new root
  IsTopmost-unlinked root was key is =
      let before = was key is in (
        unlinked.alive key ∙ before.0,
        elim (cases_Bool (is_same key child)) [ inl same ↦ cut_child key same | inr apart ↦ cut_other key apart ∙ before.1 ],
      )

-- a node without parent and children is freed

module _ (old new : List (Option Stored)) (key : NodeKey) (forest : IsForest old) (freed : IsFreed old new key)
    (topmost : up_at old key ≡ None) (leaf : below_at old key ≡ []) where
  up_same : (k : NodeKey) → up_at new k ≡ up_at old k
  up_same k =
      freed.up k
      ∙ elim (cases_Bool (is_same k key)) [
        | inl same ↦ choice-true (is_same k key) None (up_at old k) same ∙ sym topmost ∙ ap (up_at old) (sym (is_same-true k key same))
        | inr apart ↦ choice-false (is_same k key) None (up_at old k) apart
      ]

  below_same : (k : NodeKey) → below_at new k ≡ below_at old k
  below_same k =
      freed.below k
      ∙ elim (cases_Bool (is_same k key)) [
        | inl same ↦ choice-true (is_same k key) [] (below_at old k) same ∙ sym leaf ∙ ap (below_at old) (sym (is_same-true k key same))
        | inr apart ↦ choice-false (is_same k key) [] (below_at old k) apart
      ]

  pub lives_still : (k : NodeKey) → alive_at old k ≡ true → is_same k key ≡ false → alive_at new k ≡ true
  lives_still k alive apart = freed.alive k ∙ and_from (alive_at old k) (not (is_same k key)) alive (not_from_false (is_same k key) apart)

  pub lived_before : (k : NodeKey) → alive_at new k ≡ true → (alive_at old k ≡ true) × (is_same k key ≡ false)
  lived_before k alive =
      let parts = and_parts (alive_at old k) (not (is_same k key)) (sym (freed.alive k) ∙ alive) in
      (parts.0, not-true (is_same k key) parts.1)

  pub seen_still : (slot : ℕ) (node : Node) → seen_at new slot ≡ Some node → (seen_at old slot ≡ Some node) × (is_same node.key key ≡ false)
  seen_still slot node is =
      let known = alive_seen new slot node is in
      let before = lived_before node.key known.0 in
      let there = seen_alive old node.key before.0 in
      let kids : below_at old node.key ≡ node.children = sym (below_same node.key) ∙ known.1 in
      let at : List NodeKey → Option Node = λ l. Some (record { key = node.key; children = l }) in
      (ap (seen_at old) (sym (seen_at-slot new slot node is)) ∙ there ∙ ap at kids, before.1)

  single_freed : IsSingle new
  single_freed one other a b first second same =
      forest.single one other a b (seen_still one a first).0 (seen_still other b second).0 same

  pub IsForest-freed : IsForest new
  IsForest-freed =
      record {
        single = single_freed;
        up = λ k p is. ap (λ (l : List NodeKey). has l k) (below_same p) ∙ forest.up k p (sym (up_same k) ∙ is);
        down = λ k p there. up_same k ∙ forest.down k p (sym (ap (λ (l : List NodeKey). has l k) (below_same p)) ∙ there);
        held = λ k p there.
            let before = sym (ap (λ (l : List NodeKey). has l k) (below_same p)) ∙ there in
            lives_still k (forest.held k p before)
            (is_same-false k key (λ e. none-some p (sym topmost ∙ ap (up_at old) (sym e) ∙ forest.down k p before)));
        once = λ k. ap is_once (below_same k) ∙ forest.once k;
        lines = λ k.
            let found = forest.lines k in
            (found.0, found.1, IsLine-same (up_at old) (up_at new) (Some k) found.0 (λ n there. up_same n) found.2);
      }

  pub IsTopmost-freed : (root : Option NodeKey) → (root ≡ Some key → ⊥) → IsTopmost old root → IsTopmost new root
  IsTopmost-freed root other was k is =
      let before = was k is in
      (lives_still k before.0 (is_same-false k key (λ e. other (is ∙ ap Some e))), up_same k ∙ before.1)

  seen_freed : (slot : ℕ) → seen_at new slot ≡ through (λ node. cond (is_same node.key key) None (Some node)) (seen_at old slot)
  seen_freed slot = by_old (seen_at old slot) refl
    where
      by_new : (o : Option Node) → seen_at new slot ≡ o → seen_at old slot ≡ None → o ≡ None
      by_new None is was = refl
      by_new (Some node) is was = absurd (none-some node (sym was ∙ (seen_still slot node is).0))

      by_node : (node : Node) → seen_at old slot ≡ Some node → (o : Option Node) → seen_at new slot ≡ o → o ≡ cond (is_same node.key key) None (Some node)
      by_node node was None is =
          elim (cases_Bool (is_same node.key key)) [
            | inl same ↦ sym (choice-true (is_same node.key key) None (Some node) same)
            | inr apart ↦
                let there = seen_alive new node.key (lives_still node.key (alive_seen old slot node was).0 apart) in
                absurd (none-some _ (sym is ∙ ap (seen_at new) (sym (seen_at-slot old slot node was)) ∙ there))
          ]
      by_node node was (Some shown) is =
          let before = seen_still slot shown is in
          let e : shown ≡ node = same_Some _ _ (sym before.0 ∙ was) in
          sym (choice-false (is_same node.key key) None (Some node) (ap (λ (n : Node). is_same n.key key) (sym e) ∙ before.1) ∙ ap Some (sym e))

      by_old : (o : Option Node) → seen_at old slot ≡ o → seen_at new slot ≡ through (λ node. cond (is_same node.key key) None (Some node)) o
      by_old None was = by_new (seen_at new slot) refl was
      by_old (Some node) was = by_node node was (seen_at new slot) refl

  born_freed : (birth : ℕ) → node_born new birth ≡ through (λ node. cond (is_same node.key key) None (Some node)) (node_born old birth)
  born_freed =
      node_born-changed (λ node. cond (is_same node.key key) None (Some node)) old new forest.single single_freed
      (λ node changed gives. keeps_key node changed (is_same node.key key) gives) seen_freed
    where
      keeps_key : (node changed : Node) (b : Bool) → cond b None (Some node) ≡ Some changed → changed.key ≡ node.key
      keeps_key node changed true gives = absurd (none-some changed gives)
      keeps_key node changed false gives = ap (λ (n : Node). n.key) (sym (same_Some _ _ gives))

  pub IsNumbered-freed : alive_at old key ≡ true → (born : ℕ) → count_by is_some new + 1 ≡ count_by is_some old → IsNumbered old born → IsNumbered new born
  unfolding nodes_in
  IsNumbered-freed alive born count numbered =
      let there = seen_alive old key alive in
      let bounds = numbered.given key.slot _ there in
      let found : node_born old key.birth ≡ Some (record { key = key; children = below_at old key }) = node_born-there old key.slot _ forest.single there in
      let gone : node_born new key.birth ≡ None =
      born_freed key.birth ∙ ap (through (λ node. cond (is_same node.key key) None (Some node))) found
      ∙ choice-true (is_same key key) None (Some (record { key = key; children = below_at old key })) (is_same-refl key) in
      let less : length (nodes_in new born) + 1 ≡ length (nodes_in old born) =
      length-given_less (node_born old) (node_born new) 1 born key.birth _ (omega (arith, bounds.0)) (omega (arith, bounds.1)) found gone
      (λ birth differs. born_freed birth ∙ stays birth differs (node_born old birth) refl) in
      record {
        given = λ slot node is. numbered.given slot node (seen_still slot node is).0;
        counted = omega (arith, less, count, numbered.counted);
      }
    where
      stays : (birth : ℕ) → (birth ≡ key.birth → ⊥) → (o : Option Node) → node_born old birth ≡ o
          → through (λ node. cond (is_same node.key key) None (Some node)) o ≡ o
      stays birth differs None is = refl
      stays birth differs (Some node) is =
          choice-false (is_same node.key key) None (Some node)
          (is_same-false node.key key (λ e. differs (sym (node_born-Some old birth node is).0 ∙ ap (λ (k : NodeKey). k.birth) e)))
