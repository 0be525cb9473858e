-- The empty tree, and a tree after a node is made.
use Rattle.std.proofs.Common.{◌≡◌, ◌≢◌, ℕ, ◌+◌, ◌≤◌, Bool, true, false, cond, ◌==◌, List, [], ◌∷◌, ◌++◌, length, get_or, Option, Some, None, is_some, count_by, refl, sym, ◌∙◌, ap, inl, inr, ◌⊎◌, add-one, arith, length-append}
use Rattle.std.specs.List.{filter_map, cons_option, range_with_len}
use Rattle.std.proofs.lemmas.Bool.{cases_eq, false≢true}
use Rattle.std.proofs.lemmas.List.Elements.{filter_map-append}
use Rattle.std.proofs.lemmas.Option.{none-some, same_Some}
use Rattle.fx_base.specs.declared.keys.NodeKey.{NodeKey}
use Rattle.fx_tree.specs.declared.nodes.Stored.{Stored}
use Rattle.fx_tree.specs.Scene.{Node, has, is_once, IsLine}
use Rattle.fx_tree.specs.Slots.{of_birth, node_at, alive_at, up_at, below_at, children_in, parent_in, seen, seen_at, node_born, nodes_in, IsTree}
use Rattle.fx_tree.proofs.Given.{range_with_len-suc, filter_map-same}
use Rattle.fx_tree.proofs.Lines.{IsLine-same}
use Rattle.fx_tree.proofs.Listing.{IsSingle, node_born-Some, node_born-there, node_born-None}

pub nodes_in-nil : nodes_in [] 0 ≡ []
unfolding nodes_in
nodes_in-nil = refl

pub IsTree-nil : IsTree [] None 0
unfolding nodes_in up_at below_at alive_at node_at seen_at has is_once IsLine
IsTree-nil =
    record {
      forest =
          record {
            single = λ one other a b first second same. absurd (none-some a first);
            up = λ key parent is. absurd (none-some parent is);
            down = λ key parent there. absurd (false≢true there);
            held = λ key parent there. absurd (false≢true there);
            once = λ key. refl;
            lines = λ key. (key ∷ [], omega arith, (refl, tt));
          };
      numbered = record { given = λ slot node is. absurd (none-some node is); counted = refl };
      topmost = λ key is. absurd (none-some key is);
      few = omega arith;
    }

module _ (old new : List (Option Stored)) (root : Option NodeKey) (born slot : ℕ) (stored : Stored)
    (tree : IsTree old root born)
    (of_next : stored.birth ≡ born + 1) (alone : stored.parent ≡ None) (bare : stored.children ≡ [])
    (vacant : get_or old slot None ≡ None)
    (filled : get_or new slot None ≡ Some stored)
    (others : (other : ℕ) → other ≢ slot → get_or new other None ≡ get_or old other None) where
  node_elsewhere : (k : NodeKey) → (k.slot ≡ slot → ⊥) → node_at new k ≡ node_at old k
  unfolding node_at
  node_elsewhere k elsewhere = ap (of_birth k.birth) (others k.slot elsewhere)

  node_old_here : (k : NodeKey) → k.slot ≡ slot → node_at old k ≡ None
  unfolding node_at
  node_old_here k here = ap (λ (s : ℕ). of_birth k.birth (get_or old s None)) here ∙ ap (of_birth k.birth) vacant

  node_new_here : (k : NodeKey) → k.slot ≡ slot → node_at new k ≡ of_birth k.birth (Some stored)
  unfolding node_at
  node_new_here k here = ap (λ (s : ℕ). of_birth k.birth (get_or new s None)) here ∙ ap (of_birth k.birth) filled

  up_same : (k : NodeKey) → up_at new k ≡ up_at old k
  unfolding up_at
  up_same k =
      elim (cases_eq k.slot slot) [
        | inl here ↦ ap parent_in (node_new_here k here) ∙ by_birth (stored.birth == k.birth) ∙ sym (ap parent_in (node_old_here k here))
        | inr elsewhere ↦ ap parent_in (node_elsewhere k elsewhere)
      ]
    where
      by_birth : (b : Bool) → parent_in (cond b (Some stored) None) ≡ None
      by_birth true = alone
      by_birth false = refl

  below_same : (k : NodeKey) → below_at new k ≡ below_at old k
  unfolding below_at
  below_same k =
      elim (cases_eq k.slot slot) [
        | inl here ↦ ap children_in (node_new_here k here) ∙ by_birth (stored.birth == k.birth) ∙ sym (ap children_in (node_old_here k here))
        | inr elsewhere ↦ ap children_in (node_elsewhere k elsewhere)
      ]
    where
      by_birth : (b : Bool) → children_in (cond b (Some stored) None) ≡ []
      by_birth true = bare
      by_birth false = refl

  lives_still : (k : NodeKey) → alive_at old k ≡ true → alive_at new k ≡ true
  unfolding alive_at
  lives_still k alive =
      elim (cases_eq k.slot slot) [
        | inl here ↦ absurd (false≢true (sym (ap is_some (node_old_here k here)) ∙ alive))
        | inr elsewhere ↦ ap is_some (node_elsewhere k elsewhere) ∙ alive
      ]

  seen_here : seen_at new slot ≡ Some (record { key = record { slot = slot; birth = born + 1 }; children = [] })
  unfolding seen_at
  seen_here =
      let by_birth : ℕ → Option Node = λ b. Some (record { key = record { slot = slot; birth = b }; children = stored.children }) in
      let by_children : List NodeKey → Option Node = λ l. Some (record { key = record { slot = slot; birth = born + 1 }; children = l }) in
      ap (seen slot) filled ∙ ap by_birth of_next ∙ ap by_children bare

  seen_elsewhere : (s : ℕ) → (s ≡ slot → ⊥) → seen_at new s ≡ seen_at old s
  unfolding seen_at
  seen_elsewhere s elsewhere = ap (seen s) (others s elsewhere)

  seen_vacant : seen_at old slot ≡ None
  unfolding seen_at
  seen_vacant = ap (seen slot) vacant

  -- a node is the one that was made, or was seen before
  seen_cases : (s : ℕ) (node : Node) → seen_at new s ≡ Some node → ((s ≡ slot) × (node.key.birth ≡ born + 1)) ⊎ (seen_at old s ≡ Some node)
  seen_cases s node is =
      elim (cases_eq s slot) [
        | inl here ↦
            inl (here, sym (ap (λ (n : Node). n.key.birth) (same_Some _ _ (sym seen_here ∙ sym (ap (seen_at new) here) ∙ is))))
        | inr elsewhere ↦ inr (sym (seen_elsewhere s elsewhere) ∙ is)
      ]

  seen_before : (s : ℕ) (node : Node) → seen_at old s ≡ Some node → seen_at new s ≡ Some node
  seen_before s node is =
      elim (cases_eq s slot) [
        | inl here ↦ absurd (none-some node (sym seen_vacant ∙ sym (ap (seen_at old) here) ∙ is))
        | inr elsewhere ↦ seen_elsewhere s elsewhere ∙ is
      ]

  single_made : IsSingle new
  single_made one other a b first second same =
      elim (seen_cases one a first) [
        | inl newest ↦
            elim (seen_cases other b second) [
              | inl also ↦ newest.0 ∙ sym also.0
              | inr before ↦
                  let low = (tree.numbered.given other b before).1 in
                  absurd (omega (arith, low, newest.1, same))
            ]
        | inr was ↦
            elim (seen_cases other b second) [
              | inl newest ↦
                  let low = (tree.numbered.given one a was).1 in
                  absurd (omega (arith, low, newest.1, same))
              | inr before ↦ tree.forest.single one other a b was before same
            ]
      ]

  older : (birth : ℕ) → birth ≤ born → node_born new birth ≡ node_born old birth
  older birth low = by_old (node_born old birth) refl
    where
      by_old : (o : Option Node) → node_born old birth ≡ o → node_born new birth ≡ o
      by_old None is =
          node_born-None new birth
          (λ s node at e.
          elim (seen_cases s node at) [
            | inl newest ↦ omega (arith, newest.1, e, low)
            | inr before ↦ none-some node (sym is ∙ sym (ap (node_born old) e) ∙ node_born-there old s node tree.forest.single before)
          ])
      by_old (Some node) is =
          let at = node_born-Some old birth node is in
          sym (ap (node_born new) at.0) ∙ node_born-there new node.key.slot node single_made (seen_before node.key.slot node at.1)

  pub nodes_in-made : nodes_in new (born + 1) ≡ nodes_in old born ++ record { key = record { slot = slot; birth = born + 1 }; children = [] } ∷ []
  unfolding nodes_in
  nodes_in-made =
      let before : filter_map (node_born new) (range_with_len 1 born) ≡ filter_map (node_born old) (range_with_len 1 born) =
      filter_map-same (node_born old) (node_born new) 1 born (λ birth low high. older birth (omega (arith, high))) in
      let newest : node_born new (1 + born) ≡ Some (record { key = record { slot = slot; birth = born + 1 }; children = [] }) =
      let e : 1 + born ≡ born + 1 = omega arith in
      ap (node_born new) e ∙ node_born-there new slot _ single_made seen_here in
      ap (filter_map (node_born new)) (ap (range_with_len 1) (add-one born) ∙ range_with_len-suc 1 born)
      ∙ filter_map-append (node_born new) (range_with_len 1 born) ((1 + born) ∷ [])
      ∙ ap (λ (nodes : List Node). nodes ++ filter_map (node_born new) ((1 + born) ∷ [])) before
      ∙ ap (λ (o : Option Node). filter_map (node_born old) (range_with_len 1 born) ++ cons_option o []) newest

  pub IsTree-made : count_by is_some new ≡ count_by is_some old + 1 → (count_by is_some old ≡ 4096 → ⊥) → IsTree new root (born + 1)
  IsTree-made more room =
      record {
        forest =
            record {
              single = single_made;
              up = λ k p is. ap (λ (l : List NodeKey). has l k) (below_same p) ∙ tree.forest.up k p (sym (up_same k) ∙ is);
              down = λ k p there. up_same k ∙ tree.forest.down k p (sym (ap (λ (l : List NodeKey). has l k) (below_same p)) ∙ there);
              held = λ k p there. lives_still k (tree.forest.held k p (sym (ap (λ (l : List NodeKey). has l k) (below_same p)) ∙ there));
              once = λ k. ap is_once (below_same k) ∙ tree.forest.once k;
              lines = λ k.
                  let found = tree.forest.lines k in
                  (found.0, found.1, IsLine-same (up_at old) (up_at new) (Some k) found.0 (λ n there. up_same n) found.2);
            };
        numbered =
            record {
              given = λ s node is.
                  elim (seen_cases s node is) [
                    | inl newest ↦ (omega (arith, newest.1), omega (arith, newest.1))
                    | inr before ↦
                        let bounds = tree.numbered.given s node before in
                        (bounds.0, omega (arith, bounds.1))
                  ];
              counted =
                  let long : length (nodes_in old born ++ record { key = record { slot = slot; birth = born + 1 }; children = [] } ∷ []) ≡ length (nodes_in old born) + 1 =
                  length-append (nodes_in old born) (record { key = record { slot = slot; birth = born + 1 }; children = [] } ∷ []) in
                  ap length nodes_in-made ∙ omega (arith, long, tree.numbered.counted, more);
            };
        topmost = λ k is. let was = tree.topmost k is in (lives_still k was.0, up_same k ∙ was.1);
        few = omega (arith, tree.few, more, room);
      }
