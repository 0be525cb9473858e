-- A subtree holds just the keys whose line goes through its top.
use Rattle.std.proofs.Common.{◌≡◌, ℕ, zero, suc, ◌≤◌, Bool, true, false, ◌&&◌, ◌||◌, List, [], ◌∷◌, ◌++◌, length, Option, Some, None, refl, sym, ◌∙◌, ap, subst, inl, inr, arith}
use Rattle.std.specs.List.{flat_map}
use Rattle.std.proofs.lemmas.Bool.{cases_Bool, both_ways, or_cases, or_left, or_right}
use Rattle.fx_base.specs.declared.keys.NodeKey.{NodeKey}
use Rattle.fx_tree.specs.Scene.{Scene, IsLine, IsSound, children_or_none, has, is_alive, is_same, is_within, line, parent_of, subtree, subtree_in}
use Rattle.fx_tree.proofs.Keys.{has-cons, has-nil, is_same-refl, is_same-true}
use Rattle.fx_tree_laws.proofs.Known.{child_of, line_alone, line_known, listed, orphan, short_line}

pub has-append : (front back : List NodeKey) (key : NodeKey) → has (front ++ back) key ≡ (has front key || has back key)
unfolding has
has-append [] back key = refl
has-append (x ∷ xs) back key = ap (λ (b : Bool). is_same x key || b) (has-append xs back key) ∙ joined (is_same x key) (has xs key) (has back key)
  where
    joined : (a b c : Bool) → (a || (b || c)) ≡ ((a || b) || c)
    joined true b c = refl
    joined false b c = refl

has-first : (key : NodeKey) (rest : List NodeKey) → has (key ∷ rest) key ≡ true
has-first key rest = has-cons key rest key ∙ ap (λ (b : Bool). b || has rest key) (is_same-refl key)

has-rest : (x : NodeKey) (rest : List NodeKey) (key : NodeKey) → has rest key ≡ true → has (x ∷ rest) key ≡ true
has-rest x rest key there = has-cons x rest key ∙ or_right (is_same x key) (has rest key) there

-- a key of lists in a row is in one of them
in_some : (f : NodeKey → List NodeKey) (keys : List NodeKey) (key : NodeKey) → has (flat_map f keys) key ≡ true
    → (k : NodeKey) × (has keys k ≡ true) × (has (f k) key ≡ true)
in_some f [] key there = absurd (both_ways _ (has-nil key) there)
in_some f (x ∷ xs) key there =
    elim (or_cases (has (f x) key) (has (flat_map f xs) key) (sym (has-append (f x) (flat_map f xs) key) ∙ there)) [
      | inl here ↦ (x, has-first x xs, here)
      | inr further ↦
          let rest = in_some f xs key further in
          (rest.0, has-rest x xs rest.0 rest.1, rest.2)
    ]

-- and what is in one of them is in the row
from_some : (f : NodeKey → List NodeKey) (keys : List NodeKey) (k key : NodeKey) → has keys k ≡ true → has (f k) key ≡ true
    → has (flat_map f keys) key ≡ true
from_some f [] k key there at = absurd (both_ways _ (has-nil k) there)
from_some f (x ∷ xs) k key there at =
    has-append (f x) (flat_map f xs) key
    ∙ elim (or_cases (is_same x k) (has xs k) (sym (has-cons x xs k) ∙ there)) [
      | inl same ↦ or_left (has (f x) key) (has (flat_map f xs) key) (ap (λ (n : NodeKey). has (f n) key) (is_same-true x k same) ∙ at)
      | inr further ↦ or_right (has (f x) key) (has (flat_map f xs) key) (from_some f xs k key further at)
    ]

module _ (up : NodeKey → Option NodeKey) (below : NodeKey → List NodeKey)
    (forth : (key parent : NodeKey) → up key ≡ Some parent → has (below parent) key ≡ true)
    (back : (key parent : NodeKey) → has (below parent) key ≡ true → up key ≡ Some parent) where
  first_in : (key : NodeKey) (keys : List NodeKey) → IsLine up (Some key) keys → has keys key ≡ true
  unfolding IsLine
  first_in key [] line = absurd line
  first_in key (x ∷ rest) line = ap (has (x ∷ rest)) (sym line.0) ∙ has-first x rest

  -- the parent of a node of a line is in it
  parent_in : (o : Option NodeKey) (keys : List NodeKey) (key parent : NodeKey) → IsLine up o keys → has keys key ≡ true
      → up key ≡ Some parent → has keys parent ≡ true
  unfolding IsLine
  parent_in o [] key parent line there is = absurd (both_ways _ (has-nil key) there)
  parent_in None (x ∷ rest) key parent line there is = absurd line
  parent_in (Some k) (x ∷ rest) key parent line there is =
      has-rest x rest parent
      (elim (or_cases (is_same x key) (has rest key) (sym (has-cons x rest key) ∙ there)) [
        | inl same ↦
            let P : Option NodeKey → Type 0 = λ o. IsLine up o rest in
            first_in parent rest (subst P (ap up (is_same-true x key same) ∙ is) line.1)
        | inr further ↦ parent_in (up x) rest key parent line.1 further is
      ])

  -- who stands in a subtree has its top in the line
  pub top_in_line : (n : ℕ) (top key : NodeKey) → has (subtree_in n below top) key ≡ true → (keys : List NodeKey)
      → IsLine up (Some key) keys → has keys top ≡ true
  unfolding subtree_in
  top_in_line zero top key there keys line = absurd (both_ways _ (has-nil key) there)
  top_in_line (suc n) top key there keys line =
      elim (or_cases (is_same top key) (has (flat_map (subtree_in n below) (below top)) key) (sym (has-cons top _ key) ∙ there)) [
        | inl same ↦ ap (has keys) (is_same-true top key same) ∙ first_in key keys line
        | inr deeper ↦
            let child = in_some (subtree_in n below) (below top) key deeper in
            parent_in (Some key) keys child.0 top line (top_in_line n child.0 key child.2 keys line) (back child.0 top child.1)
      ]

  -- the children of a node of a subtree stand one level deeper
  one_deeper : (n : ℕ) (top parent key : NodeKey) → has (subtree_in n below top) parent ≡ true → has (below parent) key ≡ true
      → has (subtree_in (suc n) below top) key ≡ true
  unfolding subtree_in
  one_deeper zero top parent key there child = absurd (both_ways _ (has-nil parent) there)
  one_deeper (suc n) top parent key there child =
      has-rest top (flat_map (subtree_in (suc n) below) (below top)) key
      (elim (or_cases (is_same top parent) (has (flat_map (subtree_in n below) (below top)) parent) (sym (has-cons top _ parent) ∙ there)) [
        | inl same ↦
            from_some (subtree_in (suc n) below) (below top) key key
            (ap (λ (k : NodeKey). has (below k) key) (is_same-true top parent same) ∙ child)
            (has-first key (flat_map (subtree_in n below) (below key)))
        | inr deeper ↦
            let branch = in_some (subtree_in n below) (below top) parent deeper in
            from_some (subtree_in (suc n) below) (below top) branch.0 key branch.1
            (one_deeper n branch.0 parent key branch.2 child)
      ])

  -- whose line has the top stands in a subtree of as many levels
  pub in_subtree : (keys : List NodeKey) (n : ℕ) (top key : NodeKey) → IsLine up (Some key) keys → length keys ≤ n
      → has keys top ≡ true → has (subtree_in n below top) key ≡ true
  unfolding IsLine subtree_in
  in_subtree [] n top key line few there = absurd line
  in_subtree (x ∷ rest) zero top key line few there = absurd (omega (arith, few))
  in_subtree (x ∷ rest) (suc n) top key line few there =
      elim (or_cases (is_same x top) (has rest top) (sym (has-cons x rest top) ∙ there)) [
        | inl same ↦
            let here : top ≡ key = sym (is_same-true x top same) ∙ line.0 in
            ap (λ (k : NodeKey). has (subtree_in (suc n) below k) key) here ∙ has-first key (flat_map (subtree_in n below) (below key))
        | inr further ↦
            by_parent (up x) refl line.1 further
            (λ parent is above. in_subtree rest n top parent above (omega (arith, few)) further)
      ]
    where
      by_parent : (o : Option NodeKey) → up x ≡ o → IsLine up o rest → has rest top ≡ true
          → ((parent : NodeKey) → up x ≡ Some parent → IsLine up (Some parent) rest → has (subtree_in n below top) parent ≡ true)
          → has (subtree_in (suc n) below top) key ≡ true
      by_parent None is above further each = absurd (no_line rest above further)
        where
          no_line : (r : List NodeKey) → IsLine up None r → has r top ≡ true → ⊥
          no_line [] l h = both_ways _ (has-nil top) h
          no_line (y ∷ ys) l h = l
      by_parent (Some parent) is above further each =
          one_deeper n top parent key (each parent is above)
          (forth key parent (sym (ap up line.0) ∙ is))

same_bool : (a b : Bool) → (a ≡ true → b ≡ true) → (b ≡ true → a ≡ true) → a ≡ b
same_bool true b forth back = sym (forth refl)
same_bool false true forth back = back refl
same_bool false false forth back = refl

both_of : (a b : Bool) → (b ≡ true → a ≡ true) → b ≡ (a && b)
both_of true b forth = refl
both_of false true forth = sym (forth refl)
both_of false false forth = refl

module _ (scene : Scene) (sound : IsSound scene) where
  pub subtree_is : (top key : NodeKey) → has (subtree scene.nodes top) key ≡ is_within scene.nodes top key
  subtree_is top key =
      same_bool (has (subtree scene.nodes top) key) (is_within scene.nodes top key)
      (λ there.
      top_in_line (parent_of scene.nodes) (children_or_none scene.nodes) (listed scene sound) (child_of scene sound) 64 top key there
      (line scene.nodes key) (line_known scene sound key))
      (λ within.
      in_subtree (parent_of scene.nodes) (children_or_none scene.nodes) (listed scene sound) (child_of scene sound)
      (line scene.nodes key) 64 top key (line_known scene sound key) (short_line scene.nodes key) within)

  -- what stands below a living node lives
  pub within_lives : (top key : NodeKey) → is_alive scene.nodes top ≡ true → is_within scene.nodes top key ≡ true
      → is_alive scene.nodes key ≡ true
  within_lives top key alive within =
      elim (cases_Bool (is_alive scene.nodes key)) [
        | inl lives ↦ lives
        | inr dead ↦
            elim (or_cases (is_same key top) (has [] top) (sym (ap (λ (l : List NodeKey). has l top) (line_alone scene.nodes key (orphan scene sound key dead)) ∙ has-cons key [] top) ∙ within)) [
              | inl same ↦ ap (is_alive scene.nodes) (is_same-true key top same) ∙ alive
              | inr none ↦ absurd (both_ways _ (has-nil top) none)
            ]
      ]

  pub subtree_holds : (top key : NodeKey) → is_alive scene.nodes top ≡ true
      → has (subtree scene.nodes top) key ≡ (is_alive scene.nodes key && is_within scene.nodes top key)
  subtree_holds top key alive =
      subtree_is top key
      ∙ both_of (is_alive scene.nodes key) (is_within scene.nodes top key) (within_lives top key alive)
