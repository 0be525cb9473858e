-- What is left of each node where a further one is put behind the others.
use Rattle.std.proofs.Common.{◌≡◌, ◌+◌, ◌≤◌, Bool, true, false, cond, ◌||◌, List, [], ◌∷◌, ◌++◌, reverse, get_or, Option, Some, None, is_some, refl, sym, ◌∙◌, ap, inl, inr, arith}
use Rattle.std.proofs.lemmas.Bool.{cases_Bool, both_ways}
use Rattle.fx_base.specs.declared.keys.NodeKey.{NodeKey}
use Rattle.fx_tree.specs.Scene.{Node, Scene, IsSound, after_make, children_of, has, is_alive, is_same, line, parent_of, path}
use Rattle.fx_tree.proofs.Keys.{has-nil, is_same-refl, is_same-sym, is_same-true}
use Rattle.fx_tree.proofs.Lines.{line_in-same}
use Rattle.fx_tree_laws.proofs.Known.{children_first, children_further, children_there, parent_first, parent_further, passed, taken}

children_before : (nodes : List Node) (new : Node) (key : NodeKey) → is_same new.key key ≡ false
    → children_of (nodes ++ new ∷ []) key ≡ children_of nodes key
children_before [] new key other = children_further new [] key other
children_before (n ∷ nodes) new key other =
    elim (cases_Bool (is_same n.key key)) [
      | inl same ↦ children_first n (nodes ++ new ∷ []) key same ∙ sym (children_first n nodes key same)
      | inr apart ↦
          children_further n (nodes ++ new ∷ []) key apart
          ∙ children_before nodes new key other
          ∙ sym (children_further n nodes key apart)
    ]

children_newest : (nodes : List Node) (new : Node) → is_alive nodes new.key ≡ false
    → children_of (nodes ++ new ∷ []) new.key ≡ Some new.children
children_newest [] new dead = children_first new [] new.key (is_same-refl new.key)
children_newest (n ∷ nodes) new dead =
    elim (cases_Bool (is_same n.key new.key)) [
      | inl same ↦ absurd (both_ways _ dead (ap is_some (children_first n nodes new.key same)))
      | inr apart ↦
          children_further n (nodes ++ new ∷ []) new.key apart
          ∙ children_newest nodes new (sym (ap is_some (children_further n nodes new.key apart)) ∙ dead)
    ]

parent_before : (nodes : List Node) (new : Node) (key : NodeKey) → has new.children key ≡ false
    → parent_of (nodes ++ new ∷ []) key ≡ parent_of nodes key
parent_before [] new key none = parent_further new [] key none
parent_before (n ∷ nodes) new key none =
    elim (cases_Bool (has n.children key)) [
      | inl there ↦ parent_first n (nodes ++ new ∷ []) key there ∙ sym (parent_first n nodes key there)
      | inr apart ↦
          parent_further n (nodes ++ new ∷ []) key apart
          ∙ parent_before nodes new key none
          ∙ sym (parent_further n nodes key apart)
    ]

module _ (scene : Scene) (new : NodeKey) where
  pub parent_after_make : (key : NodeKey) → parent_of (after_make scene new).nodes key ≡ parent_of scene.nodes key
  parent_after_make key = parent_before scene.nodes (record { key = new; children = [] }) key (has-nil key)

  pub path_after_make : (key : NodeKey) → path (after_make scene new).nodes key ≡ path scene.nodes key
  unfolding line
  path_after_make key =
      ap reverse (line_in-same 64 (parent_of (after_make scene new).nodes) (parent_of scene.nodes) (Some key) parent_after_make)

  module _ (sound : IsSound scene) (next : new.birth ≡ scene.born + 1) where
    unborn : is_alive scene.nodes new ≡ false
    unborn = by_answer (children_of scene.nodes new) refl
      where
        by_answer : (o : Option (List NodeKey)) → children_of scene.nodes new ≡ o → is_some o ≡ false
        by_answer None answer = refl
        by_answer (Some keys) answer =
            let known = children_there scene.nodes new keys answer in
            let low : (get_or scene.nodes known.among.0 known.node).key.birth ≤ scene.born =
            sound.given known.among.0 known.node known.among.1 in
            let a : (get_or scene.nodes known.among.0 known.node).key.birth ≡ known.node.key.birth =
            ap (λ (n : Node). n.key.birth) known.among.2 in
            let b : known.node.key.birth ≡ new.birth = ap (λ (k : NodeKey). k.birth) known.is in
            absurd (omega (arith, low, a, b, next))

    pub children_after_make : (key : NodeKey)
        → children_of (after_make scene new).nodes key ≡ cond (is_same key new) (Some []) (children_of scene.nodes key)
    children_after_make key =
        elim (cases_Bool (is_same key new)) [
          | inl same ↦
              ap (children_of (after_make scene new).nodes) (is_same-true key new same)
              ∙ children_newest scene.nodes (record { key = new; children = [] }) unborn
              ∙ sym (taken _ (Some []) (children_of scene.nodes key) same)
          | inr apart ↦
              children_before scene.nodes (record { key = new; children = [] }) key (is_same-sym new key ∙ apart)
              ∙ sym (passed _ (Some []) (children_of scene.nodes key) apart)
        ]

    pub alive_after_make : (key : NodeKey)
        → is_alive (after_make scene new).nodes key ≡ (is_alive scene.nodes key || is_same key new)
    alive_after_make key =
        ap is_some (children_after_make key) ∙ by_test (is_same key new) (children_of scene.nodes key)
      where
        by_test : (b : Bool) (o : Option (List NodeKey)) → is_some (cond b (Some []) o) ≡ (is_some o || b)
        by_test true None = refl
        by_test true (Some keys) = refl
        by_test false None = refl
        by_test false (Some keys) = refl
