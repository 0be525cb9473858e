-- What is left of each node where nodes are left out by their keys.
use Rattle.std.proofs.Common.{◌≡◌, Bool, true, false, not, cond, ◌&&◌, ◌||◌, List, [], ◌∷◌, filter, reverse, Option, Some, None, is_some, Contains, refl, sym, ◌∙◌, ap, inl, inr, arith}
use Rattle.std.proofs.lemmas.Bool.{cases_Bool, both_ways, or_parts, false_from_ne_true}
use Rattle.std.proofs.lemmas.Option.{none-some}
use Rattle.fx_base.specs.declared.keys.NodeKey.{NodeKey}
use Rattle.fx_tree.specs.Scene.{Node, Scene, IsLine, IsSound, after_drop, children_of, has, is_alive, is_same, is_within, line, parent_of, path, subtree}
use Rattle.fx_tree.specs.Refusals.{drop_refusal, is_held}
use Rattle.fx_tree.proofs.Keys.{has-cons, is_same-false, is_same-true}
use Rattle.fx_tree.proofs.Lines.{IsLine-same}
use Rattle.fx_tree.proofs.Views.{none_from, refused-None}
use Rattle.fx_tree.proofs.Walks.{deep}
use Rattle.fx_tree_laws.proofs.Known.{Contains-cons, children_first, children_further, children_of-nil, line_below, line_from, line_known, line_stays, parent_first, parent_further, parent_is, parent_of-nil, passed, short_line, taken}
use Rattle.fx_tree_laws.proofs.Subtrees.{subtree_is}

children_left : (test : NodeKey → Bool) (nodes : List Node) (key : NodeKey)
    → children_of (filter (λ (n : Node). test n.key) nodes) key ≡ cond (test key) (children_of nodes key) None
children_left test [] key =
    children_of-nil key ∙ sym (ap (λ (o : Option (List NodeKey)). cond (test key) o None) (children_of-nil key) ∙ nothing (test key))
  where
    nothing : (b : Bool) → cond b None (let o : Option (List NodeKey) = None in o) ≡ None
    nothing true = refl
    nothing false = refl
children_left test (n ∷ nodes) key =
    elim (cases_Bool (test n.key)) [
      | inl stays ↦
          ap (λ (b : Bool). children_of (cond b (n ∷ filter (λ (m : Node). test m.key) nodes) (filter (λ (m : Node). test m.key) nodes)) key) stays
          ∙ elim (cases_Bool (is_same n.key key)) [
            | inl same ↦
                children_first n (filter (λ (m : Node). test m.key) nodes) key same
                ∙ sym
                (ap (λ (o : Option (List NodeKey)). cond (test key) o None) (children_first n nodes key same)
                ∙ taken _ (Some n.children) None (sym (ap test (is_same-true n.key key same)) ∙ stays))
            | inr apart ↦
                children_further n (filter (λ (m : Node). test m.key) nodes) key apart
                ∙ children_left test nodes key
                ∙ sym (ap (λ (o : Option (List NodeKey)). cond (test key) o None) (children_further n nodes key apart))
          ]
      | inr goes ↦
          ap (λ (b : Bool). children_of (cond b (n ∷ filter (λ (m : Node). test m.key) nodes) (filter (λ (m : Node). test m.key) nodes)) key) goes
          ∙ children_left test nodes key
          ∙ elim (cases_Bool (is_same n.key key)) [
            | inl same ↦
                let out : test key ≡ false = sym (ap test (is_same-true n.key key same)) ∙ goes in
                passed _ (children_of nodes key) None out
                ∙ sym (passed _ (children_of (n ∷ nodes) key) None out)
            | inr apart ↦ sym (ap (λ (o : Option (List NodeKey)). cond (test key) o None) (children_further n nodes key apart))
          ]
    ]

-- all nodes that have the key as a child stay, or all go
parent_left : (test : NodeKey → Bool) (stay : Bool) (key : NodeKey) (nodes : List Node)
    → ((node : Node) → Contains nodes node → has node.children key ≡ true → test node.key ≡ stay)
    → parent_of (filter (λ (n : Node). test n.key) nodes) key ≡ cond stay (parent_of nodes key) None
parent_left test stay key [] each =
    parent_of-nil key ∙ sym (ap (λ (o : Option NodeKey). cond stay o None) (parent_of-nil key) ∙ nothing stay)
  where
    nothing : (b : Bool) → cond b None (let o : Option NodeKey = None in o) ≡ None
    nothing true = refl
    nothing false = refl
parent_left test stay key (n ∷ nodes) each =
    let rest = parent_left test stay key nodes (λ node at. each node (Contains-cons n node nodes at)) in
    elim (cases_Bool (test n.key)) [
      | inl stays ↦
          ap (λ (b : Bool). parent_of (cond b (n ∷ filter (λ (m : Node). test m.key) nodes) (filter (λ (m : Node). test m.key) nodes)) key) stays
          ∙ elim (cases_Bool (has n.children key)) [
            | inl there ↦
                parent_first n (filter (λ (m : Node). test m.key) nodes) key there
                ∙ sym
                (ap (λ (o : Option NodeKey). cond stay o None) (parent_first n nodes key there)
                ∙ taken _ (Some n.key) None (sym (each n (0, omega arith, refl) there) ∙ stays))
            | inr apart ↦
                parent_further n (filter (λ (m : Node). test m.key) nodes) key apart
                ∙ rest
                ∙ sym (ap (λ (o : Option NodeKey). cond stay o None) (parent_further n nodes key apart))
          ]
      | inr goes ↦
          ap (λ (b : Bool). parent_of (cond b (n ∷ filter (λ (m : Node). test m.key) nodes) (filter (λ (m : Node). test m.key) nodes)) key) goes
          ∙ rest
          ∙ elim (cases_Bool (has n.children key)) [
            | inl there ↦
                let out : stay ≡ false = sym (each n (0, omega arith, refl) there) ∙ goes in
                passed _ (parent_of nodes key) None out
                ∙ sym (passed _ (parent_of (n ∷ nodes) key) None out)
            | inr apart ↦ sym (ap (λ (o : Option NodeKey). cond stay o None) (parent_further n nodes key apart))
          ]
    ]

-- what is known where a tree may be dropped
pub record IsLoose (scene : Scene) (top : NodeKey) : Type 0 where
  pub topmost : parent_of scene.nodes top ≡ None
  pub no_root : is_held scene.root top ≡ false

pub loose : (scene : Scene) (top : NodeKey) → drop_refusal scene top ≡ None → IsLoose scene top
unfolding drop_refusal
loose scene top none =
    let one = refused-None _ _ _ none in
    let two = refused-None _ _ _ one.1 in
    let parts = or_parts (is_some (parent_of scene.nodes top)) (is_held scene.root top) two.0 in
    record { topmost = none_from (parent_of scene.nodes top) parts.0; no_root = parts.1 }

turned : {X : Type 0} (b : Bool) (x y : X) → cond (not b) x y ≡ cond b y x
turned true x y = refl
turned false x y = refl

module _ (scene : Scene) (top : NodeKey) where
  pub children_after_drop : (key : NodeKey)
      → children_of (after_drop scene top).nodes key ≡ cond (is_within scene.nodes top key) None (children_of scene.nodes key)
  children_after_drop key =
      children_left (λ (k : NodeKey). not (is_within scene.nodes top k)) scene.nodes key
      ∙ turned (is_within scene.nodes top key) (children_of scene.nodes key) None

  pub alive_after_drop : (key : NodeKey)
      → is_alive (after_drop scene top).nodes key ≡ (is_alive scene.nodes key && not (is_within scene.nodes top key))
  alive_after_drop key =
      ap is_some (children_after_drop key) ∙ by_test (is_within scene.nodes top key) (children_of scene.nodes key)
    where
      by_test : (b : Bool) (o : Option (List NodeKey)) → is_some (cond b None o) ≡ (is_some o && not b)
      by_test true None = refl
      by_test true (Some keys) = refl
      by_test false None = refl
      by_test false (Some keys) = refl

  -- those are gone that its subtree listed
  pub listed_after_drop : IsSound scene → (key : NodeKey)
      → is_alive (after_drop scene top).nodes key ≡ (is_alive scene.nodes key && not (has (subtree scene.nodes top) key))
  listed_after_drop sound key =
      alive_after_drop key
      ∙ ap (λ (b : Bool). is_alive scene.nodes key && not b) (sym (subtree_is scene sound top key))

  module _ (sound : IsSound scene) (topmost : parent_of scene.nodes top ≡ None) where
    -- a child stands within where its parent does
    pub with_parent : (key parent : NodeKey) → parent_of scene.nodes key ≡ Some parent
        → is_within scene.nodes top parent ≡ is_within scene.nodes top key
    with_parent key parent is =
        let other : is_same key top ≡ false =
        is_same-false key top (λ e. none-some parent (sym topmost ∙ ap (parent_of scene.nodes) (sym e) ∙ is)) in
        sym
        (ap (λ (l : List NodeKey). has l top) (line_below scene sound key parent is)
        ∙ has-cons key (line scene.nodes parent) top
        ∙ ap (λ (b : Bool). b || has (line scene.nodes parent) top) other)

    pub parent_after_drop : (key : NodeKey)
        → parent_of (after_drop scene top).nodes key ≡ cond (is_within scene.nodes top key) None (parent_of scene.nodes key)
    parent_after_drop key =
        parent_left (λ (k : NodeKey). not (is_within scene.nodes top k)) (not (is_within scene.nodes top key)) key scene.nodes
        (λ node at child. ap not (with_parent key node.key (parent_is scene sound key node at child)))
        ∙ turned (is_within scene.nodes top key) (parent_of scene.nodes key) None

    kept_line : (key : NodeKey) → is_within scene.nodes top key ≡ false
        → IsLine (parent_of (after_drop scene top).nodes) (Some key) (line scene.nodes key)
    kept_line key apart =
        IsLine-same (parent_of scene.nodes) (parent_of (after_drop scene top).nodes) (Some key) (line scene.nodes key)
        (λ k there.
        parent_after_drop k
        ∙ passed _ None (parent_of scene.nodes k)
        (false_from_ne_true (is_within scene.nodes top k)
        (λ within.
        both_ways _ apart
        (deep (parent_of scene.nodes) k top (line scene.nodes k) (line_known scene sound k) within (Some key) (line scene.nodes key)
        (line_known scene sound key) there))))
        (line_known scene sound key)

    pub line_after_drop : (key : NodeKey) → is_within scene.nodes top key ≡ false
        → IsLine (parent_of (after_drop scene top).nodes) (Some key) (line (after_drop scene top).nodes key)
    line_after_drop key apart =
        line_stays (after_drop scene top).nodes key (line scene.nodes key) (kept_line key apart) (short_line scene.nodes key)

    pub path_after_drop : (key : NodeKey) → is_within scene.nodes top key ≡ false
        → path (after_drop scene top).nodes key ≡ path scene.nodes key
    path_after_drop key apart =
        ap reverse
        (line_from (after_drop scene top).nodes key (line scene.nodes key) (kept_line key apart) (short_line scene.nodes key))
