-- What is left of each node where a child is put into the list of its parent.
use Rattle.std.proofs.Common.{◌≡◌, ℕ, zero, suc, ◌+◌, ◌≤◌, Bool, true, false, not, cond, ltb, ◌&&◌, ◌||◌, List, [], ◌∷◌, ◌++◌, length, map, reverse, Option, Some, None, is_some, Contains, refl, sym, ◌∙◌, ap, subst, inl, inr, arith, length-append}
use Rattle.std.specs.Option.{option_map}
use Rattle.std.specs.List.{insert, list_any}
use Rattle.std.proofs.lemmas.Bool.{cases_Bool, both_ways, ltb-false, not-false, or_left, or_parts}
use Rattle.std.proofs.lemmas.List.{append-nil, reverse-append}
use Rattle.fx_base.specs.declared.keys.NodeKey.{NodeKey}
use Rattle.fx_tree.specs.declared.TreeError.TheVariants.{Attached, Place, Depth}
use Rattle.fx_tree.specs.Scene.{Node, Scene, IsLine, IsSound, after_attach, children_of, children_or_none, has, is_alive, is_same, is_too_deep, is_within, line, parent_of, path, with_child}
use Rattle.fx_tree.specs.Refusals.{attach_refusal, is_held, refused}
use Rattle.fx_tree.proofs.Keys.{has-insert, is_same-false, is_same-refl, is_same-sym, is_same-true}
use Rattle.fx_tree.proofs.Lines.{IsLine-joined, IsLine-same}
use Rattle.fx_tree.proofs.Views.{none_from, refused-None}
use Rattle.fx_tree_laws.proofs.Known.{children_further, children_of-nil, children_there, line_from, line_known, line_stays, parent_first, parent_further, parent_nowhere, passed, short_line, taken}
use Rattle.fx_tree_laws.proofs.Subtrees.{within_lives}
use Rattle.fx_tree_laws.proofs.Mapped.{children_mapped, is_some-mapped, parent_mapped}

pub children_attached : (parent child : NodeKey) (place : ℕ) (nodes : List Node) (key : NodeKey)
    → children_of (map (with_child parent child place) nodes) key
    ≡ option_map (λ (keys : List NodeKey). cond (is_same key parent) (insert keys place child) keys) (children_of nodes key)
children_attached parent child place nodes key =
    children_mapped (with_child parent child place) (λ node. refl)
    (λ (k : NodeKey) (keys : List NodeKey). cond (is_same k parent) (insert keys place child) keys) (λ node. refl) nodes key

pub alive_attached : (parent child : NodeKey) (place : ℕ) (nodes : List Node) (key : NodeKey)
    → is_alive (map (with_child parent child place) nodes) key ≡ is_alive nodes key
alive_attached parent child place nodes key =
    ap is_some (children_attached parent child place nodes key)
    ∙ is_some-mapped (λ (keys : List NodeKey). cond (is_same key parent) (insert keys place child) keys) (children_of nodes key)

parent_attached : (parent child : NodeKey) (place : ℕ) (nodes : List Node) → parent_of nodes child ≡ None
    → is_alive nodes parent ≡ true → parent_of (map (with_child parent child place) nodes) child ≡ Some parent
parent_attached parent child place [] topmost alive = absurd (both_ways _ (ap is_some (children_of-nil parent)) alive)
parent_attached parent child place (n ∷ nodes) topmost alive =
    elim (cases_Bool (is_same n.key parent)) [
      | inl same ↦
          parent_first (with_child parent child place n) (map (with_child parent child place) nodes) child
          (ap (λ (b : Bool). has (cond b (insert n.children place child) n.children) child) same
          ∙ has-insert place n.children child child
          ∙ or_left (is_same child child) (has n.children child) (is_same-refl child))
          ∙ ap Some (is_same-true n.key parent same)
      | inr apart ↦
          let none : has n.children child ≡ false = parent_nowhere (n ∷ nodes) child topmost n (0, omega arith, refl) in
          parent_further (with_child parent child place n) (map (with_child parent child place) nodes) child
          (ap (λ (b : Bool). has (cond b (insert n.children place child) n.children) child) apart ∙ none)
          ∙ parent_attached parent child place nodes (sym (parent_further n nodes child none) ∙ topmost)
          (sym (ap is_some (children_further n nodes parent apart)) ∙ alive)
    ]

parent_beside : (parent child : NodeKey) (place : ℕ) (nodes : List Node) (key : NodeKey) → is_same key child ≡ false
    → parent_of (map (with_child parent child place) nodes) key ≡ parent_of nodes key
parent_beside parent child place nodes key other =
    parent_mapped (with_child parent child place) (λ node. refl) key
    (λ node. by_test (is_same node.key parent) node.children) nodes
  where
    by_test : (b : Bool) (keys : List NodeKey) → has (cond b (insert keys place child) keys) key ≡ has keys key
    by_test true keys =
        has-insert place keys child key
        ∙ ap (λ (b : Bool). b || has keys key) (is_same-sym child key ∙ other)
    by_test false keys = refl

-- what is known where a child may be attached
pub record IsFree (scene : Scene) (parent child : NodeKey) : Type 0 where
  pub parent_alive : is_alive scene.nodes parent ≡ true
  pub child_alive : is_alive scene.nodes child ≡ true
  pub no_loop : has (line scene.nodes parent) child ≡ false
  pub topmost : parent_of scene.nodes child ≡ None
  pub no_root : is_held scene.root child ≡ false
  pub fits : is_too_deep scene.nodes parent child ≡ false

pub free : (scene : Scene) (parent child : NodeKey) (place : ℕ) → attach_refusal scene parent child place ≡ None
    → IsFree scene parent child
unfolding attach_refusal
free scene parent child place none =
    let deep = refused (is_too_deep scene.nodes parent child) Depth None in
    let past = ltb (length (children_or_none scene.nodes parent)) place in
    let one = refused-None _ _ _ none in
    let two = refused-None _ _ _ one.1 in
    let three = refused-None _ _ _ two.1 in
    let four = refused-None (is_held scene.root child) Attached (refused past Place deep) three.1 in
    let five = refused-None past Place deep four.1 in
    let six = refused-None (is_too_deep scene.nodes parent child) Depth None five.1 in
    let alive = or_parts (not (is_alive scene.nodes parent)) (not (is_alive scene.nodes child)) one.0 in
    record {
      parent_alive = not-false (is_alive scene.nodes parent) alive.0;
      child_alive = not-false (is_alive scene.nodes child) alive.1;
      no_loop = two.0;
      topmost = none_from (parent_of scene.nodes child) three.0;
      no_root = four.0;
      fits = six.0;
    }

list_any-each : (test : Node → Bool) (nodes : List Node) (node : Node) → list_any test nodes ≡ false → Contains nodes node → test node ≡ false
list_any-each test [] node none at = absurd (omega (arith, at.1))
list_any-each test (n ∷ nodes) node none (zero, within, is) = sym (ap test is) ∙ (or_parts (test n) (list_any test nodes) none).0
list_any-each test (n ∷ nodes) node none (suc k, within, is) =
    list_any-each test nodes node (or_parts (test n) (list_any test nodes) none).1 (k, omega (arith, within), is)

module _ (scene : Scene) (sound : IsSound scene) (parent child : NodeKey) (place : ℕ) (is : IsFree scene parent child) where
  pub parent_after_attach : (key : NodeKey)
      → parent_of (after_attach scene parent child place).nodes key ≡ cond (is_same key child) (Some parent) (parent_of scene.nodes key)
  parent_after_attach key =
      elim (cases_Bool (is_same key child)) [
        | inl same ↦
            ap (parent_of (after_attach scene parent child place).nodes) (is_same-true key child same)
            ∙ parent_attached parent child place scene.nodes is.topmost is.parent_alive
            ∙ sym (taken _ (Some parent) (parent_of scene.nodes key) same)
        | inr apart ↦
            parent_beside parent child place scene.nodes key apart
            ∙ sym (passed _ (Some parent) (parent_of scene.nodes key) apart)
      ]

  new_line : (key : NodeKey)
      → IsLine (parent_of (after_attach scene parent child place).nodes) (Some key)
      (line scene.nodes key ++ cond (has (line scene.nodes key) child) (line scene.nodes parent) [])
  new_line key =
      IsLine-joined (parent_of scene.nodes) (parent_of (after_attach scene parent child place).nodes) child
      (λ k other. parent_beside parent child place scene.nodes k other)
      parent (line scene.nodes parent) is.topmost
      (parent_attached parent child place scene.nodes is.topmost is.parent_alive)
      (IsLine-same (parent_of scene.nodes) (parent_of (after_attach scene parent child place).nodes) (Some parent) (line scene.nodes parent)
      (λ k there. parent_beside parent child place scene.nodes k
      (is_same-false k child (λ e. both_ways _ is.no_loop (sym (ap (has (line scene.nodes parent)) e) ∙ there))))
      (line_known scene sound parent))
      (Some key) (line scene.nodes key) (line_known scene sound key)

  short_enough : (key : NodeKey) → is_within scene.nodes child key ≡ true
      → length (line scene.nodes parent) + length (line scene.nodes key) ≤ 64
  unfolding is_too_deep
  short_enough key within = by_answer (children_of scene.nodes key) refl (within_lives scene sound child key is.child_alive within)
    where
      by_answer : (o : Option (List NodeKey)) → children_of scene.nodes key ≡ o → is_some o ≡ true
          → length (line scene.nodes parent) + length (line scene.nodes key) ≤ 64
      by_answer None answer alive = absurd (both_ways _ refl alive)
      by_answer (Some keys) answer alive =
          let known = children_there scene.nodes key keys answer in
          let test : (has (line scene.nodes known.node.key) child && ltb 64 (length (line scene.nodes parent) + length (line scene.nodes known.node.key))) ≡ false =
          list_any-each
          (λ (node : Node). has (line scene.nodes node.key) child && ltb 64 (length (line scene.nodes parent) + length (line scene.nodes node.key)))
          scene.nodes known.node is.fits known.among in
          let here : (has (line scene.nodes key) child && ltb 64 (length (line scene.nodes parent) + length (line scene.nodes key))) ≡ false =
          sym (ap (λ (k : NodeKey). has (line scene.nodes k) child && ltb 64 (length (line scene.nodes parent) + length (line scene.nodes k))) known.is) ∙ test in
          ltb-false 64 (length (line scene.nodes parent) + length (line scene.nodes key))
          (sym (ap (λ (b : Bool). b && ltb 64 (length (line scene.nodes parent) + length (line scene.nodes key))) within) ∙ here)

  line_joined : (key : NodeKey) → is_within scene.nodes child key ≡ true
      → IsLine (parent_of (after_attach scene parent child place).nodes) (Some key) (line scene.nodes key ++ line scene.nodes parent)
  line_joined key within =
      let P : Bool → Type 0 = λ b. IsLine (parent_of (after_attach scene parent child place).nodes) (Some key)
      (line scene.nodes key ++ cond b (line scene.nodes parent) []) in
      subst P within (new_line key)

  few_joined : (key : NodeKey) → is_within scene.nodes child key ≡ true → length (line scene.nodes key ++ line scene.nodes parent) ≤ 64
  few_joined key within =
      let long : length (line scene.nodes key ++ line scene.nodes parent) ≡ length (line scene.nodes key) + length (line scene.nodes parent) =
      length-append (line scene.nodes key) (line scene.nodes parent) in
      omega (arith, long, short_enough key within)

  line_beside : (key : NodeKey) → is_within scene.nodes child key ≡ false
      → IsLine (parent_of (after_attach scene parent child place).nodes) (Some key) (line scene.nodes key)
  line_beside key apart =
      let P : Bool → Type 0 = λ b. IsLine (parent_of (after_attach scene parent child place).nodes) (Some key)
      (line scene.nodes key ++ cond b (line scene.nodes parent) []) in
      let Q : List NodeKey → Type 0 = λ l. IsLine (parent_of (after_attach scene parent child place).nodes) (Some key) l in
      subst Q (append-nil (line scene.nodes key)) (subst P apart (new_line key))

  pub line_after_attach : (key : NodeKey)
      → IsLine (parent_of (after_attach scene parent child place).nodes) (Some key) (line (after_attach scene parent child place).nodes key)
  line_after_attach key =
      elim (cases_Bool (is_within scene.nodes child key)) [
        | inl within ↦
            line_stays (after_attach scene parent child place).nodes key (line scene.nodes key ++ line scene.nodes parent)
            (line_joined key within) (few_joined key within)
        | inr apart ↦
            line_stays (after_attach scene parent child place).nodes key (line scene.nodes key) (line_beside key apart)
            (short_line scene.nodes key)
      ]

  path_joined : (key : NodeKey) → is_within scene.nodes child key ≡ true
      → path (after_attach scene parent child place).nodes key ≡ path scene.nodes parent ++ path scene.nodes key
  path_joined key within =
      ap reverse
      (line_from (after_attach scene parent child place).nodes key (line scene.nodes key ++ line scene.nodes parent)
      (line_joined key within) (few_joined key within))
      ∙ reverse-append (line scene.nodes key) (line scene.nodes parent)

  path_beside : (key : NodeKey) → is_within scene.nodes child key ≡ false
      → path (after_attach scene parent child place).nodes key ≡ path scene.nodes key
  path_beside key apart =
      ap reverse
      (line_from (after_attach scene parent child place).nodes key (line scene.nodes key) (line_beside key apart)
      (short_line scene.nodes key))

  pub path_after_attach : (key : NodeKey) → path (after_attach scene parent child place).nodes key
      ≡ cond (is_within scene.nodes child key) (path scene.nodes parent ++ path scene.nodes key) (path scene.nodes key)
  path_after_attach key =
      elim (cases_Bool (is_within scene.nodes child key)) [
        | inl within ↦ path_joined key within ∙ sym (taken _ (path scene.nodes parent ++ path scene.nodes key) (path scene.nodes key) within)
        | inr apart ↦ path_beside key apart ∙ sym (passed _ (path scene.nodes parent ++ path scene.nodes key) (path scene.nodes key) apart)
      ]
