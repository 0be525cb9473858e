-- Each node in the scene but the root hangs on one that stands before it.
use Rattle.std.proofs.Common.{◌≡◌, ◌∙◌, ◌<◌, ℕ, zero, suc, Bool, true, cond, List, [], ◌∷◌, ◌++◌, All, Contains, append_assoc, arith, get_or, length, map, Option, Some, None, refl, sym, ap, subst, inl, inr, true≢false}
use Rattle.std.specs.Prelude.{unwrap_or}
use Rattle.std.specs.List.{find, flat_map, position, position_or_len}
use Rattle.std.specs.Option.{option_map}
use Rattle.std.proofs.lemmas.Bool.{cases_Bool, cases_lt, lt-ltb}
use Rattle.std.proofs.lemmas.List.{append-nil, map-append}
use Rattle.std.proofs.lemmas.List.Elements.{All-cons, All-nil, Contains-append_left, Contains-push}
use Rattle.std.proofs.lemmas.List.Sums.{fails_before_first}
use Rattle.fx_base.specs.declared.keys.NodeKey.{NodeKey}
use Rattle.fx_graph_model.proofs.Members.{contains_cases, contains_first, contains_later}
use Rattle.fx_stage_model.specs.World.{World}
use Rattle.fx_tree.specs.Scene.{IsSound, Node, Scene, children_of, children_or_none, has, is_same, parent_of, subtree_in}
use Rattle.fx_tree.proofs.Keys.{has-item, is_same-refl, is_same-true}
use Rattle.fx_stage_facts.specs.declared.stands.Stand.{Stand}
use Rattle.fx_stage_facts.specs.Stands.{place_of, stand_of, stands_from}

-- what is found

some_is : {A : Type 0} (a b : A) → ◌≡◌ {A = Option A} (Some a) (Some b) → a ≡ b
some_is a b e = cc

found : {X : Type 0} (test : X → Bool) (xs : List X) (x : X) → find test xs ≡ Some x → Contains xs x × (test x ≡ true)
found test [] x is = absurd (cc)
found test (y ∷ ys) x is =
    elim (cases_Bool (test y)) [
      | inl passes ↦
          let same : y ≡ x = some_is y x (sym (ap (λ (b : Bool). cond b (Some y) (find test ys)) passes) ∙ is) in
          ((0, omega arith, same), ap test (sym same) ∙ passes)
      | inr fails ↦
          let rest = found test ys x (sym (ap (λ (b : Bool). cond b (Some y) (find test ys)) fails) ∙ is) in
          (contains_later y ys x rest.0, rest.1)
    ]

not_missed : {X : Type 0} (test : X → Bool) (xs : List X) (x : X) → find test xs ≡ None → Contains xs x → test x ≡ true → ⊥
not_missed test [] x is there passes = omega (arith, there.1)
not_missed test (y ∷ ys) x is there passes =
    elim (cases_Bool (test y)) [
      | inl hit ↦
          let none : ◌≡◌ {A = Option _} (Some y) None = sym (ap (λ (b : Bool). cond b (Some y) (find test ys)) hit) ∙ is in absurd (cc)
      | inr fails ↦
          elim (contains_cases y ys x there) [
            | inl same ↦ absurd (true≢false (sym passes ∙ ap test (sym same) ∙ fails))
            | inr further ↦
                not_missed test ys x (sym (ap (λ (b : Bool). cond b (Some y) (find test ys)) fails) ∙ is) further passes
          ]
    ]

contains_has : (keys : List NodeKey) (key : NodeKey) → Contains keys key → has keys key ≡ true
contains_has keys key (k, within, is) = sym (ap (has keys) is) ∙ has-item keys k key within

module _ (scene : Scene) (sound : IsSound scene) where
  by_holder : (key parent : NodeKey) (node : Node) → Contains scene.nodes node → node.key ≡ parent → has node.children key ≡ true
      → (o : Option Node) → find (λ (n : Node). has n.children key) scene.nodes ≡ o
      → option_map (λ (n : Node). n.key) o ≡ Some parent
  by_holder key parent node among same there None is =
      absurd (not_missed (λ (n : Node). has n.children key) scene.nodes node is among there)
  by_holder key parent node among same there (Some other) is =
      let f = found (λ (n : Node). has n.children key) scene.nodes other is in
      ap Some (ap (λ (n : Node). n.key) (sound.one_list other node key f.0 among f.1 there) ∙ same)

  by_parent : (key parent : NodeKey) (o : Option Node) → find (λ (n : Node). is_same n.key parent) scene.nodes ≡ o
      → Contains (unwrap_or (option_map (λ (n : Node). n.children) o) []) key
      → option_map (λ (n : Node). n.key) (find (λ (n : Node). has n.children key) scene.nodes) ≡ Some parent
  by_parent key parent None is there = absurd (omega (arith, there.1))
  by_parent key parent (Some node) is there =
      let f = found (λ (n : Node). is_same n.key parent) scene.nodes node is in
      by_holder key parent node f.0 (is_same-true node.key parent f.1) (contains_has node.children key there)
      (find (λ (n : Node). has n.children key) scene.nodes) refl

  pub child_up : (parent key : NodeKey) → Contains (children_or_none scene.nodes parent) key
      → parent_of scene.nodes key ≡ Some parent
  unfolding children_of parent_of
  child_up parent key there = by_parent key parent (find (λ (n : Node). is_same n.key parent) scene.nodes) refl there

-- each key's parent stands before it

abbrev HasBefore : (NodeKey → Option NodeKey) → List NodeKey → NodeKey → Type 0
HasBefore up front key = (parent : NodeKey) × (up key ≡ Some parent) × Contains front parent

abbrev pub Hang : (NodeKey → Option NodeKey) → List NodeKey → List NodeKey → Type 0
Hang up front [] = Unit {0}
Hang up front (key ∷ keys) = HasBefore up front key × Hang up (front ++ key ∷ []) keys

hang_append : (up : NodeKey → Option NodeKey) (xs ys front : List NodeKey) → Hang up front xs → Hang up (front ++ xs) ys
    → Hang up front (xs ++ ys)
hang_append up [] ys front one other = subst (λ (f : List NodeKey). Hang up f ys) (append-nil front) other
hang_append up (x ∷ xs) ys front (at, one) other =
    (at, hang_append up xs ys (front ++ x ∷ []) one (subst (λ (f : List NodeKey). Hang up f ys) (sym (append_assoc front (x ∷ []) xs)) other))

hang_all : (up : NodeKey → Option NodeKey) (tree : NodeKey → List NodeKey)
    → ((key : NodeKey) (front : List NodeKey) → HasBefore up front key → Hang up front (tree key)) → (keys front : List NodeKey)
    → ((key : NodeKey) → Contains keys key → HasBefore up front key) → Hang up front (flat_map tree keys)
hang_all up tree each [] front here = tt
hang_all up tree each (key ∷ keys) front here =
    hang_append up (tree key) (flat_map tree keys) front (each key front (here key (contains_first key keys)))
    (hang_all up tree each keys (front ++ tree key)
    (λ other there.
    let at = here other (contains_later key keys other there) in
    (at.0, at.1, Contains-append_left front (tree key) at.0 at.2)))

module _ (up : NodeKey → Option NodeKey) (below : NodeKey → List NodeKey)
    (down : (parent key : NodeKey) → Contains (below parent) key → up key ≡ Some parent) where
  hang_tree : (n : ℕ) (key : NodeKey) (front : List NodeKey) → HasBefore up front key → Hang up front (subtree_in n below key)
  unfolding subtree_in
  hang_tree zero key front at = tt
  hang_tree (suc n) key front at = (
    at,
    hang_all up (subtree_in n below) (hang_tree n) (below key) (front ++ key ∷ [])
        (λ child there. (key, down key child there, Contains-push front key)),
  )

  pub hang_below : (n : ℕ) (root : NodeKey) → Hang up (root ∷ []) (flat_map (subtree_in n below) (below root))
  hang_below n root =
      hang_all up (subtree_in n below) (hang_tree n) (below root) (root ∷ [])
      (λ child there. (root, down root child there, contains_first root []))

-- so each node has the place of its parent

abbrev pub HasParent : Stand → Type 0
HasParent stand = (place : ℕ) × (stand.parent ≡ Some place)

first_found : {X : Type 0} (test : X → Bool) (xs : List X) (k : ℕ) (d : X) → k < length xs → test (get_or xs k d) ≡ true
    → (place : ℕ) × (position test xs ≡ Some place)
first_found test xs k d within passes =
    elim (cases_lt k (position_or_len test xs)) [
      | inl low ↦ absurd (true≢false (sym passes ∙ fails_before_first test xs k d low))
      | inr past ↦ (
        position_or_len test xs,
        ap (λ (b : Bool). cond b (Some (position_or_len test xs)) None)
            (lt-ltb (position_or_len test xs) (length xs) (omega (arith, past, within))),
      )
    ]

key_there : (stands : List Stand) (key : NodeKey) → Contains (map (λ (stand : Stand). stand.key) stands) key
    → (stand : Stand) × Contains stands stand × (stand.key ≡ key)
key_there [] key there = absurd (omega (arith, there.1))
key_there (stand ∷ rest) key there =
    elim (contains_cases stand.key (map (λ (s : Stand). s.key) rest) key there) [
      | inl same ↦ (stand, contains_first stand rest, same)
      | inr later ↦ let more = key_there rest key later in (more.0, contains_later stand rest more.0 more.1, more.2)
    ]

place_there : (stands : List Stand) (key : NodeKey) → Contains (map (λ (stand : Stand). stand.key) stands) key
    → (place : ℕ) × (place_of stands (Some key) ≡ Some place)
place_there stands key there =
    let at = key_there stands key there in
    first_found (λ (s : Stand). is_same s.key key) stands at.1.0 at.0 at.1.1
    (ap (λ (s : Stand). is_same s.key key) at.1.2 ∙ ap (λ (k : NodeKey). is_same k key) at.2 ∙ is_same-refl key)

abbrev AreHung : World → List Stand → List NodeKey → Type 0
AreHung world stands keys = (more : List Stand) × (stands_from world stands keys ≡ stands ++ more) × All HasParent more

pub all_hung : (world : World) (keys : List NodeKey) (stands : List Stand)
    → Hang (parent_of world.graph.tree.nodes) (map (λ (stand : Stand). stand.key) stands) keys → AreHung world stands keys
all_hung world [] stands hang = ([], sym (append-nil stands), All-nil HasParent)
all_hung world (key ∷ keys) stands (at, hang) =
    let stand = stand_of world stands key in
    let found = place_there stands at.0 at.2 in
    let parent : HasParent stand = (found.0, ap (place_of stands) at.1 ∙ found.1) in
    let rest =
    all_hung world keys (stands ++ stand ∷ [])
    (subst (λ (f : List NodeKey). Hang (parent_of world.graph.tree.nodes) f keys)
    (sym (map-append (λ (s : Stand). s.key) stands (stand ∷ []))) hang) in
    (stand ∷ rest.0, rest.1 ∙ append_assoc stands (stand ∷ []) rest.0, All-cons HasParent stand rest.0 parent rest.2)
