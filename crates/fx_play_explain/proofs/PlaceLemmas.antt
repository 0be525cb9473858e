-- A node that stands in the scene is one of the nodes that stand there.
use Rattle.std.proofs.Common.{◌≡◌, ◌∙◌, ◌<◌, ◌||◌, ◌⊎◌, ◌+◌, ℕ, zero, suc, Bool, true, cond, List, [], ◌∷◌, ◌++◌, Contains, Option, Some, None, ap, arith, get_or, inl, inr, length, map, not, refl, subst, sym, unwrap_or}
use Rattle.std.specs.Option.{option_map, option_map_or}
use Rattle.std.specs.List.{AllPairs, find, flat_map, position_or_len}
use Rattle.std.proofs.lemmas.Bool.{both_ways, cases_Bool, cases_lt, false≢true, or_cases, or_left, or_right}
use Rattle.std.proofs.lemmas.List.{get_or_default}
use Rattle.std.proofs.lemmas.Option.{none-some, same_Some}
use Rattle.fx_base.specs.declared.keys.NodeKey.{NodeKey}
use Rattle.fx_focus.specs.Attached.{is_attached, is_attached_at}
use Rattle.fx_tree.specs.Scene.{IsSound, Node, Scene, children_of, children_or_none, has, is_same, line_in, line, parent_of, subtree, subtree_in}
use Rattle.fx_tree.proofs.Keys.{has-cons, has-nil, is_same-refl, is_same-true}
use Rattle.fx_tree.proofs.Lines.{line_in-none}

-- keys among keys

nowhere : (key : NodeKey) (keys : List NodeKey) → keys ≡ [] → has keys key ≡ true → ⊥
nowhere key keys none there = both_ways (has keys key) (ap (λ (ks : List NodeKey). has ks key) none ∙ has-nil key) there

first : (key : NodeKey) (keys : List NodeKey) → has (key ∷ keys) key ≡ true
first key keys = has-cons key keys key ∙ or_left (is_same key key) (has keys key) (is_same-refl key)

further : (other : NodeKey) (keys : List NodeKey) (key : NodeKey) → has keys key ≡ true → has (other ∷ keys) key ≡ true
further other keys key there = has-cons other keys key ∙ or_right (is_same other key) (has keys key) there

in_front : (front back : List NodeKey) (key : NodeKey) → has front key ≡ true → has (front ++ back) key ≡ true
in_front [] back key there = absurd (nowhere key [] refl there)
in_front (x ∷ xs) back key there =
    elim (or_cases (is_same x key) (has xs key) (sym (has-cons x xs key) ∙ there)) [
      | inl same ↦ has-cons x (xs ++ back) key ∙ or_left (is_same x key) (has (xs ++ back) key) same
      | inr rest ↦ further x (xs ++ back) key (in_front xs back key rest)
    ]

behind : (front back : List NodeKey) (key : NodeKey) → has back key ≡ true → has (front ++ back) key ≡ true
behind [] back key there = there
behind (x ∷ xs) back key there = further x (xs ++ back) key (behind xs back key there)

-- in the list of one of them
in_one : (give : NodeKey → List NodeKey) (keys : List NodeKey) (one key : NodeKey) → has keys one ≡ true
    → has (give one) key ≡ true → has (flat_map give keys) key ≡ true
in_one give [] one key among there = absurd (nowhere one [] refl among)
in_one give (x ∷ xs) one key among there =
    elim (or_cases (is_same x one) (has xs one) (sym (has-cons x xs one) ∙ among)) [
      | inl same ↦
          in_front (give x) (flat_map give xs) key
          (ap (λ (k : NodeKey). has (give k) key) (is_same-true x one same) ∙ there)
      | inr rest ↦ behind (give x) (flat_map give xs) key (in_one give xs one key rest there)
    ]

abbrev IsInOne : (NodeKey → List NodeKey) → List NodeKey → NodeKey → Type 0
IsInOne give keys key = (one : NodeKey) × (has keys one ≡ true) × (has (give one) key ≡ true)

split : (front back : List NodeKey) (key : NodeKey) → has (front ++ back) key ≡ true
    → ((has front key ≡ true) ⊎ (has back key ≡ true))
split [] back key there = inr there
split (x ∷ xs) back key there =
    elim (or_cases (is_same x key) (has (xs ++ back) key) (sym (has-cons x (xs ++ back) key) ∙ there)) [
      | inl same ↦ inl (has-cons x xs key ∙ or_left (is_same x key) (has xs key) same)
      | inr rest ↦ elim (split xs back key rest) [
        | inl front ↦ inl (further x xs key front)
        | inr last ↦ inr last
      ]
    ]

of_one : (give : NodeKey → List NodeKey) (keys : List NodeKey) (key : NodeKey) → has (flat_map give keys) key ≡ true
    → IsInOne give keys key
of_one give [] key there = absurd (nowhere key [] refl there)
of_one give (x ∷ xs) key there =
    elim (split (give x) (flat_map give xs) key there) [
      | inl here ↦ (x, first x xs, here)
      | inr rest ↦ let one = of_one give xs key rest in (one.0, further x xs one.0 one.1, one.2)
    ]

-- down and up

-- what hangs on a node of a subtree is in the subtree, of one more level
pub one_lower : (levels : ℕ) (below : NodeKey → List NodeKey) (upper parent key : NodeKey)
    → has (subtree_in levels below upper) parent ≡ true → has (below parent) key ≡ true
    → has (subtree_in (suc levels) below upper) key ≡ true
unfolding subtree_in
one_lower zero below upper parent key among hung = absurd (nowhere parent [] refl among)
one_lower (suc levels) below upper parent key among hung =
    further upper (flat_map (subtree_in (suc levels) below) (below upper)) key
    (elim (or_cases (is_same upper parent) (has (flat_map (subtree_in levels below) (below upper)) parent)
    (sym (has-cons upper (flat_map (subtree_in levels below) (below upper)) parent) ∙ among)) [
      | inl same ↦
          in_one (subtree_in (suc levels) below) (below upper) key key
          (ap (λ (k : NodeKey). has (below k) key) (is_same-true upper parent same) ∙ hung)
          (first key (flat_map (subtree_in levels below) (below key)))
      | inr lower ↦
          let one = of_one (subtree_in levels below) (below upper) parent lower in
          in_one (subtree_in (suc levels) below) (below upper) one.0 key one.1 (one_lower levels below one.0 parent key one.2 hung)
    ])

abbrev Hangs : (NodeKey → Option NodeKey) → (NodeKey → List NodeKey) → Type 0
Hangs up below = (key parent : NodeKey) → up key ≡ Some parent → has (below parent) key ≡ true

-- a node whose line leads to another is in its subtree
pub up_and_down : (most : ℕ) (up : NodeKey → Option NodeKey) (below : NodeKey → List NodeKey) → Hangs up below
    → (upper key : NodeKey) → has (line_in most up (Some key)) upper ≡ true → has (subtree_in most below upper) key ≡ true
unfolding line_in subtree_in
up_and_down zero up below hangs upper key there = absurd (nowhere upper [] refl there)
up_and_down (suc most) up below hangs upper key there =
    elim (or_cases (is_same key upper) (has (line_in most up (up key)) upper)
    (sym (has-cons key (line_in most up (up key)) upper) ∙ there)) [
      | inl same ↦
          subst (λ (k : NodeKey). has (subtree_in (suc most) below k) key ≡ true) (is_same-true key upper same)
          (first key (flat_map (subtree_in most below) (below key)))
      | inr above ↦
          by_parent (λ (k : NodeKey). up_and_down most up below hangs upper k) (up key) refl above
    ]
  where
    by_parent : ((k : NodeKey) → has (line_in most up (Some k)) upper ≡ true → has (subtree_in most below upper) k ≡ true)
        → (o : Option NodeKey) → up key ≡ o → has (line_in most up (up key)) upper ≡ true
        → has (subtree_in (suc most) below upper) key ≡ true
    by_parent lower None none above =
        absurd (nowhere upper (line_in most up (up key)) (ap (line_in most up) none ∙ line_in-none most up) above)
    by_parent lower (Some parent) is above =
        one_lower most below upper parent key
        (lower parent
        (sym (ap (λ (o : Option NodeKey). has (line_in most up o) upper) is) ∙ above))
        (hangs key parent is)

-- the children of a parent

found : {X : Type 0} (test : X → Bool) (xs : List X) (x : X) → find test xs ≡ Some x → Contains xs x × (test x ≡ true)
found test [] x is = absurd (none-some x is)
found {X} test (y ∷ ys) x is =
    elim (cases_Bool (test y)) [
      | inl passing ↦
          let same : y ≡ x = same_Some y x (sym (ap (λ (b : Bool). cond b (Some y) (find test ys)) passing) ∙ is) in
          ((0, omega arith, same), ap test (sym same) ∙ passing)
      | inr failing ↦
          let rest = found test ys x (sym (ap (λ (b : Bool). cond b (Some y) (find test ys)) failing) ∙ is) in
          ((suc rest.0.0, omega (arith, rest.0.1), rest.0.2), rest.1)
    ]

missed_not : {X : Type 0} (test : X → Bool) (xs : List X) (x : X) → find test xs ≡ None → Contains xs x → test x ≡ true → ⊥
missed_not test [] x is there passes = omega (arith, there.1)
missed_not {X} test (y ∷ ys) x is (zero, within, same) passes =
    none-some y (sym is ∙ ap (λ (b : Bool). cond b (Some y) (find test ys)) (ap test same ∙ passes))
missed_not {X} test (y ∷ ys) x is (suc k, within, same) passes =
    elim (cases_Bool (test y)) [
      | inl hit ↦ absurd (none-some y (sym is ∙ ap (λ (b : Bool). cond b (Some y) (find test ys)) hit))
      | inr fails ↦
          missed_not test ys x (sym (ap (λ (b : Bool). cond b (Some y) (find test ys)) fails) ∙ is) (k, omega arith, same) passes
    ]

-- births that rise tell nodes apart
one_node : (nodes : List Node) → AllPairs (λ (one other : Node). one.key.birth < other.key.birth) nodes → (one other : Node)
    → Contains nodes one → Contains nodes other → one.key.birth ≡ other.key.birth → one ≡ other
one_node nodes rising one other (i, below, is) (j, beneath, so) same =
    let this : get_or nodes i one ≡ one = is in
    let that : get_or nodes j one ≡ other = get_or_default nodes j one other beneath ∙ so in
    let birth : Node → ℕ = λ (n : Node). n.key.birth in
    elim (cases_lt i j) [
      | inl less ↦
          let rises : (get_or nodes i one).key.birth < (get_or nodes j one).key.birth = rising i j one less beneath in
          let a : (get_or nodes i one).key.birth ≡ one.key.birth = ap birth this in
          let b : (get_or nodes j one).key.birth ≡ other.key.birth = ap birth that in
          absurd (omega arith)
      | inr most ↦ elim (cases_lt j i) [
        | inl less ↦
            let rises : (get_or nodes j one).key.birth < (get_or nodes i one).key.birth = rising j i one less below in
            let a : (get_or nodes i one).key.birth ≡ one.key.birth = ap birth this in
            let b : (get_or nodes j one).key.birth ≡ other.key.birth = ap birth that in
            absurd (omega arith)
        | inr least ↦
            let k : i ≡ j = omega arith in sym this ∙ ap (λ (n : ℕ). get_or nodes n one) k ∙ that
      ]
    ]

pub holds_child : (scene : Scene) → IsSound scene → Hangs (parent_of scene.nodes) (children_or_none scene.nodes)
unfolding parent_of children_of
holds_child scene sound key parent is = by_holder (find (λ (n : Node). has n.children key) scene.nodes) refl is
  where
    by_key : (node : Node) → Contains scene.nodes node → has node.children key ≡ true → node.key ≡ parent → (o : Option Node)
        → find (λ (n : Node). is_same n.key parent) scene.nodes ≡ o
        → has (unwrap_or (option_map (λ (n : Node). n.children) o) []) key ≡ true
    by_key node among holds same None missed = absurd (missed_not (λ (n : Node). is_same n.key parent) scene.nodes node missed among
        (ap (λ (k : NodeKey). is_same k parent) same ∙ is_same-refl parent))
    by_key node among holds same (Some other) hit =
        let f = found (λ (n : Node). is_same n.key parent) scene.nodes other hit in
        let keys : other.key ≡ node.key = is_same-true other.key parent f.1 ∙ sym same in
        let one = one_node scene.nodes sound.rising other node f.0 among (ap (λ (k : NodeKey). k.birth) keys) in
        ap (λ (n : Node). has n.children key) one ∙ holds

    by_holder : (o : Option Node) → find (λ (n : Node). has n.children key) scene.nodes ≡ o
        → option_map (λ (n : Node). n.key) o ≡ Some parent → has (children_or_none scene.nodes parent) key ≡ true
    by_holder None missed so = absurd (none-some parent so)
    by_holder (Some node) hit so =
        let f = found (λ (n : Node). has n.children key) scene.nodes node hit in
        by_key node f.0 f.1 (same_Some node.key parent so) (find (λ (n : Node). is_same n.key parent) scene.nodes) refl

-- in the list of those that stand in the scene

-- the root and all that stand below it have it, whatever the root is
pub stands_there : (scene : Scene) → IsSound scene → (key : NodeKey) → is_attached scene key ≡ true
    → has (option_map_or (subtree scene.nodes) scene.root []) key ≡ true
unfolding is_attached line
stands_there scene sound key there = under scene.root there
  where
    under : (root : Option NodeKey) → is_attached_at scene root key ≡ true
        → has (option_map_or (subtree scene.nodes) root []) key ≡ true
    under None is = absurd (false≢true is)
    under (Some root) is =
        up_and_down 64 (parent_of scene.nodes) (children_or_none scene.nodes) (holds_child scene sound) root key is

-- the place of what is there
pub has_place : {A : Type 0} (key_of : A → NodeKey) (xs : List A) (key : NodeKey) → has (map key_of xs) key ≡ true
    → position_or_len (λ (x : A). is_same (key_of x) key) xs < length xs
has_place key_of [] key there = absurd (nowhere key [] refl there)
has_place {A} key_of (x ∷ xs) key there =
    elim (cases_Bool (is_same (key_of x) key)) [
      | inl same ↦
          let none : position_or_len (λ (y : A). is_same (key_of y) key) (x ∷ xs) ≡ 0 =
          ap (λ (b : Bool). cond (not b) (1 + (position_or_len (λ (y : A). is_same (key_of y) key) xs)) 0) same in
          omega arith
      | inr other ↦
          let rest : has (map key_of xs) key ≡ true =
          sym (has-cons (key_of x) (map key_of xs) key ∙ ap (λ (b : Bool). b || has (map key_of xs) key) other) ∙ there in
          let more : position_or_len (λ (y : A). is_same (key_of y) key) (x ∷ xs)
          ≡ 1 + (position_or_len (λ (y : A). is_same (key_of y) key) xs) =
          ap (λ (b : Bool). cond (not b) (1 + (position_or_len (λ (y : A). is_same (key_of y) key) xs)) 0) other in
          let below = has_place key_of xs key rest in
          omega arith
    ]
