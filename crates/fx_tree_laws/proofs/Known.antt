-- What is known of a key in a sound scene: its node, its parent, its children and its line.
use Rattle.std.proofs.Common.{◌≡◌, ℕ, zero, suc, ◌<◌, ◌≤◌, Bool, true, false, cond, List, [], ◌∷◌, length, get_or, Option, Some, None, is_some, unwrap_or, Contains, refl, sym, ◌∙◌, ap, subst, inl, inr, ◌⊎◌, arith}
use Rattle.std.specs.Option.{option_map}
use Rattle.std.specs.List.{find}
use Rattle.std.proofs.lemmas.Bool.{cases_Bool, both_ways}
use Rattle.std.proofs.lemmas.List.{get_or_default}
use Rattle.std.proofs.lemmas.Option.{none-some, same_Some}
use Rattle.fx_base.specs.declared.keys.NodeKey.{NodeKey}
use Rattle.fx_tree.specs.Scene.{Node, Scene, IsLine, IsSound, children_of, children_or_none, has, is_alive, is_same, line, parent_of}
use Rattle.fx_tree.proofs.Keys.{has-nil, is_same-refl, is_same-true}
use Rattle.fx_tree.proofs.Lines.{line_is, length-line_in}

pub taken : {X : Type 0} (b : Bool) (x y : X) → b ≡ true → cond b x y ≡ x
taken b x y is = ap (λ (c : Bool). cond c x y) is

pub passed : {X : Type 0} (b : Bool) (x y : X) → b ≡ false → cond b x y ≡ y
passed b x y is = ap (λ (c : Bool). cond c x y) is

pub Contains-cons : {X : Type 0} (first x : X) (rest : List X) → Contains rest x → Contains (first ∷ rest) x
Contains-cons first x rest at = (suc at.0, omega (arith, at.1), at.2)

pub Contains-cons_cases : {X : Type 0} (first x : X) (rest : List X) → Contains (first ∷ rest) x → (first ≡ x) ⊎ Contains rest x
Contains-cons_cases {X} first x rest at = by_place at.0 at.1 at.2
  where
    by_place : (k : ℕ) → k < length (first ∷ rest) → get_or (first ∷ rest) k x ≡ x → (first ≡ x) ⊎ Contains rest x
    by_place zero within is = inl is
    by_place (suc k) within is = inr (k, omega (arith, within), is)

pub children_of-nil : (key : NodeKey) → children_of [] key ≡ None
unfolding children_of
children_of-nil key = refl

pub parent_of-nil : (key : NodeKey) → parent_of [] key ≡ None
unfolding parent_of
parent_of-nil key = refl

pub children_of-cons : (node : Node) (nodes : List Node) (key : NodeKey)
    → children_of (node ∷ nodes) key ≡ cond (is_same node.key key) (Some node.children) (children_of nodes key)
unfolding children_of
children_of-cons node nodes key = by_test (is_same node.key key)
  where
    by_test : (b : Bool)
        → option_map (λ (n : Node). n.children) (cond b (Some node) (find (λ (n : Node). is_same n.key key) nodes))
        ≡ cond b (Some node.children) (option_map (λ (n : Node). n.children) (find (λ (n : Node). is_same n.key key) nodes))
    by_test true = refl
    by_test false = refl

pub parent_of-cons : (node : Node) (nodes : List Node) (key : NodeKey)
    → parent_of (node ∷ nodes) key ≡ cond (has node.children key) (Some node.key) (parent_of nodes key)
unfolding parent_of
parent_of-cons node nodes key = by_test (has node.children key)
  where
    by_test : (b : Bool)
        → option_map (λ (n : Node). n.key) (cond b (Some node) (find (λ (n : Node). has n.children key) nodes))
        ≡ cond b (Some node.key) (option_map (λ (n : Node). n.key) (find (λ (n : Node). has n.children key) nodes))
    by_test true = refl
    by_test false = refl

-- the key's node is the first one, or is told by the rest
pub children_first : (n : Node) (nodes : List Node) (key : NodeKey) → is_same n.key key ≡ true
    → children_of (n ∷ nodes) key ≡ Some n.children
children_first n nodes key same = children_of-cons n nodes key ∙ taken _ (Some n.children) (children_of nodes key) same

pub children_further : (n : Node) (nodes : List Node) (key : NodeKey) → is_same n.key key ≡ false
    → children_of (n ∷ nodes) key ≡ children_of nodes key
children_further n nodes key apart = children_of-cons n nodes key ∙ passed _ (Some n.children) (children_of nodes key) apart

pub parent_first : (n : Node) (nodes : List Node) (key : NodeKey) → has n.children key ≡ true
    → parent_of (n ∷ nodes) key ≡ Some n.key
parent_first n nodes key there = parent_of-cons n nodes key ∙ taken _ (Some n.key) (parent_of nodes key) there

pub parent_further : (n : Node) (nodes : List Node) (key : NodeKey) → has n.children key ≡ false
    → parent_of (n ∷ nodes) key ≡ parent_of nodes key
parent_further n nodes key apart = parent_of-cons n nodes key ∙ passed _ (Some n.key) (parent_of nodes key) apart

-- a parent is a node with this child
pub record IsParent (nodes : List Node) (key parent : NodeKey) : Type 0 where
  pub node : Node
  pub among : Contains nodes node
  pub is : node.key ≡ parent
  pub child : has node.children key ≡ true

pub parent_there : (nodes : List Node) (key parent : NodeKey) → parent_of nodes key ≡ Some parent → IsParent nodes key parent
parent_there [] key parent is = absurd (none-some parent (sym (parent_of-nil key) ∙ is))
parent_there (n ∷ nodes) key parent is =
    elim (cases_Bool (has n.children key)) [
      | inl there ↦
          record {
            node = n;
            among = (0, omega arith, refl);
            is = same_Some _ _ (sym (parent_first n nodes key there) ∙ is);
            child = there;
          }
      | inr apart ↦
          let rest = parent_there nodes key parent (sym (parent_further n nodes key apart) ∙ is) in
          record { node = rest.node; among = Contains-cons n rest.node nodes rest.among; is = rest.is; child = rest.child }
    ]

pub parent_nowhere : (nodes : List Node) (key : NodeKey) → parent_of nodes key ≡ None → (node : Node) → Contains nodes node
    → has node.children key ≡ false
parent_nowhere [] key none node at = absurd (omega (arith, at.1))
parent_nowhere (n ∷ nodes) key none node at =
    elim (cases_Bool (has n.children key)) [
      | inl there ↦ absurd (none-some n.key (sym none ∙ parent_first n nodes key there))
      | inr apart ↦
          elim (Contains-cons_cases n node nodes at) [
            | inl same ↦ sym (ap (λ (m : Node). has m.children key) same) ∙ apart
            | inr further ↦ parent_nowhere nodes key (sym (parent_further n nodes key apart) ∙ none) node further
          ]
    ]

-- the children are those of a node with this key
pub record AreChildren (nodes : List Node) (key : NodeKey) (keys : List NodeKey) : Type 0 where
  pub node : Node
  pub among : Contains nodes node
  pub is : node.key ≡ key
  pub keys_are : node.children ≡ keys

pub children_there : (nodes : List Node) (key : NodeKey) (keys : List NodeKey) → children_of nodes key ≡ Some keys → AreChildren nodes key keys
children_there [] key keys is = absurd (none-some keys (sym (children_of-nil key) ∙ is))
children_there (n ∷ nodes) key keys is =
    elim (cases_Bool (is_same n.key key)) [
      | inl same ↦
          record {
            node = n;
            among = (0, omega arith, refl);
            is = is_same-true n.key key same;
            keys_are = same_Some _ _ (sym (children_first n nodes key same) ∙ is);
          }
      | inr apart ↦
          let rest = children_there nodes key keys (sym (children_further n nodes key apart) ∙ is) in
          record { node = rest.node; among = Contains-cons n rest.node nodes rest.among; is = rest.is; keys_are = rest.keys_are }
    ]

pub children_nowhere : (nodes : List Node) (key : NodeKey) → children_of nodes key ≡ None → (node : Node) → Contains nodes node
    → node.key ≡ key → ⊥
children_nowhere [] key none node at is = omega (arith, at.1)
children_nowhere (n ∷ nodes) key none node at is =
    elim (cases_Bool (is_same n.key key)) [
      | inl same ↦ none-some n.children (sym none ∙ children_first n nodes key same)
      | inr apart ↦
          elim (Contains-cons_cases n node nodes at) [
            | inl same ↦
                both_ways _ apart
                (ap (λ (k : NodeKey). is_same k key) (ap (λ (m : Node). m.key) same ∙ is) ∙ is_same-refl key)
            | inr further ↦ children_nowhere nodes key (sym (children_further n nodes key apart) ∙ none) node further is
          ]
    ]

alone : (up : NodeKey → Option NodeKey) (key : NodeKey) → up key ≡ None → IsLine up (Some key) (key ∷ [])
unfolding IsLine
alone up key none = let P : Option NodeKey → Type 0 = λ o. IsLine up o [] in (refl, subst P (sym none) tt)

pub line_alone : (nodes : List Node) (key : NodeKey) → parent_of nodes key ≡ None → line nodes key ≡ key ∷ []
unfolding line
line_alone nodes key none = line_is 64 (parent_of nodes) (Some key) (key ∷ []) (alone (parent_of nodes) key none) (omega arith)

pub short_line : (nodes : List Node) (key : NodeKey) → length (line nodes key) ≤ 64
unfolding line
short_line nodes key = length-line_in 64 (parent_of nodes) (Some key)

pub line_from : (nodes : List Node) (key : NodeKey) (keys : List NodeKey) → IsLine (parent_of nodes) (Some key) keys → length keys ≤ 64
    → line nodes key ≡ keys
unfolding line
line_from nodes key keys is few = line_is 64 (parent_of nodes) (Some key) keys is few

pub line_stays : (nodes : List Node) (key : NodeKey) (keys : List NodeKey) → IsLine (parent_of nodes) (Some key) keys
    → length keys ≤ 64 → IsLine (parent_of nodes) (Some key) (line nodes key)
line_stays nodes key keys is few =
    let P : List NodeKey → Type 0 = λ l. IsLine (parent_of nodes) (Some key) l in
    subst P (sym (line_from nodes key keys is few)) is

module _ (scene : Scene) (sound : IsSound scene) where
  rises : (one other : Node) (first : Contains scene.nodes one) (second : Contains scene.nodes other) → one.key ≡ other.key
      → first.0 < second.0 → ⊥
  rises one other first second same before =
      let less : (get_or scene.nodes first.0 one).key.birth < (get_or scene.nodes second.0 one).key.birth =
      sound.rising first.0 second.0 one before second.1 in
      let a : (get_or scene.nodes first.0 one).key.birth ≡ one.key.birth = ap (λ (n : Node). n.key.birth) first.2 in
      let b : (get_or scene.nodes second.0 one).key.birth ≡ other.key.birth =
      ap (λ (n : Node). n.key.birth) (get_or_default scene.nodes second.0 one other second.1 ∙ second.2) in
      let c : one.key.birth ≡ other.key.birth = ap (λ (k : NodeKey). k.birth) same in
      omega (arith, less, a, b, c)

  -- a key has one node
  pub one_node : (one other : Node) → Contains scene.nodes one → Contains scene.nodes other → one.key ≡ other.key → one ≡ other
  one_node one other first second same =
      let not_before : (first.0 < second.0) → ⊥ = rises one other first second same in
      let not_behind : (second.0 < first.0) → ⊥ = rises other one second first (sym same) in
      let at : first.0 ≡ second.0 = omega (arith, not_before, not_behind) in
      sym first.2
      ∙ ap (λ (k : ℕ). get_or scene.nodes k one) at
      ∙ get_or_default scene.nodes second.0 one other second.1
      ∙ second.2

  pub children_of-node : (node : Node) → Contains scene.nodes node → children_of scene.nodes node.key ≡ Some node.children
  children_of-node node at = by_answer (children_of scene.nodes node.key) refl
    where
      by_answer : (o : Option (List NodeKey)) → children_of scene.nodes node.key ≡ o → o ≡ Some node.children
      by_answer None is = absurd (children_nowhere scene.nodes node.key is node at refl)
      by_answer (Some keys) is =
          let known = children_there scene.nodes node.key keys is in
          ap Some (sym known.keys_are ∙ ap (λ (n : Node). n.children) (one_node known.node node known.among at known.is))

  pub parent_lives : (key parent : NodeKey) → parent_of scene.nodes key ≡ Some parent → is_alive scene.nodes parent ≡ true
  parent_lives key parent is =
      let known = parent_there scene.nodes key parent is in
      sym (ap (is_alive scene.nodes) known.is) ∙ ap is_some (children_of-node known.node known.among)

  pub child_lives : (key parent : NodeKey) → parent_of scene.nodes key ≡ Some parent → is_alive scene.nodes key ≡ true
  child_lives key parent is =
      let known = parent_there scene.nodes key parent is in
      sound.alive known.node key known.among known.child

  -- a node is among the children of its parent
  pub listed : (key parent : NodeKey) → parent_of scene.nodes key ≡ Some parent → has (children_or_none scene.nodes parent) key ≡ true
  listed key parent is =
      let known = parent_there scene.nodes key parent is in
      ap (λ (o : Option (List NodeKey)). has (unwrap_or o []) key)
      (sym (ap (children_of scene.nodes) known.is) ∙ children_of-node known.node known.among)
      ∙ known.child

  -- and of no other node
  pub parent_is : (key : NodeKey) (node : Node) → Contains scene.nodes node → has node.children key ≡ true
      → parent_of scene.nodes key ≡ Some node.key
  parent_is key node at child = by_answer (parent_of scene.nodes key) refl
    where
      by_answer : (o : Option NodeKey) → parent_of scene.nodes key ≡ o → o ≡ Some node.key
      by_answer None is = absurd (both_ways _ (parent_nowhere scene.nodes key is node at) child)
      by_answer (Some parent) is =
          let known = parent_there scene.nodes key parent is in
          ap Some (sym known.is ∙ ap (λ (n : Node). n.key) (sound.one_list known.node node key known.among at known.child child))

  pub child_of : (key parent : NodeKey) → has (children_or_none scene.nodes parent) key ≡ true → parent_of scene.nodes key ≡ Some parent
  child_of key parent there = by_answer (children_of scene.nodes parent) refl there
    where
      by_answer : (o : Option (List NodeKey)) → children_of scene.nodes parent ≡ o → has (unwrap_or o []) key ≡ true
          → parent_of scene.nodes key ≡ Some parent
      by_answer None is child = absurd (both_ways _ (has-nil key) child)
      by_answer (Some keys) is child =
          let known = children_there scene.nodes parent keys is in
          parent_is key known.node known.among (ap (λ (l : List NodeKey). has l key) known.keys_are ∙ child)
          ∙ ap Some known.is

  pub orphan : (key : NodeKey) → is_alive scene.nodes key ≡ false → parent_of scene.nodes key ≡ None
  orphan key dead = by_answer (parent_of scene.nodes key) refl
    where
      by_answer : (o : Option NodeKey) → parent_of scene.nodes key ≡ o → o ≡ None
      by_answer None is = refl
      by_answer (Some parent) is = absurd (both_ways _ dead (child_lives key parent is))

  pub line_known : (key : NodeKey) → IsLine (parent_of scene.nodes) (Some key) (line scene.nodes key)
  line_known key =
      elim (cases_Bool (is_alive scene.nodes key)) [
        | inl alive ↦ sound.lines key alive
        | inr dead ↦
            let P : List NodeKey → Type 0 = λ l. IsLine (parent_of scene.nodes) (Some key) l in
            subst P (sym (line_alone scene.nodes key (orphan key dead))) (alone (parent_of scene.nodes) key (orphan key dead))
      ]

  -- the line of a child is the child and the parent's line
  pub line_below : (key parent : NodeKey) → parent_of scene.nodes key ≡ Some parent
      → line scene.nodes key ≡ key ∷ line scene.nodes parent
  unfolding IsLine
  line_below key parent is = by_line (line scene.nodes key) refl (line_known key)
    where
      by_line : (keys : List NodeKey) → line scene.nodes key ≡ keys → IsLine (parent_of scene.nodes) (Some key) keys
          → keys ≡ key ∷ line scene.nodes parent
      by_line [] e known = absurd known
      by_line (x ∷ rest) e known =
          let P : Option NodeKey → Type 0 = λ o. IsLine (parent_of scene.nodes) o rest in
          let long : length (line scene.nodes key) ≡ length (x ∷ rest) = ap length e in
          let few : length rest ≤ 64 = omega (arith, long, short_line scene.nodes key) in
          ap (λ (k : NodeKey). k ∷ rest) known.0
          ∙ ap (λ (l : List NodeKey). key ∷ l)
          (sym (line_from scene.nodes parent rest (subst P (ap (parent_of scene.nodes) known.0 ∙ is) known.1) few))
