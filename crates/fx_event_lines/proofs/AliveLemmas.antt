-- A node that is picked is alive.
use Rattle.std.proofs.Common.{◌≡◌, suc, Bool, true, false, cond, not, ◌&&◌, ◌||◌, List, [], ◌∷◌, reverse, IfSome, Option, Some, None, refl, sym, ap, ◌∙◌, subst, arith, inl, inr, ℤ}
use Rattle.std.specs.List.{Contains, find}
use Rattle.std.specs.Option.{option_map}
use Rattle.std.proofs.lemmas.Bool.{cases_Bool, and_parts, false≢true, both_ways}
use Rattle.std.proofs.lemmas.Option.{none-some, same_Some}
use Rattle.fx_base.specs.declared.keys.NodeKey.{NodeKey}
use Rattle.fx_tree.specs.Scene.{IsSound, Node, Scene, has, is_alive, is_same, line, line_in, parent_of}
use Rattle.fx_tree.proofs.Keys.{is_same-true}
use Rattle.fx_picture.specs.declared.entries.Entry.{Entry}
use Rattle.fx_focus.specs.Attached.{is_attached, is_attached_at}
use Rattle.fx_focus.specs.Picks.{holds, is_hit, pick}

-- what is found passes the test, and is in the list
found : {X : Type 0} → (test : X → Bool) (xs : List X) (x : X) → find test xs ≡ Some x
    → Contains xs x × (test x ≡ true)
found test [] x is = absurd (none-some x is)
found {X} test (y ∷ ys) x is =
    elim (cases_Bool (test y)) [
      | inl passing ↦
          let same : y ≡ x = same_Some y x (sym (ap (λ (b : Bool). cond b (Some y) (find test ys)) passing) ∙ is) in
          ((0, omega arith, same), ap test (sym same) ∙ passing)
      | inr failing ↦
          let rest = found test ys x (sym (ap (λ (b : Bool). cond b (Some y) (find test ys)) failing) ∙ is) in
          ((suc rest.0.0, omega (arith, rest.0.1), rest.0.2), rest.1)
    ]

-- a node that has a parent is alive
parent-alive : (scene : Scene) (key parent : NodeKey) → IsSound scene → parent_of scene.nodes key ≡ Some parent
    → is_alive scene.nodes key ≡ true
unfolding parent_of
parent-alive scene key parent sound is = from (find (λ (node : Node). has node.children key) scene.nodes) refl is
  where
    from : (o : Option Node) → find (λ (node : Node). has node.children key) scene.nodes ≡ o
        → option_map (λ (node : Node). node.key) o ≡ Some parent → is_alive scene.nodes key ≡ true
    from None there is = absurd (none-some parent is)
    from (Some node) there is =
        let at = found (λ (node : Node). has node.children key) scene.nodes node there in
        sound.alive node key at.0 at.1

-- a node without parent has only itself on its line
alone : (up : NodeKey → Option NodeKey) (key upper : NodeKey) → up key ≡ None
    → has (line_in 64 up (Some key)) upper ≡ true → key ≡ upper
unfolding line_in has
alone up key upper none there =
    let rest : has (line_in 63 up (up key)) upper ≡ false =
    ap (λ (o : Option NodeKey). has (line_in 63 up o) upper) none in
    elim (cases_Bool (is_same key upper)) [
      | inl same ↦ is_same-true key upper same
      | inr other ↦
          absurd (both_ways _ (ap (λ (b : Bool). b || has (line_in 63 up (up key)) upper) other ∙ rest) there)
    ]

-- a node that stands in the scene is alive
pub attached-alive : (scene : Scene) (key : NodeKey) → IsSound scene → is_attached scene key ≡ true
    → is_alive scene.nodes key ≡ true
unfolding is_attached line
attached-alive scene key sound is = under scene.root refl is
  where
    under : (root : Option NodeKey) → scene.root ≡ root → is_attached_at scene root key ≡ true
        → is_alive scene.nodes key ≡ true
    under None there is = absurd (false≢true is)
    under (Some root) there is = above (parent_of scene.nodes key) refl
      where
        above : (parent : Option NodeKey) → parent_of scene.nodes key ≡ parent → is_alive scene.nodes key ≡ true
        above None none =
            let same : key ≡ root = alone (parent_of scene.nodes) key root none is in
            ap (λ (k : NodeKey). is_alive scene.nodes k) same ∙ (sound.topmost root there).0
        above (Some parent) has_parent = parent-alive scene key parent sound has_parent

hit-attached : (scene : Scene) (x y : ℤ) (entry : Entry) → is_hit scene x y entry ≡ true
    → is_attached scene entry.key ≡ true
hit-attached scene x y entry is =
    (and_parts (holds entry.rect x y && not entry.disabled) (is_attached scene entry.key) is).1

-- what is picked is alive
pub picked-alive : (scene : Scene) (entries : List Entry) (x y : ℤ) (picked : Option NodeKey) → IsSound scene
    → picked ≡ pick scene entries x y → IfSome picked (λ key. is_alive scene.nodes key ≡ true)
picked-alive scene entries x y picked sound is =
    subst (λ (o : Option NodeKey). IfSome o (λ key. is_alive scene.nodes key ≡ true)) (sym is)
    (at (find (is_hit scene x y) (reverse entries)) refl)
  where
    at : (o : Option Entry) → find (is_hit scene x y) (reverse entries) ≡ o
        → IfSome (option_map (λ (entry : Entry). entry.key) o) (λ key. is_alive scene.nodes key ≡ true)
    at None there = tt
    at (Some entry) there =
        attached-alive scene entry.key sound
        (hit-attached scene x y entry (found (is_hit scene x y) (reverse entries) entry there).1)
