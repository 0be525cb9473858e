-- What is left of each node where a child is taken out of the list of its parent.
use Rattle.std.proofs.Common.{◌≡◌, ◌+◌, ◌≤◌, Bool, true, false, not, cond, ◌&&◌, ◌||◌, List, [], ◌∷◌, ◌++◌, length, map, reverse, Option, Some, None, is_some, refl, sym, ◌∙◌, ap, subst, inl, inr, arith, length-append}
use Rattle.std.specs.Option.{option_map}
use Rattle.std.proofs.lemmas.Bool.{cases_Bool, both_ways, and_right}
use Rattle.std.proofs.lemmas.List.{reverse-append}
use Rattle.fx_base.specs.declared.keys.NodeKey.{NodeKey}
use Rattle.fx_tree.specs.Scene.{Node, Scene, IsLine, IsSound, after_detach, children_of, has, is_alive, is_same, is_within, line, parent_of, path, without, without_child}
use Rattle.fx_tree.proofs.Keys.{has-cons, has-nil, has-without, is_same-false, is_same-refl, is_same-sym, is_same-true}
use Rattle.fx_tree.proofs.Lines.{IsLine-same}
use Rattle.fx_tree_laws.proofs.Known.{line_from, line_known, line_stays, parent_further, parent_of-nil, passed, short_line, taken}
use Rattle.fx_tree_laws.proofs.Mapped.{children_mapped, is_some-mapped, parent_mapped}

pub children_detached : (child : NodeKey) (nodes : List Node) (key : NodeKey)
    → children_of (map (without_child child) nodes) key ≡ option_map (without child) (children_of nodes key)
children_detached child nodes key =
    children_mapped (without_child child) (λ node. refl) (λ (k : NodeKey) (keys : List NodeKey). without child keys) (λ node. refl) nodes key

pub alive_detached : (child : NodeKey) (nodes : List Node) (key : NodeKey)
    → is_alive (map (without_child child) nodes) key ≡ is_alive nodes key
alive_detached child nodes key =
    ap is_some (children_detached child nodes key) ∙ is_some-mapped (without child) (children_of nodes key)

parent_gone : (child : NodeKey) (nodes : List Node) → parent_of (map (without_child child) nodes) child ≡ None
parent_gone child [] = parent_of-nil child
parent_gone child (n ∷ nodes) =
    parent_further (without_child child n) (map (without_child child) nodes) child
    (has-without child n.children child
    ∙ and_right (has n.children child) (not (is_same child child)) (ap not (is_same-refl child)))
    ∙ parent_gone child nodes

parent_still : (child : NodeKey) (nodes : List Node) (key : NodeKey) → is_same key child ≡ false
    → parent_of (map (without_child child) nodes) key ≡ parent_of nodes key
parent_still child nodes key other =
    parent_mapped (without_child child) (λ node. refl) key
    (λ node.
    has-without child node.children key
    ∙ ap (λ (b : Bool). has node.children key && not b) (is_same-sym child key ∙ other)
    ∙ and_yes (has node.children key))
    nodes
  where
    and_yes : (b : Bool) → (b && true) ≡ b
    and_yes true = refl
    and_yes false = refl

pub parent_after_detach : (child : NodeKey) (nodes : List Node) (key : NodeKey)
    → parent_of (map (without_child child) nodes) key ≡ cond (is_same key child) None (parent_of nodes key)
parent_after_detach child nodes key =
    elim (cases_Bool (is_same key child)) [
      | inl same ↦
          ap (parent_of (map (without_child child) nodes)) (is_same-true key child same)
          ∙ parent_gone child nodes
          ∙ sym (taken _ None (parent_of nodes key) same)
      | inr apart ↦ parent_still child nodes key apart ∙ sym (passed _ None (parent_of nodes key) apart)
    ]

-- a line that is cut above a node
record IsCut (f g : NodeKey → Option NodeKey) (child : NodeKey) (o : Option NodeKey) (keys : List NodeKey) : Type 0 where
  pub less : List NodeKey
  pub above : List NodeKey
  pub joins : keys ≡ less ++ above
  pub lower : IsLine g o less
  pub upper : IsLine f (f child) above

module _ (f g : NodeKey → Option NodeKey) (child : NodeKey)
    (others : (key : NodeKey) → is_same key child ≡ false → g key ≡ f key) (cut : g child ≡ None) where
  cut_at : (o : Option NodeKey) (keys : List NodeKey) → IsLine f o keys → has keys child ≡ true → IsCut f g child o keys
  unfolding IsLine
  cut_at o [] line there = absurd (both_ways _ (has-nil child) there)
  cut_at None (x ∷ rest) line there = absurd line
  cut_at (Some key) (x ∷ rest) line there =
      elim (cases_Bool (is_same x child)) [
        | inl same ↦
            let here : x ≡ child = is_same-true x child same in
            let G : Option NodeKey → Type 0 = λ o. IsLine g o [] in
            let F : NodeKey → Type 0 = λ k. IsLine f (f k) rest in
            record {
              less = x ∷ [];
              above = rest;
              joins = refl;
              lower = (line.0, subst G (sym (ap g here ∙ cut)) tt);
              upper = subst F here line.1;
            }
        | inr apart ↦
            let more = cut_at (f x) rest line.1 (sym (has-cons x rest child ∙ ap (λ (b : Bool). b || has rest child) apart) ∙ there) in
            let G : Option NodeKey → Type 0 = λ o. IsLine g o more.less in
            record {
              less = x ∷ more.less;
              above = more.above;
              joins = ap (λ (l : List NodeKey). x ∷ l) more.joins;
              lower = (line.0, subst G (sym (others x apart)) more.lower);
              upper = more.upper;
            }
      ]

module _ (scene : Scene) (sound : IsSound scene) (child : NodeKey) where
  cut_line : (key : NodeKey) → is_within scene.nodes child key ≡ true
      → IsCut (parent_of scene.nodes) (parent_of (after_detach scene child).nodes) child (Some key) (line scene.nodes key)
  cut_line key within =
      cut_at (parent_of scene.nodes) (parent_of (after_detach scene child).nodes) child
      (parent_still child scene.nodes) (parent_gone child scene.nodes)
      (Some key) (line scene.nodes key) (line_known scene sound key) within

  few_cut : (key : NodeKey) (within : is_within scene.nodes child key ≡ true)
      → length (cut_line key within).less + length (cut_line key within).above ≤ 64
  few_cut key within =
      let two = cut_line key within in
      let long : length (line scene.nodes key) ≡ length (two.less ++ two.above) = ap length two.joins in
      let both : length (two.less ++ two.above) ≡ length two.less + length two.above = length-append two.less two.above in
      omega (arith, long, both, short_line scene.nodes key)

  uncut_line : (key : NodeKey) → is_within scene.nodes child key ≡ false
      → IsLine (parent_of (after_detach scene child).nodes) (Some key) (line scene.nodes key)
  uncut_line key apart =
      IsLine-same (parent_of scene.nodes) (parent_of (after_detach scene child).nodes) (Some key) (line scene.nodes key)
      (λ k there. parent_still child scene.nodes k
      (is_same-false k child (λ e. both_ways _ apart (sym (ap (has (line scene.nodes key)) e) ∙ there))))
      (line_known scene sound key)

  pub line_after_detach : (key : NodeKey)
      → IsLine (parent_of (after_detach scene child).nodes) (Some key) (line (after_detach scene child).nodes key)
  line_after_detach key =
      elim (cases_Bool (is_within scene.nodes child key)) [
        | inl within ↦
            let two = cut_line key within in
            let few : length two.less ≤ 64 = omega (arith, few_cut key within) in
            line_stays (after_detach scene child).nodes key two.less two.lower few
        | inr apart ↦
            line_stays (after_detach scene child).nodes key (line scene.nodes key) (uncut_line key apart) (short_line scene.nodes key)
      ]

  pub path_cut : (parent key : NodeKey) → parent_of scene.nodes child ≡ Some parent → is_within scene.nodes child key ≡ true
      → path scene.nodes key ≡ path scene.nodes parent ++ path (after_detach scene child).nodes key
  path_cut parent key is within =
      let two = cut_line key within in
      let few : length two.less + length two.above ≤ 64 = few_cut key within in
      let P : Option NodeKey → Type 0 = λ o. IsLine (parent_of scene.nodes) o two.above in
      let upper : line scene.nodes parent ≡ two.above =
      line_from scene.nodes parent two.above (subst P is two.upper) (omega (arith, few)) in
      let lower : line (after_detach scene child).nodes key ≡ two.less =
      line_from (after_detach scene child).nodes key two.less two.lower (omega (arith, few)) in
      ap reverse two.joins
      ∙ reverse-append two.less two.above
      ∙ ap (λ (l : List NodeKey). reverse l ++ reverse two.less) (sym upper)
      ∙ ap (λ (l : List NodeKey). path scene.nodes parent ++ reverse l) (sym lower)

  pub path_uncut : (key : NodeKey) → is_within scene.nodes child key ≡ false
      → path (after_detach scene child).nodes key ≡ path scene.nodes key
  path_uncut key apart =
      ap reverse
      (line_from (after_detach scene child).nodes key (line scene.nodes key) (uncut_line key apart) (short_line scene.nodes key))
