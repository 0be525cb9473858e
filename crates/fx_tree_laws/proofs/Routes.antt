-- Routes: how long they are, and what stands at each place.
use Rattle.std.proofs.Common.{◌≡◌, ℕ, zero, suc, ◌+◌, ◌-◌, ◌<◌, ◌≤◌, Bool, true, false, cond, ◌||◌, List, [], ◌∷◌, ◌++◌, length, reverse, get_or, Option, Some, None, refl, sym, ◌∙◌, ap, subst, inl, inr, arith}
use Rattle.std.proofs.lemmas.Bool.{cases_Bool, both_ways}
use Rattle.std.proofs.lemmas.List.{get_or-reverse, length-reverse, reverse-append}
use Rattle.fx_base.specs.declared.keys.NodeKey.{NodeKey}
use Rattle.fx_tree.specs.Scene.{Node, Scene, IsLine, IsSound, has, is_alive, is_same, is_within, line, line_in, parent_of, path}
use Rattle.fx_tree.proofs.Keys.{has-cons, has-nil, is_same-true}
use Rattle.fx_events.specs.declared.kinds.EventKind.{EventKind}
use Rattle.fx_events.specs.Routes.{is_of_one_node, route_of}
use Rattle.fx_tree_laws.specs.Ways.{AreSteps}
use Rattle.fx_tree_laws.proofs.Known.{line_known, passed, taken}
use Rattle.fx_tree_laws.proofs.Subtrees.{within_lives}
use Rattle.fx_tree_laws.proofs.Paths.{path_end, short_path}

module _ (up : NodeKey → Option NodeKey) where
  step_up : (keys : List NodeKey) (o : Option NodeKey) (i : ℕ) (other : NodeKey) → IsLine up o keys → suc i < length keys
      → up (get_or keys i other) ≡ Some (get_or keys (suc i) other)
  unfolding IsLine
  step_up [] o i other line within = absurd (omega (arith, within))
  step_up (x ∷ rest) None i other line within = absurd line
  step_up (x ∷ []) (Some key) i other line within = absurd (omega (arith, within))
  step_up (x ∷ y ∷ rest) (Some key) zero other line within = by_parent (up x) refl line.1
    where
      by_parent : (o : Option NodeKey) → up x ≡ o → IsLine up o (y ∷ rest) → up x ≡ Some y
      by_parent None is further = absurd further
      by_parent (Some parent) is further = is ∙ ap Some (sym further.0)
  step_up (x ∷ y ∷ rest) (Some key) (suc i) other line within =
      step_up (y ∷ rest) (up x) i other line.1 (omega (arith, within))

  -- the last node of a line has no parent
  top_of : (keys : List NodeKey) (key : NodeKey) → IsLine up (Some key) keys
      → (front : List NodeKey) × (top : NodeKey) × (keys ≡ front ++ top ∷ []) × (up top ≡ None)
  unfolding IsLine
  top_of [] key line = absurd line
  top_of (x ∷ rest) key line = by_parent (up x) refl line.1 (λ parent above. top_of rest parent above)
    where
      by_parent : (o : Option NodeKey) → up x ≡ o → IsLine up o rest
          → ((parent : NodeKey) → IsLine up (Some parent) rest
          → (front : List NodeKey) × (top : NodeKey) × (rest ≡ front ++ top ∷ []) × (up top ≡ None))
          → (front : List NodeKey) × (top : NodeKey) × (x ∷ rest ≡ front ++ top ∷ []) × (up top ≡ None)
      by_parent None is above each = ([], x, ap (λ (l : List NodeKey). x ∷ l) (ends rest above), is)
        where
          ends : (r : List NodeKey) → IsLine up None r → r ≡ []
          ends [] l = refl
          ends (y ∷ ys) l = absurd l
      by_parent (Some parent) is above each =
          let more = each parent above in
          (x ∷ more.0, more.1, ap (λ (l : List NodeKey). x ∷ l) more.2, more.3)

  -- a node of a line that has no parent is its last one
  top_is : (keys : List NodeKey) (o : Option NodeKey) (top : NodeKey) → IsLine up o keys → has keys top ≡ true → up top ≡ None
      → (front : List NodeKey) × (keys ≡ front ++ top ∷ [])
  unfolding IsLine
  top_is [] o top line there topmost = absurd (both_ways _ (has-nil top) there)
  top_is (x ∷ rest) None top line there topmost = absurd line
  top_is (x ∷ rest) (Some key) top line there topmost =
      elim (cases_Bool (is_same x top)) [
        | inl same ↦
            let here : x ≡ top = is_same-true x top same in
            let P : Option NodeKey → Type 0 = λ o. IsLine up o rest in
            ([], ap (λ (k : NodeKey). k ∷ rest) here ∙ ap (λ (l : List NodeKey). top ∷ l) (ends rest (subst P (ap up here ∙ topmost) line.1)))
        | inr apart ↦
            let more = top_is rest (up x) top line.1 (sym (has-cons x rest top ∙ ap (λ (b : Bool). b || has rest top) apart) ∙ there) topmost in
            (x ∷ more.0, ap (λ (l : List NodeKey). x ∷ l) more.1)
      ]
    where
      ends : (r : List NodeKey) → IsLine up None r → r ≡ []
      ends [] l = refl
      ends (y ∷ ys) l = absurd l

by_route : (P : List NodeKey → Type 0) (alive single : Bool) (one whole : List NodeKey) → P one → P whole → P []
    → P (cond alive (cond single one whole) [])
by_route P true true one whole p q r = p
by_route P true false one whole p q r = q
by_route P false single one whole p q r = r

pub short_route : (nodes : List Node) (on : EventKind) (target : NodeKey) → length (route_of nodes on target) ≤ 64
short_route nodes on target =
    by_route (λ l. length l ≤ 64) (is_alive nodes target) (is_of_one_node on) (target ∷ []) (path nodes target)
    (omega arith) (short_path nodes target) (omega arith)

pub route_end : (nodes : List Node) (on : EventKind) (target : NodeKey) → is_alive nodes target ≡ true
    → (above : List NodeKey) × (route_of nodes on target ≡ above ++ target ∷ [])
route_end nodes on target alive =
    let ends = by_kind (is_of_one_node on) in
    (ends.0, taken _ (cond (is_of_one_node on) (target ∷ []) (path nodes target)) [] alive ∙ ends.1)
  where
    by_kind : (single : Bool) → (above : List NodeKey) × (cond single (target ∷ []) (path nodes target) ≡ above ++ target ∷ [])
    by_kind true = ([], refl)
    by_kind false = (reverse (line_in 63 (parent_of nodes) (parent_of nodes target)), path_end nodes target)

whole_route : (nodes : List Node) (on : EventKind) (target : NodeKey) → is_alive nodes target ≡ true → is_of_one_node on ≡ false
    → route_of nodes on target ≡ path nodes target
whole_route nodes on target alive whole =
    taken _ (cond (is_of_one_node on) (target ∷ []) (path nodes target)) [] alive
    ∙ passed _ (target ∷ []) (path nodes target) whole

module _ (scene : Scene) (sound : IsSound scene) where
  path_steps : (key : NodeKey) → AreSteps scene.nodes (path scene.nodes key)
  path_steps key i other within =
      let keys = line scene.nodes key in
      let long : length (reverse keys) ≡ length keys = length-reverse keys in
      let at = length keys - 1 - (i + 1) in
      let later : i + 1 < length keys = omega (arith, within, long) in
      let sooner : i < length keys = omega (arith, within, long) in
      let next : length keys - 1 - i ≡ suc at = omega (arith, later) in
      let few : suc at < length keys = omega (arith, later) in
      ap (parent_of scene.nodes) (get_or-reverse keys (i + 1) other later)
      ∙ step_up (parent_of scene.nodes) keys (Some key) at other (line_known scene sound key) few
      ∙ ap Some (sym (get_or-reverse keys i other sooner ∙ ap (λ (n : ℕ). get_or keys n other) next))

  pub route_steps : (on : EventKind) (target : NodeKey) → AreSteps scene.nodes (route_of scene.nodes on target)
  route_steps on target =
      by_route (AreSteps scene.nodes) (is_alive scene.nodes target) (is_of_one_node on) (target ∷ []) (path scene.nodes target)
      (λ i other within. absurd (omega (arith, within)))
      (path_steps target)
      (λ i other within. absurd (omega (arith, within)))

  pub route_top : (on : EventKind) (target : NodeKey) → is_alive scene.nodes target ≡ true → is_of_one_node on ≡ false
      → (top : NodeKey) × (rest : List NodeKey) × (route_of scene.nodes on target ≡ top ∷ rest) × (parent_of scene.nodes top ≡ None)
  route_top on target alive whole =
      let ends = top_of (parent_of scene.nodes) (line scene.nodes target) target (line_known scene sound target) in (
        ends.1,
        reverse ends.0,
        whole_route scene.nodes on target alive whole ∙ ap reverse ends.2 ∙ reverse-append ends.0 (ends.1 ∷ []),
        ends.3,
      )

  pub route_root : (on : EventKind) (target root : NodeKey) → is_of_one_node on ≡ false → scene.root ≡ Some root
      → is_within scene.nodes root target ≡ true → (rest : List NodeKey) × (route_of scene.nodes on target ≡ root ∷ rest)
  route_root on target root whole is within =
      let known = sound.topmost root is in
      let alive = within_lives scene sound root target known.0 within in
      let ends = top_is (parent_of scene.nodes) (line scene.nodes target) (Some target) root (line_known scene sound target) within known.1 in (
        reverse ends.0,
        whole_route scene.nodes on target alive whole ∙ ap reverse ends.1 ∙ reverse-append ends.0 (root ∷ []),
      )
