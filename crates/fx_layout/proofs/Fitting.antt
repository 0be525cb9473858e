-- What is seen of nodes one by one holds of all.
use Rattle.std.proofs.Common.{refl, sym, subst, ◌∙◌, ◌≡◌, ℕ, zero, suc, ◌<◌, true, List, [], ◌∷◌, Option, None, Some, length, arith}
use Rattle.std.proofs.lemmas.Bool.{true≢false}
use Rattle.std.proofs.lemmas.List.{get_or-map, length-map}
use Rattle.fx_base.specs.declared.keys.NodeKey.{NodeKey}
use Rattle.fx_kinds.specs.declared.facts.BoxFacts.{BoxFacts}
use Rattle.fx_layout_sweeps.specs.Nodes.{IsTree, keys, no_node, node_at, parent_at, parents}
use Rattle.fx_layout.specs.Fits.{AreOthers, StandsBehind}
use Rattle.fx_layout.specs.Updates.{AreDifferent, is_key}
use Rattle.fx_layout.proofs.Agree.{key_is}
use Rattle.fx_layout.proofs.Olds.{same_key}

first_none : (parent : Option ℕ) → StandsBehind parent 0 → parent ≡ None
first_none None behind = refl
first_none (Some q) behind = absurd (omega (arith, behind))

later_some : (parent : Option ℕ) (place : ℕ) → 0 < place → StandsBehind parent place
    → (q : ℕ) × (parent ≡ Some q) × (q < place)
later_some None place late behind = absurd (omega (arith, late, behind))
later_some (Some q) place late behind = (q, refl, behind)

pub tree_of : (nodes : List BoxFacts) → ((p : ℕ) → p < length nodes → StandsBehind (node_at nodes p).parent p)
    → IsTree (parents nodes)
tree_of nodes behind = record {
  root = root_in nodes refl;
  below = λ j late within.
      let few : j < length nodes = subst (λ n. j < n) (length-map nodes (λ (n : BoxFacts). n.parent)) within in
      let read : parent_at (parents nodes) j ≡ (node_at nodes j).parent =
      get_or-map (λ (n : BoxFacts). n.parent) nodes j no_node None few in
      let found = later_some (node_at nodes j).parent j late (behind j few) in
      (found.0, read ∙ found.1, found.2);
}
  where
    root_in : (all : List BoxFacts) → all ≡ nodes → parent_at (parents all) 0 ≡ None
    root_in [] same = refl
    root_in (n ∷ ns) same =
        first_none n.parent (subst (λ (l : List BoxFacts). 0 < length l → StandsBehind (node_at l 0).parent 0) (sym same)
        (behind 0) (omega arith))

pub different_of : (nodes : List BoxFacts) → ((p : ℕ) → p < length nodes → AreOthers nodes p p)
    → AreDifferent (keys nodes)
different_of nodes others i j d early within same =
    let long : length (keys nodes) ≡ length nodes = length-map nodes (λ (n : BoxFacts). n.key) in
    let few : j < length nodes = subst (λ n. j < n) long within in
    let one = get_or-map (λ (n : BoxFacts). n.key) nodes i no_node d (omega (arith, early, few)) in
    let other = get_or-map (λ (n : BoxFacts). n.key) nodes j no_node d few in
    let equal : (node_at nodes i).key ≡ (node_at nodes j).key = sym one ∙ (same ∙ other) in
    let hit : is_key (node_at nodes i).key (node_at nodes j).key ≡ true =
    subst (λ (k : NodeKey). is_key (node_at nodes i).key k ≡ true) equal (key_is (node_at nodes i).key) in
    true≢false (sym hit ∙ others j few i early)

-- in a tree each node stands behind its parent
pub behind_in : (nodes : List BoxFacts) → IsTree (parents nodes) → (p : ℕ) → p < length nodes
    → StandsBehind (node_at nodes p).parent p
behind_in nodes tree zero within =
    subst (λ (o : Option ℕ). StandsBehind o 0)
    (sym tree.root ∙ get_or-map (λ (n : BoxFacts). n.parent) nodes 0 no_node None within) refl
behind_in nodes tree (suc p) within =
    let long : length (parents nodes) ≡ length nodes = length-map nodes (λ (n : BoxFacts). n.parent) in
    let below = tree.below (suc p) (omega arith) (omega (arith, long, within)) in
    subst (λ (o : Option ℕ). StandsBehind o (suc p))
    (sym below.1 ∙ get_or-map (λ (n : BoxFacts). n.parent) nodes (suc p) no_node None within) below.2

-- two places with one key are no different keys
pub not_different : (nodes : List BoxFacts) (i p : ℕ) → AreDifferent (keys nodes) → i < p → p < length nodes
    → is_key (node_at nodes i).key (node_at nodes p).key ≡ true → ⊥
not_different nodes i p differ early within hit =
    let d = no_node.key in
    let long : length (keys nodes) ≡ length nodes = length-map nodes (λ (n : BoxFacts). n.key) in
    let one = get_or-map (λ (n : BoxFacts). n.key) nodes i no_node d (omega (arith, early, within)) in
    let other = get_or-map (λ (n : BoxFacts). n.key) nodes p no_node d within in
    differ i p d early (omega (arith, long, within))
    (one ∙ (same_key (node_at nodes i).key (node_at nodes p).key hit ∙ sym other))
