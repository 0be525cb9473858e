-- What is told of each key where each node is changed and keeps its key.
use Rattle.std.proofs.Common.{◌≡◌, List, [], ◌∷◌, map, Option, Some, None, is_some, refl, sym, ◌∙◌, ap, inl, inr}
use Rattle.std.specs.Option.{option_map}
use Rattle.std.proofs.lemmas.Bool.{cases_Bool}
use Rattle.fx_base.specs.declared.keys.NodeKey.{NodeKey}
use Rattle.fx_tree.specs.Scene.{Node, children_of, has, is_same, parent_of}
use Rattle.fx_tree.proofs.Keys.{is_same-true}
use Rattle.fx_tree_laws.proofs.Known.{children_first, children_further, children_of-nil, parent_first, parent_further}

module _ (change : Node → Node) (keeps : (node : Node) → (change node).key ≡ node.key) where
  pub children_mapped : (f : NodeKey → List NodeKey → List NodeKey)
      → ((node : Node) → (change node).children ≡ f node.key node.children) → (nodes : List Node) (key : NodeKey)
      → children_of (map change nodes) key ≡ option_map (f key) (children_of nodes key)
  children_mapped f each [] key = children_of-nil key ∙ sym (ap (option_map (f key)) (children_of-nil key))
  children_mapped f each (n ∷ nodes) key =
      elim (cases_Bool (is_same n.key key)) [
        | inl same ↦
            children_first (change n) (map change nodes) key (ap (λ (k : NodeKey). is_same k key) (keeps n) ∙ same)
            ∙ ap Some (each n ∙ ap (λ (k : NodeKey). f k n.children) (is_same-true n.key key same))
            ∙ sym (ap (option_map (f key)) (children_first n nodes key same))
        | inr apart ↦
            children_further (change n) (map change nodes) key (ap (λ (k : NodeKey). is_same k key) (keeps n) ∙ apart)
            ∙ children_mapped f each nodes key
            ∙ sym (ap (option_map (f key)) (children_further n nodes key apart))
      ]

  pub parent_mapped : (key : NodeKey) → ((node : Node) → has (change node).children key ≡ has node.children key)
      → (nodes : List Node) → parent_of (map change nodes) key ≡ parent_of nodes key
  parent_mapped key each [] = refl
  parent_mapped key each (n ∷ nodes) =
      elim (cases_Bool (has n.children key)) [
        | inl there ↦
            parent_first (change n) (map change nodes) key (each n ∙ there)
            ∙ ap Some (keeps n)
            ∙ sym (parent_first n nodes key there)
        | inr apart ↦
            parent_further (change n) (map change nodes) key (each n ∙ apart)
            ∙ parent_mapped key each nodes
            ∙ sym (parent_further n nodes key apart)
      ]

pub is_some-mapped : {X Y : Type 0} (f : X → Y) (o : Option X) → is_some (option_map f o) ≡ is_some o
is_some-mapped f None = refl
is_some-mapped f (Some x) = refl
