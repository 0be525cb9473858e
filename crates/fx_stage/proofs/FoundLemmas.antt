-- A property that is found is known.
use Rattle.std.proofs.Common.{◌≡◌, ◌+◌, ℕ, length, List, [], ◌∷◌, Contains, Option, Some, None, Result, Ok, false, refl, sym, ◌∙◌, ap, subst, arith}
use Rattle.std.specs.Map.{lookup}
use Rattle.std.specs.Option.{option_map}
use Rattle.std.specs.Str.{bytes_eq}
use Rattle.std.proofs.lemmas.List.FromFn.{get_or-range_with_len, length-range_with_len}
use Rattle.std.proofs.lemmas.List.Quantifiers.{position-Some}
use Rattle.fx_base.specs.Names.{name_of}
use Rattle.fx_base.specs.declared.keys.Name.{Name}
use Rattle.fx_base.specs.declared.keys.NodeKey.{NodeKey}
use Rattle.fx_graph_model.specs.Uses.{unknown_in}
use Rattle.fx_kinds.specs.Properties.{ListedProperty, properties_of}
use Rattle.fx_stage_types.specs.declared.node_data.NodeData.{NodeData}
use Rattle.fx_stage_types.specs.declared.refusals.Refusal.{Refusal}
use Rattle.fx_stage_types.specs.declared.refusals.Refusal.TheVariants as word
use Rattle.fx_stage_types.specs.Tables.{data_of, node_at}
use Rattle.fx_stage_model.specs.Answers.{and_then, or_word}
use Rattle.fx_stage_model.specs.Looking.{find, find_node, find_of_node, front, last, place_of, properties_in, property_in}
use Rattle.fx_stage_model.specs.Sound.{IsSound}
use Rattle.fx_stage_model.specs.World.{World}
use Rattle.fx_stage_parts.proofs.Small.{some_property}

-- a place of a class's list is one of the node's properties
owned_place : (node : NodeData) (property : List ℕ) (place : ℕ) → place_of node.class property ≡ Some place
    → Contains (properties_in (Some node)) (node.first + place)
unfolding place_of
owned_place node property place is =
    let there = position-Some (λ (p : ListedProperty). bytes_eq p.name property) (properties_of node.class) place some_property is in
    let long = length-range_with_len node.first (length (properties_of node.class)) in
    (place, omega (arith, there.0, long), get_or-range_with_len node.first (length (properties_of node.class)) place (node.first + place) there.0)

abbrev Known : World → Name → Type 0
Known world name = unknown_in world.store.entries name.0 ≡ false

module _ (world : World) (sound : IsSound world.store.entries world.graph.table world.names.free) (name : Name) where
  given : {A : Type 0} (a b : A) → ◌≡◌ {A = Result A Refusal} (Ok a) (Ok b) → a ≡ b
  given a b e = cc

  by_place : (property : List ℕ) (key : NodeKey) (node : NodeData) → data_of world.graph.table key ≡ Some node → (o : Option ℕ)
      → place_of node.class property ≡ o
      → or_word word.Property (option_map name_of (option_map (λ (place : ℕ). node.first + place) o)) ≡ Ok name → Known world name
  by_place property key node had None there e = absurd (cc)
  by_place property key node had (Some place) there e =
      ap (λ (n : Name). unknown_in world.store.entries n.0) (sym (given (name_of (node.first + place)) name e))
      ∙ sound.owned key (node.first + place)
      (subst (λ (o : Option NodeData). Contains (properties_in o) (node.first + place)) (sym had) (owned_place node property place there))

  by_data : (property : List ℕ) (key : NodeKey) (o : Option NodeData) → data_of world.graph.table key ≡ o
      → or_word word.Property (option_map name_of (property_in o property)) ≡ Ok name → Known world name
  unfolding property_in
  by_data property key None had e = absurd (cc)
  by_data property key (Some node) had e = by_place property key node had (place_of node.class property) refl e

  by_node : (property : List ℕ) (o : Option NodeKey)
      → and_then (or_word word.Unknown o) (λ (key : NodeKey).
      or_word word.Property (option_map name_of (property_in (data_of world.graph.table key) property))) ≡ Ok name
      → Known world name
  by_node property None e = absurd (cc)
  by_node property (Some key) e = by_data property key (data_of world.graph.table key) refl e

  of_node : (path : List (List ℕ)) (property : List ℕ) → find_of_node world path property ≡ Ok name → Known world name
  unfolding find_of_node find_node
  of_node path property e = by_node property (node_at world.graph.paths path) e

  by_free : (text : List ℕ) (o : Option Name) → lookup (bytes_eq text) world.names.free ≡ o → or_word word.Unknown o ≡ Ok name
      → Known world name
  by_free text None there e = absurd (cc)
  by_free text (Some property) there e =
      ap (λ (n : Name). unknown_in world.store.entries n.0) (sym (given property name e)) ∙ sound.declared text property there

  pub found_known : (path : List (List ℕ)) → find world path ≡ Ok name → Known world name
  unfolding find
  found_known [] e = absurd (cc)
  found_known (text ∷ []) e = by_free text (lookup (bytes_eq text) world.names.free) refl e
  found_known (text ∷ (next ∷ rest)) e =
      of_node (front (text ∷ (next ∷ rest))) (last (text ∷ (next ∷ rest))) e
