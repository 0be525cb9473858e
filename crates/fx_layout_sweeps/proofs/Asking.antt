-- The panes of nodes that can be laid out can be asked.
use Rattle.std.proofs.Common.{sym, subst, ap, ◌∙◌, ◌≡◌, ℕ, ◌<◌, ◌≤◌, ◌≢◌, All, AllPairs, List, length, slice_index_or, arith}
use Rattle.std.proofs.lemmas.List.{length-map}
use Rattle.std.proofs.lemmas.List.Elements.{All-get_or, All-weaker}
use Rattle.std.proofs.lemmas.List.FromFn.{length-map-range_with_len, length-range_with_len}
use Rattle.std.proofs.lemmas.List.Sums.{count_by-le-length, length-filter}
use Rattle.std.specs.List.{range_with_len}
use Rattle.fx_kinds.specs.declared.facts.BoxFacts.{BoxFacts}
use Rattle.fx_look.specs.declared.looks.Look.{Look}
use Rattle.fx_panes_parts.specs.declared.axes.Extent.{Extent}
use Rattle.fx_layout_parts.specs.declared.rules.NodeBox.{NodeBox}
use Rattle.fx_layout_parts.specs.Rules.{CanBeAsked}
use Rattle.fx_base.specs.declared.facts.ChildSize.{ChildSize}
use Rattle.fx_layout_parts.proofs.CellLemmas.{cells_fit}
use Rattle.fx_layout_sweeps.specs.Nodes.{AreNodes, box_at, child_at, children_lists, children_of, extent_at, is_place, no_node, node_at, parent_at, parents, places_at, seen}
use Rattle.fx_layout_sweeps.proofs.Below.{IsChild, children_distinct, children_known, lists_at, same_parent}
use Rattle.fx_layout_sweeps.proofs.Spreads.{AreKnown}

children_listed : (nodes : List BoxFacts) (p : ℕ) → AreNodes nodes → p < length nodes
    → length (places_at (children_lists (parents nodes)) p) ≤ 4096
children_listed nodes p are within =
    let ups = parents nodes in
    let places = places_at (children_lists ups) p in
    let test = λ (j : ℕ). is_place p (parent_at ups j) in
    let many : length ups ≡ length nodes = length-map nodes _ in
    let some : places ≡ children_of ups p = lists_at ups p (subst (λ n. p < n) (sym many) within) in
    let counted = length-filter test (range_with_len 0 (length ups)) in
    let most = count_by-le-length test (range_with_len 0 (length ups)) in
    omega (arith, ap (λ (l : List ℕ). length l) some, counted, most, length-range_with_len 0 (length ups), many, are.few)

-- no node has too many children
pub children_few : (nodes : List BoxFacts) (children : List (List ℕ)) (p : ℕ) → AreNodes nodes
    → children ≡ children_lists (parents nodes) → p < length nodes → length (places_at children p) ≤ 4096
children_few nodes children p are same within = rw same (children_listed nodes p are within)

pub can_be_asked : (nodes : List BoxFacts) (looks : List Look) (p : ℕ) (widths heights : List Extent) → AreNodes nodes
    → p < length nodes
    → CanBeAsked (box_at nodes looks p)
    (seen (box_at nodes looks p).rule nodes widths heights (places_at (children_lists (parents nodes)) p))
can_be_asked nodes looks p widths heights are within =
    let node = box_at nodes looks p in
    let places = places_at (children_lists (parents nodes)) p in
    let few : length places ≤ 4096 = children_listed nodes p are within in
    record {
      few = omega (arith, few, length-map places (child_at node.rule nodes widths heights));
      grid = cells_fit node.rule node.facts (node_at nodes) (extent_at widths) (extent_at heights) places
          (All-get_or (λ (n : BoxFacts). length n.columns ≤ 256) nodes p no_node within are.columns)
          (All-get_or (λ (n : BoxFacts). length n.rows ≤ 256) nodes p no_node within are.rows);
    }

pub lists_long : (nodes : List BoxFacts) (children : List (List ℕ)) → children ≡ children_lists (parents nodes)
    → length children ≡ length nodes
lists_long nodes children same =
    ap (λ (l : List (List ℕ)). length l) same
    ∙ (length-map-range_with_len (children_of (parents nodes)) 0 (length (parents nodes)) ∙ length-map nodes _)

pub children_below : (nodes : List BoxFacts) (children : List (List ℕ)) (p : ℕ) → AreNodes nodes
    → children ≡ children_lists (parents nodes) → p < length nodes → All (λ j. j < length nodes) (places_at children p)
children_below nodes children p are same within =
    let ups = parents nodes in
    let many : length ups ≡ length nodes = length-map nodes _ in
    let known : All (λ j. j < length nodes) (children_of ups p) =
    All-weaker (λ j. IsChild ups p j) (λ j. j < length nodes) (λ j child. subst (λ n. j < n) many child.within)
    (children_of ups p) (children_known ups are.tree p) in
    subst (λ (l : List ℕ). All (λ j. j < length nodes) l)
    (sym (ap (λ (l : List (List ℕ)). places_at l p) same ∙ lists_at ups p (subst (λ n. p < n) (sym many) within))) known

pub asked : (nodes : List BoxFacts) (looks : List Look) (children : List (List ℕ)) (p : ℕ) (widths heights : List Extent)
    (node : NodeBox) (places : List ℕ) (seen_children : List ChildSize) → AreNodes nodes
    → children ≡ children_lists (parents nodes) → p < length nodes → node ≡ box_at nodes looks p
    → places ≡ places_at children p → seen_children ≡ seen node.rule nodes widths heights places
    → CanBeAsked node seen_children
asked nodes looks children p widths heights node places seen_children are same within is_node are_places are_seen =
    rw (are_seen, are_places, is_node, same) (can_be_asked nodes looks p widths heights are within)

pub lists_behind : (nodes : List BoxFacts) (children : List (List ℕ)) → AreNodes nodes
    → children ≡ children_lists (parents nodes) → (p : ℕ) → p < length nodes → All (λ j. p < j) (places_at children p)
lists_behind nodes children are same p within =
    let ups = parents nodes in
    let many : length ups ≡ length nodes = length-map nodes _ in
    let known : All (λ j. p < j) (children_of ups p) =
    All-weaker (λ j. IsChild ups p j) (λ j. p < j) (λ j child. child.behind)
    (children_of ups p) (children_known ups are.tree p) in
    subst (λ (l : List ℕ). All (λ j. p < j) l)
    (sym (ap (λ (l : List (List ℕ)). places_at l p) same ∙ lists_at ups p (subst (λ n. p < n) (sym many) within))) known

pub lists_apart : (nodes : List BoxFacts) (children : List (List ℕ)) (p : ℕ) → children ≡ children_lists (parents nodes)
    → p < length nodes → AllPairs (λ i j. i ≢ j) (places_at children p)
lists_apart nodes children p same within =
    let ups = parents nodes in
    let many : length ups ≡ length nodes = length-map nodes _ in
    subst (λ (l : List ℕ). AllPairs (λ i j. i ≢ j) l)
    (sym (ap (λ (l : List (List ℕ)). places_at l p) same ∙ lists_at ups p (subst (λ n. p < n) (sym many) within)))
    (children_distinct ups p)

pub child_in : (nodes : List BoxFacts) (children : List (List ℕ)) → AreNodes nodes → children ≡ children_lists (parents nodes)
    → (p : ℕ) → p < length nodes → All (λ j. IsChild (parents nodes) p j) (places_at children p)
child_in nodes children are same p within =
    let ups = parents nodes in
    let many : length ups ≡ length nodes = length-map nodes _ in
    subst (λ (l : List ℕ). All (λ j. IsChild ups p j) l)
    (sym (ap (λ (l : List (List ℕ)). places_at l p) same ∙ lists_at ups p (subst (λ n. p < n) (sym many) within)))
    (children_known ups are.tree p)

pub are_known : (nodes : List BoxFacts) (children : List (List ℕ)) → AreNodes nodes → children ≡ children_lists (parents nodes)
    → AreKnown children (length nodes)
are_known nodes children are same =
    record {
      behind = lists_behind nodes children are same;
      apart = λ p q p_within q_within differ i k d e i_within k_within equal.
          let one = child_in nodes children are same p p_within i d i_within in
          let other = child_in nodes children are same q q_within k e k_within in
          differ (same_parent p q (parent_at (parents nodes) (slice_index_or (places_at children p) i d)) one.up
          (ap (parent_at (parents nodes)) equal ∙ other.up));
    }
