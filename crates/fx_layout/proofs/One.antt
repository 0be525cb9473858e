-- Nodes have one layout: lengths are told from the leaves, and places from the root.
use Rattle.std.proofs.Common.{refl, sym, subst, ap, ◌∙◌, ◌≡◌, ℕ, zero, suc, ◌+◌, ◌<◌, ◌≤◌, Bool, true, false, cond, All, List, [], ◌∷◌, Option, None, Some, filter, length, map, slice_index_or, zero-add, arith}
use Rattle.std.proofs.lemmas.Bool.{eq-eqb}
use Rattle.std.proofs.lemmas.List.{ext_get_or, length-map}
use Rattle.std.proofs.lemmas.List.FromFn.{get_or-range_with_len, length-range_with_len}
use Rattle.std.specs.List.{range_with_len}
use Rattle.fx_base.specs.declared.facts.ChildSize.{ChildSize}
use Rattle.fx_base.specs.declared.facts.PaneFacts.{PaneFacts}
use Rattle.fx_base.specs.declared.facts.Sizes.{Sizes}
use Rattle.fx_base.specs.declared.geometry.Rect.{Rect}
use Rattle.fx_boxes.proofs.ControlLemmas.{one_control}
use Rattle.fx_kinds.specs.declared.facts.BoxFacts.{BoxFacts}
use Rattle.fx_look.specs.declared.looks.Look.{Look}
use Rattle.fx_panes_parts.specs.declared.axes.Axis.{Axis}
use Rattle.fx_panes_parts.specs.declared.axes.Axis.TheVariants.{Across, Down}
use Rattle.fx_panes_parts.specs.declared.axes.Extent.{Extent}
use Rattle.fx_panes_parts.specs.declared.axes.Span.{Span}
use Rattle.fx_layout_parts.specs.declared.rules.NodeBox.{NodeBox}
use Rattle.fx_layout_parts.specs.declared.rules.Rule.{Rule}
use Rattle.fx_layout_parts.specs.declared.rules.Rule.TheVariants as rule
use Rattle.fx_layout_parts.specs.Children.{child_of}
use Rattle.fx_layout_parts.specs.Rules.{AreSizesBy, IsHigh, IsWide, across_half, down_half}
use Rattle.fx_layout_sweeps.specs.Nodes.{AreNodes, box_at, child_at, children_lists, children_of, extent_at, is_place, node_at, nowhere, parent_at, parents, places_at, seen, span_at}
use Rattle.fx_layout_sweeps.specs.Sweeps.{fitted, held_length, spans_along}
use Rattle.fx_layout_sweeps.proofs.Asking.{children_below, lists_behind}
use Rattle.fx_layout_sweeps.proofs.Below.{lists_at}
use Rattle.fx_layout_sweeps.proofs.Turns.{map_same}
use Rattle.fx_layout.specs.Updates.{Kept, around, corner, from_corner, rect_at, root_length, shifted, window_height, window_width}
use Rattle.fx_layout.specs.Layouts.{IsLayout}
use Rattle.fx_layout.proofs.Agree.{map_all}
use Rattle.fx_layout.proofs.Shifts.{parent_before}

sizes_wide : (r : Rule) (node : PaneFacts) (children : List ChildSize) (v w : ℕ) (one other : Sizes)
    → AreSizesBy r node children v one → AreSizesBy r node children w other → across_half one ≡ across_half other
sizes_wide rule.Region node children v w one other e f = ap across_half (e ∙ sym f)
sizes_wide rule.Control node children v w one other e f = ap across_half e.sizes ∙ sym (ap across_half f.sizes)
sizes_wide rule.Free node children v w one other e f = ap across_half (e ∙ sym f)
sizes_wide rule.HBox node children v w one other e f = ap across_half (e ∙ sym f)
sizes_wide rule.VBox node children v w one other e f = ap across_half (e ∙ sym f)
sizes_wide rule.Border node children v w one other e f = ap across_half (e ∙ sym f)
sizes_wide rule.Stack node children v w one other e f = ap across_half (e ∙ sym f)
sizes_wide rule.Anchor node children v w one other e f = ap across_half (e ∙ sym f)
sizes_wide rule.Grid node children v w one other e f = ap across_half (e ∙ sym f)

sizes_high : (r : Rule) (node : PaneFacts) (children : List ChildSize) (w : ℕ) (one other : Sizes)
    → AreSizesBy r node children w one → AreSizesBy r node children w other → one ≡ other
sizes_high rule.Region node children w one other e f = e ∙ sym f
sizes_high rule.Control node children w one other e f = one_control node w one other e f
sizes_high rule.Free node children w one other e f = e ∙ sym f
sizes_high rule.HBox node children w one other e f = e ∙ sym f
sizes_high rule.VBox node children w one other e f = e ∙ sym f
sizes_high rule.Border node children w one other e f = e ∙ sym f
sizes_high rule.Stack node children w one other e f = e ∙ sym f
sizes_high rule.Anchor node children w one other e f = e ∙ sym f
sizes_high rule.Grid node children w one other e f = e ∙ sym f

pub one_wide : (node : NodeBox) (children : List ChildSize) (one other : Extent) → IsWide node children one
    → IsWide node children other → one ≡ other
one_wide node children one other e f =
    e.3 ∙ (sizes_wide node.rule node.facts children e.1 f.1 e.0 f.0 e.2 f.2 ∙ sym f.3)

pub one_high : (node : NodeBox) (children : List ChildSize) (w : ℕ) (one other : Extent) → IsHigh node children w one
    → IsHigh node children w other → one ≡ other
one_high node children w one other e f =
    e.2 ∙ (ap down_half (sizes_high node.rule node.facts children w e.0 f.0 e.1 f.1) ∙ sym f.2)

-- two layouts of the same nodes
pub record Both : Type 0 where
  pub nodes : List BoxFacts
  pub looks : List Look
  pub window : Option (ℕ × ℕ)
  pub one : Kept
  pub other : Kept

pub record AreBoth (b : Both) : Type 0 where
  pub tree : AreNodes b.nodes
  pub first : IsLayout b.nodes b.looks b.window b.one
  pub second : IsLayout b.nodes b.looks b.window b.other

abbrev kids : Both → ℕ → List ℕ
kids b p = places_at b.one.children p

same_children : (b : Both) → AreBoth b → b.other.children ≡ b.one.children
same_children b g = g.second.children ∙ sym g.first.children

-- children are seen alike where they are as long
seen_alike : (pane : Rule) (nodes : List BoxFacts) (places : List ℕ) (widths heights other_widths other_heights : List Extent)
    → All (λ j. extent_at widths j ≡ extent_at other_widths j) places
    → All (λ j. extent_at heights j ≡ extent_at other_heights j) places
    → seen pane nodes widths heights places ≡ seen pane nodes other_widths other_heights places
seen_alike pane nodes places widths heights other_widths other_heights as_wide as_high =
    map_same (child_at pane nodes widths heights) (child_at pane nodes other_widths other_heights)
    (child_at pane nodes [] [] 0) places
    (λ k d few.
    let j = slice_index_or places k d in
    ap (λ (x : Extent). child_of pane (node_at nodes j) x (extent_at heights j)) (as_wide k d few)
    ∙ ap (λ (x : Extent). child_of pane (node_at nodes j) (extent_at other_widths j) x) (as_high k d few))

none_known : (places : List ℕ) → All (λ j. extent_at [] j ≡ extent_at [] j) places
none_known places k d few = refl

kids_below : (b : Both) → AreBoth b → (p : ℕ) → p < length b.nodes → All (λ j. p < j) (kids b p)
kids_below b g p within = lists_behind b.nodes b.one.children g.tree g.first.children p within

kids_within : (b : Both) → AreBoth b → (p : ℕ) → p < length b.nodes → All (λ j. j < length b.nodes) (kids b p)
kids_within b g p within = children_below b.nodes b.one.children p g.tree g.first.children within

-- lengths, from the leaves

same_widths : (b : Both) → AreBoth b → (k p : ℕ) → p < length b.nodes → length b.nodes ≤ p + k
    → extent_at b.one.widths p ≡ extent_at b.other.widths p
same_widths b g zero p within deep = absurd (omega (arith, within, deep))
same_widths b g (suc k) p within deep =
    let node = box_at b.nodes b.looks p in
    let below : All (λ j. extent_at b.one.widths j ≡ extent_at b.other.widths j) (kids b p) =
    λ i d few. same_widths b g k (slice_index_or (kids b p) i d) (kids_within b g p within i d few)
    (omega (arith, kids_below b g p within i d few, deep)) in
    let alike : seen node.rule b.nodes b.other.widths [] (places_at b.other.children p)
    ≡ seen node.rule b.nodes b.one.widths [] (kids b p) =
    ap (λ (l : List (List ℕ)). seen node.rule b.nodes b.other.widths [] (places_at l p)) (same_children b g)
    ∙ sym (seen_alike node.rule b.nodes (kids b p) b.one.widths [] b.other.widths [] below (none_known (kids b p))) in
    one_wide node (seen node.rule b.nodes b.one.widths [] (kids b p)) (extent_at b.one.widths p) (extent_at b.other.widths p)
    (g.first.widths p within)
    (subst (λ (cs : List ChildSize). IsWide node cs (extent_at b.other.widths p)) alike (g.second.widths p within))

all_widths : (b : Both) → AreBoth b → (p : ℕ) → p < length b.nodes
    → extent_at b.one.widths p ≡ extent_at b.other.widths p
all_widths b g p within = same_widths b g (length b.nodes) p within (omega arith)

same_heights : (b : Both) → AreBoth b
    → ((p : ℕ) → p < length b.nodes → span_at b.one.across p ≡ span_at b.other.across p)
    → (k p : ℕ) → p < length b.nodes → length b.nodes ≤ p + k
    → extent_at b.one.heights p ≡ extent_at b.other.heights p
same_heights b g rooms zero p within deep = absurd (omega (arith, within, deep))
same_heights b g rooms (suc k) p within deep =
    let node = box_at b.nodes b.looks p in
    let room = (span_at b.one.across p).length in
    let below : All (λ j. extent_at b.one.heights j ≡ extent_at b.other.heights j) (kids b p) =
    λ i d few. same_heights b g rooms k (slice_index_or (kids b p) i d) (kids_within b g p within i d few)
    (omega (arith, kids_below b g p within i d few, deep)) in
    let alike : seen node.rule b.nodes b.other.widths b.other.heights (places_at b.other.children p)
    ≡ seen node.rule b.nodes b.one.widths b.one.heights (kids b p) =
    ap (λ (l : List (List ℕ)). seen node.rule b.nodes b.other.widths b.other.heights (places_at l p)) (same_children b g)
    ∙ sym (seen_alike node.rule b.nodes (kids b p) b.one.widths b.one.heights b.other.widths b.other.heights
    (λ i d few. all_widths b g (slice_index_or (kids b p) i d) (kids_within b g p within i d few)) below) in
    one_high node (seen node.rule b.nodes b.one.widths b.one.heights (kids b p)) (held_length room)
    (extent_at b.one.heights p) (extent_at b.other.heights p) (g.first.heights p within)
    (subst (λ r. IsHigh node (seen node.rule b.nodes b.one.widths b.one.heights (kids b p)) (held_length r)
    (extent_at b.other.heights p)) (sym (ap (λ (x : Span). x.length) (rooms p within)))
    (subst (λ (cs : List ChildSize). IsHigh node cs (held_length (span_at b.other.across p).length)
    (extent_at b.other.heights p)) alike (g.second.heights p within)))

-- places, from the root

-- what holds of all children of a place holds of a node that has it as its parent
from_kept : (P : ℕ → Type 0) (test : ℕ → Bool) (xs : List ℕ) (i d : ℕ) → All P (filter test xs) → i < length xs
    → test (slice_index_or xs i d) ≡ true → P (slice_index_or xs i d)
from_kept P test [] i d all within e = absurd (omega (arith, within))
from_kept P test (x ∷ xs) zero d all within e =
    subst (λ b. All P (cond b (x ∷ filter test xs) (filter test xs))) e all 0 d (omega arith)
from_kept P test (x ∷ xs) (suc i) d all within e = from_kept P test xs i d (rest (test x) all) (omega (arith, within)) e
  where
    rest : (b : Bool) → All P (cond b (x ∷ filter test xs) (filter test xs)) → All P (filter test xs)
    rest true h = λ k f few. h (suc k) f (omega (arith, few))
    rest false h = h

pub of_its_parent : (nodes : List BoxFacts) (children : List (List ℕ)) → children ≡ children_lists (parents nodes)
    → (P : ℕ → Type 0) (q p : ℕ) → q < length nodes → p < length nodes → parent_at (parents nodes) p ≡ Some q
    → All P (places_at children q) → P p
of_its_parent nodes children hung P q p q_within within up all =
    let ups = parents nodes in
    let long : length ups ≡ length nodes = length-map nodes (λ (n : BoxFacts). n.parent) in
    let kept : All P (children_of ups q) =
    subst (λ (l : List ℕ). All P l)
    (ap (λ (l : List (List ℕ)). places_at l q) hung ∙ lists_at ups q (omega (arith, q_within, long))) all in
    let few : p < length (range_with_len 0 (length ups)) = omega (arith, length-range_with_len 0 (length ups), long, within) in
    let at : slice_index_or (range_with_len 0 (length ups)) p 0 ≡ p =
    get_or-range_with_len 0 (length ups) p 0 (omega (arith, long, within)) ∙ zero-add p in
    subst P at (from_kept P (λ j. is_place q (parent_at ups j)) (range_with_len 0 (length ups)) p 0 kept few
    (ap (λ j. is_place q (parent_at ups j)) at ∙ (ap (is_place q) up ∙ eq-eqb q q refl)))

of_parent : (b : Both) → AreBoth b → (P : ℕ → Type 0) (q p : ℕ) → q < length b.nodes → p < length b.nodes
    → parent_at (parents b.nodes) p ≡ Some q → All P (kids b q) → P p
of_parent b g P q p q_within within up all =
    of_its_parent b.nodes b.one.children g.first.children P q p q_within within up all

same_spans : (b : Both) → AreBoth b → (axis : Axis) → (children : ℕ → List ChildSize) → (one other : List Span)
    → span_at one 0 ≡ span_at other 0
    → ((p : ℕ) → p < length b.nodes → map (span_at one) (kids b p) ≡ fitted (length (kids b p))
    (spans_along axis (box_at b.nodes b.looks p) (children p) (span_at one p).length))
    → ((p : ℕ) → p < length b.nodes → map (span_at other) (kids b p) ≡ fitted (length (kids b p))
    (spans_along axis (box_at b.nodes b.looks p) (children p) (span_at other p).length))
    → (k p : ℕ) → p < k → p < length b.nodes → span_at one p ≡ span_at other p
same_spans b g axis children one other roots first second zero p early within = absurd (omega (arith, early))
same_spans b g axis children one other roots first second (suc k) zero early within = roots
same_spans b g axis children one other roots first second (suc k) (suc p) early within =
    let ups = parents b.nodes in
    let long : length ups ≡ length b.nodes = length-map b.nodes (λ (n : BoxFacts). n.parent) in
    let up = g.tree.tree.below (suc p) (omega arith) (omega (arith, long, within)) in
    let q = up.0 in
    let there : q < length b.nodes = omega (arith, up.2, within) in
    let same = same_spans b g axis children one other roots first second k q (omega (arith, up.2, early)) there in
    let all : All (λ j. span_at one j ≡ span_at other j) (kids b q) =
    map_all (span_at one) (span_at other) nowhere (kids b q)
    (first q there
    ∙ (ap (λ (x : Span). fitted (length (kids b q))
    (spans_along axis (box_at b.nodes b.looks q) (children q) x.length)) same
    ∙ sym (second q there))) in
    of_parent b g (λ j. span_at one j ≡ span_at other j) q (suc p) there within up.1 all

all_across : (b : Both) → AreBoth b → (p : ℕ) → p < length b.nodes → span_at b.one.across p ≡ span_at b.other.across p
all_across b g p within =
    let sees = λ (q : ℕ). seen (box_at b.nodes b.looks q).rule b.nodes b.one.widths [] (kids b q) in
    same_spans b g Across sees b.one.across b.other.across
    (g.first.root_across
    ∙ (ap (λ (x : Extent). from_corner (root_length (window_width b.window) x)) (all_widths b g 0 (omega (arith, within)))
    ∙ sym g.second.root_across))
    g.first.across
    (λ q there. subst (λ (cs : List ChildSize). map (span_at b.other.across) (kids b q) ≡ fitted (length (kids b q))
    (spans_along Across (box_at b.nodes b.looks q) cs (span_at b.other.across q).length))
    (sym (seen_alike (box_at b.nodes b.looks q).rule b.nodes (kids b q) b.one.widths [] b.other.widths []
    (λ i d few. all_widths b g (slice_index_or (kids b q) i d) (kids_within b g q there i d few)) (none_known (kids b q))))
    (subst (λ (l : List (List ℕ)). map (span_at b.other.across) (places_at l q) ≡ fitted (length (places_at l q))
    (spans_along Across (box_at b.nodes b.looks q) (seen (box_at b.nodes b.looks q).rule b.nodes b.other.widths []
    (places_at l q)) (span_at b.other.across q).length)) (same_children b g) (g.second.across q there)))
    (suc p) p (omega arith) within

all_heights : (b : Both) → AreBoth b → (p : ℕ) → p < length b.nodes
    → extent_at b.one.heights p ≡ extent_at b.other.heights p
all_heights b g p within = same_heights b g (all_across b g) (length b.nodes) p within (omega arith)

all_down : (b : Both) → AreBoth b → (p : ℕ) → p < length b.nodes → span_at b.one.down p ≡ span_at b.other.down p
all_down b g p within =
    let sees = λ (q : ℕ). seen (box_at b.nodes b.looks q).rule b.nodes b.one.widths b.one.heights (kids b q) in
    same_spans b g Down sees b.one.down b.other.down
    (g.first.root_down
    ∙ (ap (λ (x : Extent). from_corner (root_length (window_height b.window) x)) (all_heights b g 0 (omega (arith, within)))
    ∙ sym g.second.root_down))
    g.first.down
    (λ q there. subst (λ (cs : List ChildSize). map (span_at b.other.down) (kids b q) ≡ fitted (length (kids b q))
    (spans_along Down (box_at b.nodes b.looks q) cs (span_at b.other.down q).length))
    (sym (seen_alike (box_at b.nodes b.looks q).rule b.nodes (kids b q) b.one.widths b.one.heights b.other.widths
    b.other.heights
    (λ i d few. all_widths b g (slice_index_or (kids b q) i d) (kids_within b g q there i d few))
    (λ i d few. all_heights b g (slice_index_or (kids b q) i d) (kids_within b g q there i d few))))
    (subst (λ (l : List (List ℕ)). map (span_at b.other.down) (places_at l q) ≡ fitted (length (places_at l q))
    (spans_along Down (box_at b.nodes b.looks q) (seen (box_at b.nodes b.looks q).rule b.nodes b.other.widths
    b.other.heights (places_at l q)) (span_at b.other.down q).length)) (same_children b g) (g.second.down q there)))
    (suc p) p (omega arith) within

-- rectangles

same_around : (one other : List Rect) (parent : Option ℕ)
    → ((q : ℕ) → parent ≡ Some q → rect_at one q ≡ rect_at other q) → around one parent ≡ around other parent
same_around one other None same = refl
same_around one other (Some q) same = same q refl

same_rects : (b : Both) → AreBoth b → (k p : ℕ) → p < k → p < length b.nodes
    → rect_at b.one.rects p ≡ rect_at b.other.rects p
same_rects b g zero p early within = absurd (omega (arith, early))
same_rects b g (suc k) p early within =
    let parent = (node_at b.nodes p).parent in
    let outer : around b.one.rects parent ≡ around b.other.rects parent =
    same_around b.one.rects b.other.rects parent
    (λ q up.
    let before : q < p = parent_before b.nodes g.tree.tree p within q up in
    same_rects b g k q (omega (arith, before, early)) (omega (arith, before, within))) in
    g.first.rects.placed p within
    ∙ (ap (λ (r : Rect). shifted r (span_at b.one.across p) (span_at b.one.down p)) outer
    ∙ (ap (λ (x : Span). shifted (around b.other.rects parent) x (span_at b.one.down p)) (all_across b g p within)
    ∙ (ap (λ (x : Span). shifted (around b.other.rects parent) (span_at b.other.across p) x) (all_down b g p within)
    ∙ sym (g.second.rects.placed p within))))

pub one_layout : (b : Both) → AreBoth b → b.one.rects ≡ b.other.rects
one_layout b g =
    ext_get_or corner b.one.rects b.other.rects (g.first.rects.each ∙ sym g.second.rects.each)
    (λ i within.
    let few : i < length b.nodes = subst (λ n. i < n) g.first.rects.each within in
    same_rects b g (suc i) i (omega arith) few)
