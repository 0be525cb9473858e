-- Subtrees that are alike have the same lengths, from the leaves, and the same places in the same size.
use Rattle.std.proofs.Common.{refl, sym, subst, ap, ◌∙◌, ◌≡◌, ℕ, zero, suc, ◌+◌, ◌<◌, ◌≤◌, Bool, true, All, List, [], Option, length, map, slice_index_or, arith}
use Rattle.std.proofs.lemmas.List.{ext_get_or, get_or-map, length-map}
use Rattle.fx_base.specs.declared.facts.ChildSize.{ChildSize}
use Rattle.fx_kinds.specs.declared.facts.BoxFacts.{BoxFacts}
use Rattle.fx_look.specs.declared.looks.Look.{Look}
use Rattle.fx_panes_parts.specs.declared.axes.Axis.{Axis}
use Rattle.fx_panes_parts.specs.declared.axes.Axis.TheVariants.{Across, Down}
use Rattle.fx_panes_parts.specs.declared.axes.Extent.{Extent}
use Rattle.fx_panes_parts.specs.declared.axes.Span.{Span}
use Rattle.fx_layout_parts.specs.declared.rules.NodeBox.{NodeBox}
use Rattle.fx_layout_parts.specs.declared.rules.Rule.{Rule}
use Rattle.fx_layout_parts.specs.Children.{child_of}
use Rattle.fx_layout_parts.specs.Rules.{IsHigh, IsWide}
use Rattle.fx_layout_sweeps.specs.Nodes.{AreNodes, box_at, child_at, children_of, extent_at, node_at, nowhere, parents, places_at, seen, span_at}
use Rattle.fx_layout_sweeps.specs.Sweeps.{fitted, held_length, spans_along}
use Rattle.fx_layout_sweeps.proofs.Asking.{lists_behind}
use Rattle.fx_layout_sweeps.proofs.Below.{lists_at}
use Rattle.fx_layout.specs.Layouts.{IsLayout}
use Rattle.fx_layout.specs.Updates.{Kept}
use Rattle.fx_layout.proofs.One.{one_high, one_wide}
use Rattle.fx_layout_laws.specs.Alike.{AreAlike, AreMatched, bare}

-- layouts of two scenes, and a test of their places
pub record Two : Type 0 where
  pub alike : ℕ → ℕ → Bool
  pub ones : List BoxFacts
  pub one_looks : List Look
  pub one_window : Option (ℕ × ℕ)
  pub one : Kept
  pub others : List BoxFacts
  pub other_looks : List Look
  pub other_window : Option (ℕ × ℕ)
  pub other : Kept

pub record AreTwo (t : Two) : Type 0 where
  pub one_nodes : AreNodes t.ones
  pub other_nodes : AreNodes t.others
  pub first : IsLayout t.ones t.one_looks t.one_window t.one
  pub second : IsLayout t.others t.other_looks t.other_window t.other
  pub same : AreAlike t.alike t.ones t.one_looks t.others t.other_looks

abbrev one_kids : Two → ℕ → List ℕ
one_kids t i = places_at t.one.children i

abbrev other_kids : Two → ℕ → List ℕ
other_kids t j = places_at t.other.children j

abbrev nth : List ℕ → ℕ → ℕ
nth places k = slice_index_or places k 0

pub kids_are : (nodes : List BoxFacts) (looks : List Look) (window : Option (ℕ × ℕ)) (all : Kept)
    → IsLayout nodes looks window all → (p : ℕ) → p < length nodes
    → places_at all.children p ≡ children_of (parents nodes) p
kids_are nodes looks window all is p within =
    ap (λ (l : List (List ℕ)). places_at l p) is.children
    ∙ lists_at (parents nodes) p (omega (arith, within, length-map nodes (λ (n : BoxFacts). n.parent)))

matched : (t : Two) → AreTwo t → (i j : ℕ) → t.alike i j ≡ true → AreMatched t.alike (one_kids t i) (other_kids t j)
matched t g i j is =
    let there = g.same.there i j is in
    subst (λ l. AreMatched t.alike l (other_kids t j))
    (sym (kids_are t.ones t.one_looks t.one_window t.one g.first i there.0))
    (subst (λ l. AreMatched t.alike (children_of (parents t.ones) i) l)
    (sym (kids_are t.others t.other_looks t.other_window t.other g.second j there.1)) (g.same.below i j is))

-- a pane sees nothing of a child's key and of where its parent stands
bare_child : (pane : Rule) (node : BoxFacts) (across down : Extent)
    → child_of pane node across down ≡ child_of pane (bare node) across down
unfolding child_of
bare_child pane node across down = refl

child_alike : (pane : Rule) (one other : BoxFacts) (wide other_wide high other_high : Extent) → bare one ≡ bare other
    → wide ≡ other_wide → high ≡ other_high → child_of pane one wide high ≡ child_of pane other other_wide other_high
child_alike pane one other wide other_wide high other_high facts as_wide as_high =
    bare_child pane one wide high
    ∙ (ap (λ (n : BoxFacts). child_of pane n wide high) facts
    ∙ (ap (λ (x : Extent). child_of pane (bare other) x high) as_wide
    ∙ (ap (λ (x : Extent). child_of pane (bare other) other_wide x) as_high
    ∙ sym (bare_child pane other other_wide other_high))))

-- the children of two places have the same lengths one by one
abbrev AreAsLong : Two → ℕ → ℕ → List Extent → List Extent → Type 0
AreAsLong t i j one other = (k : ℕ) → k < length (one_kids t i)
    → extent_at one (nth (one_kids t i) k) ≡ extent_at other (nth (other_kids t j) k)

seen_alike : (t : Two) → AreTwo t → (i j : ℕ) → t.alike i j ≡ true → (pane : Rule)
    → (widths heights other_widths other_heights : List Extent) → AreAsLong t i j widths other_widths
    → AreAsLong t i j heights other_heights
    → seen pane t.ones widths heights (one_kids t i) ≡ seen pane t.others other_widths other_heights (other_kids t j)
seen_alike t g i j is pane widths heights other_widths other_heights as_wide as_high =
    let f = child_at pane t.ones widths heights in
    let h = child_at pane t.others other_widths other_heights in
    let kids = one_kids t i in
    let same = matched t g i j is in
    ext_get_or (f 0) (map f kids) (map h (other_kids t j))
    (length-map kids f ∙ (same.0 ∙ sym (length-map (other_kids t j) h)))
    (λ k within.
    let few : k < length kids = subst (λ n. k < n) (length-map kids f) within in
    let few_other : k < length (other_kids t j) = subst (λ n. k < n) same.0 few in
    get_or-map f kids k 0 (f 0) few
    ∙ (child_alike pane (node_at t.ones (nth kids k)) (node_at t.others (nth (other_kids t j) k))
    (extent_at widths (nth kids k)) (extent_at other_widths (nth (other_kids t j) k))
    (extent_at heights (nth kids k)) (extent_at other_heights (nth (other_kids t j) k))
    (g.same.facts (nth kids k) (nth (other_kids t j) k) (same.1 k few)) (as_wide k few) (as_high k few)
    ∙ sym (get_or-map h (other_kids t j) k 0 (f 0) few_other)))

none_known : (t : Two) (i j : ℕ) → AreAsLong t i j [] []
none_known t i j k few = refl

-- a child stands behind the node
behind : (t : Two) → AreTwo t → (i j : ℕ) → t.alike i j ≡ true → (k : ℕ) → k < length (one_kids t i)
    → i < nth (one_kids t i) k
behind t g i j is k few = lists_behind t.ones t.one.children g.one_nodes g.first.children i (g.same.there i j is).0 k 0 few

wide_from : (t : Two) → AreTwo t → (left i j : ℕ) → t.alike i j ≡ true → length t.ones ≤ i + left
    → extent_at t.one.widths i ≡ extent_at t.other.widths j
wide_from t g zero i j is deep = absurd (omega (arith, (g.same.there i j is).0, deep))
wide_from t g (suc left) i j is deep =
    let node = box_at t.ones t.one_looks i in
    let there = g.same.there i j is in
    let below : AreAsLong t i j t.one.widths t.other.widths =
    λ k few. wide_from t g left (nth (one_kids t i) k) (nth (other_kids t j) k) ((matched t g i j is).1 k few)
    (omega (arith, behind t g i j is k few, deep)) in
    let alike = seen_alike t g i j is node.rule t.one.widths [] t.other.widths [] below (none_known t i j) in
    let other : IsWide node (seen node.rule t.others t.other.widths [] (other_kids t j)) (extent_at t.other.widths j) =
    subst (λ (b : NodeBox). IsWide b (seen b.rule t.others t.other.widths [] (other_kids t j)) (extent_at t.other.widths j))
    (sym (g.same.boxes i j is)) (g.second.widths j there.1) in
    one_wide node (seen node.rule t.ones t.one.widths [] (one_kids t i)) (extent_at t.one.widths i)
    (extent_at t.other.widths j) (g.first.widths i there.0)
    (subst (λ (cs : List ChildSize). IsWide node cs (extent_at t.other.widths j)) (sym alike) other)

pub same_widths : (t : Two) → AreTwo t → (i j : ℕ) → t.alike i j ≡ true
    → extent_at t.one.widths i ≡ extent_at t.other.widths j
same_widths t g i j is = wide_from t g (length t.ones) i j is (omega arith)

kids_wide : (t : Two) → AreTwo t → (i j : ℕ) → t.alike i j ≡ true → AreAsLong t i j t.one.widths t.other.widths
kids_wide t g i j is k few = same_widths t g (nth (one_kids t i) k) (nth (other_kids t j) k) ((matched t g i j is).1 k few)

-- what is placed along an axis, of two nodes by the same box over children that are seen alike, in the same length
placed_alike : (axis : Axis) (one other : NodeBox) (children other_children : List ChildSize)
    (count other_count room other_room : ℕ) (spans other_spans : List Span) → spans ≡ fitted count (spans_along axis one children room)
    → other_spans ≡ fitted other_count (spans_along axis other other_children other_room) → one ≡ other
    → children ≡ other_children → count ≡ other_count → room ≡ other_room → spans ≡ other_spans
placed_alike axis one other children other_children count other_count room other_room spans other_spans first second
    boxes alike many rooms =
    first
    ∙ (ap (λ n. fitted n (spans_along axis one children room)) many
    ∙ (ap (λ (b : NodeBox). fitted other_count (spans_along axis b children room)) boxes
    ∙ (ap (λ (cs : List ChildSize). fitted other_count (spans_along axis other cs room)) alike
    ∙ (ap (λ r. fitted other_count (spans_along axis other other_children r)) rooms ∙ sym second))))

pub same_across : (t : Two) → AreTwo t → (i j : ℕ) → t.alike i j ≡ true
    → (span_at t.one.across i).length ≡ (span_at t.other.across j).length
    → map (span_at t.one.across) (one_kids t i) ≡ map (span_at t.other.across) (other_kids t j)
same_across t g i j is rooms =
    let node = box_at t.ones t.one_looks i in
    let there = g.same.there i j is in
    let other = box_at t.others t.other_looks j in
    let alike : seen node.rule t.ones t.one.widths [] (one_kids t i)
    ≡ seen other.rule t.others t.other.widths [] (other_kids t j) =
    seen_alike t g i j is node.rule t.one.widths [] t.other.widths [] (kids_wide t g i j is) (none_known t i j)
    ∙ ap (λ (b : NodeBox). seen b.rule t.others t.other.widths [] (other_kids t j)) (g.same.boxes i j is) in
    placed_alike Across node other _ _ _ _ _ _ _ _ (g.first.across i there.0) (g.second.across j there.1)
    (g.same.boxes i j is) alike (matched t g i j is).0 rooms

-- a child is as wide as the other one
kids_room : (t : Two) → AreTwo t → (i j : ℕ) → t.alike i j ≡ true
    → (span_at t.one.across i).length ≡ (span_at t.other.across j).length → (k : ℕ) → k < length (one_kids t i)
    → (span_at t.one.across (nth (one_kids t i) k)).length ≡ (span_at t.other.across (nth (other_kids t j) k)).length
kids_room t g i j is rooms k few =
    let few_other : k < length (other_kids t j) = subst (λ n. k < n) (matched t g i j is).0 few in
    ap (λ (s : Span). s.length)
    (sym (get_or-map (span_at t.one.across) (one_kids t i) k 0 nowhere few)
    ∙ (ap (λ (l : List Span). slice_index_or l k nowhere) (same_across t g i j is rooms)
    ∙ get_or-map (span_at t.other.across) (other_kids t j) k 0 nowhere few_other))

high_from : (t : Two) → AreTwo t → (left i j : ℕ) → t.alike i j ≡ true
    → (span_at t.one.across i).length ≡ (span_at t.other.across j).length → length t.ones ≤ i + left
    → extent_at t.one.heights i ≡ extent_at t.other.heights j
high_from t g zero i j is rooms deep = absurd (omega (arith, (g.same.there i j is).0, deep))
high_from t g (suc left) i j is rooms deep =
    let node = box_at t.ones t.one_looks i in
    let there = g.same.there i j is in
    let room = (span_at t.one.across i).length in
    let other_room = (span_at t.other.across j).length in
    let below : AreAsLong t i j t.one.heights t.other.heights =
    λ k few. high_from t g left (nth (one_kids t i) k) (nth (other_kids t j) k) ((matched t g i j is).1 k few)
    (kids_room t g i j is rooms k few) (omega (arith, behind t g i j is k few, deep)) in
    let sees = λ (r : Rule). seen r t.others t.other.widths t.other.heights (other_kids t j) in
    let alike = seen_alike t g i j is node.rule t.one.widths t.one.heights t.other.widths t.other.heights
    (kids_wide t g i j is) below in
    let other : IsHigh node (sees node.rule) (held_length other_room) (extent_at t.other.heights j) =
    subst (λ (b : NodeBox). IsHigh b (sees b.rule) (held_length other_room) (extent_at t.other.heights j))
    (sym (g.same.boxes i j is)) (g.second.heights j there.1) in
    let seen_one : IsHigh node (seen node.rule t.ones t.one.widths t.one.heights (one_kids t i)) (held_length other_room)
    (extent_at t.other.heights j) =
    subst (λ (cs : List ChildSize). IsHigh node cs (held_length other_room) (extent_at t.other.heights j)) (sym alike) other in
    one_high node (seen node.rule t.ones t.one.widths t.one.heights (one_kids t i)) (held_length room)
    (extent_at t.one.heights i) (extent_at t.other.heights j) (g.first.heights i there.0)
    (subst (λ r. IsHigh node (seen node.rule t.ones t.one.widths t.one.heights (one_kids t i)) (held_length r)
    (extent_at t.other.heights j)) (sym rooms) seen_one)

pub same_heights : (t : Two) → AreTwo t → (i j : ℕ) → t.alike i j ≡ true
    → (span_at t.one.across i).length ≡ (span_at t.other.across j).length
    → extent_at t.one.heights i ≡ extent_at t.other.heights j
same_heights t g i j is rooms = high_from t g (length t.ones) i j is rooms (omega arith)

pub same_down : (t : Two) → AreTwo t → (i j : ℕ) → t.alike i j ≡ true
    → (span_at t.one.across i).length ≡ (span_at t.other.across j).length
    → (span_at t.one.down i).length ≡ (span_at t.other.down j).length
    → map (span_at t.one.down) (one_kids t i) ≡ map (span_at t.other.down) (other_kids t j)
same_down t g i j is wide high =
    let node = box_at t.ones t.one_looks i in
    let there = g.same.there i j is in
    let other = box_at t.others t.other_looks j in
    let kids_high : AreAsLong t i j t.one.heights t.other.heights =
    λ k few. same_heights t g (nth (one_kids t i) k) (nth (other_kids t j) k) ((matched t g i j is).1 k few)
    (kids_room t g i j is wide k few) in
    let alike : seen node.rule t.ones t.one.widths t.one.heights (one_kids t i)
    ≡ seen other.rule t.others t.other.widths t.other.heights (other_kids t j) =
    seen_alike t g i j is node.rule t.one.widths t.one.heights t.other.widths t.other.heights (kids_wide t g i j is) kids_high
    ∙ ap (λ (b : NodeBox). seen b.rule t.others t.other.widths t.other.heights (other_kids t j)) (g.same.boxes i j is) in
    placed_alike Down node other _ _ _ _ _ _ _ _ (g.first.down i there.0) (g.second.down j there.1)
    (g.same.boxes i j is) alike (matched t g i j is).0 high
