-- The layout of a scene is what recursion over its tree gives.
use Rattle.std.proofs.Common.{refl, sym, subst, ap, ◌∙◌, ◌≡◌, ℕ, zero, suc, ◌+◌, ◌<◌, ◌≤◌, All, List, [], Option, None, length, map, slice_index_or, arith}
use Rattle.std.proofs.lemmas.List.{get_or-map, get_or_default, length-map}
use Rattle.fx_base.specs.declared.facts.ChildSize.{ChildSize}
use Rattle.fx_base.specs.declared.geometry.Rect.{Rect}
use Rattle.fx_kinds.specs.declared.facts.BoxFacts.{BoxFacts}
use Rattle.fx_look.specs.declared.looks.Look.{Look}
use Rattle.fx_panes_parts.specs.declared.axes.Axis.{Axis}
use Rattle.fx_panes_parts.specs.declared.axes.Axis.TheVariants.{Across, Down}
use Rattle.fx_panes_parts.specs.declared.axes.Extent.{Extent}
use Rattle.fx_panes_parts.specs.declared.axes.Span.{Span}
use Rattle.fx_layout_parts.specs.declared.rules.NodeBox.{NodeBox}
use Rattle.fx_layout_parts.specs.Children.{child_of}
use Rattle.fx_layout_parts.specs.Rules.{IsHigh, IsWide}
use Rattle.fx_layout_sweeps.specs.Nodes.{AreNodes, box_at, children_of, extent_at, no_node, node_at, nowhere, parent_at, parents, places_at, seen, span_at, unknown}
use Rattle.fx_layout_sweeps.specs.Sweeps.{fitted, held_length, spans_along}
use Rattle.fx_layout_sweeps.proofs.Below.{IsChild, children_known}
use Rattle.fx_layout_sweeps.proofs.Turns.{map_same}
use Rattle.fx_layout.specs.Layouts.{IsLayout}
use Rattle.fx_layout.specs.Updates.{Kept, around, corner, from_corner, rect_at, root_length, shifted, window_height, window_width}
use Rattle.fx_layout.proofs.One.{one_high, one_wide}
use Rattle.fx_layout_laws.specs.Trees.{AreRectsBy, IsHighBy, IsLaidBy, IsWideBy, kids, no_heights, put_by, seen_by}
use Rattle.fx_layout_laws.proofs.Twins.{kids_are}

-- a layout of a scene
pub record Scene : Type 0 where
  pub nodes : List BoxFacts
  pub looks : List Look
  pub window : Option (ℕ × ℕ)
  pub all : Kept

pub record IsScene (s : Scene) : Type 0 where
  pub tree : AreNodes s.nodes
  pub layout : IsLayout s.nodes s.looks s.window s.all

abbrev wide_in : Scene → ℕ → Extent
wide_in s j = extent_at s.all.widths j

abbrev high_in : Scene → ℕ → Extent
high_in s j = extent_at s.all.heights j

abbrev nth : Scene → ℕ → ℕ → ℕ
nth s p k = slice_index_or (kids s.nodes p) k 0

own_kids : (s : Scene) → IsScene s → (p : ℕ) → p < length s.nodes → places_at s.all.children p ≡ kids s.nodes p
own_kids s g p within = kids_are s.nodes s.looks s.window s.all g.layout p within

long : (nodes : List BoxFacts) → length (parents nodes) ≡ length nodes
long nodes = length-map nodes (λ (n : BoxFacts). n.parent)

kid_known : (s : Scene) → IsScene s → (p : ℕ) → All (IsChild (parents s.nodes) p) (kids s.nodes p)
kid_known s g p = children_known (parents s.nodes) g.tree.tree p

kid_behind : (s : Scene) → IsScene s → (p k d : ℕ) → k < length (kids s.nodes p) → p < slice_index_or (kids s.nodes p) k d
kid_behind s g p k d few = (kid_known s g p k d few).behind

kid_within : (s : Scene) → IsScene s → (p k d : ℕ) → k < length (kids s.nodes p)
    → slice_index_or (kids s.nodes p) k d < length s.nodes
kid_within s g p k d few = omega (arith, (kid_known s g p k d few).within, long s.nodes)

-- the equations of a layout, over the children of a node

wide_at : (s : Scene) → IsScene s → (p : ℕ) → p < length s.nodes
    → IsWide (box_at s.nodes s.looks p) (seen_by s.nodes s.looks p (wide_in s) no_heights) (wide_in s p)
wide_at s g p within =
    let node = box_at s.nodes s.looks p in
    subst (λ (l : List ℕ). IsWide node (seen node.rule s.nodes s.all.widths [] l) (wide_in s p)) (own_kids s g p within)
    (g.layout.widths p within)

high_at : (s : Scene) → IsScene s → (p : ℕ) → p < length s.nodes
    → IsHigh (box_at s.nodes s.looks p) (seen_by s.nodes s.looks p (wide_in s) (high_in s))
    (held_length (span_at s.all.across p).length) (high_in s p)
high_at s g p within =
    let node = box_at s.nodes s.looks p in
    subst (λ (l : List ℕ). IsHigh node (seen node.rule s.nodes s.all.widths s.all.heights l)
    (held_length (span_at s.all.across p).length) (high_in s p)) (own_kids s g p within) (g.layout.heights p within)

across_at : (s : Scene) → IsScene s → (p : ℕ) → p < length s.nodes → map (span_at s.all.across) (kids s.nodes p)
    ≡ put_by Across s.nodes s.looks p (wide_in s) no_heights (span_at s.all.across p).length
across_at s g p within =
    let node = box_at s.nodes s.looks p in
    subst (λ (l : List ℕ). map (span_at s.all.across) l ≡ fitted (length l) (spans_along Across node
    (seen node.rule s.nodes s.all.widths [] l) (span_at s.all.across p).length)) (own_kids s g p within)
    (g.layout.across p within)

down_at : (s : Scene) → IsScene s → (p : ℕ) → p < length s.nodes → map (span_at s.all.down) (kids s.nodes p)
    ≡ put_by Down s.nodes s.looks p (wide_in s) (high_in s) (span_at s.all.down p).length
down_at s g p within =
    let node = box_at s.nodes s.looks p in
    subst (λ (l : List ℕ). map (span_at s.all.down) l ≡ fitted (length l) (spans_along Down node
    (seen node.rule s.nodes s.all.widths s.all.heights l) (span_at s.all.down p).length)) (own_kids s g p within)
    (g.layout.down p within)

-- one child's place among those of all children
kid_span : (spans put : List Span) (places : List ℕ) (k : ℕ) → map (span_at spans) places ≡ put → k < length places
    → span_at spans (slice_index_or places k 0) ≡ span_at put k
kid_span spans put places k same few =
    sym (get_or-map (span_at spans) places k 0 nowhere few) ∙ ap (λ (l : List Span). span_at l k) same

-- widths

pub wide_by : (s : Scene) → IsScene s → (deep p : ℕ) → p < length s.nodes → length s.nodes ≤ p + deep
    → IsWideBy deep s.nodes s.looks p (wide_in s p)
wide_by s g zero p within few = absurd (omega (arith, within, few))
wide_by s g (suc deep) p within few = (
  wide_in s,
  λ k d inside. wide_by s g deep (slice_index_or (kids s.nodes p) k d) (kid_within s g p k d inside)
      (omega (arith, kid_behind s g p k d inside, few)),
  wide_at s g p within,
)

-- children of the same lengths are seen alike
seen_same : (s : Scene) (p : ℕ) (wide other_wide high other_high : ℕ → Extent)
    → All (λ j. wide j ≡ other_wide j) (kids s.nodes p) → All (λ j. high j ≡ other_high j) (kids s.nodes p)
    → seen_by s.nodes s.looks p wide high ≡ seen_by s.nodes s.looks p other_wide other_high
seen_same s p wide other_wide high other_high as_wide as_high =
    let pane = (box_at s.nodes s.looks p).rule in
    map_same (λ j. child_of pane (node_at s.nodes j) (wide j) (high j))
    (λ j. child_of pane (node_at s.nodes j) (other_wide j) (other_high j)) (child_of pane no_node unknown unknown)
    (kids s.nodes p)
    (λ k d few.
    let j = slice_index_or (kids s.nodes p) k d in
    ap (λ (x : Extent). child_of pane (node_at s.nodes j) x (high j)) (as_wide k d few)
    ∙ ap (λ (x : Extent). child_of pane (node_at s.nodes j) (other_wide j) x) (as_high k d few))

pub wide_only : (s : Scene) → IsScene s → (deep p : ℕ) → p < length s.nodes → (widths : Extent)
    → IsWideBy deep s.nodes s.looks p widths → widths ≡ wide_in s p
wide_only s g zero p within widths is = absurd is
wide_only s g (suc deep) p within widths is =
    let node = box_at s.nodes s.looks p in
    let same : All (λ j. is.0 j ≡ wide_in s j) (kids s.nodes p) =
    λ k d few. wide_only s g deep (slice_index_or (kids s.nodes p) k d) (kid_within s g p k d few)
    (is.0 (slice_index_or (kids s.nodes p) k d)) (is.1 k d few) in
    one_wide node (seen_by s.nodes s.looks p (wide_in s) no_heights) widths (wide_in s p)
    (subst (λ (cs : List ChildSize). IsWide node cs widths)
    (seen_same s p is.0 (wide_in s) no_heights no_heights same (λ k d few. refl)) is.2)
    (wide_at s g p within)

-- heights

-- the room that a child has across, where its pane puts it
kid_room : (s : Scene) → IsScene s → (p k : ℕ) → p < length s.nodes → k < length (kids s.nodes p)
    → (span_at s.all.across (nth s p k)).length
    ≡ (span_at (put_by Across s.nodes s.looks p (wide_in s) no_heights (span_at s.all.across p).length) k).length
kid_room s g p k within few =
    ap (λ (x : Span). x.length)
    (kid_span s.all.across (put_by Across s.nodes s.looks p (wide_in s) no_heights (span_at s.all.across p).length)
    (kids s.nodes p) k (across_at s g p within) few)

pub high_by : (s : Scene) → IsScene s → (deep p : ℕ) → p < length s.nodes → length s.nodes ≤ p + deep
    → IsHighBy deep s.nodes s.looks p (span_at s.all.across p).length (high_in s p)
high_by s g zero p within few = absurd (omega (arith, within, few))
high_by s g (suc deep) p within few = (
  wide_in s,
  high_in s,
  λ k d inside. wide_by s g deep (slice_index_or (kids s.nodes p) k d) (kid_within s g p k d inside)
      (omega (arith, kid_behind s g p k d inside, few)),
  λ k inside. subst (λ room. IsHighBy deep s.nodes s.looks (nth s p k) room (high_in s (nth s p k)))
      (kid_room s g p k within inside)
      (high_by s g deep (nth s p k) (kid_within s g p k 0 inside) (omega (arith, kid_behind s g p k 0 inside, few))),
  high_at s g p within,
)

-- a place is told by any place that stands for what is missing
at_any : (P : ℕ → Type 0) (places : List ℕ) → ((k : ℕ) → k < length places → P (slice_index_or places k 0)) → All P places
at_any P places each k d few = subst P (get_or_default places k 0 d few) (each k few)

pub high_only : (s : Scene) → IsScene s → (deep p : ℕ) → p < length s.nodes → (heights : Extent)
    → IsHighBy deep s.nodes s.looks p (span_at s.all.across p).length heights → heights ≡ high_in s p
high_only s g zero p within heights is = absurd is
high_only s g (suc deep) p within heights is =
    let node = box_at s.nodes s.looks p in
    let room = (span_at s.all.across p).length in
    let wide : All (λ j. is.0 j ≡ wide_in s j) (kids s.nodes p) =
    λ k d few. wide_only s g deep (slice_index_or (kids s.nodes p) k d) (kid_within s g p k d few)
    (is.0 (slice_index_or (kids s.nodes p) k d)) (is.2 k d few) in
    let alike : seen_by s.nodes s.looks p is.0 no_heights ≡ seen_by s.nodes s.looks p (wide_in s) no_heights =
    seen_same s p is.0 (wide_in s) no_heights no_heights wide (λ k d few. refl) in
    let put : put_by Across s.nodes s.looks p is.0 no_heights room
    ≡ put_by Across s.nodes s.looks p (wide_in s) no_heights room =
    ap (λ (cs : List ChildSize). fitted (length (kids s.nodes p)) (spans_along Across node cs room)) alike in
    let high : All (λ j. is.1 j ≡ high_in s j) (kids s.nodes p) =
    at_any (λ j. is.1 j ≡ high_in s j) (kids s.nodes p)
    (λ k few. high_only s g deep (nth s p k) (kid_within s g p k 0 few) (is.1 (nth s p k))
    (subst (λ r. IsHighBy deep s.nodes s.looks (nth s p k) r (is.1 (nth s p k)))
    (ap (λ (l : List Span). (span_at l k).length) put ∙ sym (kid_room s g p k within few)) (is.3 k few))) in
    one_high node (seen_by s.nodes s.looks p (wide_in s) (high_in s)) (held_length room) heights (high_in s p)
    (subst (λ (cs : List ChildSize). IsHigh node cs (held_length room) heights)
    (seen_same s p is.0 (wide_in s) is.1 (high_in s) wide high) is.4)
    (high_at s g p within)

-- rectangles

kid_rect : (s : Scene) → IsScene s → (p k : ℕ) → p < length s.nodes → k < length (kids s.nodes p)
    → rect_at s.all.rects (nth s p k)
    ≡ shifted (rect_at s.all.rects p)
    (span_at (put_by Across s.nodes s.looks p (wide_in s) no_heights (span_at s.all.across p).length) k)
    (span_at (put_by Down s.nodes s.looks p (wide_in s) (high_in s) (span_at s.all.down p).length) k)
kid_rect s g p k within few =
    let j = nth s p k in
    let inside = kid_within s g p k 0 few in
    let up : (node_at s.nodes j).parent ≡ Option.Some p =
    sym (get_or-map (λ (n : BoxFacts). n.parent) s.nodes j no_node None inside) ∙ (kid_known s g p k 0 few).up in
    let outer = rect_at s.all.rects p in
    g.layout.rects.placed j inside
    ∙ (ap (λ (o : Option ℕ). shifted (around s.all.rects o) (span_at s.all.across j) (span_at s.all.down j)) up
    ∙ (ap (λ (x : Span). shifted outer x (span_at s.all.down j))
    (kid_span s.all.across _ (kids s.nodes p) k (across_at s g p within) few)
    ∙ ap (λ (x : Span). shifted outer
    (span_at (put_by Across s.nodes s.looks p (wide_in s) no_heights (span_at s.all.across p).length) k) x)
    (kid_span s.all.down _ (kids s.nodes p) k (down_at s g p within) few)))

kid_depth : (s : Scene) → IsScene s → (p k : ℕ) → p < length s.nodes → k < length (kids s.nodes p)
    → (span_at s.all.down (nth s p k)).length
    ≡ (span_at (put_by Down s.nodes s.looks p (wide_in s) (high_in s) (span_at s.all.down p).length) k).length
kid_depth s g p k within few =
    ap (λ (x : Span). x.length)
    (kid_span s.all.down (put_by Down s.nodes s.looks p (wide_in s) (high_in s) (span_at s.all.down p).length)
    (kids s.nodes p) k (down_at s g p within) few)

laid_by : (s : Scene) → IsScene s → (deep p : ℕ) → p < length s.nodes → length s.nodes ≤ p + deep
    → IsLaidBy deep s.nodes s.looks s.all.rects p (span_at s.all.across p).length (span_at s.all.down p).length
laid_by s g zero p within few = absurd (omega (arith, within, few))
laid_by s g (suc deep) p within few = (
  wide_in s,
  high_in s,
  λ k d inside. wide_by s g deep (slice_index_or (kids s.nodes p) k d) (kid_within s g p k d inside)
      (omega (arith, kid_behind s g p k d inside, few)),
  λ k inside. subst (λ room. IsHighBy deep s.nodes s.looks (nth s p k) room (high_in s (nth s p k)))
      (kid_room s g p k within inside)
      (high_by s g deep (nth s p k) (kid_within s g p k 0 inside) (omega (arith, kid_behind s g p k 0 inside, few))),
  λ k inside. kid_rect s g p k within inside,
  λ k inside.
      let j = nth s p k in
      subst (λ h. IsLaidBy deep s.nodes s.looks s.all.rects j
      (span_at (put_by Across s.nodes s.looks p (wide_in s) no_heights (span_at s.all.across p).length) k).length h)
      (kid_depth s g p k within inside)
      (subst (λ w. IsLaidBy deep s.nodes s.looks s.all.rects j w (span_at s.all.down j).length)
      (kid_room s g p k within inside)
      (laid_by s g deep j (kid_within s g p k 0 inside) (omega (arith, kid_behind s g p k 0 inside, few)))),
)

pub rects_by : (s : Scene) → IsScene s → 0 < length s.nodes → AreRectsBy s.nodes s.looks s.window s.all.rects
rects_by s g some =
    let width = root_length (window_width s.window) (wide_in s 0) in
    let height = root_length (window_height s.window) (high_in s 0) in
    let across : span_at s.all.across 0 ≡ from_corner width = g.layout.root_across in
    let down : span_at s.all.down 0 ≡ from_corner height = g.layout.root_down in
    let wide = ap (λ (x : Span). x.length) across in
    let high = ap (λ (x : Span). x.length) down in
    let n = length s.nodes in
    let top : (node_at s.nodes 0).parent ≡ None =
    sym (get_or-map (λ (x : BoxFacts). x.parent) s.nodes 0 no_node None some) ∙ g.tree.tree.root in
    record {
      each = g.layout.rects.each;
      wide = wide_in s 0;
      high = high_in s 0;
      is_wide = wide_by s g n 0 some (omega arith);
      is_high = subst (λ w. IsHighBy n s.nodes s.looks 0 w (high_in s 0)) wide (high_by s g n 0 some (omega arith));
      root = g.layout.rects.placed 0 some
          ∙ (ap (λ (o : Option ℕ). shifted (around s.all.rects o) (span_at s.all.across 0) (span_at s.all.down 0)) top
          ∙ (ap (λ (x : Span). shifted corner x (span_at s.all.down 0)) across
          ∙ ap (λ (x : Span). shifted corner (from_corner width) x) down));
      below = subst (λ h. IsLaidBy n s.nodes s.looks s.all.rects 0 width h) high
          (subst (λ w. IsLaidBy n s.nodes s.looks s.all.rects 0 w (span_at s.all.down 0).length) wide
          (laid_by s g n 0 some (omega arith)));
    }
