-- A child of which nothing is said, as a row sees it.
use Rattle.std.proofs.Common.{◌≡◌, ℕ, ◌≤◌, ◌==◌, true, List, [], ◌++◌, drop, length, map, refl, subst, sym, ap, ◌∙◌, append-nil}
use Rattle.std.proofs.lemmas.Bool.{eqb-true}
use Rattle.std.proofs.lemmas.List.{drop_all}
use Rattle.fx_base.specs.declared.facts.ChildSize.{ChildSize}
use Rattle.fx_boxes.specs.declared.rows.Row.{Row}
use Rattle.fx_boxes.specs.Rows.{clamped, spans_by}
use Rattle.fx_kinds.specs.declared.facts.BoxFacts.{BoxFacts}
use Rattle.fx_panes_parts.specs.declared.axes.Axis.{Axis}
use Rattle.fx_panes_parts.specs.declared.axes.Axis.TheVariants.{Across, Down}
use Rattle.fx_panes_parts.specs.declared.axes.ChildAxis.{ChildAxis}
use Rattle.fx_panes_parts.specs.declared.axes.Extent.{Extent}
use Rattle.fx_panes_parts.specs.declared.axes.Span.{Span}
use Rattle.fx_panes_parts.specs.Axes.{child_axis}
use Rattle.fx_layout_parts.specs.declared.rules.Rule.{Rule}
use Rattle.fx_layout_parts.specs.Children.{child_of, plain_child}
use Rattle.fx_layout_parts.proofs.LeafLemmas.{without_constraints}
use Rattle.fx_layout_sweeps.specs.Nodes.{child_at, extent_at, node_at}

-- it is a plain child in each pane
plain_there : (axis : Axis) (pane : Rule) (nodes : List BoxFacts) (widths heights : List Extent) (p : ℕ)
    → (length (node_at nodes p).constraints == 0) ≡ true
    → child_axis axis (plain_child (node_at nodes p) (extent_at widths p) (extent_at heights p))
    ≡ child_axis axis (child_at pane nodes widths heights p)
unfolding child_of
plain_there axis pane nodes widths heights p none =
    let node = node_at nodes p in
    ap (child_axis axis) (sym (without_constraints pane node.constraints node (extent_at widths p) (extent_at heights p)
    (eqb-true _ 0 none)))

-- what is so of each plain child of some lengths is so of it
pub plain_said : (P : ChildAxis → Type 0) (axis : Axis) (pane : Rule) (nodes : List BoxFacts) (widths heights : List Extent)
    (p : ℕ) → (length (node_at nodes p).constraints == 0) ≡ true
    → ((node : BoxFacts) → P (child_axis axis (plain_child node (extent_at widths p) (extent_at heights p))))
    → P (child_axis axis (child_at pane nodes widths heights p))
plain_said P axis pane nodes widths heights p none said =
    subst P (plain_there axis pane nodes widths heights p none) (said (node_at nodes p))

-- it has no margins
pub plain_before : (axis : Axis) (node : BoxFacts) (across down : Extent)
    → 0 ≡ (child_axis axis (plain_child node across down)).before
unfolding child_axis
plain_before Across node across down = refl
plain_before Down node across down = refl

pub plain_after : (axis : Axis) (node : BoxFacts) (across down : Extent)
    → 0 ≡ (child_axis axis (plain_child node across down)).after
unfolding child_axis
plain_after Across node across down = refl
plain_after Down node across down = refl

-- when all children have come, the spans are whole
pub spans_done : (row : Row) (f : ChildSize → ChildAxis) (g : ℕ → ChildSize) (places : List ℕ) (i : ℕ) → length places ≤ i
    → (so_far whole : List Span) → so_far ++ map clamped (spans_by row (map f (map g (drop i places)))) ≡ whole
    → so_far ≡ whole
unfolding spans_by
spans_done row f g places i past so_far whole same =
    let none : drop i places ≡ [] = drop_all i places past in
    let rest : so_far ++ map clamped (spans_by row []) ≡ whole = rw none at same in
    sym (append-nil so_far) ∙ rest
