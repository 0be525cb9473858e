-- What is read at a place is there at any default.
use Rattle.std.proofs.Common.{subst, sym, ap, ◌∙◌, ◌≡◌, ℕ, ◌<◌, ◌==◌, List, [], ◌∷◌, length, slice_index_or, arith}
use Rattle.std.proofs.lemmas.List.{get_or_default}
use Rattle.std.proofs.lemmas.List.Elements.{All-get_or}
use Rattle.fx_base.specs.declared.facts.ChildSize.{ChildSize}
use Rattle.fx_kinds.specs.declared.facts.BoxFacts.{BoxFacts}
use Rattle.fx_look.specs.declared.looks.Look.{Look}
use Rattle.fx_look.specs.Looks.{initial_look}
use Rattle.fx_panes_parts.specs.declared.axes.Axis.{Axis}
use Rattle.fx_panes_parts.specs.declared.axes.Extent.{Extent}
use Rattle.fx_panes_parts.specs.Axes.{IsChildAxis, along, child_axis}
use Rattle.fx_layout_parts.specs.declared.rules.NodeBox.{NodeBox}
use Rattle.fx_layout_parts.specs.declared.rules.Rule.{Rule}
use Rattle.fx_layout_parts.specs.Boxes.{box_of}
use Rattle.fx_layout_parts.specs.Rules.{rule_of}
use Rattle.fx_layout_parts.specs.Children.{child_of}
use Rattle.fx_layout_parts.proofs.RowSides.{axes_held}
use Rattle.fx_layout_sweeps.specs.Nodes.{box_at, child_at, extent_at, look_at, no_node, node_at}

pub box_read : (nodes : List BoxFacts) (looks : List Look) (p : ℕ) (node : BoxFacts) (look : Look)
    → length looks ≡ length nodes → p < length nodes
    → box_of (slice_index_or nodes p node) (slice_index_or looks p look) ≡ box_at nodes looks p
box_read nodes looks p node look same within =
    ap (λ (n : BoxFacts). box_of n (slice_index_or looks p look)) (get_or_default nodes p node no_node within)
    ∙ ap (λ (l : Look). box_of (node_at nodes p) l)
    (get_or_default looks p look (initial_look 0) (subst (λ n. p < n) (sym same) within))

-- what is said of a box that was read is said of the box at its place
pub at_box : (P : NodeBox → Type 0) (nodes : List BoxFacts) (looks : List Look) (p : ℕ) (node : BoxFacts) (look : Look)
    → length looks ≡ length nodes → p < length nodes → node ≡ slice_index_or nodes p node
    → look ≡ slice_index_or looks p look → P (box_of node look) → P (box_at nodes looks p)
at_box P nodes looks p node look same within is_node is_look said =
    subst P
    (ap (λ (n : BoxFacts). box_of n look) is_node
    ∙ (ap (λ (l : Look). box_of (slice_index_or nodes p node) l) is_look ∙ box_read nodes looks p node look same within))
    said

pub child_read : (pane : Rule) (nodes : List BoxFacts) (widths heights : List Extent) (p : ℕ) (node : BoxFacts)
    → p < length nodes
    → child_of pane (slice_index_or nodes p node) (extent_at widths p) (extent_at heights p)
    ≡ child_at pane nodes widths heights p
child_read pane nodes widths heights p node within =
    ap (λ (n : BoxFacts). child_of pane n (extent_at widths p) (extent_at heights p))
    (get_or_default nodes p node no_node within)

pub rule_read : (nodes : List BoxFacts) (p : ℕ) (node : BoxFacts) → p < length nodes
    → rule_of (slice_index_or nodes p node).class ≡ rule_of (node_at nodes p).class
rule_read nodes p node within =
    ap (λ (n : BoxFacts). rule_of n.class) (get_or_default nodes p node no_node within)

pub look_read : (looks : List Look) (p : ℕ) (look : Look) → p < length looks → look ≡ slice_index_or looks p look
    → look ≡ look_at looks p
look_read looks p look within is = is ∙ get_or_default looks p look (initial_look 0) within

pub axis_read : (axis : Axis) (pane : Rule) (nodes : List BoxFacts) (widths heights : List Extent) (p : ℕ) (node : BoxFacts)
    → p < length nodes
    → child_axis axis (child_of pane (slice_index_or nodes p node) (extent_at widths p) (extent_at heights p))
    ≡ child_axis axis (child_at pane nodes widths heights p)
axis_read axis pane nodes widths heights p node within =
    ap (child_axis axis) (child_read pane nodes widths heights p node within)

pub axis_held : (axis : Axis) (child : ChildSize) → IsChildAxis (child_axis axis child)
axis_held axis child = All-get_or IsChildAxis (along axis (child ∷ [])) 0 (child_axis axis child) (omega arith)
    (axes_held axis (child ∷ []))

pub said_read : (nodes : List BoxFacts) (p : ℕ) (node : BoxFacts) → p < length nodes
    → (length (slice_index_or nodes p node).constraints == 0) ≡ (length (node_at nodes p).constraints == 0)
said_read nodes p node within =
    ap (λ (n : BoxFacts). length n.constraints == 0) (get_or_default nodes p node no_node within)
