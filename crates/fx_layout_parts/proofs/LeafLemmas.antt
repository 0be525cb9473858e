-- What a node that needs nothing of its children measures, and that without constraints a child is plain.
use Rattle.std.proofs.Common.{◌≡◌, ℕ, Bool, false, List, [], ◌∷◌, Option, None, Some, chars, length, refl, sym, subst, ap, ◌∙◌, ℤ, arith}
use Rattle.std.specs.Prelude.{IfSome, MatchBool}
use Rattle.fx_base.specs.declared.facts.ChildSize.{ChildSize}
use Rattle.fx_base.specs.declared.facts.PaneFacts.{PaneFacts}
use Rattle.fx_cells.specs.Wrapping.{IsWrapping}
use Rattle.fx_kinds.specs.declared.facts.BoxFacts.{BoxFacts}
use Rattle.fx_kinds.specs.declared.facts.Constraint.{Constraint}
use Rattle.fx_look.specs.declared.looks.Look.{Look}
use Rattle.fx_boxes.specs.Controls.{IsControl, IsLineCount, columns_in, control_heights, control_widths, line_heights, text_widths}
use Rattle.fx_boxes.specs.Regions.{region_extent, region_sizes}
use Rattle.fx_panes_parts.specs.declared.axes.Axis.TheVariants.{Across, Down}
use Rattle.fx_panes_parts.specs.declared.axes.Extent.{Extent}
use Rattle.fx_panes_parts.specs.declared.axes.PaneAxis.{PaneAxis}
use Rattle.fx_panes_parts.specs.Axes.{joined, pane_axis}
use Rattle.fx_layout_parts.specs.declared.rules.Rule.{Rule}
use Rattle.fx_layout_parts.specs.declared.rules.Rule.TheVariants as rule
use Rattle.fx_layout_parts.specs.Boxes.{box_of, pane_facts}
use Rattle.fx_layout_parts.specs.Children.{plain_child, with_constraints}
use Rattle.fx_layout_parts.specs.Rules.{AreSizesBy, IsHigh, IsWide, in_pixels, rule_of}

pub region_wide : (node : BoxFacts) (look : Look) (widths : Extent) → rule.Region ≡ rule_of node.class
    → widths ≡ in_pixels (region_extent (pane_axis Across (pane_facts node look)) [])
    → (children : List ChildSize) → IsWide (box_of node look) children widths
region_wide node look widths is same children =
    let facts = pane_facts node look in (
      region_sizes facts,
      0,
      subst (λ (r : Rule). AreSizesBy r facts children 0 (region_sizes facts)) is refl,
      same,
    )

pub region_high : (node : BoxFacts) (look : Look) (heights : Extent) → rule.Region ≡ rule_of node.class
    → heights ≡ in_pixels (region_extent (pane_axis Down (pane_facts node look)) [])
    → (children : List ChildSize) (w : ℕ) → IsHigh (box_of node look) children w heights
region_high node look heights is same children w =
    let facts = pane_facts node look in (
      region_sizes facts,
      subst (λ (r : Rule). AreSizesBy r facts children w (region_sizes facts)) is refl,
      same,
    )

counted_one : (control : PaneFacts) (w lines : ℕ) → control.wrap ≡ false → lines ≡ 1 → IsLineCount control w lines
counted_one control w lines wrap one =
    subst (λ (b : Bool). MatchBool b
    ((ranges : List (ℕ × ℕ)) × IsWrapping (columns_in control w) (chars control.text) ranges × (lines ≡ length ranges))
    (lines ≡ 1)) (sym wrap) one

one_line : (control : PaneFacts) (w : ℕ) → control.wrap ≡ false
    → IsControl control w (joined (control_widths control) (control_heights control 1))
one_line control w wrap =
    record {
      lines = 1;
      counted = counted_one control w 1 wrap refl;
      sizes = refl;
    }

pub label_wide : (node : BoxFacts) (look : Look) (widths : Extent) → rule.Control ≡ rule_of node.class
    → (look.wrap_text ≡ false) × (widths ≡ in_pixels (control_widths (pane_facts node look)))
    → (children : List ChildSize) → IsWide (box_of node look) children widths
label_wide node look widths is same children =
    let facts = pane_facts node look in
    let sizes = joined (control_widths facts) (control_heights facts 1) in (
      sizes,
      0,
      subst (λ (r : Rule). AreSizesBy r facts children 0 sizes) is (one_line facts 0 same.0),
      same.1,
    )

pub label_high : (node : BoxFacts) (look : Look) (heights : Extent) → rule.Control ≡ rule_of node.class
    → (look.wrap_text ≡ false) × ((any : BoxFacts) → heights ≡ in_pixels (control_heights (pane_facts any look) 1))
    → (children : List ChildSize) (w : ℕ) → IsHigh (box_of node look) children w heights
label_high node look heights is same children w =
    let facts = pane_facts node look in
    let sizes = joined (control_widths facts) (control_heights facts 1) in (
      sizes,
      subst (λ (r : Rule). AreSizesBy r facts children w sizes) is (one_line facts w same.0),
      same.1 node,
    )

pub label_widths_are : (node : BoxFacts) (look : Look) (across : PaneAxis) (size : ℤ) (text : List ℕ) (widths result : Extent)
    → across ≡ pane_axis Across (pane_facts node look) → size ≡ look.font_size → text ≡ node.text
    → widths ≡ text_widths across size (chars text) → result ≡ in_pixels widths
    → result ≡ in_pixels (control_widths (pane_facts node look))
unfolding control_widths
label_widths_are node look across size text widths result across_is size_is text_is widths_is result_is =
    result_is
    ∙ ap in_pixels (widths_is
    ∙ (ap (λ (a : PaneAxis). text_widths a size (chars text)) across_is
    ∙ (ap (λ (s : ℤ). text_widths (pane_axis Across (pane_facts node look)) s (chars text)) size_is
    ∙ ap (λ (t : List ℕ). text_widths (pane_axis Across (pane_facts node look)) look.font_size (chars t)) text_is)))

pub label_heights_are : (node : BoxFacts) (look : Look) (down : PaneAxis) (size : ℤ) (heights result : Extent)
    → down ≡ pane_axis Down (pane_facts node look) → size ≡ look.font_size → heights ≡ line_heights down size 1
    → result ≡ in_pixels heights → result ≡ in_pixels (control_heights (pane_facts node look) 1)
unfolding control_heights
label_heights_are node look down size heights result down_is size_is heights_is result_is =
    result_is
    ∙ ap in_pixels (heights_is
    ∙ (ap (λ (d : PaneAxis). line_heights d size 1) down_is
    ∙ ap (λ (s : ℤ). line_heights (pane_axis Down (pane_facts node look)) s 1) size_is))

pub if_some : {T : Type 0} (P Q : T → Type 0) (r : Option T) → ((x : T) → P x → Q x) → IfSome r P → IfSome r Q
if_some P Q None more holds = tt
if_some P Q (Some x) more holds = more x holds

-- where nothing is said of a child it is plain
pub without_constraints : (pane : Rule) (said : List Constraint) (node : BoxFacts) (across down : Extent) → length said ≡ 0
    → with_constraints pane said (plain_child node across down) ≡ plain_child node across down
without_constraints rule.Region [] node across down none = refl
without_constraints rule.Control [] node across down none = refl
without_constraints rule.Free [] node across down none = refl
without_constraints rule.HBox [] node across down none = refl
without_constraints rule.VBox [] node across down none = refl
without_constraints rule.Border [] node across down none = refl
without_constraints rule.Stack [] node across down none = refl
without_constraints rule.Anchor [] node across down none = refl
without_constraints rule.Grid [] node across down none = refl
without_constraints pane (c ∷ cs) node across down none = absurd (omega (arith, none))
