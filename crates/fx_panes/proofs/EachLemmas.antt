-- Each child has a span, and so a rectangle.
use Rattle.std.proofs.Common.{◌≡◌, ℕ, ◌∙◌, ap, List, length, Result, Ok, Err, Vec, Global}
use Rattle.std.specs.Prelude.{IfOk}
use Rattle.std.proofs.lemmas.List.{length-map}
use Rattle.fx_base.specs.declared.facts.ChildSize.{ChildSize}
use Rattle.fx_base.specs.declared.facts.PaneFacts.{PaneFacts}
use Rattle.fx_base.specs.declared.geometry.Rect.{Rect}
use Rattle.fx_panes_parts.specs.declared.axes.Axis.{Axis}
use Rattle.fx_panes_parts.specs.declared.axes.ChildAxis.{ChildAxis}
use Rattle.fx_panes_parts.specs.declared.axes.PaneAxis.{PaneAxis}
use Rattle.fx_panes_parts.specs.declared.axes.Span.{Span}
use Rattle.fx_panes_parts.specs.Panes.{placed}
use Rattle.fx_panes_parts.proofs.PaneLemmas.{OneEach, length-placed}
use Rattle.fx_panes.specs.declared.rules.Bound.TheVariants.{Preferred}
use Rattle.fx_panes.specs.Anchor.{anchor_span, anchor_spans}
use Rattle.fx_panes.specs.Border.{areas_by, border_span, border_spans}
use Rattle.fx_panes.specs.Stack.{stack_span, stack_spans}

pub one_stack : OneEach stack_spans
one_stack pane children n = length-map children (stack_span pane n)

pub one_anchor : OneEach anchor_spans
one_anchor pane children n = length-map children (anchor_span pane n)

pub one_border : (axis : Axis) → OneEach (border_spans axis)
one_border axis pane children n = length-map children (border_span axis pane (areas_by Preferred axis children) n)

pub each_placed : {E : Type 0} (xs ys : PaneAxis → List ChildAxis → ℕ → List Span) → OneEach xs → OneEach ys
    → (pane : PaneFacts) (children : List ChildSize) (w h : ℕ) (result : Result (Vec Rect Global) E)
    → IfOk result (λ rects. rects.items ≡ placed xs ys pane children w h)
    → IfOk result (λ rects. length rects.items ≡ length children)
each_placed xs ys one_across one_down pane children w h (Ok rects) are =
    ap length are ∙ length-placed xs ys one_across one_down pane children w h
each_placed xs ys one_across one_down pane children w h (Err error) are = are
