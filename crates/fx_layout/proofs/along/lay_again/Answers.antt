use Rattle.std.proofs.Common.{◌∙◌, length, arith}
use Rattle.fx_layout.proofs.Again.{root_marks, root_placed}
use Rattle.fx_layout.proofs.along.lay_again.Goals as goal

pub returns-clause-placed : goal.returns-clause-placed
returns-clause-placed g c =
    let placed = rw (
      c.widths_along.ensures,
      c.as_slice-2.ensures.value,
      c.heights_along.ensures,
      c.as_slice-3.ensures.value,
      c.move_child.ensures.spans,
      c.requires.kept_spans,
    ) at c.in_ok-place_again.ensures.placed in
    root_placed c.args.sweep.axis c.args.scene.nodes.now c.args.scene.looks.now c.args.scene.children.now c.args.marks.now
    c.move_child.new.marks _ _ c.args.sweep.old_spans.now c.place_again.new.spans.items _ c.requires.nodes
    c.requires.children
    (λ q few. rw (c.move_child.ensures.spans, c.requires.kept_spans)
    at (c.move_child.ensures.marks q (omega (arith, few, c.requires.marks))))
    (rw (c.move_child.ensures.spans, c.requires.kept_spans) at c.in_ok-place_again.ensures.root)
    placed

pub returns-clause-marks : goal.returns-clause-marks
returns-clause-marks g c = λ p within.
    rw (c.move_child.ensures.spans, c.requires.kept_spans) at (c.in_ok-place_again.ensures.marks p within)
    ∙ root_marks c.args.marks.now c.move_child.new.marks c.args.sweep.old_spans.now c.place_again.new.spans.items _
    (length c.args.scene.nodes.now)
    (λ q few. rw (c.move_child.ensures.spans, c.requires.kept_spans)
    at (c.move_child.ensures.marks q (omega (arith, few, c.requires.marks))))
    (rw (c.move_child.ensures.spans, c.requires.kept_spans) at c.in_ok-place_again.ensures.root) p within
