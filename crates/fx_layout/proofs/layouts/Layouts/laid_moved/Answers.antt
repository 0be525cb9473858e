use Rattle.std.proofs.Common.{List, ℕ, ap, arith, refl, sym, ◌∙◌, ◌≡◌}
use Rattle.fx_layout_sweeps.specs.Nodes.{children_lists, parents}
use Rattle.fx_layout_sweeps.proofs.Asking.{lists_long}
use Rattle.fx_layout.specs.Keeping.{kept_of}
use Rattle.fx_layout.specs.Updates.{Kept, old_places}
use Rattle.fx_layout.proofs.Readds.{added_in}
use Rattle.fx_layout.proofs.Updating.{AreLaid, count_is, told_moved, update_is}
use Rattle.fx_layout.proofs.layouts.Layouts.laid_moved.Goals as goal

pub returns-clause-update : goal.returns-clause-update
returns-clause-update g c =
    let old = c.args.self.now in
    let nodes = c.args.input.nodes.now in
    let looks = c.args.input.looks.now in
    let window = c.args.input.window in
    let listed = c.args.input.remeasure.now in
    let first = c.in_ok-marks.marks in
    let second = c.lay_moved.new.marks in
    let third = c.lay_moved-2.new.marks in
    let hung : children_lists c.self.inside.tree ≡ old.children = ap (λ (k : Kept). k.children) c.self.view_is in
    let named : c.self.inside.keys.items ≡ old.keys = ap (λ (k : Kept). k.keys) c.self.view_is in
    let olds : List ℕ = c.in_ok-olds.olds.items in
    let found : olds ≡ old_places old.keys nodes = rw (c.as_slice.ensures.value, named) at c.in_ok-olds.ensures in
    let new : Kept = kept_of nodes c.in_ok-across.across.lengths.items c.in_ok-down.down.lengths.items
    c.in_ok-across.across.spans.items c.in_ok-down.down.spans.items c.in_ok-rects.rects.items in
    let laid : AreLaid old olds nodes looks window listed new first second third = record {
      marked = c.in_ok-marks.ensures.marks;
      widths = rw (
        c.children.ensures,
        c.requires.tree,
        c.as_slice-2.ensures.value,
        c.sweep_across-wide.ensures.axis,
        c.sweep_across-wide.ensures.old_lengths,
      ) at c.in_ok-across.ensures.lengths;
      root_across = rw (c.sweep_across-wide.ensures.root) at c.in_ok-across.ensures.root;
      across = rw (
        c.children.ensures,
        c.requires.tree,
        c.as_slice-2.ensures.value,
        c.children-2.ensures,
        hung,
        c.sweep_across-wide.ensures.axis,
        c.sweep_across-wide.ensures.old_spans,
      ) at c.in_ok-across.ensures.placed;
      anew = rw (c.sweep_across-wide.ensures.old_spans, c.as_slice-2.ensures.value) at c.in_ok-across.ensures.marks;
      heights = rw (
        c.children.ensures,
        c.requires.tree,
        c.as_slice-2.ensures.value,
        c.sweep_down-high.ensures.axis,
        c.sweep_down-high.ensures.old_lengths,
        c.sweep_down-high.ensures.widths,
        c.sweep_down-high.ensures.spans,
      ) at c.in_ok-down.ensures.lengths;
      root_down = rw (c.sweep_down-high.ensures.root) at c.in_ok-down.ensures.root;
      down = rw (
        c.children.ensures,
        c.requires.tree,
        c.as_slice-2.ensures.value,
        c.children-2.ensures,
        hung,
        c.sweep_down-high.ensures.axis,
        c.sweep_down-high.ensures.old_spans,
        c.sweep_down-high.ensures.widths,
      ) at c.in_ok-down.ensures.placed;
      done = rw (c.sweep_down-high.ensures.old_spans, c.as_slice-2.ensures.value) at c.in_ok-down.ensures.marks;
    } in
    update_is old olds nodes looks window listed new first second third found laid refl refl
    (rw (c.as_slice-3.ensures.value, c.as_slice-4.ensures.value) at c.in_ok-rects.ensures)

pub returns-clause-whole : goal.returns-clause-whole
returns-clause-whole g c =
    let nodes = c.args.input.nodes.now in
    let rects = rw (c.as_slice-3.ensures.value, c.as_slice-4.ensures.value) at c.in_ok-rects.ensures in
    let long = sym (lists_long nodes (children_lists (parents nodes)) refl) in
    record {
      keys = c.requires.keys;
      widths = c.in_ok-across.ensures.each ∙ long;
      heights = c.in_ok-down.ensures.each ∙ long;
      across = c.in_ok-across.ensures.each_span ∙ long;
      down = c.in_ok-down.ensures.each_span ∙ long;
      rects = rects.each ∙ long;
      added = λ p within. added_in nodes (children_lists (parents nodes)) _ _ _ c.requires.nodes refl rects p
          (omega (arith, within, long));
    }

pub returns-clause-changed : goal.returns-clause-changed
returns-clause-changed g c =
    let old = c.args.self.now in
    let nodes = c.args.input.nodes.now in
    let named : c.self.inside.keys.items ≡ old.keys = ap (λ (k : Kept). k.keys) c.self.view_is in
    let stood : c.self.inside.rects.items ≡ old.rects = ap (λ (k : Kept). k.rects) c.self.view_is in
    let found : c.in_ok-olds.olds.items ≡ old_places old.keys nodes =
    rw (c.as_slice.ensures.value, named) at c.in_ok-olds.ensures in
    told_moved old c.in_ok-olds.olds.items nodes
    (kept_of nodes c.in_ok-across.across.lengths.items c.in_ok-down.down.lengths.items
    c.in_ok-across.across.spans.items c.in_ok-down.down.spans.items c.in_ok-rects.rects.items)
    c.in_ok-changed.changed found
    (rw (c.as_slice-5.ensures.value) at c.in_ok-changed.ensures.each)
    (rw (c.as_slice-5.ensures.value, c.as_slice-6.ensures.value, c.as_slice-7.ensures.value, stood)
    at c.in_ok-changed.ensures.still)

pub returns-clause-laid : goal.returns-clause-laid
returns-clause-laid g c =
    let old = c.args.self.now in
    let nodes = c.args.input.nodes.now in
    let looks = c.args.input.looks.now in
    let window = c.args.input.window in
    let listed = c.args.input.remeasure.now in
    let first = c.in_ok-marks.marks in
    let second = c.lay_moved.new.marks in
    let third = c.lay_moved-2.new.marks in
    let hung : children_lists c.self.inside.tree ≡ old.children = ap (λ (k : Kept). k.children) c.self.view_is in
    let named : c.self.inside.keys.items ≡ old.keys = ap (λ (k : Kept). k.keys) c.self.view_is in
    let olds : List ℕ = c.in_ok-olds.olds.items in
    let found : olds ≡ old_places old.keys nodes = rw (c.as_slice.ensures.value, named) at c.in_ok-olds.ensures in
    let new : Kept = kept_of nodes c.in_ok-across.across.lengths.items c.in_ok-down.down.lengths.items
    c.in_ok-across.across.spans.items c.in_ok-down.down.spans.items c.in_ok-rects.rects.items in
    let laid : AreLaid old olds nodes looks window listed new first second third = record {
      marked = c.in_ok-marks.ensures.marks;
      widths = rw (
        c.children.ensures,
        c.requires.tree,
        c.as_slice-2.ensures.value,
        c.sweep_across-wide.ensures.axis,
        c.sweep_across-wide.ensures.old_lengths,
      ) at c.in_ok-across.ensures.lengths;
      root_across = rw (c.sweep_across-wide.ensures.root) at c.in_ok-across.ensures.root;
      across = rw (
        c.children.ensures,
        c.requires.tree,
        c.as_slice-2.ensures.value,
        c.children-2.ensures,
        hung,
        c.sweep_across-wide.ensures.axis,
        c.sweep_across-wide.ensures.old_spans,
      ) at c.in_ok-across.ensures.placed;
      anew = rw (c.sweep_across-wide.ensures.old_spans, c.as_slice-2.ensures.value) at c.in_ok-across.ensures.marks;
      heights = rw (
        c.children.ensures,
        c.requires.tree,
        c.as_slice-2.ensures.value,
        c.sweep_down-high.ensures.axis,
        c.sweep_down-high.ensures.old_lengths,
        c.sweep_down-high.ensures.widths,
        c.sweep_down-high.ensures.spans,
      ) at c.in_ok-down.ensures.lengths;
      root_down = rw (c.sweep_down-high.ensures.root) at c.in_ok-down.ensures.root;
      down = rw (
        c.children.ensures,
        c.requires.tree,
        c.as_slice-2.ensures.value,
        c.children-2.ensures,
        hung,
        c.sweep_down-high.ensures.axis,
        c.sweep_down-high.ensures.old_spans,
        c.sweep_down-high.ensures.widths,
      ) at c.in_ok-down.ensures.placed;
      done = rw (c.sweep_down-high.ensures.old_spans, c.as_slice-2.ensures.value) at c.in_ok-down.ensures.marks;
    } in
    let counted = count_is old olds nodes looks window listed new first second third found laid in
    c.calls.ensures
    ∙ (rw (c.count_marked-first.ensures.count, c.count_marked-second.ensures.count, c.count_marked-third.ensures.count)
    counted)

pub returns-clause-cost : goal.returns-clause-cost
returns-clause-cost g c =
    let one = ap (λ w. w.laid) c.in_ok-across.ensures.work in
    let two = ap (λ w. w.laid) c.in_ok-down.ensures.work in
    omega (
      arith,
      one,
      two,
      c.calls.ensures,
      c.count_marked-first.ensures.count,
      c.count_marked-second.ensures.count,
      c.count_marked-third.ensures.count,
    )
