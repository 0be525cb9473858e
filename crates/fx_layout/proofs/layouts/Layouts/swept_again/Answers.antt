use Rattle.std.proofs.Common.{[], ◌<◌, List, ap, arith, length, refl, subst, sym, ◌∙◌, ◌≡◌}
use Rattle.fx_base.specs.declared.geometry.Rect.{Rect}
use Rattle.fx_layout_sweeps.specs.Nodes.{children_lists, parents}
use Rattle.fx_layout_sweeps.proofs.Asking.{lists_long}
use Rattle.fx_layout.specs.Keeping.{IsWhole, kept_of}
use Rattle.fx_layout.specs.Updates.{Kept, old_places}
use Rattle.fx_layout.proofs.Again.{AreLaidAgain, laid_as_moved, quiet, stands, still_of}
use Rattle.fx_layout.proofs.Updating.{AreLaid, count_is, update_is}
use Rattle.fx_layout.proofs.layouts.Layouts.swept_again.Goals as goal

pub lay_again-requires-clause-lengths : goal.lay_again-requires-clause-lengths
lay_again-requires-clause-lengths g c =
    let old = c.args.self.now in
    let nodes = c.args.input.nodes.now in
    let whole : IsWhole old = subst IsWhole c.self.view_is c.self.invariant.0 in
    let long : length old.children ≡ length nodes = lists_long nodes old.children c.requires.same_children in
    rw (c.sweep_across-wide.ensures.old_lengths) (whole.widths ∙ long)

pub lay_again-requires-clause-spans : goal.lay_again-requires-clause-spans
lay_again-requires-clause-spans g c =
    let old = c.args.self.now in
    let nodes = c.args.input.nodes.now in
    let whole : IsWhole old = subst IsWhole c.self.view_is c.self.invariant.0 in
    let long : length old.children ≡ length nodes = lists_long nodes old.children c.requires.same_children in
    rw (c.sweep_across-wide.ensures.old_spans) (whole.across ∙ long)

pub lay_again-requires-2-clause-lengths : goal.lay_again-requires-2-clause-lengths
lay_again-requires-2-clause-lengths g c =
    let old = c.args.self.now in
    let nodes = c.args.input.nodes.now in
    let whole : IsWhole old = subst IsWhole c.self.view_is c.self.invariant.0 in
    let long : length old.children ≡ length nodes = lists_long nodes old.children c.requires.same_children in
    rw (c.sweep_down-high.ensures.old_lengths) (whole.heights ∙ long)

pub lay_again-requires-2-clause-spans : goal.lay_again-requires-2-clause-spans
lay_again-requires-2-clause-spans g c =
    let old = c.args.self.now in
    let nodes = c.args.input.nodes.now in
    let whole : IsWhole old = subst IsWhole c.self.view_is c.self.invariant.0 in
    let long : length old.children ≡ length nodes = lists_long nodes old.children c.requires.same_children in
    rw (c.sweep_down-high.ensures.old_spans) (whole.down ∙ long)

pub returns-clause-swept : goal.returns-clause-swept
returns-clause-swept g c =
    let old = c.args.self.now in
    let nodes = c.args.input.nodes.now in
    let looks = c.args.input.looks.now in
    let window = c.args.input.window in
    let listed = c.args.input.remeasure.now in
    let first = c.in_ok-marks.marks in
    let second = c.lay_again.new.marks in
    let third = c.lay_again-2.new.marks in
    let hung : children_lists c.self.inside.tree ≡ children_lists (parents nodes) =
    ap (λ (k : Kept). k.children) c.self.view_is ∙ c.requires.same_children in
    let new : List Rect → Kept = λ rects. kept_of nodes c.in_ok-across.across.lengths.items c.in_ok-down.down.lengths.items
    c.in_ok-across.across.spans.items c.in_ok-down.down.spans.items rects in
    let laid : (rects : List Rect) → AreLaidAgain old nodes looks window listed (new rects) first second third = λ rects.
    record {
      marked = c.in_ok-marks.ensures.marks;
      widths = rw (
        c.children.ensures,
        hung,
        c.sweep_across-wide.ensures.axis,
        c.sweep_across-wide.ensures.old_lengths,
      ) at c.in_ok-across.ensures.lengths;
      root_across = rw (c.sweep_across-wide.ensures.root) at c.in_ok-across.ensures.root;
      across = rw (
        c.children.ensures,
        hung,
        c.sweep_across-wide.ensures.axis,
        c.sweep_across-wide.ensures.old_spans,
      ) at c.in_ok-across.ensures.placed;
      anew = rw (c.sweep_across-wide.ensures.old_spans) at c.in_ok-across.ensures.marks;
      heights = rw (
        c.children.ensures,
        hung,
        c.sweep_down-high.ensures.axis,
        c.sweep_down-high.ensures.old_lengths,
        c.sweep_down-high.ensures.widths,
        c.sweep_down-high.ensures.spans,
      ) at c.in_ok-down.ensures.lengths;
      root_down = rw (c.sweep_down-high.ensures.root) at c.in_ok-down.ensures.root;
      down = rw (
        c.children.ensures,
        hung,
        c.sweep_down-high.ensures.axis,
        c.sweep_down-high.ensures.old_spans,
        c.sweep_down-high.ensures.widths,
      ) at c.in_ok-down.ensures.placed;
      done = rw (c.sweep_down-high.ensures.old_spans) at c.in_ok-down.ensures.marks;
    } in
    let whole : IsWhole old = subst IsWhole c.self.view_is c.self.invariant.0 in
    let long : length old.children ≡ length nodes = lists_long nodes old.children c.requires.same_children in
    let olds = old_places old.keys nodes in
    let stand = stands old.keys nodes c.requires.same_keys c.requires.keys in
    let moved : (rects : List Rect) → AreLaid old olds nodes looks window listed (new rects) first second third = λ rects.
    laid_as_moved old olds nodes looks window listed (new rects) first second third stand (sym c.requires.same_children)
    (laid rects) in
    let still = still_of old nodes looks window listed (new []) first second third (laid []) in
    record {
      each_width = c.in_ok-across.ensures.each;
      each_height = c.in_ok-down.ensures.each;
      each_across = c.in_ok-across.ensures.each_span;
      each_down = c.in_ok-down.ensures.each_span;
      each_mark = c.in_ok-down.ensures.each_mark;
      update = λ rects added.
          update_is old olds nodes looks window listed (new rects) first second third refl (moved rects) refl refl added;
      quiet = λ p within free.
          let few : p < length nodes = within in
          let there : p < length old.children = omega (arith, few, long) in
          quiet old nodes looks window listed (new []) first second third (laid []) p few
          (rw (c.requires.same_children) at (whole.added p there)) free;
      still_width = λ p within free. (still p within free).0;
      still_height = λ p within free. (still p within free).1;
      still_across = λ p within free. (still p within free).2;
      still_down = λ p within free. (still p within free).3;
    }

pub returns-clause-laid : goal.returns-clause-laid
returns-clause-laid g c =
    let old = c.args.self.now in
    let nodes = c.args.input.nodes.now in
    let looks = c.args.input.looks.now in
    let window = c.args.input.window in
    let listed = c.args.input.remeasure.now in
    let first = c.in_ok-marks.marks in
    let second = c.lay_again.new.marks in
    let third = c.lay_again-2.new.marks in
    let hung : children_lists c.self.inside.tree ≡ children_lists (parents nodes) =
    ap (λ (k : Kept). k.children) c.self.view_is ∙ c.requires.same_children in
    let new : List Rect → Kept = λ rects. kept_of nodes c.in_ok-across.across.lengths.items c.in_ok-down.down.lengths.items
    c.in_ok-across.across.spans.items c.in_ok-down.down.spans.items rects in
    let laid : (rects : List Rect) → AreLaidAgain old nodes looks window listed (new rects) first second third = λ rects.
    record {
      marked = c.in_ok-marks.ensures.marks;
      widths = rw (
        c.children.ensures,
        hung,
        c.sweep_across-wide.ensures.axis,
        c.sweep_across-wide.ensures.old_lengths,
      ) at c.in_ok-across.ensures.lengths;
      root_across = rw (c.sweep_across-wide.ensures.root) at c.in_ok-across.ensures.root;
      across = rw (
        c.children.ensures,
        hung,
        c.sweep_across-wide.ensures.axis,
        c.sweep_across-wide.ensures.old_spans,
      ) at c.in_ok-across.ensures.placed;
      anew = rw (c.sweep_across-wide.ensures.old_spans) at c.in_ok-across.ensures.marks;
      heights = rw (
        c.children.ensures,
        hung,
        c.sweep_down-high.ensures.axis,
        c.sweep_down-high.ensures.old_lengths,
        c.sweep_down-high.ensures.widths,
        c.sweep_down-high.ensures.spans,
      ) at c.in_ok-down.ensures.lengths;
      root_down = rw (c.sweep_down-high.ensures.root) at c.in_ok-down.ensures.root;
      down = rw (
        c.children.ensures,
        hung,
        c.sweep_down-high.ensures.axis,
        c.sweep_down-high.ensures.old_spans,
        c.sweep_down-high.ensures.widths,
      ) at c.in_ok-down.ensures.placed;
      done = rw (c.sweep_down-high.ensures.old_spans) at c.in_ok-down.ensures.marks;
    } in
    let moved : AreLaid old (old_places old.keys nodes) nodes looks window listed (new []) first second third =
    laid_as_moved old (old_places old.keys nodes) nodes looks window listed (new []) first second third
    (stands old.keys nodes c.requires.same_keys c.requires.keys) (sym c.requires.same_children) (laid []) in
    let counted =
    count_is old (old_places old.keys nodes) nodes looks window listed (new []) first second third refl moved in
    c.calls.ensures
    ∙ (rw (c.count_marked-first.ensures.count, c.count_marked-second.ensures.count, c.count_marked-third.ensures.count)
    counted)

pub returns-clause-cost : goal.returns-clause-cost
returns-clause-cost g c =
    let one = ap (λ w. w.laid) c.in_ok-across.ensures.work in
    let two = ap (λ w. w.laid) c.in_ok-down.ensures.work in
    omega (
      arith,
      one,
      two,
      c.calls.ensures,
      c.count_marked-first.ensures.count,
      c.count_marked-second.ensures.count,
      c.count_marked-third.ensures.count,
    )
