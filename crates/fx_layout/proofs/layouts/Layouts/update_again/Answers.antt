use Rattle.std.proofs.Common.{ap, length, subst, sym, ◌∙◌, ◌≡◌}
use Rattle.fx_layout_sweeps.specs.Nodes.{children_lists, keys, parents}
use Rattle.fx_layout_sweeps.proofs.Asking.{lists_long}
use Rattle.fx_layout.specs.Keeping.{IsWhole}
use Rattle.fx_layout.specs.Updates.{Kept}
use Rattle.fx_layout.proofs.Again.{told_again}
use Rattle.fx_layout.proofs.Readds.{whole_of}
use Rattle.fx_layout.proofs.layouts.Layouts.update_again.Goals as goal

pub catch_up-requires-clause-to_lengths : goal.catch_up-requires-clause-to_lengths
catch_up-requires-clause-to_lengths g c =
    let old = c.args.self.now in
    let nodes = c.args.input.nodes.now in
    let is = c.self.view_is ∙ c.take_spare.ensures.kept in
    let whole : IsWhole old = subst IsWhole is c.self.invariant.0 in
    let long : length old.children ≡ length nodes = lists_long nodes old.children c.requires.same_children in
    rw (ap (λ (k : Kept). k.widths) is) (whole.widths ∙ long)

pub catch_up-requires-clause-to_spans : goal.catch_up-requires-clause-to_spans
catch_up-requires-clause-to_spans g c =
    let old = c.args.self.now in
    let nodes = c.args.input.nodes.now in
    let is = c.self.view_is ∙ c.take_spare.ensures.kept in
    let whole : IsWhole old = subst IsWhole is c.self.invariant.0 in
    let long : length old.children ≡ length nodes = lists_long nodes old.children c.requires.same_children in
    rw (ap (λ (k : Kept). k.across) is) (whole.across ∙ long)

pub catch_up-requires-2-clause-to_lengths : goal.catch_up-requires-2-clause-to_lengths
catch_up-requires-2-clause-to_lengths g c =
    let old = c.args.self.now in
    let nodes = c.args.input.nodes.now in
    let is = c.self.view_is ∙ c.take_spare.ensures.kept in
    let whole : IsWhole old = subst IsWhole is c.self.invariant.0 in
    let long : length old.children ≡ length nodes = lists_long nodes old.children c.requires.same_children in
    rw (ap (λ (k : Kept). k.heights) is) (whole.heights ∙ long)

pub catch_up-requires-2-clause-to_spans : goal.catch_up-requires-2-clause-to_spans
catch_up-requires-2-clause-to_spans g c =
    let old = c.args.self.now in
    let nodes = c.args.input.nodes.now in
    let is = c.self.view_is ∙ c.take_spare.ensures.kept in
    let whole : IsWhole old = subst IsWhole is c.self.invariant.0 in
    let long : length old.children ≡ length nodes = lists_long nodes old.children c.requires.same_children in
    rw (ap (λ (k : Kept). k.down) is) (whole.down ∙ long)

pub add_again-requires-clause-children : goal.add_again-requires-clause-children
add_again-requires-clause-children g c =
    let is = c.self.view_is ∙ c.take_spare.ensures.kept in
    let hung : children_lists c.self.inside.tree ≡ children_lists (parents c.args.input.nodes.now) =
    ap (λ (k : Kept). k.children) is ∙ c.requires.same_children in
    c.children.ensures ∙ hung

pub add_again-requires-clause-marks : goal.add_again-requires-clause-marks
add_again-requires-clause-marks g c = c.in_ok-swept.ensures.swept.each_mark

pub add_again-requires-clause-rects : goal.add_again-requires-clause-rects
add_again-requires-clause-rects g c =
    let old = c.args.self.now in
    let nodes = c.args.input.nodes.now in
    let is = c.self.view_is ∙ c.take_spare.ensures.kept in
    let whole : IsWhole old = subst IsWhole is c.self.invariant.0 in
    let long : length old.children ≡ length nodes = lists_long nodes old.children c.requires.same_children in
    rw (ap (λ (k : Kept). k.rects) is) (whole.rects ∙ long)

pub add_again-requires-clause-kept : goal.add_again-requires-clause-kept
add_again-requires-clause-kept g c =
    let is = c.self.view_is ∙ c.take_spare.ensures.kept in
    let hung : children_lists c.self.inside.tree ≡ children_lists (parents c.args.input.nodes.now) =
    ap (λ (k : Kept). k.children) is ∙ c.requires.same_children in
    let swept = rw (c.take_spare.ensures.kept) at c.in_ok-swept.ensures.swept in
    rw (
      c.children.ensures,
      hung,
      c.as_slice.ensures.value,
      c.as_slice-2.ensures.value,
      ap (λ (k : Kept). k.rects) is,
    ) swept.quiet

pub invariant_of-self : goal.invariant_of-self
invariant_of-self g c =
    let nodes = c.args.input.nodes.now in
    let is = c.self.view_is ∙ c.take_spare.ensures.kept in
    let named : c.self.inside.keys.items ≡ keys nodes = ap (λ (k : Kept). k.keys) is ∙ c.requires.same_keys in
    let hung : children_lists c.self.inside.tree ≡ children_lists (parents nodes) =
    ap (λ (k : Kept). k.children) is ∙ c.requires.same_children in
    let rects = rw (c.as_slice.ensures.value, c.as_slice-2.ensures.value) at c.add_again.ensures.rects in
    let swept = rw (c.take_spare.ensures.kept) at c.in_ok-swept.ensures.swept in (
      rw (
        named,
        hung,
        c.catch_up.ensures.lengths,
        c.catch_up.ensures.spans,
        c.catch_up-2.ensures.lengths,
        c.catch_up-2.ensures.spans,
      ) (whole_of c.args.self.now nodes c.args.input.looks.now c.args.input.window c.args.input.remeasure.now _ _ _ _ _ _
          c.requires.nodes c.requires.keys swept rects),
      (
        sym c.catch_up.ensures.lengths,
        sym c.catch_up.ensures.spans,
        sym c.catch_up-2.ensures.lengths,
        sym c.catch_up-2.ensures.spans,
      ),
    )

pub returns-clause-update : goal.returns-clause-update
returns-clause-update g c =
    let nodes = c.args.input.nodes.now in
    let is = c.self.view_is ∙ c.take_spare.ensures.kept in
    let named : c.self.inside.keys.items ≡ keys nodes = ap (λ (k : Kept). k.keys) is ∙ c.requires.same_keys in
    let hung : children_lists c.self.inside.tree ≡ children_lists (parents nodes) =
    ap (λ (k : Kept). k.children) is ∙ c.requires.same_children in
    let rects = rw (c.as_slice.ensures.value, c.as_slice-2.ensures.value) at c.add_again.ensures.rects in
    let swept = rw (c.take_spare.ensures.kept) at c.in_ok-swept.ensures.swept in
    rw (
      named,
      hung,
      c.catch_up.ensures.lengths,
      c.catch_up.ensures.spans,
      c.catch_up-2.ensures.lengths,
      c.catch_up-2.ensures.spans,
    ) (swept.update _ rects)

pub returns-clause-laid : goal.returns-clause-laid
returns-clause-laid g c =
    rw (c.catch_up.ensures.spans, c.catch_up-2.ensures.spans)
    (rw (c.take_spare.ensures.kept) at c.in_ok-swept.ensures.laid)

pub returns-clause-changed : goal.returns-clause-changed
returns-clause-changed g c =
    let old = c.args.self.now in
    let nodes = c.args.input.nodes.now in
    let is = c.self.view_is ∙ c.take_spare.ensures.kept in
    let whole : IsWhole old = subst IsWhole is c.self.invariant.0 in
    let long : length old.children ≡ length nodes = lists_long nodes old.children c.requires.same_children in
    let stood : c.self.inside.rects.items ≡ old.rects = ap (λ (k : Kept). k.rects) is in
    told_again old nodes _ _ c.requires.same_keys c.requires.keys (whole.rects ∙ long) c.add_again.ensures.each_mark
    (rw (stood) at c.add_again.ensures.still)
