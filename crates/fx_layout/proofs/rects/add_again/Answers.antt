use Rattle.std.proofs.Common.{◌<◌, length, arith}
use Rattle.fx_layout_sweeps.proofs.Asking.{are_known}
use Rattle.fx_layout.proofs.Readds.{IsPutInto, readded_all, readded_idle, readded_more, readded_start}
use Rattle.fx_layout.proofs.rects.add_again.Goals as goal

pub loop-at-init : goal.loop-at-init
loop-at-init c =
    let scene = c.args.scene in
    let known = are_known scene.nodes.now scene.children.now c.requires.nodes c.requires.children in
    let root = rw (c.span_at.ensures, c.span_at-2.ensures) at c.shifted-root.ensures in (
      rw (c.put_rect.ensures.rects) (readded_start scene.nodes.now scene.children.now c.args.halves.across.now
          c.args.halves.down.now c.args.marks.now c.put_rect.new.marks c.args.rects.now.items c.shifted-root.result known
          c.requires.rects c.requires.marks c.put_rect.ensures.each_mark c.requires.some root c.requires.kept
          (rw (c.put_rect.ensures.rects) at c.put_rect.ensures.marks)),
      omega arith,
    )

pub loop-at-preserved : goal.loop-at-preserved
loop-at-preserved c =
    let scene = c.args.scene in
    let at = c.in-Some.at in
    let found = c.in-Some.ensures in
    let flags = c.loop-at.marks in
    let rects = c.loop-at.rects.items in
    let across = c.args.halves.across.now in
    let down = c.args.halves.down.now in
    let known = are_known scene.nodes.now scene.children.now c.requires.nodes c.requires.children in
    let old = c.args.rects.now.items in
    let here = readded_idle scene.nodes.now scene.children.now across down old flags rects c.loop-at.from at found.3
    c.loop-at.invariant.0 in
    let within : at < length scene.nodes.now = omega (arith, found.1, here.each_flag) in
    let put : IsPutInto scene.nodes.now scene.children.now across down flags c.add_children.new.marks rects
    c.add_children.new.rects.items at = record {
      within = within;
      each = c.add_children.ensures.each;
      each_flag = c.add_children.ensures.each_mark;
      added = rw (c.rect_at-outer.ensures, c.as_slice.ensures.value, c.children_in-places.ensures.value)
          at c.add_children.ensures.added;
      others = rw (c.children_in-places.ensures.value) at c.add_children.ensures.others;
      marks = c.add_children.ensures.marks;
    } in (
      readded_more scene.nodes.now scene.children.now across down old flags c.add_children.new.marks rects
          c.add_children.new.rects.items at known here put,
      omega (arith, within),
    )

pub returns-clause-rects : goal.returns-clause-rects
returns-clause-rects c =
    let scene = c.args.scene in
    let across = c.args.halves.across.now in
    let down = c.args.halves.down.now in
    let old = c.args.rects.now.items in
    let flags = c.loop-at.marks in
    let rects = c.loop-at.rects.items in
    let all = readded_idle scene.nodes.now scene.children.now across down old flags rects c.loop-at.from
    (length scene.nodes.now)
    (λ q late within. c.in_default.ensures q late (omega (arith, within, c.loop-at.invariant.0.each_flag)))
    c.loop-at.invariant.0 in
    readded_all scene.nodes.now scene.children.now across down old flags rects (length scene.nodes.now) c.requires.nodes
    c.requires.children (omega arith) all

pub returns-clause-each_mark : goal.returns-clause-each_mark
returns-clause-each_mark c = c.loop-at.invariant.0.each_flag

pub returns-clause-still : goal.returns-clause-still
returns-clause-still c = c.loop-at.invariant.0.still
