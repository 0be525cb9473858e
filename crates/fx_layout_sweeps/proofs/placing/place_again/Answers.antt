use Rattle.std.proofs.Common.{refl, ap, ◌≡◌, ◌<◌, ◌+◌, add-zero, length, arith}
use Rattle.fx_layout_sweeps.specs.Marks.{flag_in}
use Rattle.fx_layout_sweeps.specs.Sweeps.{tally}
use Rattle.fx_layout_sweeps.proofs.Asking.{are_known}
use Rattle.fx_layout_sweeps.proofs.Tallies.{tally_between}
use Rattle.fx_layout_sweeps.proofs.Respreads.{IsTurn, Task, respread_idle, respread_more, respread_start, tally_turn}
use Rattle.fx_layout_sweeps.proofs.placing.place_again.Goals as goal

pub loop-at-init : goal.loop-at-init
loop-at-init g c = (respread_start _ c.requires.spans c.requires.marks, rw (add-zero c.args.work.now.laid) refl, omega arith)

pub loop-at-preserved : goal.loop-at-preserved
loop-at-preserved g c =
    let sweep = c.args.sweep in
    let t : Task = record {
      axis = sweep.axis;
      nodes = sweep.nodes.now;
      looks = sweep.looks.now;
      children = sweep.children.now;
      listed = c.args.marks.now;
      widths = sweep.widths.now;
      heights = sweep.heights.now;
      start = c.args.spans.now.items;
    } in
    let at = c.in-Some.at in
    let found = c.in-Some.ensures in
    let flags = c.loop-at.marks in
    let spans = c.loop-at.spans.items in
    let after_flags = c.move_children.new.marks in
    let after = c.move_children.new.spans.items in
    let known = are_known sweep.nodes.now sweep.children.now c.requires.nodes c.requires.children in
    let here = respread_idle t flags spans c.loop-at.from at found.0 found.3 c.loop-at.invariant.0 in
    let within : at < length sweep.nodes.now = omega (arith, found.1, here.each_flag) in
    let turn : IsTurn t flags after_flags spans after at = record {
      within = within;
      is_marked = found.2;
      put = rw (c.as_slice-in-Some.ensures.value, c.in_ok-found.ensures.spans, c.span_at-room.ensures, c.as_slice.ensures.value, c.children_in-places.ensures.value) at c.move_children.ensures.put;
      each_flag = c.move_children.ensures.each_mark;
      marks = c.move_children.ensures.marks;
    } in
    let step = c.in_ok-found.ensures.work in
    let same = c.loop-at.invariant.1 in
    let passed = tally_between (flag_in flags) c.loop-at.from at found.0 found.3 in
    let counted = tally_turn t flags after_flags spans after at known here.each_flag turn in
    let total : c.loop-at.work.laid + 1 ≡ c.args.work.now.laid + tally (flag_in after_flags) (at + 1) =
    omega (arith, ap (λ w. w.laid) same, passed, counted) in (
      respread_more t flags after_flags spans after at known here turn,
      rw (step, ap (λ w. w.evaluated) same, ap (λ w. w.styled) same, ap (λ w. w.painted) same, total) refl,
      omega (arith, within),
    )

pub returns-clause-placed : goal.returns-clause-placed
returns-clause-placed g c =
    let sweep = c.args.sweep in
    let t : Task = record {
      axis = sweep.axis;
      nodes = sweep.nodes.now;
      looks = sweep.looks.now;
      children = sweep.children.now;
      listed = c.args.marks.now;
      widths = sweep.widths.now;
      heights = sweep.heights.now;
      start = c.args.spans.now.items;
    } in
    let all = respread_idle t c.loop-at.marks c.loop-at.spans.items c.loop-at.from (length sweep.nodes.now)
    c.loop-at.invariant.2 (λ q late within. c.in_default.ensures q late (omega (arith, within, c.loop-at.invariant.0.each_flag)))
    c.loop-at.invariant.0 in
    λ p within. all.placed p within within

pub returns-clause-marks : goal.returns-clause-marks
returns-clause-marks g c = c.loop-at.invariant.0.marked

pub returns-clause-work : goal.returns-clause-work
returns-clause-work g c =
    let flags = c.loop-at.marks in
    let n = length c.args.sweep.nodes.now in
    let rest = tally_between (flag_in flags) c.loop-at.from n c.loop-at.invariant.2
    (λ q late within. c.in_default.ensures q late (omega (arith, within, c.loop-at.invariant.0.each_flag))) in
    rw (rest) c.loop-at.invariant.1
