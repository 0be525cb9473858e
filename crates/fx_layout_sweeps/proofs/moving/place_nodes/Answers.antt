use Rattle.std.proofs.Common.{refl, sym, ap, ◌≡◌, ◌<◌, ℕ, ◌+◌, List, Bool, false, cond, if◌then◌else◌, add-zero, length, slice_set, arith}
use Rattle.std.proofs.lemmas.List.{get_or-set_same, get_or-set_other}
use Rattle.fx_layout_sweeps.specs.Marks.{flag_in}
use Rattle.fx_layout_sweeps.specs.Sweeps.{kept_in, last_in, tally}
use Rattle.fx_layout_sweeps.proofs.Asking.{are_known}
use Rattle.fx_layout_sweeps.proofs.Tallies.{tally_more, tally_same}
use Rattle.fx_layout_sweeps.proofs.Spreads.{spread_more, spread_start}
use Rattle.fx_layout_sweeps.proofs.moving.place_nodes.Goals as goal

pub loop-at-init : goal.loop-at-init
loop-at-init g c =
    let sweep = c.args.sweep in (
      spread_start sweep.placing.axis sweep.placing.nodes.now sweep.placing.looks.now sweep.placing.children.now c.args.marks.now sweep.placing.widths.now
          sweep.placing.heights.now (last_in sweep.olds.now sweep.old_spans.now)
          (kept_in sweep.olds.now sweep.old_children.now sweep.old_spans.now) c.args.spans.now.items c.requires.spans c.requires.marks,
      rw (add-zero c.args.work.now.laid) refl,
    )

pub loop-at-preserved : goal.loop-at-preserved
loop-at-preserved g c =
    let sweep = c.args.sweep in
    let p = c.loop-at.at in
    let worked = c.is_worked-worked.result in
    let flags : List Bool = c.loop-at.marks in
    let after : List Bool = slice_set flags p worked in
    let told = rw (c.as_slice.ensures.value) at c.is_worked-worked.ensures in
    let step = c.in_ok-place_children.ensures.work in
    let same = c.loop-at.invariant.1 in
    let unchanged : tally (flag_in flags) p ≡ tally (flag_in after) p =
    tally_same (flag_in flags) (flag_in after) p
    (λ q less. sym (get_or-set_other flags p q worked false (λ equal. omega (arith, less, equal)))) in
    let few : p < length flags = omega (arith, c.loop-at.invariant.0.each_flag, c.loop-at-test.true) in
    let marked : ℕ = cond (flag_in after p) 1 0 in
    let ticked : ℕ = if worked then 1 else 0 in
    let here : marked ≡ ticked = ap {B = ℕ} (λ (b : Bool). cond b 1 0) (get_or-set_same flags p worked false few) in
    let total : c.loop-at.work.laid + (if worked then 1 else 0) ≡ c.args.work.now.laid + tally (flag_in after) (p + 1) =
    omega (arith, ap (λ w. w.laid) same, unchanged, tally_more (flag_in after) p, here) in
    rw (c.put.ensures) (
      spread_more sweep.placing.axis sweep.placing.nodes.now sweep.placing.looks.now sweep.placing.children.now c.args.marks.now sweep.placing.widths.now
          sweep.placing.heights.now (last_in sweep.olds.now sweep.old_spans.now)
          (kept_in sweep.olds.now sweep.old_children.now sweep.old_spans.now) c.args.spans.now.items flags c.loop-at.spans.items
          c.place_children.new.spans.items p worked
          (are_known sweep.placing.nodes.now sweep.placing.children.now c.requires.nodes c.requires.children) c.loop-at-test.true
          c.loop-at.invariant.0 told c.in_ok-place_children.ensures.put,
      rw (step, ap (λ w. w.evaluated) same, ap (λ w. w.styled) same, ap (λ w. w.painted) same, total) refl,
    )

pub returns-clause-placed : goal.returns-clause-placed
returns-clause-placed g c = λ p within.
    c.loop-at.invariant.0.placed p (omega (arith, within, c.loop-at-test.false)) within

pub returns-clause-marks : goal.returns-clause-marks
returns-clause-marks g c = λ p within.
    c.loop-at.invariant.0.marked p (omega (arith, within, c.loop-at-test.false)) within

pub returns-clause-work : goal.returns-clause-work
returns-clause-work g c =
    let all : c.loop-at.at ≡ length c.args.sweep.placing.nodes.now = omega (arith, c.loop-at-test.false, c.loop-at.auto.at-end) in
    rw (sym all) c.loop-at.invariant.1
