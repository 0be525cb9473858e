use Rattle.std.proofs.Common.{◌≤◌, ◌+◌, ◌-◌, length, take, drop, arith}
use Rattle.std.proofs.Math.Nat.{min-le_left}
use Rattle.std.proofs.lemmas.List.{length-take}
use Rattle.fx_frame_text.proofs.SumLemmas.{sum_further}
use Rattle.fx_frame_text.proofs.sums.row_sum.Goals as goal

pub loop-at-preserved : goal.loop-at-preserved
loop-at-preserved c =
    let at = c.loop-at.at in
    let end = c.min-end.result in
    let row = c.args.row.now in
    let within : end ≤ length row = omega (arith, c.min-end.ensures, min-le_left (length row) (at + 256)) in
    let rises : at ≤ end = grind (arith, c.min-end.ensures, c.loop-at.invariant.within) in
    let few : length (take (end - at) (drop at row)) ≤ end - at =
    omega (arith, length-take (end - at) (drop at row), min-le_left (end - at) (length (drop at row))) in
    record {
      sum = omega (arith, c.loop-at.invariant.sum, c.part_sum.ensures.sum, c.from-total.ensures, sum_further at end row rises);
      small = omega (arith, c.loop-at.invariant.small, c.part_sum.ensures.small, c.from-total.ensures, few, rises);
      within = within;
    }
