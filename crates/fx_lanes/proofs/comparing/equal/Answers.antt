-- A block more is the same.
-- Where a block differs, so do the rows.
use Rattle.std.proofs.Common.{◌++◌, take, drop, sym, ap, ◌∙◌, arith}
use Rattle.fx_lanes.proofs.Rows.{take-add}
use Rattle.fx_lanes.proofs.comparing.equal.Goals as goal

pub loop-at-preserved : goal.loop-at-preserved
loop-at-preserved c =
    let within = c.loop-at.invariant.1 in
    let block = c.is_same.ensures.0 c.if-not-is_same.false in (
      c.loop-at.invariant.0,
      omega arith,
      take-add c.loop-at.at 32 c.args.a.now
          ∙ ap (λ x. x ++ take 32 (drop c.loop-at.at c.args.a.now)) c.loop-at.invariant.2
          ∙ ap (λ x. take c.loop-at.at c.args.b.now ++ x) block
          ∙ sym (take-add c.loop-at.at 32 c.args.b.now),
    )
