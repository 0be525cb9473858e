use Rattle.std.proofs.Common.{◌-◌, ◌^◌, ◌<◌, arith, map, min}
use Rattle.fx_share.specs.Levels.{filled}
use Rattle.fx_share.proofs.Levels.{filled-zero}
use Rattle.fx_panes_parts.specs.Parts.{rooms}
use Rattle.fx_panes_parts.proofs.ShareLemmas.{all_filled, search_ends}
use Rattle.fx_panes_parts.proofs.levels.level_of.Goals as goal

pub returns-then-taken-total-clause-value : goal.returns-then-taken-total-clause-value
returns-then-taken-total-clause-value g c =
    all_filled c.args.total (rooms c.args.room (map (g.T.Parted.part_along c.args.axis) c.args.parts.now)) c.requires
    (rw c.taken.ensures at c.if-taken-total.true)

pub loop-low-init : goal.loop-low-init
loop-low-init g c =
    let over : c.args.total < min (filled 100000 (rooms c.args.room (map (g.T.Parted.part_along c.args.axis) c.args.parts.now))) (2 ^ 64 - 1) =
    rw c.taken.ensures at c.if-taken-total.false in
    record {
      order = omega arith;
      most = omega arith;
      enough = omega (arith, filled-zero (rooms c.args.room (map (g.T.Parted.part_along c.args.axis) c.args.parts.now)));
      greatest = omega (arith, over);
    }

pub returns-clause-value : goal.returns-clause-value
returns-clause-value g c =
    let met = c.loop-low.invariant in
    search_ends c.args.total c.loop-low.low c.loop-low.high _ met.order c.loop-low-test.false met.most met.enough met.greatest
