use Rattle.std.proofs.Common.{arith}
use Rattle.fx_anim.proofs.LineLemmas.{next_done, rest_stays}
use Rattle.fx_anim.proofs.timelines.advance_all.Goals as goal

pub loop-place-preserved : goal.loop-place-preserved
loop-place-preserved c = record {
  done = next_done c.args.ms c.args.lines.now c.loop-place.lines c.loop-place.place c.advance.new.self _
      (omega (arith, c.loop-place-test.true, c.loop-place.auto.lines)) c.loop-place.auto.lines
      c.advance.ensures c.loop-place.invariant.done c.loop-place.invariant.rest;
  rest = rest_stays c.args.lines.now c.loop-place.lines c.loop-place.place c.advance.new.self c.index-lines-place.result
      (omega (arith, c.loop-place-test.true, c.loop-place.auto.lines)) c.loop-place.auto.lines c.loop-place.invariant.rest;
}
