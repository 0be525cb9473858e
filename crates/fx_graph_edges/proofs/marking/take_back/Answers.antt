use Rattle.std.proofs.Common.{◌≡◌, ◌<◌, length, arith}
use Rattle.fx_graph_edges.proofs.ClearLemmas.{clears_start, clears_within, clears_more, clears_end}
use Rattle.fx_graph_edges.proofs.marking.take_back.Goals as goal

pub loop-place-init : goal.loop-place-init
loop-place-init c = clears_start c.args.flags.now c.args.work.now c.args.count c.requires.listed

pub loop-place-preserved : goal.loop-place-preserved
loop-place-preserved c =
    clears_more _ _ _ _ _ c.loop-place.invariant (clears_within c.args.flags.now c.args.work.now c.args.count c.loop-place.place c.requires.listed c.loop-place-test.true)

pub returns : goal.returns
returns c = clears_end _ _ _ _ _ c.loop-place.invariant (omega (arith, c.loop-place-test.false))
