use Rattle.std.proofs.Common.{◌<◌, length, arith}
use Rattle.fx_graph_edges.proofs.NewlyLemmas.{written_more}
use Rattle.fx_graph_edges.proofs.newly.write_names.Goals as goal

pub loop-place-preserved : goal.loop-place-preserved
loop-place-preserved c =
    let room : c.loop-place.place < length c.loop-place.newly = omega (arith, c.requires.room, c.loop-place-test.true, c.loop-place.auto.newly) in
    rw c.write_name.ensures (written_more c.loop-place.newly c.args.listed.now c.loop-place.place room c.loop-place-test.true c.loop-place.invariant)
