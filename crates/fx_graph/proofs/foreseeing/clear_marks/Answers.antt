use Rattle.std.proofs.Common.{arith}
use Rattle.fx_base.specs.Names.{name_of}
use Rattle.fx_graph_edges.proofs.RowLemmas.{number_at}
use Rattle.fx_graph.proofs.foreseeing.clear_marks.Goals as goal

pub bounds-unread-name : goal.bounds-unread-name
bounds-unread-name c =
    let known = c.requires _ (number_at c.args.names.now c.loop-name.name-index (name_of 0) c.loop-name-test.true) in
    omega (arith, known, c.loop-name.auto.unread)
