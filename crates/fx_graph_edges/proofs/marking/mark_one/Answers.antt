use Rattle.std.proofs.Common.{arith}
use Rattle.fx_graph_model.proofs.Flags.{unmarked_some}
use Rattle.fx_graph_edges.proofs.marking.mark_one.Goals as goal

pub bounds-work-count : goal.bounds-work-count
bounds-work-count c = omega (arith, unmarked_some c.args.unread.now c.args.name c.requires.known c.if-unread-name.false)
