use Rattle.fx_event_lines.proofs.AliveLemmas.{picked-alive}
use Rattle.fx_event_lines.proofs.nodes.picked_there.Goals as goal

pub returns-clause-alive : goal.returns-clause-alive
returns-clause-alive c =
    picked-alive c.args.tree.now c.args.picture.now.entries _ _ c.pick.result c.root-root.ensures.sound
    c.pick.ensures
