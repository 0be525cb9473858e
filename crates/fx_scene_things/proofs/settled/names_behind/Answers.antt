-- the names behind the node that is found
use Rattle.fx_scene_things.proofs.SettledLemmas.{no_node, node_found}
use Rattle.fx_scene_things.proofs.settled.names_behind.Goals as goal

pub returns-in-Some : goal.returns-in-Some
returns-in-Some c =
    node_found c.args.settled.now c.args.place c.first_at.result c.in-Some.node c.in-Some.is c.first_at.ensures

pub returns-in-None : goal.returns-in-None
returns-in-None c = no_node c.args.settled.now c.args.place c.first_at.result c.in-None.is c.first_at.ensures
