-- the names of the space that is found
use Rattle.fx_scene_things.proofs.SpaceLemmas.{no_space, space_found}
use Rattle.fx_scene_things.proofs.spaces.names_in.Goals as goal

pub returns-in-Some : goal.returns-in-Some
returns-in-Some c =
    space_found c.args.spaces.now c.args.file c.first_of.result c.in-Some.space c.in-Some.is c.first_of.ensures

pub returns-in-None : goal.returns-in-None
returns-in-None c = no_space c.args.spaces.now c.args.file c.first_of.result c.in-None.is c.first_of.ensures
