-- the parts around the first `.`
use Rattle.fx_scene_names.proofs.OwnerLemmas.{split_is}
use Rattle.fx_scene_names.proofs.owners.split_name.Goals as goal

pub returns : goal.returns
returns c = split_is c.args.name.now c.split_once.result c.split_once.ensures.cases
