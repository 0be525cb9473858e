use Rattle.fx_stage_words.proofs.NameLemmas.{no_class}
use Rattle.fx_stage_words.proofs.names.node_class.Goals as goal

pub returns-in-None : goal.returns-in-None
returns-in-None c = no_class c.args.name.now c.in-None.ensures.none
