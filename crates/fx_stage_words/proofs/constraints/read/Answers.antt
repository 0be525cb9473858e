use Rattle.fx_stage_words.proofs.ReadLemmas.{value_read}
use Rattle.fx_stage_words.proofs.constraints.read.Goals as goal

pub returns : goal.returns
returns c = value_read c.args.kind c.args.text.now c.read_value.result c.read_value.ensures.found c.read_value.ensures.none
