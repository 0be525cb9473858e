use Rattle.fx_look.proofs.ReadingLemmas.{value_found, value_none}
use Rattle.fx_look.proofs.readings.read_value.Goals as goal

pub returns : goal.returns
returns c = record {
  found = value_found c.args.kind c.args.s.now c.value_at.result c.value_at.ensures;
  none = value_none c.args.kind c.args.s.now c.value_at.result c.value_at.ensures;
}
