use Rattle.fx_kinds.proofs.ClassLemmas.{class_found, class_none}
use Rattle.fx_kinds.proofs.classes.class_of.Goals as goal

pub returns : goal.returns
returns c = record {
  found = class_found c.args.simple.now c.find_class.result c.find_class.ensures;
  none = class_none c.args.simple.now c.find_class.result c.find_class.ensures;
}
