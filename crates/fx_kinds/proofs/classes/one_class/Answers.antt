use Rattle.fx_kinds.proofs.ClassLemmas.{same_class}
use Rattle.fx_kinds.proofs.classes.one_class.Goals as goal

pub returns : goal.returns
returns c = same_class
