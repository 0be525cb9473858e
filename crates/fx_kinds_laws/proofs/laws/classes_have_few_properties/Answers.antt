use Rattle.fx_kinds_laws.proofs.Counts.{most, control, node, other}
use Rattle.fx_kinds_laws.proofs.laws.classes_have_few_properties.Goals as goal

pub returns-clause-most : goal.returns-clause-most
returns-clause-most c = most

pub returns-clause-control : goal.returns-clause-control
returns-clause-control c = control

pub returns-clause-node : goal.returns-clause-node
returns-clause-node c = node

pub returns-clause-other : goal.returns-clause-other
returns-clause-other c = other
