use Rattle.fx_boxes.proofs.ControlLemmas.{one_control, same_widths}
use Rattle.fx_boxes.proofs.control.one_control.Goals as goal

pub returns-clause-one : goal.returns-clause-one
returns-clause-one c = one_control

pub returns-clause-widths : goal.returns-clause-widths
returns-clause-widths c = same_widths
