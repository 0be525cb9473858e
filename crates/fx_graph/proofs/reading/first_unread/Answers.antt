use Rattle.fx_graph_model.proofs.Members.{none_in_nil}
use Rattle.fx_graph.proofs.reading.first_unread.Goals as goal

pub loop-operand-init : goal.loop-operand-init
loop-operand-init c = λ o h. absurd (none_in_nil o h)
