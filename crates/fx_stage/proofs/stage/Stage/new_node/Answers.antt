use Rattle.fx_stage.proofs.DeclaringLemmas.{memory_first}
use Rattle.fx_stage.proofs.stage.Stage.new_node.Goals as goal

pub returns-in_default-path_of : goal.returns-in_default-path_of
returns-in_default-path_of c = (0, memory_first _ c.args.self.now)
