use Rattle.fx_panes_parts.proofs.PaneLemmas.{across_first}
use Rattle.fx_panes.specs.Stack.{stack_extent, stack_spans}
use Rattle.fx_panes.proofs.EachLemmas.{one_stack}
use Rattle.fx_panes.proofs.stack.across_first.Goals as goal

pub returns : goal.returns
returns c = across_first stack_extent stack_extent stack_spans stack_spans one_stack one_stack
