use Rattle.fx_panes.specs.Stack.{stack_spans}
use Rattle.fx_panes.proofs.EachLemmas.{one_stack, each_placed}
use Rattle.fx_panes.proofs.stack.place.Goals as goal

pub returns-clause-each : goal.returns-clause-each
returns-clause-each g c =
    each_placed stack_spans stack_spans one_stack one_stack c.args.pane.now c.args.children.now _ _ c.rects.result c.rects.ensures
