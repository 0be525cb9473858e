use Rattle.fx_panes.proofs.StackLemmas.{stack_extent_is}
use Rattle.fx_panes.proofs.stack.extent.Goals as goal

pub returns : goal.returns
returns c =
    stack_extent_is c.args.axis _ _ c.args.children.now _ _ _ _ c.pane_axis-facts.ensures.value c.insets-insets.ensures.value
    c.greatest_min.ensures.value c.greatest_pref.ensures.value c.pane_extent.ensures.value
