use Rattle.std.proofs.Common.{List, sym, ap, ◌∙◌}
use Rattle.fx_graph_model.specs.declared.entries.Entry.{Entry}
use Rattle.fx_graph_model.specs.Refusals.{publish_refusal}
use Rattle.fx_graph.proofs.AllowedLemmas.{publish_allowed}
use Rattle.fx_graph.proofs.Graph.publish.Goals as goal

pub change_values-requires-clause-base : goal.change_values-requires-clause-base
change_values-requires-clause-base c =
    let none = c.in_default.ensures ∙ ap (λ (es : List Entry). publish_refusal c.args.pairs.now es) c.as_slice.ensures.value in
    publish_allowed _ _ (sym none) c.self.invariant.sound (rw (← c.self.view_is) at c.requires.read_only)
