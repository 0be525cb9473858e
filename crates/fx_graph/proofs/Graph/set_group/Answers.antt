use Rattle.std.proofs.Common.{List, sym, ap, ◌∙◌}
use Rattle.fx_graph_model.specs.declared.entries.Entry.{Entry}
use Rattle.fx_graph_model.specs.Refusals.{set_refusal}
use Rattle.fx_graph.proofs.AllowedLemmas.{set_allowed}
use Rattle.fx_graph.proofs.Graph.set_group.Goals as goal

pub change_values-requires-clause-base : goal.change_values-requires-clause-base
change_values-requires-clause-base c =
    let none = c.in_default.ensures ∙ ap (λ (es : List Entry). set_refusal c.args.pairs.now es) c.as_slice.ensures.value in
    set_allowed _ _ (sym none)
