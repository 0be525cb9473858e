use Rattle.std.proofs.Common.{List, sym, ap, ◌∙◌}
use Rattle.fx_graph_model.specs.declared.entries.Entry.{Entry}
use Rattle.fx_graph_model.specs.Refusals.{fit_refusal}
use Rattle.fx_graph.proofs.BindLemmas.{fit_within}
use Rattle.fx_graph.proofs.binding.refusal.Goals as goal

pub unlinkable-requires-clause-known : goal.unlinkable-requires-clause-known
unlinkable-requires-clause-known c =
    let none = sym c.in-None.is ∙ c.in_ok-unfit.ensures ∙ ap (λ (es : List Entry). fit_refusal c.args.name c.args.expr.now c.args.operands.now es) c.as_slice.ensures.value in
    (fit_within _ c.args.name c.args.expr.now c.args.operands.now none).0

pub unlinkable-requires-clause-operands : goal.unlinkable-requires-clause-operands
unlinkable-requires-clause-operands c =
    let none = sym c.in-None.is ∙ c.in_ok-unfit.ensures ∙ ap (λ (es : List Entry). fit_refusal c.args.name c.args.expr.now c.args.operands.now es) c.as_slice.ensures.value in
    (fit_within _ c.args.name c.args.expr.now c.args.operands.now none).1
