use Rattle.std.proofs.Common.{Some, ap, sym, ◌∙◌}
use Rattle.fx_store_model.specs.declared.errors.StoreError.TheVariants as error
use Rattle.fx_base.specs.Answers.{or_else}
use Rattle.fx_store_model.specs.Refusals.{bind_refusal, of_graph_refusal}
use Rattle.fx_store_model.specs.Stored.{Stored}
use Rattle.fx_store.proofs.Answering.{bind_free, bind_mixed}
use Rattle.fx_store.proofs.store.Store.refuses_bind.Goals as goal

pub returns-then-is_paired-clause-refusal : goal.returns-then-is_paired-clause-refusal
returns-then-is_paired-clause-refusal c =
    c.unfit_or_mixed.ensures
    ∙ ap (λ refused. or_else (of_graph_refusal refused) (Some (error.Mixed c.args.name))) c.in_ok-unfit.ensures
    ∙ sym
    (bind_mixed c.args.name c.args.expr.now c.args.operands.now c.self.inside.graph.entries c.self.inside.pairs
    (sym c.is_paired.ensures ∙ c.if-is_paired.true))
    ∙ ap (λ (stored : Stored). bind_refusal c.args.name c.args.expr.now c.args.operands.now stored.entries stored.pairs) c.self.view_is

pub returns-clause-refusal : goal.returns-clause-refusal
returns-clause-refusal c =
    c.as_of_store.ensures
    ∙ ap of_graph_refusal c.in_ok-refusal.ensures.refusal
    ∙ sym
    (bind_free c.args.name c.args.expr.now c.args.operands.now c.self.inside.graph.entries c.self.inside.pairs
    (sym c.is_paired.ensures ∙ c.if-is_paired.false))
    ∙ ap (λ (stored : Stored). bind_refusal c.args.name c.args.expr.now c.args.operands.now stored.entries stored.pairs) c.self.view_is
