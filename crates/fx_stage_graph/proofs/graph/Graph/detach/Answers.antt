use Rattle.std.proofs.Common.{◌≡◌, Err, ap, subst, sym}
use Rattle.std.specs.Option.{option_map}
use Rattle.fx_base.specs.Answers.{IsAnswer}
use Rattle.fx_stage_model.specs.Graphs.{Graph}
use Rattle.fx_stage_types.specs.declared.answers.StageError.{StageError}
use Rattle.fx_stage_types.specs.declared.answers.StageError.TheVariants.{Memory}
use Rattle.fx_stage_types.specs.Words.{of_tree}
use Rattle.fx_tree.specs.Refusals.{detach_refusal}
use Rattle.fx_tree.specs.Scene.{Scene}
use Rattle.fx_stage_graph.proofs.StaleLemmas.{stale_answer}
use Rattle.fx_stage_graph.proofs.graph.Graph.detach.Goals as goal

pub returns-in-Err-clause-answer : goal.returns-in-Err-clause-answer
returns-in-Err-clause-answer c =
    subst (λ (s : Scene). IsAnswer {T = Unit {0}} Memory (option_map of_tree (detach_refusal s c.args.key)) (Err c.from.result))
    (ap (λ (g : Graph). g.tree) c.self.view_is)
    (subst (λ (e : StageError). IsAnswer {T = Unit {0}} Memory (option_map of_tree (detach_refusal c.self.inside.tree c.args.key)) (Err e))
    (sym c.from.ensures)
    (stale_answer _ c.self.inside.tree c.args.key c.in-Err.error c.in-Err.ensures.answer))
