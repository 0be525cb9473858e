use Rattle.std.proofs.Common.{◌∙◌, Err, Vec, subst, sym}
use Rattle.std.specs.Global.{Global}
use Rattle.fx_base.specs.declared.keys.NodeKey.{NodeKey}
use Rattle.fx_stage_types.specs.declared.answers.StageError.{StageError}
use Rattle.fx_stage_model.specs.Nodes as spec
use Rattle.fx_stage_model.specs.Taking.{IsTaken}
use Rattle.fx_tree.specs.Refusals.{IsExactAnswer, stale}
use Rattle.fx_tree.specs.Scene.{Scene}
use Rattle.fx_stage.proofs.DeclaringLemmas.{memory_first}
use Rattle.fx_stage.proofs.DroppingLemmas.{subtree_failed}
use Rattle.fx_stage.proofs.stage.Stage.drop_node.Goals as goal

pub returns-in-Err-subtree-clause-taken : goal.returns-in-Err-subtree-clause-taken
returns-in-Err-subtree-clause-taken g c =
    let world = c.args.self.now in
    let path = c.args.path.now in
    let answer =
    subst (λ (scene : Scene). IsExactAnswer {T = Vec NodeKey Global} (stale scene c.in-Ok.key) (Err c.in-Err-subtree.error)) c.tree.ensures
    c.in-Err-subtree.ensures.answer in
    let memory =
    c.from-in-Err-subtree.ensures
    ∙ subtree_failed (Vec NodeKey Global) c.self.inside.graph.tree c.in-Ok.key c.drop_refusal.result c.in-Err-subtree.error
    c.drop_refusal.ensures c.in_default.not-Some answer in
    subst (λ (error : StageError). IsTaken (spec.drop path world) world world (Err error)) (sym memory)
    (memory_first (spec.drop path world) world)
