use Rattle.std.proofs.Common.{rules, not}
use Rattle.std.proofs.lemmas.Fn.{filter_same}
use Rattle.fx_base.specs.declared.keys.NodeKey.{NodeKey}
use Rattle.fx_tree.specs.Scene.{has}
use Rattle.fx_stage_graph.proofs.pointing.leave.Goals as goal

pub returns : goal.returns
returns c =
    filter_same _ (λ (key : NodeKey). not (has c.args.gone.now key)) _ (λ x b f' k. search rules) _ _ c.retain.ensures.filtered
