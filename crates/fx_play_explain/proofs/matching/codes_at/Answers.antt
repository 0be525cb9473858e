use Rattle.std.proofs.Common.{◌∙◌}
use Rattle.fx_play_explain.proofs.SeenLemmas.{codes-first}
use Rattle.fx_play_explain.proofs.matching.codes_at.Goals as goal

pub returns : goal.returns
returns c =
    c.as_slice.ensures ∙ codes-first c.args.nodes.now c.requires.before c.args.at c.node_at.result.now c.node_at.ensures
