use Rattle.std.proofs.Common.{◌∙◌, ap}
use Rattle.fx_stage_model.specs.Graphs.{Graph}
use Rattle.fx_tree.specs.Scene.{is_once}
use Rattle.fx_stage_facts.specs.Attached.{keys_in}
use Rattle.fx_stage_facts.proofs.facts.refresh_facts.Goals as goal

pub facts_at-requires-clause-keys : goal.facts_at-requires-clause-keys
facts_at-requires-clause-keys g c =
    c.as_slice.ensures.value
    ∙ c.in_ok-keys.ensures.keys
    ∙ ap keys_in (c.tree.ensures ∙ ap (λ (graph : Graph). graph.tree) c.graph.ensures)

pub facts_at-requires-clause-once : goal.facts_at-requires-clause-once
facts_at-requires-clause-once g c = ap is_once c.as_slice.ensures.value ∙ c.in_ok-keys.ensures.once
