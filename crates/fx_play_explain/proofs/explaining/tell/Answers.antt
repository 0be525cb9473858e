use Rattle.std.proofs.Common.{◌∙◌, ap, subst}
use Rattle.std.proofs.lemmas.Result.{on_ok_weaker}
use Rattle.fx_stage_model.specs.Graphs.{Graph}
use Rattle.fx_tree.specs.Scene.{IsSound}
use Rattle.fx_play_explain.proofs.ToldLemmas.{has_facts, on_each, parents_before, told_of_world}
use Rattle.fx_play_explain.proofs.explaining.tell.Goals as goal

pub tell_of-requires-clause-before : goal.tell_of-requires-clause-before
tell_of-requires-clause-before g c =
    parents_before c.args.stage.now c.in_ok-facts.facts c.in_ok-facts.ensures.facts (c.facts_fit_together.ensures c.args.stage.now)

pub tell_of-requires-clause-there : goal.tell_of-requires-clause-there
tell_of-requires-clause-there g c =
    has_facts c.args.stage.now c.in_ok-facts.facts c.in_ok-facts.ensures.facts (c.facts_fit_together.ensures c.args.stage.now)
    (subst IsSound (c.tree.ensures ∙ ap (λ (graph : Graph). graph.tree) c.graph.ensures) c.root-root.ensures.sound) c.args.key
    c.requires.attached

pub returns-clause-told : goal.returns-clause-told
returns-clause-told g c =
    on_ok_weaker c.tell_of.result
    (told_of_world c.args.stage.now c.in_ok-facts.facts c.args.key c.args.name.now c.tell_of.new.text.items c.in_ok-facts.ensures.facts)
    c.tell_of.ensures

pub returns-clause-looked : goal.returns-clause-looked
returns-clause-looked g c = on_each c.tell_of.result c.in_ok-facts.ensures.ok
