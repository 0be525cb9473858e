use Rattle.std.proofs.Common.{◌∙◌, ap, length, refl, sym}
use Rattle.fx_stage_model.specs.Graphs.{Graph}
use Rattle.fx_stage_model.specs.World.{World}
use Rattle.fx_stage_facts.specs.Attached.{attached_keys}
use Rattle.fx_stage_facts.specs.Scenes.{facts_of}
use Rattle.fx_stage_facts.specs.Sheets.{common_sheets}
use Rattle.fx_stage_facts.proofs.DraftLemmas.{facts_reached, reach_looked, reach_none}
use Rattle.fx_stage_facts.proofs.FactsLemmas.{facts_looked}
use Rattle.fx_stage_facts.proofs.facts.facts_at.Goals as goal

pub fill-requires-clause-reach : goal.fill-requires-clause-reach
fill-requires-clause-reach g c =
    reach_none c.args.stage.now c.args.keys.now c.in_ok-standing.standing c.in_ok-draft.draft
    c.in_ok-standing.ensures.stands c.in_ok-standing.ensures.marks
    (c.in_ok-draft.ensures.sheets ∙ ap (λ (graph : Graph). common_sheets graph) c.graph.ensures)
    c.in_ok-draft.ensures.styles c.in_ok-draft.ensures.boxes

pub look-requires-clause-within : goal.look-requires-clause-within
look-requires-clause-within g c = c.in_ok-place.ensures.reach.within

pub look-requires-clause-read : goal.look-requires-clause-read
look-requires-clause-read g c = c.in_ok-place.ensures.reach.read

pub fill-requires-2-clause-reach : goal.fill-requires-2-clause-reach
fill-requires-2-clause-reach g c =
    reach_looked c.args.stage.now c.look.new.stage c.args.keys.now c.in_ok-place.place c.fill.new.standing
    c.fill.new.draft c.in_ok-look.ensures.ok c.in_ok-look.ensures.read c.in_ok-place.ensures.reach

pub fill-requires-2-clause-sure : goal.fill-requires-2-clause-sure
fill-requires-2-clause-sure g c = λ s. c.in_ok-look.ensures.read

pub fill-requires-2-clause-common : goal.fill-requires-2-clause-common
fill-requires-2-clause-common g c =
    c.len-common.ensures
    ∙ ap length (c.in_ok-draft.ensures.sheets ∙ ap (λ (graph : Graph). common_sheets graph) c.graph.ensures)
    ∙ ap (λ (world : World). length (common_sheets world.graph)) (sym c.in_ok-look.ensures.ok)

pub returns-clause-facts : goal.returns-clause-facts
returns-clause-facts g c =
    c.finished.ensures
    ∙ facts_reached c.look.new.stage c.args.keys.now c.in_ok-fill.field-0 c.fill-2.new.standing c.fill-2.new.draft
    (c.requires.keys ∙ sym (ap attached_keys c.in_ok-look.ensures.ok)) (c.in_ok-fill.ensures.sure refl)
    c.in_ok-fill.ensures.reach
    ∙ ap facts_of c.in_ok-look.ensures.ok
    ∙ facts_looked c.args.stage.now
