use Rattle.std.proofs.Common.{◌≡◌, ◌≤◌, ◌+◌, ◌∙◌, List, Result, ap, subst, sym}
use Rattle.fx_listen.specs.declared.entries.Listener.{Listener}
use Rattle.fx_stage_types.specs.declared.answers.Outcome.{Outcome}
use Rattle.fx_stage_types.specs.declared.answers.StageError.{StageError}
use Rattle.fx_stage_model.specs.Answers.{cost_of}
use Rattle.fx_stage_model.specs.Looking.{find}
use Rattle.fx_stage_model.specs.Properties.{get}
use Rattle.fx_stage_model.specs.Taking.{IsTaken}
use Rattle.fx_stage_model.specs.World.{World, still_written}
use Rattle.fx_stage.specs.Kept.{seen}
use Rattle.fx_stage_words.specs.Told.{told_value_as}
use Rattle.fx_stage.proofs.FoundLemmas.{found_known}
use Rattle.fx_stage.proofs.ReadingLemmas.{get_few, get_taken, listeners_kept}
use Rattle.fx_stage.proofs.stage.Stage.get.Goals as goal

pub returns-clause-taken : goal.returns-clause-taken
returns-clause-taken g c =
    let s = c.self.inside in
    let now = c.read.new.self in
    let path = c.args.path.now in
    let w : World = seen s.store s.graph s.free.entries s.labels.entries s.actions.entries s.run.items s.written.entries s.pointer s.button s.window in
    let v : World = seen now s.graph s.free.entries s.labels.entries s.actions.entries s.run.items s.written.entries s.pointer s.button s.window in
    let here = ap (λ (x : World). find x path) c.self.view_is ∙ sym c.find_property.ensures ∙ c.in-Ok.is in
    let known = found_known w c.self.invariant.sound c.in-Ok.name path here in
    let taken =
    get_taken path w c.in-Ok.name now c.read.result here known c.read.ensures.answer c.read.ensures.value c.read.ensures.ok c.read.ensures.memory in
    let same = listeners_kept s.store now c.in-Ok.name c.read.result c.read.ensures.ok c.read.ensures.refused c.read.ensures.memory in
    let view : record w { store = now } ≡ v =
    ap (λ (ls : List Listener). record v { names = record v.names { written = still_written ls s.written.entries } }) (sym same) in
    subst (λ (x : World). IsTaken (get path x) x v c.told_value.result) c.self.view_is
    (subst (λ (r : Result Outcome StageError). IsTaken (get path w) w v r) (sym c.told_value.ensures)
    (subst (λ (x : World). IsTaken (get path w) w x (told_value_as c.read.result)) view taken))

pub returns-clause-few : goal.returns-clause-few
returns-clause-few g c =
    let s = c.self.inside in
    let path = c.args.path.now in
    let w : World = seen s.store s.graph s.free.entries s.labels.entries s.actions.entries s.run.items s.written.entries s.pointer s.button s.window in
    let here = ap (λ (x : World). find x path) c.self.view_is ∙ sym c.find_property.ensures ∙ c.in-Ok.is in
    subst (λ (x : World). c.read.new.work.evaluated ≤ c.args.work.now.evaluated + cost_of (get path x)) c.self.view_is
    (get_few path w c.in-Ok.name c.args.work.now.evaluated c.read.new.work.evaluated here c.read.ensures.cost)
