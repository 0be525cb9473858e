use Rattle.std.proofs.Common.{◌≡◌, ◌≤◌, ◌+◌, ℕ, List, Result, ap, subst, sym}
use Rattle.fx_store_model.proofs.Leaving.{keeps_applied}
use Rattle.fx_stage_types.specs.declared.answers.Outcome.{Outcome}
use Rattle.fx_stage_types.specs.declared.answers.StageError.{StageError}
use Rattle.fx_stage_model.specs.Answers.{cost_of}
use Rattle.fx_stage_model.specs.Properties.{changed}
use Rattle.fx_stage_model.specs.Taking.{IsTaken}
use Rattle.fx_stage_model.specs.World.{World, with_store}
use Rattle.fx_stage.specs.Kept.{seen}
use Rattle.fx_stage_words.specs.Told.{told_as}
use Rattle.fx_stage.proofs.CostLemmas.{changed_few}
use Rattle.fx_stage.proofs.SoundLemmas.{sound_kept}
use Rattle.fx_stage.proofs.TakingLemmas.{all_below, changed_taken, given_settled, listening_from, settled, written_again}
use Rattle.fx_stage.proofs.WrittenLemmas.{still_twice}
use Rattle.fx_stage.proofs.stage.Stage.change_store.Goals as goal

pub invariant_of-self : goal.invariant_of-self
invariant_of-self g c =
    let s = c.self.inside in
    let now = c.apply.new.self in
    let keeps = keeps_applied c.args.change s.store now c.apply.result _ _ c.requires.keeps c.apply.ensures.applied in
    let is = settled c.args.change s.store now c.apply.result _ _ c.apply.ensures.applied in
    record {
      sound = sound_kept s.store.entries now.entries s.graph.table s.free.entries keeps.known c.self.invariant.sound;
      numbered = all_below s.store.given now.given s.written.entries (given_settled c.args.change s.store now is)
          c.self.invariant.numbered;
    }

pub returns-clause-taken : goal.returns-clause-taken
returns-clause-taken g c =
    let s = c.self.inside in
    let now = c.apply.new.self in
    let w : World = seen s.store s.graph s.free.entries s.labels.entries s.actions.entries s.run.items s.written.entries s.pointer s.button s.window in
    let v : World = seen now s.graph s.free.entries s.labels.entries s.actions.entries s.run.items s.written.entries s.pointer s.button s.window in
    let is = settled c.args.change s.store now c.apply.result _ _ c.apply.ensures.applied in
    let again =
    still_twice s.store.listeners now.listeners s.store.given s.written.entries (listening_from c.args.change s.store now is)
    c.self.invariant.numbered in
    let taken =
    changed_taken c.args.change w now _ _ c.requires.keeps (written_again s.store.listeners s.written.entries) c.apply.result c.apply.ensures.applied in
    let view : with_store now w ≡ v =
    ap (λ (ws : List (ℕ × List (List ℕ))). record v { names = record v.names { written = ws } }) again in
    subst (λ (x : World). IsTaken (changed c.args.change x) x v c.told.result) c.self.view_is
    (subst (λ (r : Result Outcome StageError). IsTaken (changed c.args.change w) w v r) (sym c.told.ensures)
    (subst (λ (x : World). IsTaken (changed c.args.change w) w x (told_as c.apply.result)) view taken))

pub returns-clause-few : goal.returns-clause-few
returns-clause-few g c =
    let s = c.self.inside in
    let w : World = seen s.store s.graph s.free.entries s.labels.entries s.actions.entries s.run.items s.written.entries s.pointer s.button s.window in
    subst (λ (x : World). c.apply.new.work.evaluated ≤ c.args.work.now.evaluated + cost_of (changed c.args.change x)) c.self.view_is
    (changed_few c.args.change w c.apply.new.self _ _ c.requires.keeps c.apply.result c.apply.ensures.applied)
