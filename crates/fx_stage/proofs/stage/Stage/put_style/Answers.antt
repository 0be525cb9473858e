use Rattle.fx_stage_types.specs.declared.edits.NodeEdit.TheVariants.{SetInline}
use Rattle.fx_stage_model.specs.Graphs.{Graph, edited_at}
use Rattle.fx_stage_model.specs.Sound.{IsSound}
use Rattle.fx_stage.proofs.HeadLemmas.{either_way, sound_edited}
use Rattle.fx_stage.proofs.stage.Stage.put_style.Goals as goal

pub invariant_of-self : goal.invariant_of-self
invariant_of-self c =
    let s = c.self.inside in
    let edit = SetInline c.args.sheet in
    record {
      sound = either_way c.edit.result (λ (g : Graph). IsSound s.store.entries g.table s.free.entries) c.edit.new.self
          (edited_at c.args.key edit s.graph) s.graph c.edit.ensures.ok c.edit.ensures.err
          (sound_edited s.store.entries s.graph.table s.free.entries c.args.key edit c.self.invariant.sound)
          c.self.invariant.sound;
      numbered = c.self.invariant.numbered;
    }
