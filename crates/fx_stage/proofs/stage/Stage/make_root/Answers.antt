use Rattle.fx_stage_model.specs.Graphs.{Graph, root_class, rooted}
use Rattle.fx_stage_types.specs.declared.edits.NodeEdit.TheVariants.{AddClass}
use Rattle.fx_stage_model.specs.Sound.{IsSound}
use Rattle.fx_stage.proofs.HeadLemmas.{either_way, sound_edited}
use Rattle.fx_stage.proofs.stage.Stage.make_root.Goals as goal

pub invariant_of-self : goal.invariant_of-self
invariant_of-self c =
    let s = c.self.inside in
    record {
      sound = either_way c.set_root.result (λ (g : Graph). IsSound s.store.entries g.table s.free.entries) c.set_root.new.self
          (rooted c.args.key s.graph) s.graph c.set_root.ensures.ok c.set_root.ensures.err
          (sound_edited s.store.entries s.graph.table s.free.entries c.args.key (AddClass root_class) c.self.invariant.sound) c.self.invariant.sound;
      numbered = c.self.invariant.numbered;
    }
