use Rattle.fx_stage_model.specs.Graphs.{Graph, attached, edge_at}
use Rattle.fx_stage_model.specs.Sound.{IsSound}
use Rattle.fx_stage.proofs.HeadLemmas.{either_way, sound_edge}
use Rattle.fx_stage.proofs.stage.Stage.put_child.Goals as goal

pub invariant_of-self : goal.invariant_of-self
unfolding attached
invariant_of-self c =
    let s = c.self.inside in
    record {
      sound = either_way c.attach.result (λ (g : Graph). IsSound s.store.entries g.table s.free.entries) c.attach.new.self
          (attached c.args.pane c.args.child c.args.spot s.graph) s.graph c.attach.ensures.ok c.attach.ensures.err
          (sound_edge s.store.entries s.graph.table s.free.entries c.args.child (edge_at c.args.spot) c.self.invariant.sound) c.self.invariant.sound;
      numbered = c.self.invariant.numbered;
    }
