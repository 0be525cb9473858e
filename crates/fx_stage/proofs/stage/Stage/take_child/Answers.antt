use Rattle.std.proofs.Common.{None}
use Rattle.fx_stage_model.specs.Graphs.{Graph, detached}
use Rattle.fx_stage_model.specs.Sound.{IsSound}
use Rattle.fx_stage.proofs.HeadLemmas.{either_way, sound_edge}
use Rattle.fx_stage.proofs.stage.Stage.take_child.Goals as goal

pub invariant_of-self : goal.invariant_of-self
unfolding detached
invariant_of-self c =
    let s = c.self.inside in
    record {
      sound = either_way c.detach.result (λ (g : Graph). IsSound s.store.entries g.table s.free.entries) c.detach.new.self
          (detached c.args.key s.graph) s.graph c.detach.ensures.ok c.detach.ensures.err
          (sound_edge s.store.entries s.graph.table s.free.entries c.args.key None c.self.invariant.sound) c.self.invariant.sound;
      numbered = c.self.invariant.numbered;
    }
