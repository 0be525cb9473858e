use Rattle.std.proofs.Common.{◌≡◌, ◌++◌, ◌*◌, min, string_bytes}
use Rattle.fx_gen.specs.Demo.{boxes, text_of}
use Rattle.fx_gen.specs.Draws.{state}
use Rattle.fx_gen.proofs.texts.put_scene.Given as goal

abbrev pub invariant-loop-group : goal.invariant-loop-group
invariant-loop-group l = record {
  text : string_bytes l.out ≡ string_bytes l.initial.out ++ text_of (boxes l.number l.group);
  state : l.draws.state ≡ state l.number (min l.number (10 * l.group));
}
