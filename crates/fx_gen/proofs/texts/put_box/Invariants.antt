use Rattle.std.proofs.Common.{◌≡◌, ◌++◌, ◌-◌, ◌*◌, string_bytes}
use Rattle.fx_gen.specs.Demo.{labels, text_of}
use Rattle.fx_gen.specs.Draws.{state}
use Rattle.fx_gen.proofs.texts.put_box.Given as goal

abbrev pub invariant-loop-index : goal.invariant-loop-index
invariant-loop-index l = record {
  text : string_bytes l.out ≡ string_bytes l.initial.out ++ text_of (labels l.number l.group (l.index - 10 * l.group));
  state : l.draws.state ≡ state l.number l.index;
}
