use Rattle.std.proofs.Common.{◌≡◌, ◌++◌, ◌+◌, ◌-◌, string_bytes}
use Rattle.fx_gen.specs.Demo.{text_of, turns}
use Rattle.fx_gen.specs.Draws.{state}
use Rattle.fx_gen.proofs.texts.put_script.Given as goal

abbrev pub invariant-loop-j : goal.invariant-loop-j
invariant-loop-j l = record {
  text : string_bytes l.out ≡ string_bytes l.initial.out ++ text_of (turns l.number (l.j - 1));
  state : l.draws.state ≡ state l.number (l.number + l.j);
}
