-- the lines so far, and those that are left
use Rattle.std.proofs.Common.{◌≡◌, ◌+◌, ◌++◌, ℕ, List, Bor, false, drop, map}
use Rattle.fx_script_commands.specs.Requests.{line_view}
use Rattle.fx_script_commands.specs.Scripts.{lines_from}
use Rattle.fx_script_commands.proofs.scripts.read_lines.Given as goal

abbrev pub invariant-loop-index : goal.invariant-loop-index
invariant-loop-index l = record {
  all : map line_view l.lines.items ++ lines_from l.inside l.number (map (λ (text : Bor (List ℕ)). text.now) (drop l.index l.texts))
      ≡ lines_from false 1 (map (λ (text : Bor (List ℕ)). text.now) l.texts);
  count : l.number ≡ l.index + 1;
}
