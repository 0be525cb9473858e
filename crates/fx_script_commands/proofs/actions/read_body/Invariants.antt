-- the lines so far, and those that are left
use Rattle.std.proofs.Common.{◌≡◌, ◌≤◌, ◌+◌, ◌++◌, ℕ, List, Bor, drop, map, vec_len}
use Rattle.fx_script_commands.specs.Requests.{line_view}
use Rattle.fx_script_commands.specs.Scripts.{body_from}
use Rattle.fx_script_commands.proofs.actions.read_body.Given as goal

abbrev pub invariant-loop-text : goal.invariant-loop-text
invariant-loop-text l = record {
  all : map line_view l.lines.items ++ body_from l.next (map (λ (text : Bor (List ℕ)). text.now) (drop l.text-index l.texts))
      ≡ body_from l.fn.number (map (λ (text : Bor (List ℕ)). text.now) l.texts);
  few : vec_len l.lines ≤ 1000;
  count : l.next ≡ l.fn.number + l.text-index;
}
