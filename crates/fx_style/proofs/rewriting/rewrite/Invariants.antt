-- the lengths of the places so far are written, and the other looks stand as before
use Rattle.std.proofs.Common.{◌≡◌, ◌<◌, ◌≤◌, ◌+◌, ℕ, false, get_or, length}
use Rattle.std.specs.Prelude.{slice_get}
use Rattle.fx_style.specs.Rewriting.{rewritten_at}
use Rattle.fx_style.specs.Rules.{worked}
use Rattle.fx_style.proofs.rewriting.rewrite.Given as goal

abbrev pub invariant-loop-at : goal.invariant-loop-at
invariant-loop-at g l =
    record {
      long : length l.looks.items ≡ length l.initial.looks.items;
      done : (k : ℕ) → k < l.at → slice_get l.looks.items k ≡ rewritten_at l.marks l.facts l.initial.looks.items k;
      rest : (k : ℕ) → l.at ≤ k → slice_get l.looks.items k ≡ slice_get l.initial.looks.items k;
      cost : l.work ≡ record l.initial.work {
        styled = l.initial.work.styled + worked (λ at. get_or l.marks at false) l.at;
      };
    }
