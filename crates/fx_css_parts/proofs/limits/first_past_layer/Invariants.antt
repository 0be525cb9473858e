-- the rest gives what the whole does
use Rattle.std.proofs.Common.{◌≡◌, ◌+◌, ◌≤◌, length}
use Rattle.fx_css_parts.specs.Drafts.{layer_from}
use Rattle.fx_css_parts.proofs.limits.first_past_layer.Given as goal

abbrev pub invariant-loop-c : goal.invariant-loop-c
invariant-loop-c l = record {
  past : layer_from l.count l.place l.rest ≡ layer_from l.fn.first l.fn.from l.value;
  left : l.place + length l.rest ≡ l.from + length l.value;
  nested : l.count.depth ≤ l.place;
}

abbrev pub decreases-loop-c : goal.decreases-loop-c
decreases-loop-c l = length l.rest
