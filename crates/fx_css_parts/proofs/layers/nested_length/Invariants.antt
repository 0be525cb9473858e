-- so many bytes of the first part are taken, and the rest of it is read of the rest
use Rattle.std.proofs.Common.{◌≡◌, ◌+◌, ◌≤◌, length}
use Rattle.fx_css_parts.specs.Layers.{part_length}
use Rattle.fx_css_parts.proofs.layers.nested_length.Given as goal

abbrev pub invariant-loop-c : goal.invariant-loop-c
invariant-loop-c l = record {
  taken : l.count + part_length l.depth l.rest ≡ part_length 0 l.text;
  left : l.count + length l.rest ≡ l.all;
  all : l.all ≡ length l.text;
  nested : l.depth ≤ l.count;
}

abbrev pub decreases-loop-c : goal.decreases-loop-c
decreases-loop-c l = length l.rest
