use Rattle.std.proofs.Common.{◌≡◌, ◌+◌, ◌≤◌, drop, length, map, max}
use Rattle.fx_panes_parts.specs.Axes.{along}
use Rattle.fx_panes_parts.specs.Parts.{greatest_of}
use Rattle.fx_grid.proofs.tracks.track_count.Given as goal

-- the count so far and the greatest end to come make the whole
abbrev pub invariant-loop-child : goal.invariant-loop-child
invariant-loop-child l =
    record {
      few : l.count ≤ 319;
      same : max l.count (greatest_of (map (λ child. child.index + child.span) (along l.axis (drop l.child-index l.children))))
          ≡ max (length l.given) (greatest_of (map (λ child. child.index + child.span) (along l.axis l.children)));
    }
