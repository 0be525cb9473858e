use Rattle.std.proofs.Common.{◌≡◌, drop}
use Rattle.std.specs.Prelude.{fold}
use Rattle.fx_panes_parts.specs.Axes.{along}
use Rattle.fx_grid.specs.Tracks.{widened}
use Rattle.fx_grid.proofs.sharing.widen_all.Given as goal

-- the lengths so far, widened by the children to come, are those of all
abbrev pub invariant-loop-child : goal.invariant-loop-child
invariant-loop-child l =
    fold (widened l.bound l.gap) l.lengths (along l.axis (drop l.child-index l.children))
    ≡ fold (widened l.bound l.gap) l.fn.lengths (along l.axis l.children)
