use Rattle.std.proofs.Common.{◌≡◌, ◌-◌, true, take}
use Rattle.std.specs.List.{list_all}
use Rattle.fx_tree.specs.Slots.{below_at, fits_in}
use Rattle.fx_tree.proofs.nodes.+fits.Given as goal

abbrev pub decreases-fits : goal.decreases-fits
decreases-fits l = l.levels

abbrev pub invariant-loop-child : goal.invariant-loop-child
invariant-loop-child l = list_all (fits_in (l.levels - 1) (below_at l.nodes.slots)) (take l.child-index l.child-items) ≡ true
