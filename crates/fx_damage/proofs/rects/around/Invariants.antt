use Rattle.std.proofs.Common.{◌≡◌, drop, fold}
use Rattle.fx_picture.specs.Bounds.{hull_of, join}
use Rattle.fx_damage.specs.Windows.{IsInWindow}
use Rattle.fx_damage.proofs.rects.around.Given as goal

abbrev pub invariant-loop-bounds : goal.invariant-loop-bounds
invariant-loop-bounds l = (fold join l.all (drop l.bounds-index l.boxes) ≡ hull_of l.boxes) × IsInWindow l.all
