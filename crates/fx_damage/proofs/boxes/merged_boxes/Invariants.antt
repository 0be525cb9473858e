-- the boxes so far, and those of the entries that are to come
use Rattle.std.proofs.Common.{◌≡◌, ◌≤◌, ◌+◌, ◌-◌, ◌++◌, drop, length}
use Rattle.fx_damage.specs.Births.{RisesStrictly, birth_numbers}
use Rattle.fx_damage.specs.Changes.{lent}
use Rattle.fx_damage.specs.Damage.{changed_boxes, cut_to}
use Rattle.fx_damage.proofs.boxes.merged_boxes.Given as goal

abbrev pub invariant-loop-birth : goal.invariant-loop-birth
invariant-loop-birth l =
    (l.boxes.items ++ cut_to l.window (changed_boxes (drop l.old_place (lent l.olds)) (drop l.place (lent l.nows)))
    ≡ cut_to l.window (changed_boxes (lent l.olds) (lent l.nows)))
    × RisesStrictly (birth_numbers (drop l.old_place (lent l.olds))) × RisesStrictly (birth_numbers (drop l.place (lent l.nows)))
    × (l.old_place ≤ length l.olds) × (l.place ≤ length l.nows)

abbrev pub decreases-loop-birth : goal.decreases-loop-birth
decreases-loop-birth l = (length (lent l.olds) - l.old_place) + (length (lent l.nows) - l.place)
