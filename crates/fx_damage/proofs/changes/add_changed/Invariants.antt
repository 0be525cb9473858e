-- the entries so far, and those of the places that are to come
use Rattle.std.proofs.Common.{◌≡◌, ◌≤◌, ◌-◌, ◌++◌, drop, false}
use Rattle.fx_damage.specs.Changes.{begins_kept, changed_nows, changed_olds, lent}
use Rattle.fx_damage.proofs.changes.add_changed.Given as goal

abbrev pub invariant-loop-place : goal.invariant-loop-place
invariant-loop-place l =
    (lent l.olds.items ++ changed_olds (drop l.place l.before) (drop l.place l.after) ≡ lent l.fn.olds.items ++ changed_olds l.before l.after)
    × (lent l.nows.items ++ changed_nows (drop l.place l.before) (drop l.place l.after) ≡ lent l.fn.nows.items ++ changed_nows l.before l.after)
    × (l.place ≤ l.both) × (begins_kept (drop l.place l.before) (drop l.place l.after) ≡ false)

abbrev pub decreases-loop-place : goal.decreases-loop-place
decreases-loop-place l = l.both - l.place
