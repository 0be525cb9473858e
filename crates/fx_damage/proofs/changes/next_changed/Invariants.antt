-- nothing that changed stands at the places so far
use Rattle.std.proofs.Common.{◌≡◌, drop}
use Rattle.fx_damage.specs.Changes.{changed_nows, changed_olds}
use Rattle.fx_damage.proofs.changes.next_changed.Given as goal

abbrev pub invariant-loop-place : goal.invariant-loop-place
invariant-loop-place l =
    (changed_olds (drop l.place l.before) (drop l.place l.after) ≡ changed_olds (drop l.from l.before) (drop l.from l.after))
    × (changed_nows (drop l.place l.before) (drop l.place l.after) ≡ changed_nows (drop l.from l.before) (drop l.from l.after))
