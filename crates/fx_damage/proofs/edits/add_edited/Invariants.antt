-- the entries so far, and those of the edits that are to come
use Rattle.std.proofs.Common.{◌≡◌, ◌++◌, drop}
use Rattle.fx_damage.specs.Changes.{changed_nows, changed_olds, lent}
use Rattle.fx_damage.specs.Edits.{entries_of, replaced}
use Rattle.fx_damage.proofs.edits.add_edited.Given as goal

abbrev pub invariant-loop-edit : goal.invariant-loop-edit
invariant-loop-edit l =
    (lent l.olds.items ++ changed_olds (drop l.edit-index (replaced l.edits l.entries)) (drop l.edit-index (entries_of l.edits))
    ≡ lent l.fn.olds.items ++ changed_olds (replaced l.edits l.entries) (entries_of l.edits))
    × (lent l.nows.items ++ changed_nows (drop l.edit-index (replaced l.edits l.entries)) (drop l.edit-index (entries_of l.edits))
    ≡ lent l.fn.nows.items ++ changed_nows (replaced l.edits l.entries) (entries_of l.edits))
