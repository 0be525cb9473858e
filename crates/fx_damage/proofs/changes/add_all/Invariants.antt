use Rattle.std.proofs.Common.{◌≡◌, ◌++◌, take}
use Rattle.fx_damage.specs.Changes.{lent}
use Rattle.fx_damage.proofs.changes.add_all.Given as goal

abbrev pub invariant-loop-entry : goal.invariant-loop-entry
invariant-loop-entry l = lent l.all.items ≡ lent l.fn.all.items ++ take l.entry-index l.entries
