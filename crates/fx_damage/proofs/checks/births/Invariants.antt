use Rattle.std.proofs.Common.{◌≡◌, take}
use Rattle.fx_damage.specs.Births.{birth_numbers}
use Rattle.fx_damage.proofs.checks.births.Given as goal

abbrev pub invariant-loop-entry : goal.invariant-loop-entry
invariant-loop-entry l = l.births.items ≡ birth_numbers (take l.entry-index l.entries)
