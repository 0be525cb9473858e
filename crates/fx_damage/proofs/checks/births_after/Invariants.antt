use Rattle.std.proofs.Common.{◌≡◌, drop}
use Rattle.fx_damage.specs.Births.{birth_numbers}
use Rattle.fx_damage.specs.Edits.{edited}
use Rattle.fx_damage.proofs.CheckLemmas.{numbers_after}
use Rattle.fx_damage.proofs.checks.births_after.Given as goal

abbrev pub invariant-loop-edit : goal.invariant-loop-edit
invariant-loop-edit l = numbers_after (drop l.edit-index l.edits) l.births.items ≡ birth_numbers (edited l.edits l.olds)
