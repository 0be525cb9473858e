use Rattle.std.proofs.Common.{◌∙◌, ap}
use Rattle.fx_damage.proofs.CheckLemmas.{numbers_after, numbers_edited}
use Rattle.fx_damage.proofs.checks.births_after.Goals as goal

pub loop-edit-init : goal.loop-edit-init
loop-edit-init c = ap (numbers_after c.args.edits.now) c.in_ok-births.ensures ∙ numbers_edited c.args.edits.now c.args.olds.now
