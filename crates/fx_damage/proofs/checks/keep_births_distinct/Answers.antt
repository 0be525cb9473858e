use Rattle.std.proofs.Common.{ap}
use Rattle.fx_damage.specs.Edits.{edited}
use Rattle.fx_damage.proofs.CheckLemmas.{births_test}
use Rattle.fx_damage.proofs.checks.keep_births_distinct.Goals as goal

pub returns : goal.returns
returns c = births_test _ _ _ _ c.are_distinct.ensures c.in_ok-births.ensures (ap (edited c.args.edits.now) c.as_slice.ensures)
