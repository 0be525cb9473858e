use Rattle.std.proofs.Common.{subst}
use Rattle.fx_pulse_kept.specs.Keeping.{Agrees}
use Rattle.fx_pulse_kept.proofs.kept.KeptScene.laws.Goals as goal

pub returns : goal.returns
returns c = subst Agrees c.self.view_is c.self.invariant
