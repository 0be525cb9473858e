use Rattle.std.proofs.Common.{subst}
use Rattle.fx_pulse.specs.Rendering.{IsShown}
use Rattle.fx_pulse.proofs.renderer.Renderer.laws.Goals as goal

pub returns : goal.returns
returns c = subst IsShown c.self.view_is c.self.invariant.0
