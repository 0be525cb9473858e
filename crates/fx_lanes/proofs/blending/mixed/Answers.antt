-- The quotient is that of the definition.
-- The code divides the same sum.
use Rattle.std.proofs.Common.{refl}
use Rattle.fx_base.specs.Pixel.{channel}
use Rattle.fx_lanes.proofs.blending.mixed.Goals as goal

pub returns-clause-value : goal.returns-clause-value
unfolding channel
returns-clause-value c = refl
