-- The law of packed colours.
-- It is a fact about the definition alone.
use Rattle.fx_lanes.proofs.Lanes.{unpacked}
use Rattle.fx_lanes.proofs.blending.packed_colors_unpack.Goals as goal

pub returns : goal.returns
returns c = unpacked
