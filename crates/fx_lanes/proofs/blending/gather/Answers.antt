-- Four bytes make a pixel.
-- A lemma on lists of any length, at sixteen bytes.
use Rattle.fx_lanes.proofs.Lanes.{pixels_are}
use Rattle.fx_lanes.proofs.blending.gather.Goals as goal

pub returns : goal.returns
returns c = pixels_are 4 c.args.bytes c.fits-bytes.0 c.fits-bytes.1
