-- A pixel is four bytes.
-- A lemma on lists of any length, at four pixels.
use Rattle.fx_lanes.proofs.Lanes.{channels_are}
use Rattle.fx_lanes.proofs.blending.spread.Goals as goal

pub returns-clause-value : goal.returns-clause-value
returns-clause-value c = channels_are 4 c.args.pixels c.fits-pixels.0 c.fits-pixels.1
