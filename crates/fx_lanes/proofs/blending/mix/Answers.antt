-- Nothing wraps in lanes of sixteen bits.
-- Lemmas on lists of any length, at sixteen lanes.
use Rattle.std.proofs.Common.{lit<}
use Rattle.std.proofs.lemmas.Simd.{Each1-all, Each2-splat}
use Rattle.fx_lanes.proofs.Lanes.{lanes_are, lanes_fit}
use Rattle.fx_lanes.proofs.blending.mix.Goals as goal

pub nonzero_div-result : goal.nonzero_div-result
nonzero_div-result c = Each2-splat _ _ 16 255 (Each1-all _ (λ x. lit< tt) _)

pub overflow_cast-result : goal.overflow_cast-result
overflow_cast-result c = lanes_fit 16 c.args.alpha c.args.over c.args.under c.fits-over.0 c.fits-under.0 c.requires.alpha_fits c.requires.over_fits c.requires.under_fits

pub returns : goal.returns
returns c = lanes_are 16 c.args.alpha c.args.over c.args.under c.fits-over.0 c.fits-under.0 c.requires.alpha_fits c.requires.over_fits c.requires.under_fits
