-- All bits of the mask are set where all lanes are the same.
-- Lemmas on lists of lanes, at thirty-two.
use Rattle.std.proofs.lemmas.Bool.Decides.{Decides-eqb}
use Rattle.fx_lanes.proofs.Lanes.{same_lanes, lanes_same}
use Rattle.fx_lanes.proofs.comparing.is_same.Goals as goal

pub returns : goal.returns
returns c = (
  λ t. same_lanes c.args.a c.args.b c.fits-a.0 c.fits-b.0 ((Decides-eqb _ _).0 t),
  λ e. (Decides-eqb _ _).1 (lanes_same c.args.a c.args.b c.fits-a.0 c.fits-b.0 e),
)
