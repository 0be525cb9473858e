-- the derived comparison goes field by field
use Rattle.std.proofs.lemmas.Bool.Decides.{Decides-at}
use Rattle.fx_base.proofs.GeometryLemmas.{Decides-sides}
use Rattle.fx_base.proofs.geometry.Sides.equals.Goals as goal

pub returns : goal.returns
returns c = Decides-at _ _ c.eq.ensures (Decides-sides c.args.self c.args.other)
