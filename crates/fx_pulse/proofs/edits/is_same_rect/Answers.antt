-- the derived comparison goes field by field
use Rattle.std.proofs.lemmas.Bool.Decides.{Decides-at}
use Rattle.fx_picture.proofs.SamenessLemmas.{Decides-rect}
use Rattle.fx_pulse.proofs.edits.is_same_rect.Goals as goal

pub returns : goal.returns
returns c = (Decides-at _ _ c.eq.ensures (Decides-rect c.args.one c.args.other)).0
