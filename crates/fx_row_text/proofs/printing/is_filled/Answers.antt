-- all bits of the mask are set where all lanes are the pixel
use Rattle.std.proofs.Common.{refl, replicate}
use Rattle.std.proofs.lemmas.Bool.Decides.{Decides-eqb}
use Rattle.fx_row_text.proofs.LaneLemmas.{lanes_same, same_lanes}
use Rattle.fx_row_text.proofs.printing.is_filled.Goals as goal

pub returns : goal.returns
returns c =
    let all = replicate 8 c.args.pixel in (
      λ t. same_lanes c.args.lanes all c.fits-lanes.0 refl ((Decides-eqb _ _).0 t),
      λ e. (Decides-eqb _ _).1 (lanes_same c.args.lanes all c.fits-lanes.0 refl e),
    )
