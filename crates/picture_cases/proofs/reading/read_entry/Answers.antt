-- the rectangle was tested
use Rattle.std.proofs.Common.{◌∙◌, sym}
use Rattle.picture_cases.proofs.NearLemmas.{near_tells}
use Rattle.picture_cases.proofs.reading.read_entry.Goals as goal

pub shapes-requires : goal.shapes-requires
shapes-requires c = near_tells c.in_ok-rect.rect (sym c.is_near.ensures ∙ c.if-not-is_near.false)
