-- The law that a text is wrapped in one way.
-- It is a fact about the relation alone.
use Rattle.fx_cells.proofs.Cutting.{one_wrapping_of}
use Rattle.fx_cells.proofs.wrapping.one_wrapping.Goals as goal

pub returns : goal.returns
returns c = one_wrapping_of
