use Rattle.std.proofs.lemmas.Slice.Eq.{slice_eq-Decides}
use Rattle.fx_pulse.proofs.FlagLemmas.{Decides-flag}
use Rattle.fx_pulse.proofs.frames.are_same.Goals as goal

pub returns : goal.returns
returns c = slice_eq-Decides Decides-flag _ _ _ c.eq.ensures
