use Rattle.std.proofs.lemmas.Slice.Eq.{slice_eq-Decides}
use Rattle.fx_pulse_touched.proofs.SameLemmas.{Decides-flag}
use Rattle.fx_pulse_touched.proofs.comparing.are_same_flags.Goals as goal

pub returns : goal.returns
returns c = slice_eq-Decides Decides-flag _ _ _ c.eq.ensures
