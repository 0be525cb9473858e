use Rattle.std.proofs.Common.{arith}
use Rattle.std.proofs.lemmas.Int.{ints}
use Rattle.fx_damage.proofs.NearLemmas.{bounds_made}
use Rattle.fx_damage.proofs.near.near_window.Goals as goal

pub returns : goal.returns
returns c = bounds_made _ _ (omega (arith, ints)) (omega (arith, ints)) (omega (arith, ints)) (omega (arith, ints))
