use Rattle.std.proofs.Common.{arith}
use Rattle.std.proofs.lemmas.Int.{ints}
use Rattle.fx_damage.proofs.WindowLemmas.{rect_made}
use Rattle.fx_damage.proofs.rects.rect_of.Goals as goal

pub returns : goal.returns
returns c = rect_made _ _ (omega (arith, ints)) (omega (arith, ints)) (omega (arith, ints)) (omega (arith, ints))
