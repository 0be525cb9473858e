use Rattle.std.proofs.Common.{arith}
use Rattle.std.proofs.lemmas.Int.{ints}
use Rattle.fx_shapes.specs.Layers.{placed}
use Rattle.fx_shapes.proofs.RectLemmas.{sides_made}
use Rattle.fx_shapes.proofs.layers.placed.Goals as goal

pub returns-clause-value : goal.returns-clause-value
unfolding placed
returns-clause-value c = sides_made _ _ (omega (arith, ints)) (omega (arith, ints)) (omega (arith, ints)) (omega (arith, ints))
