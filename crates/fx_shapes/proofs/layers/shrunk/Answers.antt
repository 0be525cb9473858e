use Rattle.std.proofs.Common.{arith}
use Rattle.std.proofs.lemmas.Int.{ints}
use Rattle.fx_shapes.specs.Layers.{shrunk}
use Rattle.fx_shapes.proofs.RectLemmas.{rect_made}
use Rattle.fx_shapes.proofs.layers.shrunk.Goals as goal

pub returns-clause-value : goal.returns-clause-value
unfolding shrunk
returns-clause-value c = rect_made _ _ (omega (arith, ints)) (omega (arith, ints)) (omega (arith, ints)) (omega (arith, ints))

pub returns-clause-near : goal.returns-clause-near
returns-clause-near c = record {
  left = omega (arith, ints);
  right = omega (arith, ints);
  top = omega (arith, ints);
  bottom = omega (arith, ints);
  narrow = omega (arith, ints);
  wide = omega (arith, ints);
  low = omega (arith, ints);
  high = omega (arith, ints);
}
