use Rattle.std.proofs.Common.{arith}
use Rattle.std.proofs.lemmas.Int.{ints, clamps}
use Rattle.fx_shapes.specs.Letters.{filled}
use Rattle.fx_shapes.proofs.RectLemmas.{rect_made}
use Rattle.fx_shapes.proofs.letters.filled.Goals as goal

pub returns-clause-value : goal.returns-clause-value
unfolding filled
returns-clause-value c = rect_made _ _ (omega (arith, ints)) (omega (arith, ints)) (omega (arith, ints, clamps)) (omega (arith, ints, clamps))

pub returns-clause-content : goal.returns-clause-content
returns-clause-content c = record {
  near = record {
    left = omega (arith, ints);
    right = omega (arith, ints);
    top = omega (arith, ints);
    bottom = omega (arith, ints);
    narrow = omega (arith, ints, clamps);
    wide = omega (arith, ints, clamps);
    low = omega (arith, ints, clamps);
    high = omega (arith, ints, clamps);
  };
  across = omega (arith, ints, clamps);
  down = omega (arith, ints, clamps);
}
