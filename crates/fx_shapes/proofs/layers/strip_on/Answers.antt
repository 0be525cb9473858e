use Rattle.std.proofs.Common.{arith}
use Rattle.std.proofs.lemmas.Int.{ints}
use Rattle.fx_shapes.specs.Layers.{strip_on}
use Rattle.fx_shapes.proofs.RectLemmas.{rect_made}
use Rattle.fx_shapes.proofs.layers.strip_on.Goals as goal

pub returns-in-Top : goal.returns-in-Top
unfolding strip_on
returns-in-Top c = rw c.in-Top.is (rect_made _ _ (omega (arith, ints)) (omega (arith, ints)) (omega (arith, ints)) (omega (arith, ints)))

pub returns-in-Bottom : goal.returns-in-Bottom
unfolding strip_on
returns-in-Bottom c = rw c.in-Bottom.is (rect_made _ _ (omega (arith, ints)) (omega (arith, ints)) (omega (arith, ints)) (omega (arith, ints)))

pub returns-in-Left : goal.returns-in-Left
unfolding strip_on
returns-in-Left c = rw c.in-Left.is (rect_made _ _ (omega (arith, ints)) (omega (arith, ints)) (omega (arith, ints)) (omega (arith, ints)))

pub returns-in-Right : goal.returns-in-Right
unfolding strip_on
returns-in-Right c = rw c.in-Right.is (rect_made _ _ (omega (arith, ints)) (omega (arith, ints)) (omega (arith, ints)) (omega (arith, ints)))
