use Rattle.std.proofs.Common.{arith}
use Rattle.std.proofs.lemmas.Int.{ints}
use Rattle.fx_shapes.specs.Layers.{cut_widths}
use Rattle.fx_shapes.proofs.RectLemmas.{sides_made}
use Rattle.fx_shapes.proofs.layers.cut_widths.Goals as goal

pub returns-clause-value : goal.returns-clause-value
unfolding cut_widths
returns-clause-value c = sides_made _ _ (omega (arith, ints)) (omega (arith, ints)) (omega (arith, ints)) (omega (arith, ints))
