-- the layers behind those that are read are all that are written
use Rattle.std.proofs.Common.{◌≡◌, ◌++◌}
use Rattle.std.specs.Option.{option_map}
use Rattle.fx_css_parts.specs.Layers.{left_at, separated_at}
use Rattle.fx_css_parts.specs.Declaring.{paint_at}
use Rattle.fx_css_parts.proofs.LayerLemmas.{left_length}
use Rattle.fx_css_parts.proofs.values.each_paint.Given as goal

abbrev pub invariant-loop-left : goal.invariant-loop-left
invariant-loop-left l = option_map (λ xs. l.paints.items ++ xs) (left_at paint_at (option_map (λ r. r.now) l.left)) ≡ separated_at paint_at l.text

abbrev pub decreases-loop-left : goal.decreases-loop-left
decreases-loop-left l = left_length (option_map (λ r. r.now) l.left)
