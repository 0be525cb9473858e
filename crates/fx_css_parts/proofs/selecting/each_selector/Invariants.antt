-- the selectors behind those that are read are all that are written
use Rattle.std.proofs.Common.{◌≡◌, ◌++◌}
use Rattle.std.specs.Option.{option_map}
use Rattle.fx_css_parts.specs.Layers.{left_at}
use Rattle.fx_css_parts.specs.Selecting.{selector_at, selectors_in}
use Rattle.fx_css_parts.proofs.LayerLemmas.{left_length}
use Rattle.fx_css_parts.proofs.selecting.each_selector.Given as goal

abbrev pub invariant-loop-left : goal.invariant-loop-left
invariant-loop-left l = option_map (λ xs. l.selectors.items ++ xs) (left_at selector_at (option_map (λ r. r.now) l.left)) ≡ selectors_in l.text

abbrev pub decreases-loop-left : goal.decreases-loop-left
decreases-loop-left l = left_length (option_map (λ r. r.now) l.left)
