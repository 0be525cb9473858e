use Rattle.std.proofs.Common.{List, ℕ, ap, subst}
use Rattle.std.specs.Option.{option_map}
use Rattle.fx_text.proofs.FrontLemmas.{map_gives}
use Rattle.fx_css_types.specs.declared.selectors.Selector.{Selector}
use Rattle.fx_css_parts.specs.declared.Selectors.{Selectors}
use Rattle.fx_css_parts.specs.Selecting.{IsSelectors, selectors_in}
use Rattle.fx_css_parts.specs.Limits.{past_in_selectors}
use Rattle.fx_css_parts.proofs.SeparatedLaws.{one_reading}
use Rattle.fx_css_parts.proofs.SelectorLaws.{selectors_read}
use Rattle.fx_css_parts.proofs.laws.one_selectors.Goals as goal

abbrev with_past : List ℕ → List Selector → Selectors
with_past text chains = record { selectors = chains; past = past_in_selectors text }

pub returns : goal.returns
returns c = record {
  found = λ text chains i. ap (option_map (with_past text)) (selectors_read.complete text chains i);
  spelled = λ text r e. let h = map_gives (with_past text) (selectors_in text) r e in subst (λ y. IsSelectors text y.selectors) h.2 (selectors_read.sound text h.0 h.1);
  one = one_reading IsSelectors selectors_in selectors_read;
}
