use Rattle.std.proofs.Common.{◌≡◌, None, List, ℕ, ◌≤◌, subst}
use Rattle.std.specs.Prelude.{◌↔◌}
use Rattle.fx_text.proofs.FrontLemmas.{map_gives}
use Rattle.fx_css_types.specs.declared.selectors.Selector.{Selector}
use Rattle.fx_css_types.specs.declared.declarations.Declaration.{Declaration}
use Rattle.fx_css_parts.specs.declared.Selectors.{Selectors}
use Rattle.fx_css_parts.specs.declared.ReadDeclaration.{ReadDeclaration}
use Rattle.fx_css_parts.specs.Selecting.{selectors_in}
use Rattle.fx_css_parts.specs.Declaring.{declaration_in}
use Rattle.fx_css_parts.specs.Limits.{past_in_selectors, past_in_declaration}
use Rattle.fx_css_parts.proofs.SelectorLaws.{selectors_read}
use Rattle.fx_css_parts.proofs.PastSelectorLaws.{selectors_few, selectors_open}
use Rattle.fx_css_parts.proofs.PastLayerLaws.{layers_tell}
use Rattle.fx_css_types.specs.Limits.{AreFew, layer_count}
use Rattle.fx_css_parts.proofs.laws.past_limits.Goals as goal

abbrev with_past : List ℕ → List Selector → Selectors
with_past text chains = record { selectors = chains; past = past_in_selectors text }

abbrev with_ninth : List ℕ → Declaration → ReadDeclaration
with_ninth text d = record { declaration = d; past = past_in_declaration text }

pub returns : goal.returns
returns c = record {
  selectors = λ text r e.
      let h = map_gives (with_past text) (selectors_in text) r e in
      let i = selectors_read.sound text h.0 h.1 in
      subst (λ y. (y.past ≡ None) ↔ AreFew y.selectors) h.2 (selectors_few text h.0 i, selectors_open text h.0 i);
  layers = λ text r e.
      let h = map_gives (with_ninth text) (declaration_in text) r e in
      subst (λ y. (y.past ≡ None) ↔ (layer_count y.declaration.value ≤ 8)) h.2 (layers_tell text h.0 h.1);
}
