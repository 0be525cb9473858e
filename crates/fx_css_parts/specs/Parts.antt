-- What is read of a text: its parts, and the place of the first one that is past its limit.
use Rattle.std.specs.Prelude.{ℕ, List, Option}
use Rattle.std.specs.Option.{option_map}
use Rattle.fx_css_parts.specs.declared.Selectors.{Selectors}
use Rattle.fx_css_parts.specs.declared.ReadDeclaration.{ReadDeclaration}
use Rattle.fx_css_parts.specs.Selecting.{selectors_in}
use Rattle.fx_css_parts.specs.Declaring.{declaration_in}
use Rattle.fx_css_parts.specs.Limits.{past_in_selectors, past_in_declaration}

abbrev pub selectors_at : List ℕ → Option Selectors
selectors_at text = option_map (λ ss. record { selectors = ss; past = past_in_selectors text }) (selectors_in text)

abbrev pub declaration_at : List ℕ → Option ReadDeclaration
declaration_at text =
    option_map (λ d. record { declaration = d; past = past_in_declaration text }) (declaration_in text)
