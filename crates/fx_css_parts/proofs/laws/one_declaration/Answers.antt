use Rattle.std.proofs.Common.{List, ℕ, ap, subst}
use Rattle.std.specs.Option.{option_map}
use Rattle.fx_text.proofs.FrontLemmas.{map_gives}
use Rattle.fx_css_types.specs.declared.declarations.Declaration.{Declaration}
use Rattle.fx_css_parts.specs.declared.ReadDeclaration.{ReadDeclaration}
use Rattle.fx_css_parts.specs.Declaring.{IsDeclaration, declaration_in}
use Rattle.fx_css_parts.specs.Limits.{past_in_declaration}
use Rattle.fx_css_parts.proofs.SeparatedLaws.{one_reading}
use Rattle.fx_css_parts.proofs.DeclarationLaws.{declarations_read}
use Rattle.fx_css_parts.proofs.laws.one_declaration.Goals as goal

abbrev with_past : List ℕ → Declaration → ReadDeclaration
with_past text d = record { declaration = d; past = past_in_declaration text }

pub returns : goal.returns
returns c = record {
  found = λ text d i. ap (option_map (with_past text)) (declarations_read.complete text d i);
  spelled = λ text r e. let h = map_gives (with_past text) (declaration_in text) r e in subst (λ y. IsDeclaration text y.declaration) h.2 (declarations_read.sound text h.0 h.1);
  one = one_reading IsDeclaration declaration_in declarations_read;
}
