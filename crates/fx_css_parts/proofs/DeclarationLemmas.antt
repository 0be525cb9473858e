-- What is read of the two sides of the first `:` is the declaration.
use Rattle.std.proofs.Common.{◌≡◌, ℕ, ◌+◌, cond, List, ◌∷◌, length, Option, Some, None, sym, ap, ◌∙◌}
use Rattle.std.specs.Option.{option_map}
use Rattle.fx_look.specs.declared.styles.StyleName.{StyleName}
use Rattle.fx_css_types.specs.declared.declarations.Declared.{Declared}
use Rattle.fx_text.proofs.FrontLemmas.{then_gives}
use Rattle.fx_css_parts.specs.declared.ReadDeclaration.{ReadDeclaration}
use Rattle.fx_css_parts.specs.Texts.{is_ident, ident_at}
use Rattle.fx_css_parts.specs.Declaring.{declared_at, declaration, with_value, not_colon}
use Rattle.fx_css_parts.specs.Limits.{past_in_value, past_behind}
use Rattle.fx_css_parts.specs.Parts.{declaration_at}
use Rattle.fx_text.specs.Fronts.{front, behind}
use Rattle.fx_text.specs.Trimming.{trimmed}
use Rattle.fx_css_types.specs.Limits.{form_of, row_of}

abbrev read_of : List ℕ → List ℕ → Option ReadDeclaration
read_of before after = option_map (λ d. record {
  declaration = d;
  past =
      past_behind (form_of (trimmed before)) (length before) after;
}) (with_value (trimmed before) after)

cut_so : (text before after : List ℕ) → before ≡ front not_colon text → after ≡ behind not_colon text
    → read_of before after ≡ declaration_at text
cut_so text before after b a = ap (λ y. read_of y after) b ∙ ap (λ y. read_of (front not_colon text) y) a

named_is : (text before after : List ℕ) (c : ℕ) (value name : List ℕ) → before ≡ front not_colon text → after
    ≡ behind not_colon text → after ≡ c ∷ value → Some name ≡ ident_at (trimmed before)
    → option_map (λ d. record { declaration = d; past = past_in_value (form_of name) (length before + 1) value })
    (option_map (declaration name) (declared_at (form_of name) (trimmed value))) ≡ declaration_at text
named_is text before after c value name b a e n =
    let good = then_gives (is_ident (trimmed before)) (Some (trimmed before)) name (sym n) in
    let same : trimmed before ≡ name = cc in
    ap (λ y. option_map (λ d. record { declaration = d; past = past_in_value (form_of y) (length before + 1) value })
    (option_map (declaration y) (declared_at (form_of y) (trimmed value)))) (sym same)
    ∙ ap (λ r. option_map (λ d. record {
      declaration = d;
      past =
          past_in_value (form_of (trimmed before)) (length before + 1) value;
    })
    (cond r (option_map (declaration (trimmed before)) (declared_at (form_of (trimmed before)) (trimmed value))) None))
    (sym good.0)
    ∙ ap (λ y. read_of before y) (sym e) ∙ cut_so text before after b a

pub declares : (text before after : List ℕ) (c : ℕ) (value name : List ℕ) (row : Option StyleName) → row ≡ row_of name
    → before ≡ front not_colon text → after ≡ behind not_colon text → after ≡ c ∷ value → Some name
    ≡ ident_at (trimmed before)
    → (d : Declared) (past : Option ℕ) → Some d ≡ declared_at (form_of name) (trimmed value) → past
    ≡ past_in_value (form_of name) (length before + 1) value
    → Some (record { declaration = record { name = name; row = row; value = d }; past = past }) ≡ declaration_at text
declares text before after c value name row r b a e n d past h p =
    let with_row : Option StyleName → Option ReadDeclaration = λ row.
    Some (record { declaration = record { name = name; row = row; value = d }; past = past }) in
    ap with_row r ∙ ap (λ y. Some (record { declaration = declaration name d; past = y })) p
    ∙ ap (λ y. option_map (λ d. record {
      declaration = d;
      past =
          past_in_value (form_of name) (length before + 1) value;
    }) (option_map (declaration name) y)) h
    ∙ named_is text before after c value name b a e n

pub named_fails : (text before after : List ℕ) (c : ℕ) (value name : List ℕ) → before ≡ front not_colon text → after
    ≡ behind not_colon text → after ≡ c ∷ value → Some name ≡ ident_at (trimmed before)
    → None ≡ declared_at (form_of name) (trimmed value) → None ≡ declaration_at text
named_fails text before after c value name b a e n h =
    ap (λ y. option_map (λ d. record {
      declaration = d;
      past =
          past_in_value (form_of name) (length before + 1) value;
    }) (option_map (declaration name) y)) h
    ∙ named_is text before after c value name b a e n
