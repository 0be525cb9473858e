use Rattle.std.proofs.Common.{◌≡◌, ◌+◌, Some, length, sym, ap, ◌∙◌}
use Rattle.fx_css_parts.specs.Texts.{ident_at}
use Rattle.fx_css_parts.specs.Declaring.{declared_at}
use Rattle.fx_css_parts.specs.Limits.{past_in_value}
use Rattle.fx_css_parts.proofs.DeclarationLemmas.{declares}
use Rattle.fx_text.specs.Trimming.{trimmed}
use Rattle.fx_css_types.specs.Limits.{form_at, form_of, row_of}
use Rattle.fx_css_parts.proofs.declaring.read_named.Goals as goal

pub returns : goal.returns
returns c =
    let row : c.row_named-row.result ≡ row_of c.in-Some-2.name = c.row_named-row.ensures
    ∙ ap row_of c.as_str.ensures.text in
    let form : c.form_of-form.result ≡ form_of c.in-Some-2.name = c.form_of-form.ensures ∙ ap form_at row in
    let read : Some c.in-Some-3.declared ≡ declared_at (form_of c.in-Some-2.name) (trimmed c.in-Some.value.now) =
    sym c.in-Some-3.is ∙ c.in_ok-declared.ensures ∙ ap (λ f. declared_at f c.trimmed-2.result.now) form
    ∙ ap (λ t. declared_at (form_of c.in-Some-2.name) t) c.trimmed-2.ensures in
    declares c.args.text.now c.split_name.result.0.now c.split_name.result.1.now c.in-Some.field-0-0.now
    c.in-Some.value.now c.in-Some-2.name c.row_named-row.result row
    c.split_name.ensures.name c.split_name.ensures.rest c.in-Some.ensures.cases.0
    (sym c.in-Some-2.is ∙ c.in_ok-name.ensures ∙ ap ident_at c.trimmed.ensures)
    c.in-Some-3.declared _ read (c.past_in_value-past.ensures
    ∙ ap (λ f. past_in_value f (length c.split_name.result.0.now + 1) c.in-Some.value.now) form)
