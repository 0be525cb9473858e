use Rattle.std.proofs.Common.{ℕ, List, Some, sym, ap, ◌∙◌}
use Rattle.fx_text.specs.Trimming.{trim_front}
use Rattle.fx_css_parts.specs.Declaring.{declared_at}
use Rattle.fx_css_parts.proofs.KnownLemmas.{known_reads, known_fails, known_within, known_short}
use Rattle.fx_css_parts.proofs.declaring.read_known.Goals as goal

pub returns-in_default : goal.returns-in_default
returns-in_default c =
    known_fails c.args.text.now c.args.known c.requires (sym c.in_default.is ∙ c.in_ok-declared.ensures
    ∙ ap (λ t. declared_at (Some c.args.known.style.now.form) t) c.trimmed.ensures)

pub overflow_sub-text : goal.overflow_sub-text
overflow_sub-text c = known_within c.args.text.now c.args.known c.requires

pub text_of-requires : goal.text_of-requires
text_of-requires c = known_short (trim_front c.args.text.now) c.args.known c.requires

pub returns : goal.returns
returns c =
    ap (λ (n : List ℕ). Some (record {
      declaration = record {
        name = n;
        row = Some c.args.known.row;
        value =
            c.in-Some.declared;
      };
      past = c.past_in_value-past.result;
    })) c.in_ok-text_of.ensures
    ∙ known_reads c.args.text.now c.args.known c.requires c.in-Some.declared _
    (sym c.in-Some.is ∙ c.in_ok-declared.ensures ∙ ap (λ t. declared_at (Some c.args.known.style.now.form) t)
    c.trimmed.ensures)
    c.past_in_value-past.ensures
