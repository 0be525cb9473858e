-- white is ASCII, so what is left is text
use Rattle.std.proofs.Common.{sym, ◌∙◌, ap, subst}
use Rattle.std.specs.Str.{IsUtf8}
use Rattle.fx_text.specs.Trimming.{trim_front, trimmed}
use Rattle.fx_text.proofs.Utf8Lemmas.{front_text, back_text}
use Rattle.fx_text.proofs.trimming.trimmed_text.Goals as goal

pub unreachable-requires : goal.unreachable-requires
unreachable-requires c = c.in-Err.ensures.cases.0
    (subst IsUtf8 (sym (c.trimmed.ensures ∙ ap trimmed c.as_bytes.ensures.value)) (back_text (trim_front c.args.text.now) (front_text c.args.text.now c.utf8.text)))
