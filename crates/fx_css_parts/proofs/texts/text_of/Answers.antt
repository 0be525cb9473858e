-- a name of few bytes has few characters
use Rattle.std.proofs.Common.{◌<◌, Err, length, ap, ◌∙◌, arith}
use Rattle.std.specs.Str.{chars}
use Rattle.fx_base.proofs.TextLemmas.{length-chars-le}
use Rattle.fx_css_parts.proofs.texts.text_of.Goals as goal

pub unreachable-requires : goal.unreachable-requires
unreachable-requires c =
    let fewer = length-chars-le _ c.utf8.name in
    let long : 4096 < length (chars c.args.name.now) = c.from_str.ensures.too_long.0
    (c.in-Err-TooLong.is ∙ ap (λ e. Err e) c.in-Err-TooLong.field-0-is) in
    omega (arith, fewer, long, c.requires)
