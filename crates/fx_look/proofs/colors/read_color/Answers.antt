use Rattle.std.proofs.Common.{◌∙◌, ap}
use Rattle.fx_look.specs.Colors.{color_at}
use Rattle.fx_look.proofs.ColorLemmas.{color_found, color_none}
use Rattle.fx_look.proofs.colors.read_color.Goals as goal

pub returns : goal.returns
returns c =
    let read = c.color_at.ensures ∙ ap color_at c.as_bytes.ensures.value in
    record { found = color_found c.args.s.now c.color_at.result read; none = color_none c.args.s.now c.color_at.result read }
