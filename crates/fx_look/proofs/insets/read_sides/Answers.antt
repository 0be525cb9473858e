use Rattle.std.proofs.Common.{◌∙◌, ap}
use Rattle.fx_look.specs.Numbers.{IsSize, size_at}
use Rattle.fx_look.specs.Insets.{sides_at}
use Rattle.fx_look.proofs.InsetLemmas.{sides_found, sides_none, sizes_read}
use Rattle.fx_look.proofs.insets.read_sides.Goals as goal

pub returns : goal.returns
returns c =
    let read = c.sizes_at.ensures ∙ ap (sides_at size_at) c.as_bytes.ensures.value in
    record { found = sides_found IsSize size_at sizes_read c.args.s.now c.sizes_at.result read; none = sides_none IsSize size_at sizes_read c.args.s.now c.sizes_at.result read }
