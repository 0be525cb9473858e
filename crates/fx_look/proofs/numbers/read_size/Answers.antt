use Rattle.std.proofs.Common.{◌∙◌, ap}
use Rattle.fx_look.specs.Numbers.{size_at}
use Rattle.fx_look.proofs.NumberLemmas.{size_found, size_none}
use Rattle.fx_look.proofs.numbers.read_size.Goals as goal

pub returns : goal.returns
returns c =
    let read = c.size_at.ensures ∙ ap size_at c.as_bytes.ensures.value in
    record { found = size_found c.args.s.now c.size_at.result read; none = size_none c.args.s.now c.size_at.result read }
