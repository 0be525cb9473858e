use Rattle.std.proofs.Common.{◌∙◌, ap}
use Rattle.fx_look.specs.Numbers.{number_at}
use Rattle.fx_look.proofs.NumberLemmas.{number_found, number_none}
use Rattle.fx_look.proofs.numbers.read_number.Goals as goal

pub returns : goal.returns
returns c =
    let read = c.number_at.ensures ∙ ap number_at c.as_bytes.ensures.value in
    record { found = number_found c.args.s.now c.number_at.result read; none = number_none c.args.s.now c.number_at.result read }
