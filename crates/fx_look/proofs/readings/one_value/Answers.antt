use Rattle.std.proofs.Common.{◌≡◌, Some, sym, ◌∙◌}
use Rattle.fx_look.proofs.ReadingLemmas.{value_complete}
use Rattle.fx_look.proofs.readings.one_value.Goals as goal

pub returns : goal.returns
returns c = λ kind text v w a b. let both : Some v ≡ Some w = sym (value_complete kind text v a) ∙ value_complete kind text w b in cc
