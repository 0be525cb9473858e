use Rattle.std.proofs.Common.{◌≡◌, Some, sym, ◌∙◌}
use Rattle.fx_look.proofs.NumberLemmas.{number_complete}
use Rattle.fx_look.proofs.numbers.one_number.Goals as goal

pub returns : goal.returns
returns c = λ text m n a b. let both : Some m ≡ Some n = sym (number_complete text m a) ∙ number_complete text n b in cc
