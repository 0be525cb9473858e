use Rattle.std.proofs.Common.{◌≡◌, Some, sym, ◌∙◌}
use Rattle.fx_look.proofs.NumberLemmas.{size_complete}
use Rattle.fx_look.proofs.numbers.one_size.Goals as goal

pub returns : goal.returns
returns c = λ text m n a b. let both : Some m ≡ Some n = sym (size_complete text m a) ∙ size_complete text n b in cc
