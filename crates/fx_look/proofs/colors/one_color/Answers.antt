use Rattle.std.proofs.Common.{◌≡◌, Some, sym, ◌∙◌}
use Rattle.fx_look.proofs.ColorLemmas.{color_complete}
use Rattle.fx_look.proofs.colors.one_color.Goals as goal

pub returns : goal.returns
returns c = λ text m n a b. let both : Some m ≡ Some n = sym (color_complete text m a) ∙ color_complete text n b in cc
