use Rattle.std.proofs.Common.{◌≡◌, Some, sym, ◌∙◌}
use Rattle.fx_look.specs.Numbers.{IsSize, size_at}
use Rattle.fx_look.proofs.InsetLemmas.{sides_complete, sizes_read}
use Rattle.fx_look.proofs.insets.one_sides.Goals as goal

pub returns : goal.returns
returns c = λ text s t a b. let both : Some s ≡ Some t = sym (sides_complete IsSize size_at sizes_read text s a) ∙ sides_complete IsSize size_at sizes_read text t b in cc
