use Rattle.std.proofs.lemmas.Bool.Decides.{Decides-eqb}
use Rattle.std.proofs.lemmas.Slice.Eq.{strip_prefix_is}
use Rattle.fx_look.proofs.ColorLemmas.{strip_found}
use Rattle.fx_look.proofs.colors.strip.Goals as goal

pub returns : goal.returns
returns c = strip_found c.args.front.now c.args.text.now c.strip_prefix.result (strip_prefix_is Decides-eqb c.args.text.now c.args.front.now c.strip_prefix.result c.strip_prefix.ensures.cases)
