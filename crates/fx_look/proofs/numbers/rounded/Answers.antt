use Rattle.std.proofs.Common.{◌∙◌, w64, SFits, rules}
use Rattle.std.proofs.lemmas.Int.{to_z-of_z}
use Rattle.fx_look.specs.Written.{written, power_of_ten}
use Rattle.fx_look.proofs.RoundingLemmas.{rounded_found}
use Rattle.fx_look.proofs.numbers.rounded.Goals as goal

pub returns : goal.returns
returns c = let fits : SFits w64 c.signed.result = search rules in
    to_z-of_z w64 c.signed.result fits
    ∙ rounded_found (written c.args.decimal.now) (power_of_ten c.args.power) c.size_of.result c.signed.result c.requires c.size_of.ensures c.signed.ensures
