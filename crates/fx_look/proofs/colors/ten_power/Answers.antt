use Rattle.std.proofs.Common.{◌<◌, subst, sym}
use Rattle.fx_text.proofs.DigitLemmas.{ten_power}
use Rattle.fx_look.proofs.colors.ten_power.Goals as goal

pub returns-clause-some : goal.returns-clause-some
returns-clause-some c = subst (λ v. 0 < v) (sym c.pow.ensures) (ten_power c.args.places)
