use Rattle.std.proofs.Common.{arith}
use Rattle.fx_css_laws.proofs.Counts.{first_rule}
use Rattle.fx_css_laws.proofs.limits.first_rules_past_are_told.Goals as goal

pub returns : goal.returns
returns c = λ all number first. first_rule 0 4096 all number (omega arith) first
