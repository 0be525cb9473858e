use Rattle.std.proofs.Common.{arith}
use Rattle.fx_css_laws.proofs.Counts.{first_declaration}
use Rattle.fx_css_laws.proofs.limits.first_declarations_past_are_told.Goals as goal

pub returns : goal.returns
returns c = λ all number first. first_declaration 0 256 all number (omega arith) first
