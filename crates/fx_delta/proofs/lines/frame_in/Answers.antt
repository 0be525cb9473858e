-- fewer words than six, or more
use Rattle.std.proofs.Common.{arith}
use Rattle.fx_delta.proofs.ReadingLemmas.{frame_in-not_six}
use Rattle.fx_delta.proofs.lines.frame_in.Goals as goal

pub returns-in_default : goal.returns-in_default
returns-in_default c = frame_in-not_six c.args.words.now (λ e. omega (arith, e))

pub returns-in_default-2 : goal.returns-in_default-2
returns-in_default-2 c = frame_in-not_six c.args.words.now (λ e. omega (arith, e))
