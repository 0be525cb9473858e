use Rattle.fx_script_commands.proofs.ExpressionLemmas.{is_written, written_is}
use Rattle.fx_script_commands.proofs.laws.expressions_are_written.Goals as goal

pub returns-clause-read : goal.returns-clause-read
returns-clause-read c = is_written

pub returns-clause-written : goal.returns-clause-written
returns-clause-written c = written_is
