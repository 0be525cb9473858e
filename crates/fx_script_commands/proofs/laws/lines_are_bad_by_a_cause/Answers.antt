use Rattle.fx_script_commands.proofs.CommandLemmas.{bad_by_a_cause, caused_bad}
use Rattle.fx_script_commands.proofs.laws.lines_are_bad_by_a_cause.Goals as goal

pub returns-clause-bad : goal.returns-clause-bad
returns-clause-bad c = bad_by_a_cause

pub returns-clause-cause : goal.returns-clause-cause
returns-clause-cause c = caused_bad
