-- a line by itself, an action, and a line that begins as one, but is none
use Rattle.fx_script_commands.proofs.LineLemmas.{adds_action, adds_alone, adds_bad, seen}
use Rattle.fx_script_commands.proofs.lines.push_line.Goals as goal

pub returns-then-not-is_action-clause-line : goal.returns-then-not-is_action-clause-line
returns-then-not-is_action-clause-line c =
    adds_alone c.args.number c.args.text.now _ _ (seen c.args.behind.now) c.args.lines.now.items _
    c.next-first.ensures.word c.next-first.ensures.left c.if-not-is_action.ensures c.in_ok-push_command.ensures

pub returns-in_ok-push-in-Ok-clause-line : goal.returns-in_ok-push-in-Ok-clause-line
returns-in_ok-push-in-Ok-clause-line c =
    adds_action c.args.number c.args.text.now _ _ c.in-Ok.name (seen c.args.behind.now) _ c.args.lines.now.items _
    c.next-first.ensures.word c.next-first.ensures.left c.if-not-is_action.ensures c.in-Ok.ensures
    c.in_ok-command-in-Ok.ensures c.in_ok-push-in-Ok.ensures

pub returns-in_ok-push-in-Err-Form-clause-line : goal.returns-in_ok-push-in-Err-Form-clause-line
returns-in_ok-push-in-Err-Form-clause-line c =
    adds_bad c.args.number c.args.text.now _ _ (seen c.args.behind.now) c.args.lines.now.items _
    c.next-first.ensures.word c.next-first.ensures.left c.if-not-is_action.ensures
    (rw c.in-Err-Form.field-0-is at c.in-Err-Form.ensures) c.in_ok-push-in-Err-Form.ensures
