-- the line, or none
use Rattle.std.proofs.Common.{ap, false, map, not, sym}
use Rattle.fx_script_commands.proofs.LineLemmas.{line_passed, line_pushed, line_skipped, line_within, seen}
use Rattle.fx_script_commands.specs.Requests.{line_view}
use Rattle.fx_script_commands.proofs.scripts.take_line.Goals as goal

pub returns-then-inside : goal.returns-then-inside
returns-then-inside c =
    line_passed (map line_view c.args.lines.now.items) c.args.inside _ c.args.text.now (seen c.args.behind.now) c.args.number
    (line_within c.args.inside _ c.args.text.now (seen c.args.behind.now) c.args.number c.if-inside.true
    (ap not c.is_end.ensures))

pub returns-then-is_skipped : goal.returns-then-is_skipped
returns-then-is_skipped c =
    line_passed (map line_view c.args.lines.now.items) c.args.inside false c.args.text.now (seen c.args.behind.now) c.args.number
    (line_skipped c.args.inside c.args.text.now (seen c.args.behind.now) c.args.number c.if-inside.false
    (sym c.if-is_skipped.ensures))

pub returns : goal.returns
returns c =
    line_pushed (map line_view c.args.lines.now.items) (map line_view c.push_line.new.lines.items) c.args.inside
    c.in_ok-opened.opened c.args.text.now (seen c.args.behind.now) c.args.number c.in_ok-opened.ensures.line
    c.if-inside.false (sym c.if-is_skipped.ensures) c.in_ok-opened.ensures.opens
