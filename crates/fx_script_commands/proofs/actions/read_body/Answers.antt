-- one line more, or none; at the end all are read, unless there were too many
use Rattle.std.proofs.Common.{arith}
use Rattle.fx_script_commands.proofs.LineLemmas.{body_full, body_turn, body_whole, seen}
use Rattle.fx_script_commands.proofs.actions.read_body.Goals as goal

pub returns-then-len-gt-ACTION_LIMIT : goal.returns-then-len-gt-ACTION_LIMIT
returns-then-len-gt-ACTION_LIMIT c =
    body_full c.args.number (seen c.args.texts.now) c.push_some.new.lines.items _
    (omega (arith, c.if-len-gt-ACTION_LIMIT.true, c.len.ensures, c.push_some.new.lines.ok.0))
    (body_turn c.args.texts.now c.loop-text.text-index _ c.loop-text.next c.loop-text.lines.items
    c.push_some.new.lines.items c.in_ok-line.line _ c.loop-text-test.true c.in_ok-line.ensures
    c.in_ok-push_some.ensures c.loop-text.invariant.all)

pub loop-text-preserved : goal.loop-text-preserved
loop-text-preserved c = record {
  all =
      body_turn c.args.texts.now c.loop-text.text-index _ c.loop-text.next c.loop-text.lines.items
      c.push_some.new.lines.items c.in_ok-line.line _ c.loop-text-test.true c.in_ok-line.ensures
      c.in_ok-push_some.ensures c.loop-text.invariant.all;
  few = omega arith;
  count = omega arith;
}

pub returns : goal.returns
returns c =
    body_whole c.args.number c.loop-text.next c.loop-text.text-index c.args.texts.now (seen c.args.texts.now)
    c.loop-text.lines.items c.loop-text-test.false
    (omega (arith, c.loop-text.lines.ok.0, c.loop-text.invariant.few)) c.loop-text.invariant.all
