-- one line more, or none; at the end all are read
use Rattle.std.proofs.Common.{ap, arith, map}
use Rattle.fx_script_commands.specs.Requests.{line_view}
use Rattle.fx_script_commands.proofs.LineLemmas.{line_turn, lines_whole, seen}
use Rattle.fx_script_commands.proofs.scripts.read_lines.Goals as goal

pub loop-index-preserved : goal.loop-index-preserved
loop-index-preserved c = record {
  all =
      line_turn c.args.texts.now c.loop-index.index _ c.loop-index.number c.loop-index.inside c.in_ok-next.next
      (map line_view c.loop-index.lines.items) (map line_view c.take_line.new.lines.items) _ _ c.loop-index-test.true
      (ap seen c.split_at.ensures.back) c.in_ok-next.ensures c.loop-index.invariant.all;
  count = omega arith;
}

pub returns : goal.returns
returns c =
    lines_whole c.loop-index.number c.loop-index.index c.loop-index.inside c.args.texts.now c.loop-index.lines.items _
    c.loop-index-test.false c.loop-index.invariant.all
