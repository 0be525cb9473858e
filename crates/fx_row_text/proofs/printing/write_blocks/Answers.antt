-- eight pixels more
use Rattle.std.proofs.Common.{arith}
use Rattle.fx_row_text.proofs.WritingLemmas.{more_written}
use Rattle.fx_row_text.proofs.printing.write_blocks.Goals as goal

pub loop-spaced-preserved : goal.loop-spaced-preserved
loop-spaced-preserved c =
    let block = c.is_block.ensures.0 c.loop-spaced-test.true in (
      more_written c.loop-spaced.text c.write_block.new.text c.args.row.now c.loop-spaced.at 8 c.args.spaced.pixel
          c.loop-spaced.invariant.0 block.0 block.1 c.write_block.ensures.long c.write_block.ensures.front,
      omega arith,
    )
