-- fewer words than four, or the four in front and the others
use Rattle.fx_delta.proofs.ReadingLemmas.{IsFound-short, IsFound-joined}
use Rattle.fx_delta.proofs.lines.item_in.Goals as goal

pub returns-then-words-lt4 : goal.returns-then-words-lt4
returns-then-words-lt4 c = IsFound-short c.args.words.now c.if-words-lt4.true

pub returns : goal.returns
returns c = IsFound-joined 4 c.args.words.now c.split_at.result.0.now c.split_at.result.1.now c.head_item.result c.split_at.ensures.front c.split_at.ensures.back c.head_item.ensures
