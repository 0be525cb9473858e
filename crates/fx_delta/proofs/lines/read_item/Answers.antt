-- too many words for a picture
use Rattle.std.proofs.Common.{sym}
use Rattle.fx_delta.specs.Lines.{words}
use Rattle.fx_delta.proofs.ReadingLemmas.{IsFound-many, many_words}
use Rattle.fx_delta.proofs.lines.read_item.Goals as goal

pub returns-in-None : goal.returns-in-None
returns-in-None c = IsFound-many (words c.args.line.now) (many_words 2051 c.args.line.now (rw c.in-None.is at (sym c.in_ok-words.ensures)))
