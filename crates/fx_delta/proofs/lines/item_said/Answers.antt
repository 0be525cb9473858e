-- the numbers are capped alone

use Rattle.fx_delta.specs.Lines.{item_of, number_of}
use Rattle.fx_text.specs.Digits.{capped}
use Rattle.fx_delta.proofs.ReadingLemmas.{IsFound-capped}
use Rattle.fx_delta.proofs.lines.item_said.Goals as goal

pub returns : goal.returns
returns c = IsFound-capped c.item_of.result (number_of c.args.x.now) (number_of c.args.y.now) _ (rw (← c.number_of.ensures, ← c.number_of-2.ensures) c.item_of.ensures)
