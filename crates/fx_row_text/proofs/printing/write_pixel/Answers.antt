-- seven bytes of the word stay
use Rattle.fx_row_text.proofs.WritingLemmas.{word_written}
use Rattle.fx_row_text.proofs.printing.write_pixel.Goals as goal

pub returns-clause-front : goal.returns-clause-front
returns-clause-front c =
    word_written c.args.text.now c.args.spaced.text c.args.at c.args.spaced.pixel c.args.spaced.long
    c.args.spaced.tells c.requires
