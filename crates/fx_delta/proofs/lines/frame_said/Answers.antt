-- the numbers are capped alone
use Rattle.std.proofs.Common.{◌∙◌, sym, ap, cond, None}
use Rattle.fx_delta.specs.Lines.{frame_of, number_of}
use Rattle.fx_delta.proofs.ReadingLemmas.{frame_of-capped}
use Rattle.fx_delta.proofs.lines.frame_said.Goals as goal

pub returns-then-are_frame_words : goal.returns-then-are_frame_words
returns-then-are_frame_words c =
    c.capped_frame.ensures
    ∙ frame_of-capped (number_of c.args.number.now) (number_of c.args.width.now) (number_of c.args.height.now) (number_of c.args.count.now)
    c.number_of.result c.number_of-then-are_frame_words.result c.number_of-then-are_frame_words-2.result c.number_of-then-are_frame_words-3.result
    c.number_of.ensures c.number_of-then-are_frame_words.ensures c.number_of-then-are_frame_words-2.ensures c.number_of-then-are_frame_words-3.ensures
    ∙ ap (λ b. cond b (frame_of (number_of c.args.number.now) (number_of c.args.width.now) (number_of c.args.height.now) (number_of c.args.count.now)) None)
    (sym c.if-are_frame_words.true ∙ c.are_frame_words.ensures)
