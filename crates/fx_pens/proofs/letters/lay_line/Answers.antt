use Rattle.std.specs.Str.{chars}
use Rattle.fx_pens.specs.Dots.{line_dots}
use Rattle.fx_pens.proofs.DotLemmas.{laid-none}
use Rattle.fx_pens.proofs.LetterLemmas.{line_blank}
use Rattle.fx_pens.proofs.letters.lay_line.Goals as goal

pub returns-then-line-ge5 : goal.returns-then-line-ge5
returns-then-line-ge5 g c =
    let low = c.if-line-ge5.true in
    laid-none c.args.pen.now (line_dots c.args.pen.now c.args.first (chars c.args.text.now)) c.args.row.now c.args.painted.now c.requires.pen.rises
    (λ x a b. line_blank c.args.pen.now c.args.first (chars c.args.text.now) x low)
