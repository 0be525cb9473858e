-- the stamp shows what the character does
use Rattle.std.proofs.Common.{◌≡◌, ◌∙◌, ◌+◌, ◌-◌, ◌/◌, ℤ, ap, w64, to_z, of_z}
use Rattle.std.proofs.lemmas.Int.{to_z-of_z}
use Rattle.fx_canvas.proofs.DottedLemmas.{char_rows, dotted-same}
use Rattle.fx_pens.specs.Dots.{stamp_dots}
use Rattle.fx_canvas.proofs.opaque.lay_character.Goals as goal

pub returns : goal.returns
returns g c =
    let pen = c.args.pen.now in
    let top = c.args.block.top in
    let start : ℤ = to_z w64 (of_z w64 c.args.start) in
    let same : start ≡ c.args.start = to_z-of_z w64 c.args.start c.ranges.start in
    dotted-same pen top c.args.block.bottom (λ x y. stamp_dots c.stamp_of-stamp.result ((pen.below + (y - top)) / pen.scale) x) (char_rows pen top c.args.start c.args.c)
    c.args.rows.now c.stamp_rows.new.rows c.args.painted.now c.stamp_rows.new.painted c.requires.rows.rises c.requires.rows.falls
    (λ x y a b s t. c.stamp_of-stamp.ensures.dots (pen.below + (y - top)) x a b ∙ ap (λ z. char_rows pen top z c.args.c x y) same)
    c.stamp_rows.ensures
