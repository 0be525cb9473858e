use Rattle.std.proofs.Common.{◌+◌, ◌*◌, pos, refl, ap, sym, arith}
use Rattle.fx_pens.proofs.GlyphLemmas.{three_laid}
use Rattle.fx_pens.proofs.PixelLemmas.{pixel_laid, length_pixel}
use Rattle.fx_pens.proofs.pixels.lay_three.Goals as goal

pub returns : goal.returns
returns g c =
    let pen = c.args.pen.now in
    let s = c.args.start in
    let bits = c.args.bits in
    let narrow = c.requires.scale in
    let ink = c.requires.color in
    let left = c.requires.left in
    let right = c.requires.right in
    let row = c.args.row.now in
    let first = length_pixel c.args.color s bits.left row c.lay_pixel.new.row c.lay_pixel.ensures.row in
    let second = length_pixel c.args.color (s + 1) bits.middle c.lay_pixel.new.row c.lay_pixel-2.new.row c.lay_pixel-2.ensures.row in
    let within = c.requires.pen.within in
    three_laid pen (pos s) (pos s) (pos (s + 1)) (pos (s + 2)) bits row c.lay_pixel.new.row c.lay_pixel-2.new.row c.lay_pixel-3.new.row
    c.args.painted.now c.lay_pixel.new.painted c.lay_pixel-2.new.painted c.lay_pixel-3.new.painted c.requires.pen.rises
    refl (ap (λ n. pos (s + 1 * n)) (sym narrow)) (ap (λ n. pos (s + 2 * n)) (sym narrow))
    (pixel_laid pen c.args.color s bits.left row c.lay_pixel.new.row c.args.painted.now c.lay_pixel.new.painted narrow ink
    left (omega (arith, right)) within c.lay_pixel.ensures.row c.lay_pixel.ensures.count)
    (pixel_laid pen c.args.color (s + 1) bits.middle c.lay_pixel.new.row c.lay_pixel-2.new.row c.lay_pixel.new.painted c.lay_pixel-2.new.painted narrow ink
    (omega (arith, left)) (omega (arith, right)) (omega (arith, first, within)) c.lay_pixel-2.ensures.row c.lay_pixel-2.ensures.count)
    (pixel_laid pen c.args.color (s + 2) bits.right c.lay_pixel-2.new.row c.lay_pixel-3.new.row c.lay_pixel-2.new.painted c.lay_pixel-3.new.painted narrow ink
    (omega (arith, left)) (omega (arith, right)) (omega (arith, first, second, within)) c.lay_pixel-3.ensures.row c.lay_pixel-3.ensures.count)
